-- The calls that read a volume: behind the gate the call's own checks decide, and the gate's tables hold what the rest is read from.
use Rattle.model.proofs.Prelude.{ℕ, zero, suc, ◌-◌, ◌*◌, min, ◌≤◌, ◌<◌, ◌≡◌, refl, sym, ◌∙◌, ap, Bool, true, false, not, ◌&&◌, ◌||◌, List, [], ◌∷◌, ◌++◌, map, none, some, arith, lt-ltb, le-ltb, le-leb, lt-leb, leb, length, take, drop, get_or, length-take, get_or-take, length-take-le}
use Rattle.std.specs.Prelude.{Result, Ok, Err, IsErrAnd, ⊤}
use Rattle.model.specs.Lists.{values_from}
use Rattle.model.specs.Words.{Mem, word}
use Rattle.model.specs.Layout.{is_directory}
use Rattle.model.specs.Journal.{view}
use Rattle.model.specs.Entry.{padded, name_field}
use Rattle.model.specs.State.{File, file_of, file_byte}
use Rattle.model.specs.Accept.{free_count}
use Rattle.model.specs.Answer as Model
use Rattle.model.specs.Answer.{refused, done, Checks, first_refusal, map_answer, short_memory, not_there, wrong_type}
use Rattle.model.specs.Calls.{none_there, file_checks}
use Rattle.model.specs.Public.{closed_checks, size, read, kth_name, count_free, size_answer, read_answer, read_buffer, kth_name_answer, kth_name_buffer, free_answer}
use Rattle.model.proofs.Lists.{length_values}
use Rattle.model.proofs.Log.Decode.{length_padded}
use Rattle.model.proofs.Crash.Journal.{closed_view}
use Rattle.directory.specs.Fields.{name_at}
use Rattle.directory.specs.Places.{standing, place_ok}
use Rattle.lookup.proofs.Places.{place_ok_lem}
use Rattle.files.specs.State.{file_from}
use Rattle.inodes.specs.Judged.{unmarked_count}
use Rattle.inodes.proofs.Once.{free_count_lem}
use Rattle.answer.specs.Meaning.{meaning, done_meaning, numbered, plain, number_of}
use Rattle.answer.specs.declared.Refusal.{Refusal}
use Rattle.answer.proofs.Checked.{passed_on, refuses_alike, passes_alike, same_refusal, none_refuses}
use Rattle.names.specs.Listed.{names_in, Turned}
use Rattle.names.specs.declared.FolderNames.{FolderNames}
use Rattle.gate.specs.Gated.{Gated}
use Rattle.gate.proofs.Gates.{gate_refused, gate_passed, gate_pages}
use Rattle.checks.proofs.Volumes.{turned_count, turned_filled}
use Rattle.reading.specs.Folder.{folder_first}
use Rattle.state.specs.Stated.{Stated}

-- an element of a list that was mapped
get_or_map : {A B : Type 0} (f : A → B) (l : List A) (i : ℕ) (a : A) (b : B) → i < length l → get_or (map f l) i b ≡ f (get_or l i a)
get_or_map f [] i a b h = absurd (omega arith)
get_or_map f (x ∷ l) zero a b h = refl
get_or_map f (x ∷ l) (suc i) a b h = get_or_map f l i a b (omega arith)

name_short : (m : Mem) (w : ℕ) → length (name_at m w) ≤ 32
unfolding name_at name_field
name_short m w = rw (length-take, length_values) (omega arith)

-- What k-th name of folder d comes to gives the answer and the buffer l.

module _ (v l : List ℕ) (d k : ℕ) where
  abbrev kth : Model.Answer (List ℕ)
  kth = kth_name (length v) (word v) d k (length l)

  pub kth_refused : (n : ℕ) → refused n ≡ kth → (refused n ≡ numbered (kth_name_answer v d k l)) × (l ≡ kth_name_buffer v d k l)
  unfolding kth_name_answer kth_name_buffer
  kth_refused n e = (rw (← e), rw (← e))

  kth_told : (e : Refusal) (r : Result ℕ Refusal) → IsErrAnd r (λ d. d ≡ e) → refused (number_of e) ≡ kth
      → (meaning r ≡ numbered (kth_name_answer v d k l)) × (l ≡ kth_name_buffer v d k l)
  kth_told e r p h = rw (passed_on e r p) (kth_refused (number_of e) h)

  module _ (x : List ℕ) (e : done x ≡ kth) where
    done_number : (n : ℕ) → n ≡ length x → done (some n) ≡ numbered (kth_name_answer v d k l)
    unfolding kth_name_answer
    done_number n i = rw (← e, i)

    done_buffer : (w : List ℕ) → length x ≤ 32 → w ≡ padded x ++ drop 32 l → w ≡ kth_name_buffer v d k l
    unfolding kth_name_buffer
    done_buffer w h j = rw (← e, length_padded x h, j)

pub kth_short : (v l : List ℕ) (d k : ℕ) → length l < 32 → refused short_memory ≡ kth_name (length v) (word v) d k (length l)
unfolding kth_name
kth_short v l d k h = rw (lt-ltb (length l) 32 h)

-- a is that no inode is there, f that it is a folder, and b that k is too large
folder_first_lem : {A : Type 0} (a f b : Bool) (y : Model.Answer A)
    → first_refusal ((a || (f && b), not_there) ∷ (not f, wrong_type) ∷ []) y
    ≡ first_refusal ((a, not_there) ∷ (not f, wrong_type) ∷ []) (first_refusal ((b, not_there) ∷ []) y)
folder_first_lem true f b y = refl
folder_first_lem false true b y = refl
folder_first_lem false false b y = refl

-- What read comes to gives the answer and the buffer l.

module _ (v l : List ℕ) (k o : ℕ) where
  -- the checks of size and read, the file, and its bytes
  abbrev asked : Checks
  asked = closed_checks (length v) (word v) ++ file_checks (view (word v)) (word v 0) (word v 1) k

  abbrev file : File
  file = file_of (view (word v)) (word v 0) (word v 1) k

  abbrev bytes : List ℕ
  bytes = values_from (file_byte (view (word v)) file) o (min (length l) (file.size - o))

  -- marks and t are what the state of file k left
  module _ (marks t : List ℕ) where
    pub read_refused : (e : Refusal) (r : Result ℕ Refusal) → IsErrAnd r (λ d. d ≡ e) → Stated v k (Err e) marks t
        → (meaning r ≡ numbered (read_answer v k o l)) × (l ≡ read_buffer v k o l)
    unfolding read_answer read_buffer read size_answer size
    read_refused e r p a =
        let h : first_refusal asked (done bytes) ≡ refused (number_of e) = same_refusal (number_of e) asked file.size a.answer (done bytes) in
        rw (passed_on e r p) (rw h, rw h)

    module _ (s : ℕ) (a : Stated v k (Ok s) marks t) (n : ℕ) (c : n ≡ min (length l) (s - o)) where
      values : read (length v) (word v) k o (length l) ≡ done (values_from (file_byte (word v) (file_from s t)) o n)
      unfolding read size_answer size
      values =
          let f = a.state in
          rw (none_refuses asked file.size s a.answer (done bytes), ← f.file, closed_view (word v) f.closed, c)

      pub read_number : done (some n) ≡ numbered (read_answer v k o l)
      unfolding read_answer
      read_number = rw (values, length_values)

      pub read_laid : (w : List ℕ) → w ≡ values_from (file_byte (word v) (file_from s t)) o n ++ drop n l → w ≡ read_buffer v k o l
      unfolding read_buffer
      read_laid w h = rw (values, length_values) h

-- places, marks and tree are what the gate left
module _ (v places marks tree : List ℕ) where
  module _ (e : Refusal) (r : Result ℕ Refusal) (p : IsErrAnd r (λ d. d ≡ e))
      (g : Gated v (closed_checks (length v) (word v)) (Err e) places marks tree) where
    pub kth_gate : (l : List ℕ) (d k : ℕ) → 32 ≤ length l
        → (meaning r ≡ numbered (kth_name_answer v d k l)) × (l ≡ kth_name_buffer v d k l)
    unfolding kth_name
    kth_gate l d k h = kth_told v l d k e r p (sym (rw (le-ltb (length l) 32 h) (gate_refused v _ places marks tree e g _ _)))

    pub free_refused : meaning r ≡ numbered (free_answer v)
    unfolding free_answer count_free
    free_refused =
        let f = done (free_count (view (word v)) (word v 0) (word v 1)) in
        rw (passed_on e r p, same_refusal (number_of e) (closed_checks (length v) (word v)) _ g.answer f)

  module _ (n : ℕ) (g : Gated v (closed_checks (length v) (word v)) (Ok n) places marks tree) where
    -- the free pages, counted in the marks
    pub free_is_lem : (P N k : ℕ) → P ≡ word v 0 → N ≡ word v 1 → k ≡ unmarked_count marks P N → done (some k) ≡ numbered (free_answer v)
    unfolding free_answer count_free
    free_is_lem P N k p q c =
        let u : k ≡ unmarked_count marks (word v 0) (word v 1) = rw (← p, ← q) c in
        let few = gate_pages v _ n places marks tree g (word v 0) refl in
        rw (none_refuses (closed_checks (length v) (word v)) _ n g.answer (done (free_count (view (word v)) (word v 0) (word v 1))))
        (ap (λ x. done (some x)) (free_count_lem (view (word v)) (word v 0) (word v 1) true marks few g.tables.served refl k u))

    -- the k-th name of folder d, for a buffer l
    module _ (l : List ℕ) (d k : ℕ) (h : 32 ≤ length l) where
      abbrev rest : Model.Answer (List ℕ)
      rest = first_refusal ((leb (length (names_in v d)) k, not_there) ∷ []) (done (get_or (names_in v d) k ([], 0)).0)

      kth_behind : kth_name (length v) (word v) d k (length l) ≡ first_refusal (folder_first v d) rest
      unfolding kth_name folder_first
      kth_behind =
          rw (le-ltb (length l) 32 h)
          (gate_passed v _ places marks tree n g _ _
          ∙ folder_first_lem (none_there (view (word v)) (word v 0) (word v 1) d) (is_directory (view (word v)) d)
          (leb (length (names_in v d)) k) _)

      pub kth_asked : (e : Refusal) (r : Result ℕ Refusal) → IsErrAnd r (λ d. d ≡ e)
          → done_meaning (Err e) ≡ plain (first_refusal (folder_first v d) (done record {}))
          → (meaning r ≡ numbered (kth_name_answer v d k l)) × (l ≡ kth_name_buffer v d k l)
      kth_asked e r p a =
          kth_told v l d k e r p (sym (kth_behind ∙ refuses_alike (λ z. none) (number_of e) (folder_first v d) _ a rest))

      -- the table ps was turned to d
      module _ (u : ⊤) (a : done_meaning (Ok u) ≡ plain (first_refusal (folder_first v d) (done record {}))) (f : FolderNames) (ps : List ℕ)
          (w : Turned v d f ps) where
        kth_left : kth_name (length v) (word v) d k (length l) ≡ rest
        kth_left = kth_behind ∙ passes_alike (λ z. none) none (folder_first v d) _ a rest

        pub kth_absent : f.count ≤ k → refused not_there ≡ kth_name (length v) (word v) d k (length l)
        kth_absent q = rw (kth_left, turned_count v d f ps w, le-leb f.count k q)

        in_take : k < f.count → k < length (take f.count ps)
        in_take q =
            let few = (turned_filled v d f ps w).few in
            let long = (turned_filled v d f ps w).long in
            rw (length-take-le f.count ps (omega arith)) q

        kth_is : (p : ℕ) → k < f.count → p ≡ get_or ps k 0 → done (name_at (word v) (8 * p)) ≡ kth_name (length v) (word v) d k (length l)
        unfolding standing
        kth_is p q z =
            rw (kth_left, turned_count v d f ps w, lt-leb f.count k q, ← w.lists.names)
            (ap (λ x. done (name_at (word v) (8 * x))) (z ∙ sym (get_or-take f.count ps k 0 q))
            ∙ ap (λ (x : List ℕ × ℕ). done x.0) (sym (get_or_map _ (take f.count ps) k 0 ([], 0) (in_take q))))

        -- c and b are what `lay_name` answered and left
        pub kth_number : (p c : ℕ) → k < f.count → p ≡ get_or ps k 0 → c ≡ length (name_at (word v) (8 * p))
            → done (some c) ≡ numbered (kth_name_answer v d k l)
        kth_number p c q z y = done_number v l d k (name_at (word v) (8 * p)) (kth_is p q z) c y

        pub kth_laid : (p : ℕ) (b : List ℕ) → k < f.count → p ≡ get_or ps k 0 → b ≡ padded (name_at (word v) (8 * p)) ++ drop 32 l
            → b ≡ kth_name_buffer v d k l
        kth_laid p b q z y = done_buffer v l d k (name_at (word v) (8 * p)) (kth_is p q z) b (name_short (word v) (8 * p)) y

-- the k-th place of a table that was turned to d
module _ (v : List ℕ) (d k : ℕ) (f : FolderNames) (ps : List ℕ) (w : Turned v d f ps) (q : k < f.count) where
  pub kth_few : k < 224
  kth_few = let few = (turned_filled v d f ps w).few in omega arith

  pub kth_place : (p : ℕ) → p ≡ get_or ps k 0 → place_ok (word v) (length v) p ≡ true
  kth_place p i = place_ok_lem (word v) (length v) f.count k p ps (turned_filled v d f ps w) q i
