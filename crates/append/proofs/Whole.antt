-- The whole append: where it has room, the list is that of the definitions' action, and where not, the answer is 12 or 15.
use Rattle.model.proofs.Prelude.{ℕ, ◌+◌, ◌*◌, ◌-◌, ◌/◌, ◌≤◌, ◌<◌, ◌≡◌, refl, sym, ap, ◌∙◌, Bool, true, false, cond, not, List, [], ◌∷◌, ◌++◌, ⊎_elim, some, arith, add-zero, zero-add, sub-zero, ltb, eqb, length, get_or, take, drop, replicate, length-append, length-map, length-replicate, length-take-le, length-drop, take_all, eq-eqb, ne_eqb, lt-ltb, ltb-true, ltb-false, not-false}
use Rattle.std.specs.Prelude.{Result, Ok, Err, IsErrAnd}
use Rattle.model.specs.Lists.{bit, sum_below, lowest_few, index_of, has}
use Rattle.model.specs.Words.{Mem, word}
use Rattle.model.specs.Layout.{head_word, tail_word, type_word}
use Rattle.model.specs.Stretches.{stretches}
use Rattle.model.specs.Accept.{is_valid, free, free_count}
use Rattle.model.specs.Answer.{done, first_refusal, no_space}
use Rattle.inodes.specs.Judged.{unmarked_count, Closed}
use Rattle.model.specs.Stores.{Stores, both, only_if, store_list}
use Rattle.model.specs.Calls as calls
use Rattle.model.specs.Calls.{lay_pages, stretch_entries, commit, entries_only, besides, lowest_pages, data_pages, appended, fresh_pages, fresh_log, pages_needed, prepared, pages_left, all_needed, all_prepared, all_changes, room_checks, space_checks, action_checks, action_groups}
use Rattle.model.proofs.Tests.{by_bool, by_eq, by_lt, and_left, no as never, not_not}
use Rattle.model.proofs.Lists.{few_holds, has_append, has_cons, has_get_or}
use Rattle.model.proofs.Log.Live.{lay_in}
use Rattle.model.proofs.State.Stretches.{stretches_some}
use Rattle.model.proofs.Crash.Stores.{Only, only_word, only_both, only_if_lem}
use Rattle.model.proofs.Calls.DataPages.{pages_hold, pages_few, pages_enough, few_enough, enough_log, left_count}
use Rattle.model.proofs.Calls.Room.{free_bounds, pages_in}
use Rattle.model.proofs.Calls.Actions.{both_none, one_needed, one_prepared, one_changes, no_data, only_entries}
use Rattle.layout.specs.declared.Sizes.{Sizes}
use Rattle.stores.specs.Emitted.{Emitted}
use Rattle.stores.specs.Added.{Added, element}
use Rattle.stores.proofs.Groups.{added_both, group_of}
use Rattle.commit.specs.Commit.{changes_of, Pairs, Committed}
use Rattle.entries.specs.Table.{entries_of, Holds, data_page}
use Rattle.entries.proofs.Entries.{length_entries, entries_take, entries_drop}
use Rattle.space.specs.Space.{ArePages, PagesTaken}
use Rattle.space.proofs.Taken.{length_marked}
use Rattle.answer.specs.Meaning.{meaning, numbered, number_of}
use Rattle.answer.specs.Comes.{Comes}
use Rattle.answer.specs.declared.Refusal.{Refusal}
use Rattle.answer.specs.declared.Refusal.TheVariants.{NoSpace}
use Rattle.answer.proofs.Checked.{clash, passed_on, same_refusal, none_refuses}
use Rattle.answer.proofs.Coming.{comes_refused}
use Rattle.laying.specs.declared.Laid.{Laid}
use Rattle.laying.specs.Laying.{page_of, slots_at, needed_at, start_at, may_take, fresh_from, pages_behind, to_lay, tail_behind, head_behind, Layable, LogLaid}
use Rattle.laying.proofs.Steps.{no_need}
use Rattle.append.specs.declared.Append.{Append}
use Rattle.append.specs.Appended.{old_tail, head_of, rest_of, second_stores, SecondLaid, zeroed, pairs_of, also_committed, committing, first_count, asked, second_asked, action_of, outcome, Ready}
use Rattle.append.proofs.Outcomes.{comes_words}
use Rattle.append.proofs.Taking.{besides_none}
use Rattle.append.proofs.Parts.{pairs_long, put_words, put_changes, committing_below, some_committed}
use Rattle.append.proofs.Volumes.{closed_bytes, closed_sizes, closed_enqueue, closed_free, old_fine, old_apart}
use Rattle.append.proofs.Logs.{fresh_is, log_prepared, log_changes, log_left}

-- The entries of the first log, and those of the second as the code takes them from the table.

first_entries : (ws : List ℕ) (n : ℕ) → 8 * n ≤ length ws → (length (take (8 * n) ws) / 8 ≡ n) × (entries_of (take (8 * n) ws) 0 n ≡ entries_of ws 0 n)
first_entries ws n h = let e = length-take-le (8 * n) ws h in (omega arith, entries_take ws (8 * n) 0 n (omega arith))

abbrev moved_of : List ℕ → ℕ → List ℕ
moved_of ws k = take (length ws - k) (drop k ws)

moved_entries : (ws : List ℕ) (n : ℕ) → n ≤ length ws / 8
    → (length (moved_of ws (8 * (length ws / 8 - n))) / 8 ≡ n)
    × (entries_of (moved_of ws (8 * (length ws / 8 - n))) 0 n ≡ entries_of ws (8 * (length ws / 8 - n)) n)
moved_entries ws n h =
    let k = 8 * (length ws / 8 - n) in
    let e = length-drop k ws in
    let a : moved_of ws k ≡ drop k ws = take_all (length ws - k) (drop k ws) (omega arith) in
    rw a (omega arith, entries_drop ws k 0 n ∙ ap (λ j. entries_of ws j n) (add-zero k))

pub first_long : (ws : List ℕ) (n : ℕ) → 8 * (length ws / 8 - n) ≡ length (take (8 * (length ws / 8 - n)) ws)
first_long ws n = sym (length-take-le (8 * (length ws / 8 - n)) ws (omega arith))

-- What the code asks of the volume, the sizes and the inodes.
module _ (v b : List ℕ) (a : Append) (ws ds l : List ℕ) (y : Ready v b a ws ds l) where
  abbrev sizes : (word v 0 ≤ 4096) × (word v 1 ≤ 256) × (64 + 8 * word v 1 ≤ 64 * word v 0) × (8 ≤ word v 1)
  sizes = closed_sizes v b y.volume

  pub ready_long : 16 ≤ length v
  ready_long = omega (arith, closed_bytes v b y.volume, sizes.2)

  pub ready_short : length v ≤ 2097152
  ready_short = omega (arith, closed_bytes v b y.volume, sizes.0)

  pub ready_tail : 8 * tail_word a.log + 8 ≤ length v
  ready_tail = omega (arith, closed_bytes v b y.volume, sizes.2, y.log)

  pub ready_second : 8 * tail_word a.second + 8 ≤ length v
  ready_second = omega (arith, closed_bytes v b y.volume, sizes.2, y.second)

  pub ready_inodes : (a.log < 4294967296) × (a.second < 4294967296) × (a.other < 4294967296)
  ready_inodes = (omega (arith, sizes.1, y.log), omega (arith, sizes.1, y.second), omega (arith, sizes.1, y.other))

  pub ready_pages : (P : ℕ) → P ≡ word v 0 → P ≤ 4096
  ready_pages P e = omega (arith, sizes.0)

  pub ready_few : (n : ℕ) → n ≤ 9 → length ws / 8 - a.moved + n < 4611686018427387904
  ready_few n h = omega (arith, y.few)

  pub ready_nine : (n : ℕ) → n ≡ length ds / 64 → n ≤ 9
  ready_nine n e = omega (arith, y.nine)

  pub ready_bytes : 8 * (length ws / 8 - a.moved) * 8 < 18446744073709551616
  ready_bytes = omega (arith, y.few)

  pub ready_moved : a.moved < 4611686018427387904
  ready_moved = omega (arith, y.few, y.moved)

  pub ready_marks : length b ≡ 4096
  ready_marks = rw (y.volume.served.list refl) (length_marked _ (replicate 4096 0) ∙ length-replicate {A = ℕ} 4096 0)

-- A log that is laid from g on: it can be laid, and its stores lie in the volume.
module _ (v b k : List ℕ) (s : Sizes) (c : Closed v b) (ep : s.pages ≡ word v 0) (may_free : (p : ℕ) → may_take k s p ≡ true → free (word v) (word v 0) (word v 1) p ≡ true)
    (anew : Bool) (i : ℕ) (h : i < word v 1) (val : is_valid (word v) i ≡ true) (g : Laid) (et : g.tail ≡ old_tail (word v) anew i) where
  at_layable : (n : ℕ) → length (fresh_from k s g (needed_at g.tail n)) ≡ needed_at g.tail n → Layable k s g n
  at_layable n e =
      let o = old_fine v b c anew i h val in
      let o₂ = o.2 in
      let z = (closed_sizes v b c).0 in
      record {
        slot = rw et o.0;
        whole = rw et o.1;
        low = rw et (omega arith);
        enough = e;
        apart = λ p q m j. old_apart v b c anew i h val p (may_free p m) (rw et at j);
      }

  page_low : (q : ℕ) → has q (page_of g.tail) ≡ true → q < word v 0
  unfolding page_of has
  page_low q m =
      let o = (old_fine v b c anew i h val).2 in
      by_eq g.tail 0 (λ z. never (rw z at m))
      (λ z. ⊎_elim (λ e. omega (arith, rw (← et) at o)) (λ e. never e) (has_cons q (g.tail / 512) [] (rw (ne_eqb g.tail 0 z) at m)))

  at_low : (es : List (List ℕ)) → Only (λ w. w < 64 * word v 0) (to_lay k s g es)
  unfolding to_lay pages_behind
  at_low es w z e =
      let d = needed_at g.tail (length es) in
      ⊎_elim (λ m. let q = page_low (w / 64) m in omega arith)
      (λ m.
      let q = free_bounds (word v) (word v 0) (word v 1) (w / 64) (may_free (w / 64) (few_holds (may_take k s) (s.pages - g.from) g.from d (w / 64) m).0) in
      omega arith)
      (has_append (w / 64) (page_of g.tail) (fresh_from k s g d) (lay_in _ (slots_at g.tail) es w z e))

-- The append of a, ws and ds to the volume v: t and t₂ are the tails of its logs, F is the count of free pages. en, ps and the marks k are what
-- `take_pages` answered and left.
module _ (v b : List ℕ) (a : Append) (ws ds l : List ℕ) (y : Ready v b a ws ds l) (s : Sizes) (ep : s.pages ≡ word v 0) (ei : s.inodes ≡ word v 1)
    (t t₂ : ℕ) (et : t ≡ old_tail (word v) a.anew a.log) (et₂ : t₂ ≡ old_tail (word v) false a.second)
    (F : ℕ) (eF : F ≡ unmarked_count b s.pages s.inodes) (en : Bool) (os ps k : List ℕ)
    (x : PagesTaken b s.pages s.inodes (length ds / 64) os en ps k) where
  -- how many entries the first log gets of the table
  abbrev n : ℕ
  n = length ws / 8 - a.moved

  abbrev u : Mem
  u = word v

  abbrev P : ℕ
  P = word v 0

  abbrev N : ℕ
  N = word v 1

  abbrev f : ℕ → Bool
  f = free u P N

  abbrev c : ℕ
  c = length ds / 64

  -- the appends
  abbrev A : calls.Append
  A = asked a ws ds

  abbrev D : List ℕ
  D = data_pages u P f A

  abbrev es₂ : List (List ℕ)
  es₂ = entries_of ws (8 * first_count a ws) a.moved

  abbrev B : calls.Append
  B = entries_only false a.second es₂

  abbrev S : List calls.Append
  S = second_asked a ws

  abbrev may : ℕ → Bool
  may = besides f D

  abbrev f₂ : ℕ → Bool
  f₂ = pages_left u P f A

  few : (P ≤ 4096) × (N ≤ 256) × (64 + 8 * N ≤ 64 * P) × (8 ≤ N)
  few = closed_sizes v b y.volume

  free_is_lem : may_take b s ≡ f
  free_is_lem = closed_free v b y.volume s ep ei

  bound : (p : ℕ) → f p ≡ true → p < P
  bound p h = (free_bounds u P N p h).1

  data_is_lem : lowest_pages (may_take b s) s.pages c ≡ D
  unfolding data_pages asked
  data_is_lem = rw (free_is_lem, ep)

  data_lacks : ltb (length D) c ≡ not en
  data_lacks = rw (x.answer, data_is_lem) (sym (not_not (ltb (length D) c)))

  free_count_lem : free_count u P N ≡ F
  unfolding free_count unmarked_count
  free_count_lem = sym (eF ∙ ap (λ (g : ℕ → Bool). sum_below s.pages (λ p. bit (g p))) free_is_lem ∙ rw ep)

  -- too few pages for the data are too few in all
  pub refuses_data : not en ≡ true → Comes (outcome v (action_of a ws ds)) l (Err NoSpace) l
  unfolding outcome action_of action_checks space_checks room_checks all_needed pages_needed asked data_pages free_count
  refuses_data e =
      let few-data = ltb-true (length D) c (data_lacks ∙ e) in
      let lacking : free_count u P N < c + fresh_pages u P f A + all_needed u P f₂ S =
      by_lt (free_count u P N) c (λ h. omega arith) (λ h. absurd (omega (arith, few-data, pages_enough f P bound c h))) in
      rw (lt-ltb _ _ lacking) (record { answer = refl; list = refl })

  -- its pages, as the code takes them from the array, and their entries
  pub pages_long : length os ≡ 9 → c ≡ length (take c ps)
  pages_long i = sym (length-take-le c ps (omega (arith, x.long, y.nine)))

  pub few_entries : (more : ℕ) → more ≤ length (take c ps) → length os ≡ 9 → more ≤ 9
  few_entries more h i = omega (arith, pages_long i, y.nine)

  pub table_asks : (z : ℕ) → length os ≡ 9 → z ≡ 72 → (length (take c ps) ≤ 128) × (8 * length (take c ps) ≤ z) × (a.file < 4294967296)
  table_asks z i j = let g = y.nine in let h = pages_long i in (omega arith, omega arith, y.file)

  -- The data has its pages. Of the table xs₀ the first `more` entries are those of its stretches, q₁ and q₂ are the pages that the logs need.
  module _ (some-data : not en ≡ false) (more : ℕ) (os₂ xs₀ : List ℕ)
      (held : Holds os₂ xs₀ more (stretch_entries a.size (stretches (data_page (take (length ds / 64) ps) a.file) (length (take (length ds / 64) ps)) a.file)))
      (few-more : more ≤ length (take (length ds / 64) ps)) (table : length os₂ ≡ 72) (q₁ q₂ : ℕ)
      (e₁ : q₁ ≡ needed_at t (length ws / 8 - a.moved + more)) (e₂ : q₂ ≡ needed_at t₂ a.moved) where
    abbrev m : ℕ
    m = n + more

    data_some : en ≡ true
    data_some = not-false en some-data

    pages_are : take c ps ≡ D
    pages_are = x.pages data_some ∙ data_is_lem

    long_data : length D ≡ c
    unfolding data_pages asked
    long_data =
        let h = ltb-false (length D) c (data_lacks ∙ some-data) in
        let g = pages_few f P bound c in omega arith

    few_writes : more ≤ c
    few_writes = let h = rw pages_are at few-more in omega (arith, long_data)

    abbrev w₂ : List ℕ
    w₂ = take (8 * more) xs₀

    writes_are : (length w₂ / 8 ≡ more) × (entries_of w₂ 0 more ≡ entries_of xs₀ 0 more)
    writes_are = first_entries xs₀ more (omega (arith, held.long, few_writes, y.nine))

    all_entries : appended u P f A ≡ entries_of ws 0 n ++ entries_of w₂ 0 (length w₂ / 8)
    unfolding appended asked first_count
    all_entries =
        let h : entries_of xs₀ 0 more ≡ stretch_entries a.size (stretches (data_page D a.file) c a.file) = rw (pages_are, long_data) at held.entries in
        rw (writes_are.0, writes_are.1) (ap (λ es. entries_of ws 0 n ++ es) (sym h))

    all_long : length (appended u P f A) ≡ m
    all_long = rw (all_entries, length-append, length_entries, length_entries, writes_are.0)

    fresh_need : fresh_pages u P f A ≡ q₁
    unfolding asked
    fresh_need = fresh_is u P f A ∙ rw (all_long, e₁, et)

    fresh_log_lem : fresh_log u P f A ≡ lowest_few may P 0 q₁
    unfolding fresh_log
    fresh_log_lem = rw fresh_need

    -- the second log
    second_long : (g : ℕ → Bool) → length (appended u P g B) ≡ a.moved
    second_long g = rw (only_entries u P g false a.second es₂) (length_entries ws (8 * first_count a ws) a.moved)

    second_may : (g : ℕ → Bool) → besides g (data_pages u P g B) ≡ g
    second_may g = rw (no_data u P g false a.second es₂) (besides_none g)

    second_needs : (g : ℕ → Bool) → all_needed u P g S ≡ q₂
    unfolding second_asked all_needed pages_needed entries_only
    second_needs g =
        by_eq a.moved 0
        (λ z.
        let o : q₂ ≡ 0 = e₂ ∙ rw z (no_need t₂ (rw et₂ (old_fine v b y.volume false a.second y.second y.second_valid).0)) in
        rw (eq-eqb a.moved 0 z, o))
        (λ z.
        let i : fresh_pages u P g B ≡ q₂ = fresh_is u P g B ∙ rw (second_long g, e₂, et₂) in
        rw (ne_eqb a.moved 0 z) (one_needed u P g B ∙ rw i (zero-add q₂)))

    may_is : may_take k s ≡ may
    may_is = rw (x.left data_some, data_is_lem, free_is_lem)

    -- all the pages that are needed
    first_needs : pages_needed u P f A ≡ c + q₁
    unfolding pages_needed asked
    first_needs = rw fresh_need

    needs_are : all_needed u P f (A ∷ S) ≡ c + q₁ + q₂
    unfolding all_needed
    needs_are = rw (first_needs, second_needs f₂)

    abbrev L : List ℕ
    L = store_list (64 * P) (action_groups u P N (action_of a ws ds))

    outcome_is : outcome v (action_of a ws ds) ≡ first_refusal (room_checks a.keeps F (c + q₁ + q₂)) (done L)
    unfolding outcome action_of action_checks space_checks
    outcome_is = rw (free_count_lem, needs_are)

    -- j is what `room` answers of all the pages
    abbrev Judged : Result ℕ Refusal → Type 0
    Judged j = meaning j ≡ numbered (first_refusal (room_checks a.keeps F (c + q₁ + q₂)) (done (c + q₁ + q₂)))

    pub refuses_log : (r : Refusal) (j : Result ℕ Refusal) → IsErrAnd j (λ d. d ≡ r) → Judged (Err r) → Comes (outcome v (action_of a ws ds)) l j l
    refuses_log r j p judged =
        rw (passed_on r j p)
        (comes_refused _ l r (outcome_is ∙ same_refusal (number_of r) (room_checks a.keeps F (c + q₁ + q₂)) _ judged (done L)))

    module _ (n₀ : ℕ) (judged : Judged (Ok n₀)) where
      no_refusal : outcome v (action_of a ws ds) ≡ done L
      no_refusal = outcome_is ∙ none_refuses (room_checks a.keeps F (c + q₁ + q₂)) _ n₀ judged (done L)

      enough : c + q₁ + q₂ ≤ F
      unfolding room_checks
      enough =
          by_lt F (c + q₁ + q₂) (λ h. clash no_space (some n₀) (sym (rw (lt-ltb F (c + q₁ + q₂) h) at judged))) (λ h. h)

      -- both logs have their pages
      abbrev all_free : ℕ
      all_free = sum_below P (λ p. bit (f p))

      all_is : all_free ≡ F
      unfolding free_count
      all_is = free_count_lem

      first_room : pages_needed u P f A ≤ all_free
      first_room = rw (first_needs, all_is) (omega (arith, enough))

      enough_first : length (lowest_few may P 0 q₁) ≡ q₁
      unfolding asked
      enough_first = rw (fresh_need, fresh_log_lem) at (enough_log u P f A bound first_room)

      enough_second : length (lowest_few f₂ P 0 q₂) ≡ q₂
      enough_second =
          let left = left_count u P f A bound first_room in few_enough f₂ P q₂ (omega (arith, first_needs, all_is, enough))

      may_free : (p : ℕ) → may_take k s p ≡ true → f p ≡ true
      unfolding besides
      may_free p e = let z : may p ≡ true = rw may_is at e in and_left (f p) (not (has p (data_pages u P f A))) z

      -- the first log is laid from g₀ on
      abbrev g₀ : Laid
      g₀ = start_at 0 t 0

      seeks : (j : ℕ) → fresh_from k s g₀ j ≡ lowest_few may P 0 j
      seeks j = rw (may_is, sub-zero s.pages, ep)

      first_layable : Layable k s g₀ m
      first_layable =
          at_layable v b k s y.volume ep may_free a.anew a.log y.log y.valid g₀ et m
          (rw (seeks (needed_at t m), ← e₁) enough_first)

      are_pages : ArePages (take c ps)
      unfolding data_pages asked
      are_pages j h =
          let g = pages_hold f P bound c (get_or D j 0) (has_get_or D j (rw pages_are at h)) in
          rw pages_are (omega (arith, few.0, g.1))

      abbrev es₁ : List (List ℕ)
      es₁ = entries_of ws 0 n ++ entries_of w₂ 0 (length w₂ / 8)

      -- What it stores is that of the definitions.
      first_stores : prepared u P f A ≡ both (to_lay k s g₀ es₁) (rest_of a t (head_behind k s g₀ m) D ds)
      unfolding rest_of asked
      first_stores = log_prepared u P f A k s g₀ m et refl all_long seeks ∙ rw all_entries

      -- data gives an entry
      some_write : 1 ≤ c → 1 ≤ more
      unfolding stretch_entries data_pages asked
      some_write h =
          let D₀ = get_or D 0 0 in
          let g = pages_hold f P bound c D₀ (has_get_or D 0 (omega (arith, long_data))) in
          let i = stretches_some (data_page D a.file) c a.file h
          (λ z. let e : a.file - a.file ≡ 0 = omega arith in let q = rw e at z in omega (arith, free_bounds u P N D₀ g.0)) in
          let e : more ≡ length (stretches (data_page D a.file) c a.file)
          = sym (length_entries xs₀ 0 more) ∙ ap length (rw (pages_are, long_data) at held.entries) ∙ (rw length-map) in
          omega arith

      some_first : m ≡ 0 → old_tail u a.anew a.log ≡ 0
      unfolding old_tail first_count
      some_first z =
          by_bool a.anew (λ o. rw o)
          (λ o.
          let i = y.some_entry o in
          by_eq c 0 (λ d. absurd (omega arith)) (λ d. absurd (omega (arith, some_write (omega arith)))))

      -- i is how far it is laid, and e the end of the group with what belongs to it: there the second log is laid
      module _ (i : Laid) (left : (j : ℕ) → fresh_from k s i j ≡ lowest_few f₂ P 0 j) (e : ℕ) where
        abbrev g₁ : Laid
        g₁ = start_at e t₂ i.from

        seeks₂ : (j : ℕ) → fresh_from k s g₁ j ≡ lowest_few (besides f₂ (data_pages u P f₂ B)) P 0 j
        seeks₂ j = rw (second_may f₂) (left j)

        second_layable : Layable k s g₁ a.moved
        second_layable =
            at_layable v b k s y.volume ep may_free false a.second y.second y.second_valid g₁ et₂ a.moved
            (rw (left (needed_at t₂ a.moved), ← e₂) enough_second)

        second_stores_lem : all_prepared u P f₂ S ≡ second_stores k s g₁ a.second es₂
        unfolding second_asked all_prepared second_stores only_if lay_pages index_of entries_only
        second_stores_lem =
            let d = length_entries ws (8 * first_count a ws) a.moved in
            by_eq a.moved 0 (λ z. rw (d, eq-eqb a.moved 0 z))
            (λ z.
            let o = log_prepared u P f₂ B k s g₁ a.moved et₂ refl (second_long f₂) seeks₂ in
            rw (d, ne_eqb a.moved 0 z)
            (one_prepared u P f₂ B ∙ o
            ∙ rw (only_entries u P f₂ false a.second es₂, no_data u P f₂ false a.second es₂, both_none)))

        second_changes : all_changes u P f₂ S ≡ cond (not (eqb a.moved 0)) ((tail_word a.second, tail_behind k s g₁ a.moved) ∷ []) []
        unfolding second_asked all_changes entries_only
        second_changes =
            by_eq a.moved 0 (λ z. rw (eq-eqb a.moved 0 z))
            (λ z. rw (ne_eqb a.moved 0 z)
            (one_changes u P f₂ B ∙ log_changes u P f₂ B k s g₁ a.moved et₂ refl (second_long f₂) seeks₂ (λ o. absurd (z o))))

      -- What the parts of `make` ask.

      abbrev w₁ : List ℕ
      w₁ = take (8 * n) ws

      abbrev w₃ : List ℕ
      w₃ = moved_of ws (8 * n)

      split : (length w₁ / 8 ≡ n) × (entries_of w₁ 0 n ≡ entries_of ws 0 n) × (length w₃ / 8 ≡ a.moved) × (entries_of w₃ 0 a.moved ≡ entries_of ws (8 * n) a.moved)
      split =
          let o = first_entries ws n (omega arith) in
          let q = moved_entries ws a.moved y.moved in
          (o.0, o.1, q.0, q.1)

      count_is : length w₁ / 8 + length w₂ / 8 ≡ m
      count_is = rw (split.0, writes_are.0)

      pub writes_long : 8 * more ≡ length w₂
      writes_long = sym (length-take-le (8 * more) xs₀ (omega (arith, held.long, few_writes, y.nine)))

      pub lay_asks : (s.pages ≤ 4096) × Layable k s g₀ (length w₁ / 8 + length w₂ / 8) × (0 + 18 * (length w₁ / 8 + length w₂ / 8) ≤ length l)
      lay_asks = (omega (arith, few.0), rw count_is first_layable, omega (arith, count_is, few_writes, y.room))

      -- i is how far the first log is laid, and m₁ the list then
      module _ (i : Laid) (m₁ : List ℕ) (d : LogLaid k s l g₀ w₁ w₂ i m₁) where
        left : (j : ℕ) → fresh_from k s i j ≡ lowest_few f₂ P 0 j
        unfolding asked
        left = log_left u P f A k s g₀ m et refl all_long seeks first_layable.enough i (rw count_is at d.left)

        pub rest_asks : (a.log < 4294967296) × ArePages (take c ps) × (64 * length (take c ps) ≤ length ds)
            × (i.end + 128 * length (take c ps) + 2 ≤ length m₁)
        rest_asks = (
          omega (arith, few.1, y.log),
          are_pages,
          rw pages_are (omega (arith, long_data, y.whole)),
          rw pages_are (omega (arith, long_data, y.whole, count_is, few_writes, y.room, d.end, d.stores.long)),
        )

        -- e is the end of the group with what belongs to it, and m₂ the list then
        module _ (e : ℕ) (m₂ : List ℕ) (s₁ : Stores) (added : Added m₁ 0 i.end s₁ e m₂) (end : e ≤ i.end + 128 * length (take (length ds / 64) ps) + 2) where
          abbrev long : length m₂ ≡ length m₁
          long = added.long

          short : e ≤ i.end + 2 * length ds + 2
          short = let z = rw pages_are at end in omega (arith, long_data, y.whole)

          pub second_asks : (s.pages ≤ 4096) × (a.second < 4294967296) × Layable k s (start_at e t₂ i.from) (length w₃ / 8)
              × (e + 18 * (length w₃ / 8) + 2 ≤ length m₂)
          second_asks =
              let o = split.2 in (
                omega (arith, few.0),
                omega (arith, few.1, y.second),
                rw o (second_layable i left e),
                omega (arith, count_is, few_writes, y.room, y.whole, short, y.moved, d.end, d.stores.long),
              )

          -- h is how far the second log is laid, and m₃ the list then
          module _ (o : ℕ) (h : Laid) (m₃ : List ℕ) (w : SecondLaid k s m₂ (start_at e t₂ i.from) o w₃ h m₃) where
            pub new_asks : (a.other < 4294967296) × (h.end + 6 ≤ length m₃)
            new_asks =
                let q = split.2 in
                (omega (arith, few.1, y.other), omega (arith, count_is, few_writes, y.room, y.whole, short, y.moved, d.end, d.stores.long, w.end, w.stores.long))

            -- z of the words cs commit, behind index e₂
            pub commit_asks : (e₂ z h₀ t₀ t₃ : ℕ) (m₄ c₀ cs : List ℕ) (s₂ : Stores) → Added m₃ 0 h.end s₂ e₂ m₄ → e₂ ≤ h.end + 6
                → Emitted c₀ 0 (pairs_of (committing a h₀ t₀ t₃)) z cs → 8 ≤ length c₀ → z ≤ 8
                → Pairs v (take z cs) × (2 ≤ length (take z cs)) × (e₂ + 3 * length (take z cs) + 12 ≤ length m₄)
            commit_asks e₂ z h₀ t₀ t₃ m₄ c₀ cs s₂ p q g room most =
                let b₁ = closed_bytes v b y.volume in
                let q₃ = split.2 in
                let j = put_words c₀ cs z _ g room most in
                let o₁ = pairs_long (committing a h₀ t₀ t₃) in
                let o₂ = some_committed a h₀ t₀ t₃ in
                let o₃ : length (take z cs) ≡ 2 * length (committing a h₀ t₀ t₃) = ap length j ∙ o₁ in
                let o₄ : z ≡ 0 + length (pairs_of (committing a h₀ t₀ t₃)) = g.end in (
                  record {
                    page = omega (arith, few.2);
                    enqueue = closed_enqueue v b y.volume;
                    inside = λ x l.
                        let i = committing_below (64 * P) a h₀ t₀ t₃ (omega (arith, few.2, y.log)) (omega (arith, few.2, y.second)) (omega (arith, few.2, y.other)) x (omega arith) in
                        rw j (omega arith);
                  },
                  omega arith,
                  omega (arith, count_is, few_writes, y.room, y.whole, short, y.moved, d.end, d.stores.long, w.end, w.stores.long),
                )

      -- Stores beside the logs lie in the volume.
      rest_low : (h : ℕ) → Only (λ w. w < 64 * P) (rest_of a t h D ds)
      unfolding rest_of head_of data_pages asked
      rest_low h =
          let M : ℕ → ℕ → Type 0 = λ w x. w < 64 * P in
          let n = few.2 in
          let i = y.log in
          only_both (only_if_lem _ (λ e. only_word M (head_word a.log) h (omega arith)))
          (λ w x e. omega (arith, (pages_hold f P bound c (w / 64) (pages_in D (element ds) w x e)).1))

      new_low : Only (λ w. w < 64 * P) (zeroed a)
      unfolding zeroed
      new_low =
          let M : ℕ → ℕ → Type 0 = λ w x. w < 64 * P in
          let n = few.2 in
          let j = y.other in
          only_if_lem _ (λ e.
          only_both (only_word M (head_word a.other) 0 (omega arith))
          (only_both (only_word M (tail_word a.other) 0 (omega arith)) (only_word M (type_word a.other) a.kind (omega arith))))

      second_low : (g : Laid) → g.tail ≡ t₂ → (es : List (List ℕ)) → Only (λ w. w < 64 * P) (second_stores k s g a.second es)
      unfolding second_stores head_of
      second_low g eg es =
          let M : ℕ → ℕ → Type 0 = λ w x. w < 64 * P in
          let n = few.2 in
          let j = y.second in
          only_if_lem _ (λ e. only_both (at_low v b k s y.volume ep may_free false a.second y.second y.second_valid g (eg ∙ et₂) es)
          (only_if_lem _ (λ e. only_word M (head_word a.second) _ (omega arith))))

      -- `make`: i and h are how far the logs were laid, e is the end of the group with what belongs to the first log and e₃ its end in all, zs of
      -- the words cs commit it, and z is the end of the list
      pub fills : (i h : Laid) (e e₃ z zs : ℕ) (c₀ cs m₁ m₂ m₃ m₄ m₅ : List ℕ) → LogLaid k s l g₀ w₁ w₂ i m₁
          → Added m₁ 0 i.end (rest_of a t i.head (take (length ds / 64) ps) ds) e m₂
          → SecondLaid k s m₂ (start_at e t₂ i.from) a.second w₃ h m₃ → Added m₃ 0 h.end (zeroed a) e₃ m₄
          → Emitted c₀ 0 (pairs_of (committing a i.head i.tail h.tail)) zs cs → 8 ≤ length c₀ → zs ≤ 8
          → Committed v m₄ e₃ (changes_of (take zs cs)) z m₅ → z ≤ length m₄ → Comes (outcome v (action_of a ws ds)) l (Ok z) m₅
      unfolding action_of action_groups all_prepared all_changes committing first_count asked
      fills i h e e₃ z zs c₀ cs m₁ m₂ m₃ m₄ m₅ x₁ x₂₀ x₃ x₄ x₅ room most x₆ x₇ =
          let W : length v / 8 ≡ 64 * P = let q = closed_bytes v b y.volume in omega arith in
          let o = split in
          let g₁ = start_at e t₂ i.from in
          let i-left = left i m₁ x₁ in
          let x₂ : Added m₁ 0 i.end (rest_of a t i.head D ds) e m₂ = rw pages_are at x₂₀ in
          let s₁ : entries_of w₁ 0 (length w₁ / 8) ++ entries_of w₂ 0 (length w₂ / 8) ≡ es₁ = rw (o.0, o.1) in
          let p₁ : Added l 0 0 (to_lay k s g₀ es₁) i.end m₁ = rw s₁ at x₁.stores in
          let p₃ : Added m₂ 0 e (second_stores k s g₁ a.second es₂) h.end m₃ = rw (o.2, o.3) at x₃.stores in
          let G = both (both (both (to_lay k s g₀ es₁) (rest_of a t i.head D ds)) (second_stores k s g₁ a.second es₂)) (zeroed a) in
          let q : Added l 0 0 G e₃ m₄ = added_both (added_both (added_both p₁ x₂) p₃) x₄ in
          let first-low = at_low v b k s y.volume ep may_free a.anew a.log y.log y.valid g₀ et es₁ in
          let group = group_of (64 * P) q (only_both (only_both (only_both first-low (rest_low i.head)) (second_low g₁ refl es₂)) new_low) in
          let head_is : i.head ≡ head_behind k s g₀ m = x₁.head ∙ ap (head_behind k s g₀) count_is in
          let tail_is : i.tail ≡ tail_behind k s g₀ m = x₁.tail ∙ ap (tail_behind k s g₀) count_is in
          let tail₂-is : h.tail ≡ tail_behind k s g₁ a.moved = x₃.tail ∙ ap (tail_behind k s g₁) o.2 in
          let stores : both (all_prepared u P f (A ∷ S)) (zeroed a) ≡ G = rw (first_stores, second_stores_lem i i-left e, head_is) in
          let changes : all_changes u P f (A ∷ S) ++ also_committed a ≡ committing a i.head i.tail h.tail
          = rw (log_changes u P f A k s g₀ m et refl all_long seeks some_first, second_changes i i-left e, head_is, tail_is, tail₂-is) in
          let list = rw W at (x₆.list l G (rw W group)) in
          let gs : store_list (64 * P) (commit u G (changes_of (take zs cs)))
          ≡ store_list (64 * P) (commit u (both (all_prepared u P f (A ∷ S)) (zeroed a)) (all_changes u P f (A ∷ S) ++ also_committed a))
          = rw (stores, changes, put_changes c₀ cs zs _ x₅ room most) in
          let done-list = rw gs at list in
          rw no_refusal (comes_words done-list (omega (arith, x₇, q.long)))
