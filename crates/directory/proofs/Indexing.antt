-- The loops over a log: a step takes the index, or the places that stand, one entry on, and an entry that is none of a directory's decides.
use Rattle.model.proofs.Prelude.{ℕ, ◌+◌, ◌*◌, ◌-◌, ◌/◌, ◌≤◌, ◌<◌, ◌≡◌, refl, sym, ◌∙◌, ap, Bool, true, false, not, List, [], map, arith, eqb, length}
use Rattle.model.specs.Lists.{bit, all, foldl}
use Rattle.model.specs.Words.{Mem}
use Rattle.model.specs.Entry.{entry_at, name_entry_ok}
use Rattle.model.proofs.Lists.{all_cons}
use Rattle.words.proofs.Cond.{asked_true, asked_false}
use Rattle.inode_log.specs.Entries.{entry_in, meant}
use Rattle.inode_log.specs.Steps.{landing, step_at, words_from, within}
use Rattle.inode_log.specs.Found.{is_placed}
use Rattle.inode_log.specs.declared.Name.{Name}
use Rattle.inode_log.specs.declared.Step.{Step}
use Rattle.inode_log.specs.declared.Entry.{Entry}
use Rattle.inode_log.specs.declared.Entry.TheVariants.{Write, SetSize, Add, Remove, None}
use Rattle.inode_log.proofs.Meant.{meant_in}
use Rattle.inode_log.proofs.Turns.{next_words, no_words_lem, spent_words, step_there, step_low, within_turn}
use Rattle.index.specs.Index.{held, taken, Slots, Noted}
use Rattle.directory.specs.Standing.{indexed_by, new_by, stands_by, index_step, index_of, EntryNoted, Indexes}
use Rattle.directory.specs.declared.Misfit.TheVariants.{Bad, Full}
use Rattle.std.specs.Prelude.{Ok, Err}
use mir.Val.{bool_byte}
use Rattle.directory.proofs.Standing.{and-true, and_not, step_taken, grows}

-- One entry, by its kind.

module _ (m : Mem) (L p : ℕ) (l : List ℕ) where
  pub note_other : (e : Entry) → ((i : ℕ) (n : Name) → e ≡ Add i n → ⊥) → ((n : Name) → e ≡ Remove n → ⊥) → Slots L l → EntryNoted m L l p e false l
  unfolding indexed_by new_by
  note_other (Write f d c z) a r s = record { answer = refl; list = refl; long = refl; slots = s }
  note_other (SetSize z) a r s = record { answer = refl; list = refl; long = refl; slots = s }
  note_other (Add i n) a r s = absurd (a i n refl)
  note_other (Remove n) a r s = absurd (r n refl)
  note_other None a r s = record { answer = refl; list = refl; long = refl; slots = s }

  pub stands_other : (e : Entry) → ((i : ℕ) (n : Name) → e ≡ Add i n → ⊥) → false ≡ stands_by m l p e
  unfolding stands_by
  stands_other (Write f d c z) a = refl
  stands_other (SetSize z) a = refl
  stands_other (Add i n) a = absurd (a i n refl)
  stands_other (Remove n) a = refl
  stands_other None a = refl

  module _ (e : Entry) (n : Name) where
    module _ (r : Bool) (k : List ℕ) where
      pub note_add : (i : ℕ) → e ≡ Add i n → Noted m L l n p true r k → EntryNoted m L l p e r k
      unfolding indexed_by new_by
      note_add i h q = record { answer = q.answer ∙ rw (h, ← and-true); list = q.list ∙ rw h; long = q.long; slots = q.slots }

      pub note_remove : e ≡ Remove n → Noted m L l n p false r k → EntryNoted m L l p e r k
      unfolding indexed_by new_by
      note_remove h q = record { answer = q.answer ∙ rw (h, and_not); list = q.list ∙ rw h; long = q.long; slots = q.slots }

    pub stands_add : (i x : ℕ) → e ≡ Add i n → x ≡ held m l n → eqb x p ≡ stands_by m l p e
    unfolding stands_by
    stands_add i x h q = rw (h, q)

-- a Boolean as a number
bool_bit : (r : Bool) → bool_byte r ≡ bit r
unfolding bit
bool_bit true = refl
bool_bit false = refl

-- A log of which n entries are left, from a cursor on.
pub record Going (m : Mem) (L P n from end : ℕ) : Type 0 where
  pub inside : within n m P from end ≡ true
  pub placed : all is_placed (words_from n m from end) ≡ true
  pub bytes : 512 * P ≤ L
  pub few : P ≤ 4096

-- The step s from the cursor; p is the entry's place.
module _ (m : Mem) (L P n from end : ℕ) (k : Going m L P n from end) (l : 0 < n) (d : from ≡ end → ⊥) (s : Step) (e : s ≡ step_at m from) where
  pub next_place : s.next.place ≡ landing m from + 1
  next_place = rw e

  pub entry_is : s.entry ≡ entry_in m (8 * landing m from)
  entry_is = rw e

  parts : (is_placed (8 * landing m from) ≡ true) × (all is_placed (words_from (n - 1) m (landing m from + 1) end) ≡ true)
  parts = all_cons is_placed (8 * landing m from) (words_from (n - 1) m (landing m from + 1) end) (rw (next_words n m from end l d) at k.placed)

  pub going_next : Going m L P (n - 1) s.next.place end
  going_next =
      record { inside = within_turn n m P from end k.inside l d s e; placed = rw next_place parts.1; bytes = k.bytes; few = k.few }

  module _ (N : ℕ) (f z : Bool) (a : all (name_entry_ok N) (map (entry_at m) (words_from n m from end)) ≡ z) (g : f ≡ name_entry_ok N (meant s.entry)) where
    tested : f ≡ name_entry_ok N (entry_at m (8 * landing m from))
    tested = g ∙ rw (entry_is, meant_in m (8 * landing m from))

    pub ok_turn : not f ≡ false → all (name_entry_ok N) (map (entry_at m) (words_from (n - 1) m s.next.place end)) ≡ z
    unfolding all
    ok_turn y = rw next_place (rw (next_words n m from end l d, all, asked_true _ f tested y) at a)

    pub ok_bad : not f ≡ true → false ≡ z
    unfolding all
    ok_bad y = rw (next_words n m from end l d, all, asked_false _ f tested y) at a

  module _ (p : ℕ) (q : p ≡ s.next.place - 1) where
    pub place_is : p ≡ landing m from
    place_is = let a = next_place in omega arith

    -- the place of the entry's first word
    pub word_place : 8 * landing m from / 8 ≡ p
    word_place = let a = place_is in omega arith

    pub place_in : 64 * p + 64 ≤ L
    place_in = let a = place_is in let b = step_there n m P from end k.inside l d L k.bytes in omega arith

    pub place_low : p < 65536
    place_low = let a = place_is in let b = step_low n m P from end k.inside l d k.few in omega arith

    -- the words that are left, and what the index and the places come to
    module _ (i : List ℕ) where
      pub index_turn : (j z : List ℕ) (r : Bool) → index_of m i (words_from n m from end) ≡ z → EntryNoted m L i p s.entry r j
          → index_of m j (words_from (n - 1) m s.next.place end) ≡ z
      unfolding foldl index_step
      index_turn j z r a h =
          let b : j ≡ index_step m i (8 * landing m from) = h.list ∙ rw (entry_is, word_place) in
          rw (next_place, b) (rw (next_words n m from end l d) at a)

      pub room_turn : (b : ℕ) (r : Bool) (j : List ℕ) → b + 1 < length i → EntryNoted m L i p s.entry r j → b + 1 < length j
      room_turn b r j v h = let a = h.long in omega arith

      pub long_turn : (n : ℕ) (r : Bool) (j : List ℕ) → length i ≡ n → EntryNoted m L i p s.entry r j → length j ≡ n
      long_turn n r j e h = h.long ∙ e

      pub count_turn : (N : ℕ) (f : Bool) (c : ℕ) (r : Bool) (x : ℕ) (j : List ℕ) → x ≡ bool_byte r → f ≡ name_entry_ok N (meant s.entry) → not f ≡ false → c ≡ taken i
          → (b : ℕ) → c ≤ b → b + 1 < length i → EntryNoted m L i p s.entry r j → c + x ≡ taken j
      unfolding index_step bit
      count_turn N f c r x j w g y t b o v h =
          let x₁ : name_entry_ok N (entry_at m (8 * landing m from)) ≡ true =
          rw (← (meant_in m (8 * landing m from)), ← entry_is) (asked_true (name_entry_ok N (meant s.entry)) f g y) in
          let u = step_taken m N (8 * landing m from) i parts.0 x₁ (omega arith) in
          let v₁ : taken j ≡ taken (index_step m i (8 * landing m from)) = ap taken (h.list ∙ rw (entry_is, word_place)) in
          let v₂ : r ≡ new_by m i (entry_in m (8 * landing m from)) = h.answer ∙ rw entry_is in
          let v₃ : x ≡ bit (new_by m i (entry_in m (8 * landing m from))) = w ∙ bool_bit r ∙ ap bit v₂ in
          omega arith

-- The answers of `index_names`: ws are all words and l the index at first.

module _ (m : Mem) (L N b : ℕ) (ws l : List ℕ) where
  pub bad_index : (k : List ℕ) → false ≡ all (name_entry_ok N) (map (entry_at m) ws) → Indexes m L N b ws l (Err Bad) k
  bad_index k a =
      record { good = λ h. cc; list = λ h. cc; few = λ h. cc; slots = λ h. cc; bad = λ _. sym a; full = λ h. cc }

  full_index : (c P n from end : ℕ) (k : List ℕ) → b < c → c ≡ taken k → Going m L P n from end
      → index_of m k (words_from n m from end) ≡ index_of m l ws → Indexes m L N b ws l (Err Full) k
  full_index c P n from end k h e p a =
      let g : taken k ≤ taken (index_of m l ws) = rw a at (grows m (words_from n m from end) k p.placed) in
      record { good = λ y. cc; list = λ y. cc; few = λ y. cc; slots = λ y. cc; bad = λ y. cc; full = λ _. omega arith }

  module _ (n from end c : ℕ) (k : List ℕ) (a : all (name_entry_ok N) (map (entry_at m) (words_from n m from end)) ≡ all (name_entry_ok N) (map (entry_at m) ws))
      (f : index_of m k (words_from n m from end) ≡ index_of m l ws) (e : c ≡ taken k) (h : c ≤ b) (s : Slots L k) where
    ended : words_from n m from end ≡ [] → Indexes m L N b ws l (Ok tt) k
    unfolding all foldl
    ended z =
        record { good = λ _. sym (rw z at a); list = λ _. rw z at f; few = λ _. omega arith; slots = λ _. s; bad = λ y. cc; full = λ y. cc }

    pub whole_index : from ≡ end → Indexes m L N b ws l (Ok tt) k
    whole_index z = ended (no_words_lem n m from end z)

    pub spent_index : n ≤ 0 → Indexes m L N b ws l (Ok tt) k
    spent_index z = ended (spent_words n m from end z)

-- a step that makes the index too large
pub full_turn : (m : Mem) (L P n from end : ℕ) (k : Going m L P n from end) (l : 0 < n) (d : from ≡ end → ⊥) (s : Step) (e : s ≡ step_at m from) (p : ℕ)
    (q : p ≡ s.next.place - 1) (i j ws l₀ : List ℕ) (N : ℕ) (f : Bool) (c x b : ℕ) (r : Bool) → x ≡ bool_byte r → f ≡ name_entry_ok N (meant s.entry) → not f ≡ false
    → c ≡ taken i → c ≤ b → b + 1 < length i → EntryNoted m L i p s.entry r j → index_of m i (words_from n m from end) ≡ index_of m l₀ ws
    → b < c + x → Indexes m L N b ws l₀ (Err Full) j
full_turn m L P n from end k l d s e p q i j ws l₀ N f c x b r w g y t o v h a u =
    full_index m L N b ws l₀ (c + x) P (n - 1) s.next.place end j u (count_turn m L P n from end k l d s e p q i N f c r x j w g y t b o v h)
    (going_next m L P n from end k l d s e) (index_turn m L P n from end k l d s e p q i j (index_of m l₀ ws) r a h)
