-- The loop that lists what stands: the places listed so far, then those of the entries that are left, are those of all.
use Rattle.model.proofs.Prelude.{ℕ, suc, ◌+◌, ◌*◌, ◌-◌, ◌≤◌, ◌<◌, ◌≡◌, sym, ◌∙◌, ap, Bool, true, false, List, [], ◌∷◌, ◌++◌, append-nil, append_assoc, arith, length, take, set, length-append, length-take, take-suc-set, le-leb, lt-leb}
use Rattle.model.specs.Lists.{filter}
use Rattle.model.specs.Words.{Mem}
use Rattle.inode_log.specs.Steps.{landing, step_at, words_from}
use Rattle.inode_log.specs.declared.Step.{Step}
use Rattle.inode_log.proofs.Turns.{next_words, no_words_lem, spent_words}
use Rattle.directory.specs.Standing.{stands_by, stands_at, places_of, Listed}
use Rattle.std.specs.Prelude.{Some, None}
use Rattle.directory.proofs.Indexing.{Going, next_place, word_place, entry_is}

-- c places are listed in t, and ps are the places of all entries.

module _ (m : Mem) (l t ps : List ℕ) (c : ℕ) (h : length t ≡ 224) (b : c ≤ 224) (n from end : ℕ) (a : take c t ++ places_of m l (words_from n m from end) ≡ ps) where
  ended : words_from n m from end ≡ [] → Listed ps ((Some c)) t
  unfolding filter
  ended z =
      let e : take c t ≡ ps = sym (append-nil (take c t)) ∙ (rw z at a) in
      let k : length ps ≡ c = ap length (sym e) ∙ length-take c t ∙ omega arith in
      record { good = sym (le-leb (length ps) 224 (omega arith)); count = λ x q. let i : c ≡ x = cc in omega arith; long = h; places = λ _. rw k e }

  pub list_done : from ≡ end → Listed ps ((Some c)) t
  list_done z = ended (no_words_lem n m from end z)

  pub list_spent : n ≤ 0 → Listed ps ((Some c)) t
  list_spent z = ended (spent_words n m from end z)

  -- a step from the cursor; p is the entry's place and r what `stands` answered
  module _ (L P : ℕ) (k : Going m L P n from end) (g : 0 < n) (d : from ≡ end → ⊥) (s : Step) (e : s ≡ step_at m from) (p : ℕ) (q : p ≡ s.next.place - 1)
      (r : Bool) (i : r ≡ stands_by m l p s.entry) where
    tested : stands_at m l (8 * landing m from) ≡ r
    unfolding stands_at
    tested = rw (word_place m L P n from end k g d s e p q, ← (entry_is m L P n from end k g d s e)) (sym i)

    first : r ≡ true → take c t ++ (p ∷ places_of m l (words_from (n - 1) m s.next.place end)) ≡ ps
    unfolding filter
    first y = rw (next_place m L P n from end k g d s e, ← (word_place m L P n from end k g d s e p q)) (rw (next_words n m from end g d, filter, tested, y) at a)

    -- u and x are the table and the count after it
    module _ (u : List ℕ) (x : ℕ) where
      pub list_skip : r ≡ false → u ≡ t → x ≡ c → take x u ++ places_of m l (words_from (n - 1) m s.next.place end) ≡ ps
      unfolding filter
      list_skip y v z =
          rw (v, z, next_place m L P n from end k g d s e) (rw (next_words n m from end g d, filter, tested, y) at a)

      pub list_put : r ≡ true → (c ≡ 224 → ⊥) → u ≡ set t c p → x ≡ c + 1 → take x u ++ places_of m l (words_from (n - 1) m s.next.place end) ≡ ps
      list_put y o v z =
          let w : x ≡ suc c = omega arith in
          rw (v, w, take-suc-set t c p (omega arith), append_assoc) (first y)

    pub list_many : r ≡ true → c ≡ 224 → Listed ps None t
    list_many y o =
        let z : 224 < length ps =
        rw (← (first y), length-append, length-take c t) (omega arith) in
        record { good = sym (lt-leb (length ps) 224 z); count = λ x q. cc; long = h; places = λ q. cc }
