-- Where names lead: valid inodes, folders, and the names that are noted one after the other.
use Rattle.model.proofs.Prelude.{ℕ, suc, ◌+◌, ◌*◌, ◌≤◌, ◌<◌, ◌≡◌, refl, sym, ◌∙◌, ap, Bool, true, false, not, ◌&&◌, List, [], ◌∷◌, map, arith, length, take, drop, drop-cons, length-drop, get_or, eqb, ltb, ne_eqb, lt-ltb, ltb-true, not-false}
use Rattle.model.specs.Lists.{all}
use Rattle.model.specs.Words.{Mem, word}
use Rattle.model.specs.Layout.{valid_word, type_word, is_directory}
use Rattle.model.specs.Journal.{view, journal_ok}
use Rattle.model.specs.State.{inodes}
use Rattle.model.specs.Accept.{is_valid}
use Rattle.model.proofs.Tests.{by_bool, no, and_left}
use Rattle.model.proofs.Lists.{all_cons, all_map, no_length}
use Rattle.model.proofs.Frame.Placed.{leads_in}
use Rattle.words.proofs.Cond.{asked_true, asked_false}
use Rattle.tree.specs.Table.{state_in, may_name, noted, noted_all, may_note}
use Rattle.journal.proofs.Views.{type_raw}
use Rattle.directory.specs.Places.{places_from, standing, Filled}
use Rattle.directory.proofs.Table.{first_places}
use Rattle.names.specs.Inodes.{Readable, below, valid_in, folder_in, inodes_from}

-- Whether an inode is valid, and a folder.

pub valid_is : (u : Mem) (N k w x : ℕ) → k < N → w ≡ valid_word k → x ≡ u w → eqb x 1 ≡ valid_in u N k
unfolding valid_in below
valid_is u N k w x h i e = rw (lt-ltb k N h, e, i)

pub folder_tests : (u : Mem) (N k : ℕ) → folder_in u N k ≡ valid_in u N k && is_directory u k
unfolding folder_in valid_in below
folder_tests u N k =
    by_bool (ltb k N)
    (λ l. by_bool (is_directory u k) (λ d. by_bool (is_valid u k) (λ w. rw (l, d, w)) (λ w. rw (l, d, w)))
    (λ d. by_bool (is_valid u k) (λ w. rw (l, d, w)) (λ w. rw (l, d, w))))
    (λ l. rw l)

module _ (u : Mem) (N k : ℕ) (f : Bool) (e : f ≡ valid_in u N k) (h : f ≡ true) where
  folder_below : k < N
  unfolding valid_in below
  folder_below = ltb-true k N (and_left (ltb k N) (is_valid u k) (sym e ∙ h))

-- the code passes the inode count that the volume v has
module _ (v : List ℕ) (N : ℕ) (q : N ≡ word v 1) where
  pub readable_there : Readable (word v) (length v) N → Readable (word v) (length v) (word v 1)
  readable_there r = rw q at r

  pub below_there : (k : ℕ) (f : Bool) → f ≡ valid_in (view (word v)) N k → f ≡ true → k < word v 1
  below_there k f e h = rw q at (folder_below (view (word v)) N k f e h)

pub directory_is : (m : Mem) (N k w x f : ℕ) → journal_ok m N ≡ true → (k ≡ 0 → ⊥) → w ≡ type_word k → x ≡ m w → f ≡ 1
    → eqb x f ≡ is_directory (view m) k
directory_is m N k w x f j z i e q = rw (ne_eqb k 0 z, type_raw m N k j, q, e, i)

-- The loop over the first c places; p is the i-th of them, which the code read, and k the inode.

-- the inodes that the names at places lead to
abbrev pub inodes_at : Mem → List ℕ → List ℕ
inodes_at m ps = map (λ (p : ℕ). m (8 * p + 1)) ps

pub inodes_start : (m : Mem) (L c : ℕ) (t : List ℕ) → Filled m L c t → inodes_at m (take c t) ≡ inodes_from m t 0 c
unfolding inodes_from
inodes_start m L c t f = rw (first_places m L t c f)

module _ (m : Mem) (ps : List ℕ) (i p k : ℕ) (l : i < length ps) (e : p ≡ get_or ps i 0) (g : k ≡ m (8 * p + 1)) where
  inodes_are : inodes_at m (drop i ps) ≡ k ∷ inodes_at m (drop (i + 1) ps)
  inodes_are =
      let q : i + 1 ≡ suc i = omega arith in
      ap (inodes_at m) (drop-cons ps i 0 l) ∙ rw (g, e, q)

  module _ (N : ℕ) (a : all (below N) (inodes_at m (drop i ps)) ≡ true) where
    leads : (below N k ≡ true) × (all (below N) (inodes_at m (drop (i + 1) ps)) ≡ true)
    leads = all_cons (below N) k (inodes_at m (drop (i + 1) ps)) (rw inodes_are at a)

    pub next_below : k < N
    unfolding below
    next_below = ltb-true k N leads.0

    pub rest_below : all (below N) (inodes_at m (drop (i + 1) ps)) ≡ true
    rest_below = leads.1

  -- x is the table of the tree before the name and y after it; r is what `note` answered
  module _ (x : List ℕ) (d : ℕ) (r : Bool) (s : r ≡ may_name (state_in x k)) where
    pub note_not : (z : Bool) → may_note x d (inodes_at m (drop i ps)) ≡ z → not r ≡ true → false ≡ z
    unfolding may_note
    note_not z a h = rw (inodes_are, may_note, asked_false (may_name (state_in x k)) r s h) at a

    module _ (h : not r ≡ false) (y : List ℕ) (q : r ≡ true → y ≡ noted x k d) where
      pub note_next : (z : Bool) → may_note x d (inodes_at m (drop i ps)) ≡ z → may_note y d (inodes_at m (drop (i + 1) ps)) ≡ z
      unfolding may_note
      note_next z a = rw (q (not-false r h)) (rw (inodes_are, may_note, asked_true (may_name (state_in x k)) r s h) at a)

      pub table_next : (z : List ℕ) → noted_all x d (inodes_at m (drop i ps)) ≡ z → noted_all y d (inodes_at m (drop (i + 1) ps)) ≡ z
      unfolding noted_all
      table_next z a = rw (q (not-false r h)) (rw inodes_are at a)

module _ (m : Mem) (ps : List ℕ) (i : ℕ) (l : length ps ≤ i) (x : List ℕ) (d : ℕ) where
  inodes_end : inodes_at m (drop i ps) ≡ []
  inodes_end = rw (no_length (drop i ps) (length-drop i ps ∙ omega arith))

  pub note_end : (z : Bool) → may_note x d (inodes_at m (drop i ps)) ≡ z → true ≡ z
  unfolding may_note
  note_end z a = rw inodes_end at a

  pub table_end : (z : List ℕ) → noted_all x d (inodes_at m (drop i ps)) ≡ z → true ≡ true → x ≡ z
  unfolding noted_all
  table_end z a _ = rw inodes_end at a

pub none_noted : (x z : List ℕ) → false ≡ true → x ≡ z
none_noted x z e = no e

-- The names of the first n places of t.

module _ (m : Mem) (L n : ℕ) (t : List ℕ) (i : Filled m L n t) where
  pub inodes_of : inodes (standing m (take n t)) ≡ inodes_from m t 0 n
  unfolding inodes_from standing
  inodes_of = rw (first_places m L t n i) (go (places_from t 0 n))
    where
      go : (ps : List ℕ) → inodes (standing m ps) ≡ map (λ (p : ℕ). m (8 * p + 1)) ps
      go [] = refl
      go (p ∷ ps) = ap (λ (ks : List ℕ). m (8 * p + 1) ∷ ks) (go ps)

  -- names that lead to inodes of N lead to inodes that the loop takes
  pub leads_below : (N : ℕ) → all (leads_in N) (standing m (take n t)) ≡ all (below N) (inodes_from m t 0 n)
  unfolding below
  leads_below N = sym (all_map (below N) (λ (p : List ℕ × ℕ). p.1) (standing m (take n t))) ∙ ap (all (below N)) inodes_of
