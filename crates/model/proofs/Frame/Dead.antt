-- Dead words are those that no reading of a view looks at: where only such words differ, every valid inode agrees, so the view is fine and
-- reads the same.
use Rattle.model.proofs.Prelude.{◌≡◌, sym, ◌∙◌, ◌⊎◌, ⊎_elim, ℕ, ◌+◌, ◌*◌, ◌/◌, ◌%◌, ◌≤◌, ◌<◌, true, false, arith, eqb-true}
use Rattle.model.specs.Lists.{has, count}
use Rattle.model.specs.Words.{Mem}
use Rattle.model.specs.Layout.{sizes_ok, valid_word, head_word, tail_word, type_word, is_directory, in_pages, file_pages}
use Rattle.model.specs.Log.{pages}
use Rattle.model.specs.State.{file_of}
use Rattle.model.specs.Accept.{is_valid, uses_by, uses, free, free_count, view_ok}
use Rattle.model.specs.FileMap.{map_of}
use Rattle.model.proofs.Tests.{by_eq, clash, ands}
use Rattle.model.proofs.Lists.{sum_below_same, sum_below_one, sum_below_two, has_count}
use Rattle.model.proofs.Frame.Placed.{sizes_whole, in_bounds, mapped_at, SamePages}
use Rattle.model.proofs.Frame.Inode.{page_in, tail_page, mapped_in, Agree}
use Rattle.model.proofs.Frame.View.{log_ok_lem, once, same_uses, same_view_ok, same_map}

pub data Dead (u : Mem) (P N w : ℕ) : Type 0 where
  -- the header and the journal
  low : w < 64 → Dead u P N w
  in_free : free u P N (w / 64) ≡ true → Dead u P N w
  past_tail : (k : ℕ) → k < N → is_valid u k ≡ true → (u (tail_word k) ≡ 0 → ⊥) → w / 64 ≡ u (tail_word k) / 512
      → u (tail_word k) % 512 / 8 ≤ w % 64 → Dead u P N w
  head : (k : ℕ) → k < N → w ≡ head_word k → (is_valid u k ≡ false) ⊎ (u (tail_word k) ≡ 0) → Dead u P N w
  tail : (k : ℕ) → k < N → w ≡ tail_word k → is_valid u k ≡ false → Dead u P N w
  -- the type of an invalid inode, and of inode 0
  type : (k : ℕ) → k < N → w ≡ type_word k → (is_valid u k ≡ false) ⊎ (k ≡ 0) → Dead u P N w
  -- words 4 to 7 of an inode
  spare : 64 ≤ w → w < 64 + 8 * N → 4 ≤ w % 8 → Dead u P N w

-- a page of the log of inode k serves it, and a data page once more
pub serves : (u : Mem) (P N k p : ℕ) → is_valid u k ≡ true → has p (pages u P N k) ≡ true → 1 ≤ uses_by u P N p k
unfolding uses_by
serves u P N k p v h = let c = has_count p (pages u P N k) h in rw v (omega arith)

pub file_uses : (u : Mem) (P N k i : ℕ) → is_valid u k ≡ true → is_directory u k ≡ false → i < file_pages
    → 1 + count ((file_of u P N k).page i) (pages u P N k) ≤ uses_by u P N ((file_of u P N k).page i) k
unfolding uses_by
file_uses u P N k i v c h = let a = mapped_at (file_of u P N k) i h in rw (v, c) (omega arith)

module _ (u : Mem) (P N : ℕ) (z : N % 8 ≡ 0) (ok : view_ok u P N ≡ true) where
  -- a word of the inode table is live, if it is no spare word and no head or tail that is dead
  pub table_live : (w : ℕ) → 64 ≤ w → w < 64 + 8 * N → w % 8 < 4
      → ((k : ℕ) → w ≡ head_word k → (is_valid u k ≡ false) ⊎ (u (tail_word k) ≡ 0) → ⊥)
      → ((k : ℕ) → w ≡ tail_word k → is_valid u k ≡ false → ⊥)
      → ((k : ℕ) → w ≡ type_word k → (is_valid u k ≡ false) ⊎ (k ≡ 0) → ⊥) → Dead u P N w → ⊥
  unfolding free
  table_live w a b c hd tl ty (low h) = omega arith
  table_live w a b c hd tl ty (in_free h) = let f = in_bounds P N (w / 64) (search ands) in omega arith
  table_live w a b c hd tl ty (past_tail k l v t e g) =
      let o = log_ok_lem u P N ok k l v in
      let f = in_bounds P N (u (tail_word k) / 512) (page_in u P N k o (u (tail_word k) / 512) (tail_page u P N k o t)) in omega arith
  table_live w a b c hd tl ty (head k l e h) = hd k e h
  table_live w a b c hd tl ty (tail k l e h) = tl k e h
  table_live w a b c hd tl ty (type k l e h) = ty k e h
  table_live w a b c hd tl ty (spare e f g) = omega arith

  -- a word of a page that serves inode k is live, if it is not past the tail of that inode's log
  pub page_live : (w k : ℕ) → in_pages P N (w / 64) ≡ true → k < N → 1 ≤ uses_by u P N (w / 64) k
      → ((u (tail_word k) ≡ 0 → ⊥) → w / 64 ≡ u (tail_word k) / 512 → u (tail_word k) % 512 / 8 ≤ w % 64 → ⊥) → Dead u P N w → ⊥
  unfolding free uses
  page_live w k i l s own (low h) = let f = in_bounds P N (w / 64) i in omega arith
  page_live w k i l s own (in_free h) =
      let f = eqb-true (uses u P N (w / 64)) 0 (search ands) in
      let g = sum_below_one N k (uses_by u P N (w / 64)) l in omega arith
  page_live w k i l s own (past_tail j m v t e g) =
      by_eq j k (λ q. own (rw (← q) t) (rw (← q) e) (rw (← q) g))
      (λ q.
      let x = serves u P N j (w / 64) v (rw e (tail_page u P N j (log_ok_lem u P N ok j m v) t)) in
      let a = sum_below_two N j k (uses_by u P N (w / 64)) m l q in
      let b = once u P N ok (w / 64) i in omega arith)
  page_live w k i l s own (head j m e h) = let f = in_bounds P N (w / 64) i in omega arith
  page_live w k i l s own (tail j m e h) = let f = in_bounds P N (w / 64) i in omega arith
  page_live w k i l s own (type j m e h) = let f = in_bounds P N (w / 64) i in omega arith
  page_live w k i l s own (spare e h g) = let f = in_bounds P N (w / 64) i in omega arith

-- u' differs from u in dead words only
module _ (P N : ℕ) (s : sizes_ok P N ≡ true) (u u' : Mem) (ok : view_ok u P N ≡ true) (d : (w : ℕ) → (u' w ≡ u w) ⊎ Dead u P N w) where
  whole : N % 8 ≡ 0
  whole = (sizes_whole P N s).0

  same : (w : ℕ) → (Dead u P N w → ⊥) → u' w ≡ u w
  same w h = ⊎_elim (λ e. e) (λ x. absurd (h x)) (d w)

  pub same_valid : (k : ℕ) → k < N → u' (valid_word k) ≡ u (valid_word k)
  same_valid k l =
      same (valid_word k) (table_live u P N whole ok (valid_word k) (omega arith) (omega arith) (omega arith)
      (λ j e h. omega arith) (λ j e h. omega arith) (λ j e h. omega arith))

  data_pages_lem : (k : ℕ) → k < N → is_valid u k ≡ true → is_directory u k ≡ false → SamePages u u' (file_of u P N k)
  unfolding uses
  data_pages_lem k l v c i o b n =
      let p = (file_of u P N k).page i in
      let q : (64 * p + o) / 64 ≡ p = omega arith in
      let g = log_ok_lem u P N ok k l v in
      let h = mapped_in u P N k g c i n in
      let f = file_uses u P N k i v c h.0 in
      same (64 * p + o) (page_live u P N whole ok (64 * p + o) k (rw q h.1) l (rw q (omega arith))
      (λ t e r.
      let x = has_count p (pages u P N k) (rw (sym q ∙ e) (tail_page u P N k g t)) in
      let y = sum_below_one N k (uses_by u P N p) l in
      let z = once u P N ok p h.1 in omega arith))

  pub agrees : (k : ℕ) → k < N → is_valid u k ≡ true → Agree u u' P N k
  agrees k l v =
      record {
        valid = same_valid k l;
        tail =
            same (tail_word k) (table_live u P N whole ok (tail_word k) (omega arith) (omega arith) (omega arith) (λ j e h. omega arith)
            (λ j e h. let q : j ≡ k = omega arith in clash (is_valid u k) v (rw q at h)) (λ j e h. omega arith));
        head = λ t.
            same (head_word k) (table_live u P N whole ok (head_word k) (omega arith) (omega arith) (omega arith)
            (λ j e h. let q : j ≡ k = omega arith in ⊎_elim (λ i. clash (is_valid u k) v (rw q at i)) (λ i. t (rw q at i)) h)
            (λ j e h. omega arith) (λ j e h. omega arith));
        type = λ t.
            same (type_word k) (table_live u P N whole ok (type_word k) (omega arith) (omega arith) (omega arith) (λ j e h. omega arith)
            (λ j e h. omega arith)
            (λ j e h. let q : j ≡ k = omega arith in ⊎_elim (λ i. clash (is_valid u k) v (rw q at i)) (λ i. t (rw q at i)) h));
        log = λ w h c.
            same w (page_live u P N whole ok w k (page_in u P N k (log_ok_lem u P N ok k l v) (w / 64) h) l (serves u P N k (w / 64) v h)
            (λ t e g. let r = c e in omega arith));
        file = data_pages_lem k l v;
      }

  pub frame : (view_ok u' P N ≡ true) × (map_of u' P N ≡ map_of u P N) × (free_count u' P N ≡ free_count u P N)
  unfolding free_count free
  frame = (
    same_view_ok u P N ok u' same_valid agrees ∙ ok,
    same_map u P N ok u' same_valid agrees,
    sum_below_same P _ _ (λ p l. rw (same_uses u P N ok u' same_valid agrees p)),
  )
