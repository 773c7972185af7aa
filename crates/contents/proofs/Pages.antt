-- The bytes of a file, page by page: within one file page they are bytes of its data page, one after the other.
use Rattle.model.proofs.Prelude.{ℕ, ◌+◌, ◌-◌, ◌*◌, ◌/◌, ◌%◌, min, ◌≤◌, ◌<◌, ◌≡◌, sym, ◌∙◌, ap, ⊎_elim, List, ◌++◌, arith, length, replicate, length-replicate, get_or-replicate, ext_get_or, get_or, get_or-take, get_or-drop, take, drop, length-take-le, length-drop, eq-eqb, ne_eqb}
use Rattle.model.specs.Lists.{values_from}
use Rattle.model.specs.Words.{Mem, word, byte_at}
use Rattle.model.specs.State.{File, file_byte}
use Rattle.model.proofs.Lists.{length_values, values_at}
use Rattle.model.proofs.Words.{byte_word}
use Rattle.model.proofs.Frame.Placed.{Placed, in_bounds}
use Rattle.files.specs.State.{file_from}
use Rattle.contents.specs.Laid.{laid, page_byte, table_byte, Within}
use Rattle.contents.proofs.Laying.{laid_same, laid_both, laid_first, laid_part}

-- For callers: the table of a file f whose data pages lie where they may, in a volume of P pages and n bytes.
pub placed_within : (P N s n : ℕ) (t : List ℕ) (f : File) → Placed P N f → file_from s t ≡ f → 0 < P → n ≡ 512 * P → Within n t
placed_within P N s n t f p e h k = record { page = within }
  where
    within : (i : ℕ) → i < 128 → 512 * get_or t i 0 + 512 ≤ n
    within i l =
        let g : get_or t i 0 ≡ f.page i = ap (λ (a : File). a.page i) e in
        ⊎_elim (λ z. omega arith) (λ q. let b = in_bounds P N (f.page i) q.1 in omega arith) (p i)

-- A part of a buffer with n bytes of data page d, from its byte o on: p is what the code laid.
module _ (v p : List ℕ) (d o n : ℕ) where
  pub no_page : p ≡ replicate n 0 → d ≡ 0 → p ≡ values_from (page_byte (word v) d) o n
  unfolding page_byte
  no_page a e =
      a ∙ ext_get_or 0 _ _ (length-replicate {A = ℕ} n 0 ∙ sym (length_values (page_byte (word v) d) o n))
      (λ i l.
      let b : i < n = rw (length-replicate {A = ℕ}) at l in
      get_or-replicate {A = ℕ} n i 0 0 b ∙ sym (values_at (page_byte (word v) d) o n i b ∙ rw (page_byte, eq-eqb d 0 e)))

  pub one_page : (k : ℕ) → ((i : ℕ) → get_or v i 0 < 256) → p ≡ take k (drop (512 * d + o) v) → k ≡ n → 512 * d + o + n ≤ length v
      → (d ≡ 0 → ⊥) → p ≡ values_from (page_byte (word v) d) o n
  unfolding page_byte
  one_page k small a g room e =
      let w : length (take k (drop (512 * d + o) v)) ≡ n = length-take-le k (drop (512 * d + o) v) (rw length-drop (omega arith)) ∙ g in
      a ∙ ext_get_or 0 _ _ (w ∙ sym (length_values (page_byte (word v) d) o n))
      (λ i l.
      let b : i < n = rw w at l in
      let c : byte_at (word v) (512 * d + (o + i)) ≡ get_or v (512 * d + o + i) 0 =
      byte_word v (512 * d + (o + i)) small ∙ ap (λ (j : ℕ). get_or v j 0) (omega arith) in
      get_or-take k (drop (512 * d + o) v) i 0 (omega arith) ∙ get_or-drop (512 * d + o) v i 0 ∙ sym c
      ∙ sym (values_at (page_byte (word v) d) o n i b ∙ rw (page_byte, ne_eqb d 0 e)))

-- The loop over file pages: of the bytes from x on `left` are left to lay, d is the data page of x, and n bytes of it are laid in the turn.

module _ (t : List ℕ) (x d left : ℕ) (e : d ≡ get_or t (x / 512) 0) where
  module _ (m : Mem) (l : List ℕ) (i n : ℕ) (h : n ≡ min (512 - x % 512) left) where
    on_page_lem : laid l i (page_byte m d) (x % 512) n ≡ laid l i (table_byte m t) x n
    unfolding table_byte
    on_page_lem = laid_same (page_byte m d) (table_byte m t) n l i (x % 512) x same
      where
        same : (k : ℕ) → k < n → page_byte m d (x % 512 + k) ≡ table_byte m t (x + k)
        same k p =
            let q : (x + k) / 512 ≡ x / 512 = omega arith in
            let r : (x + k) % 512 ≡ x % 512 + k = omega arith in rw (table_byte, q, r, e)

    -- p is what was laid of the page over k bytes of the buffer
    pub pages_next : (k y r : ℕ) (p z : List ℕ) → laid l i (table_byte m t) x left ≡ z → k ≡ n → i + n ≤ length l
        → p ≡ values_from (page_byte m d) (x % 512) (length (take k (drop i l))) → y ≡ x + n → r ≡ left - n
        → laid (take i l ++ (p ++ drop k (drop i l))) (i + n) (table_byte m t) y r ≡ z
    pages_next k y r p z a ek room ep ey er =
        let s : n + (left - n) ≡ left = omega arith in
        let w : length (take k (drop i l)) ≡ n = length-take-le k (drop i l) (rw length-drop (omega arith)) ∙ ek in
        let b : take i l ++ (p ++ drop k (drop i l)) ≡ laid l i (page_byte m d) (x % 512) n =
        rw (ep, w, ek) (sym (laid_part (page_byte m d) n l i (x % 512) room)) in
        rw (b ∙ on_page_lem, ey, er, laid_both, s) a

-- The whole: n bytes of a file of size s, from byte x on.
pub file_laid : (m : Mem) (s : ℕ) (t l l' : List ℕ) (x n : ℕ) → l' ≡ laid l 0 (table_byte m t) x n → n ≡ min (s - x) (length l)
    → l' ≡ values_from (file_byte m (file_from s t)) x n ++ drop n l
unfolding file_byte table_byte page_byte
file_laid m s t l l' x n a e = a ∙ laid_first (file_byte m (file_from s t)) n l x (omega arith)
