-- Bytes and numbers put one after the other: what is left to put has room, and comes to what there was to put.
use borrow.Rule.Slice.PartMut.{put_mid}
use Rattle.std.proofs.lemmas.Slice.{put_mid-paste}
use Rattle.model.proofs.Prelude.{ℕ, ◌+◌, ◌-◌, ◌/◌, ◌%◌, ◌^◌, ◌≤◌, ◌<◌, ◌≡◌, ◌∙◌, refl, sym, List, [], ◌∷◌, arith, length, length-append, take_all, sets-eq}
use Rattle.model.specs.Listing.{decimal}
use Rattle.stores.specs.Emitted.{Emitted}
use Rattle.stores.proofs.Emitting.{emitted_both}
use Rattle.listing.proofs.Decimals.{decimal_one, decimal_more}

-- the bytes xs, copied into the text l from index `at` on; ys is what stands there then
pub bytes_put : (l xs ys : List ℕ) (at : ℕ) → at + length xs ≤ length l → ys ≡ xs
    → Emitted l at xs (at + length xs) (put_mid at (at + length xs - at) l ys)
bytes_put l xs ys at h e =
    let k : length xs ≡ at + length xs - at = omega arith in
    record {
      end = refl;
      list = put_mid-paste at (at + length xs - at) l ys xs (length xs) e k refl
          ∙ rw (take_all (length xs) xs (omega arith)) (sym (sets-eq xs l at h));
    }

-- A number x, put into the text l from index `at` on; d is its last digit.
module _ (l : List ℕ) (at x d : ℕ) (e : d ≡ 48 + x % 10) (r : ℕ) (m : List ℕ) where
  pub number_one : x < 10 → Emitted l at (d ∷ []) r m → Emitted l at (decimal x) r m
  number_one h q = rw (decimal_one x h, ← e) q

  pub number_more : (a : ℕ) (n : List ℕ) → 10 ≤ x → x < 2 ^ 64 → Emitted l at (decimal (x / 10)) a n → Emitted n a (d ∷ []) r m
      → Emitted l at (decimal x) r m
  number_more a n h s p q = rw (decimal_more x h s, ← e) (emitted_both p q)

module _ (at x : ℕ) (r : at + length (decimal x) ≤ 11264) where
  pub room_one : x < 10 → at + 1 ≤ 11264
  room_one h = let d = rw (decimal_one x h) at r in omega arith

  module _ (h : 10 ≤ x) (s : x < 2 ^ 64) where
    longer : at + length (decimal (x / 10)) + 1 ≤ 11264
    longer = let d = rw (decimal_more x h s, length-append) at r in omega arith

    pub room_before : at + length (decimal (x / 10)) ≤ 11264
    room_before = let d = longer in omega arith

    pub room_last : (l n : List ℕ) (a : ℕ) → Emitted l at (decimal (x / 10)) a n → a + 1 ≤ 11264
    room_last l n a p = let d = longer in let e = p.end in omega arith
