-- The library's eight bytes of a number are the definitions' word: read, they are summed by their worth; stored, put in one by one.
use Rattle.model.proofs.Prelude.{ℕ, zero, suc, ◌+◌, ◌*◌, ◌/◌, ◌%◌, ◌^◌, ◌≤◌, ◌<◌, ◌≡◌, refl, sym, ap, ◌∙◌, List, ◌++◌, append_assoc, arith, add-one, div-one, div-div-eq-div-mul, pow-suc, length, get_or, set, take, drop, get_or-take, get_or-drop, sets, sets-eq}
use Rattle.std.proofs.lemmas.List.{drop-drop}
use Rattle.std.specs.Int.{w64, byte_at, bytes_low_first, to_le_bytes, from_le_bytes}
use borrow.Rule.Slice.PartMut.{put_mid}
use Rattle.model.specs.Words.{word, put_le, put_word}

-- bs are the k bytes of v from byte b on, and r is the number that the first eight of them make
module _ (v bs : List ℕ) (b k : ℕ) (e : bs ≡ take k (drop b v)) where
  byte : (i j : ℕ) → i < k → j ≡ b + i → get_or bs i 0 ≡ get_or v j 0
  byte i j h q = rw (e, q) (get_or-take k (drop b v) i 0 h ∙ get_or-drop b v i 0)

  pub bytes_read : (w r : ℕ) → b ≡ 8 * w → 8 ≤ k → r ≡ from_le_bytes w64 bs → r ≡ word v w
  unfolding word
  bytes_read w r s h f =
      let b₀ = byte 0 b (omega arith) (omega arith) in
      let b₁ = byte 1 (b + 1) (omega arith) (omega arith) in
      let b₂ = byte 2 (b + 1 + 1) (omega arith) (omega arith) in
      let b₃ = byte 3 (b + 1 + 1 + 1) (omega arith) (omega arith) in
      let b₄ = byte 4 (b + 1 + 1 + 1 + 1) (omega arith) (omega arith) in
      let b₅ = byte 5 (b + 1 + 1 + 1 + 1 + 1) (omega arith) (omega arith) in
      let b₆ = byte 6 (b + 1 + 1 + 1 + 1 + 1 + 1) (omega arith) (omega arith) in
      let b₇ = byte 7 (b + 1 + 1 + 1 + 1 + 1 + 1 + 1) (omega arith) (omega arith) in
      rw (← s) (omega arith)

-- the library names byte i of a number by its place, the definition by dividing i times
byte_is : (i x : ℕ) → byte_at i x ≡ x / 256 ^ i % 256
byte_is zero x = rw div-one
byte_is (suc i) x = refl

-- storing n bytes of x from byte i on, one by one, puts their list in
put_bytes : (n i b x : ℕ) (v : List ℕ) → put_le v b n (x / 256 ^ i) ≡ sets v b (bytes_low_first i n x)
put_bytes zero i b x v = refl
put_bytes (suc n) i b x v =
    let e : x / 256 ^ i / 256 ≡ x / 256 ^ suc i = rw (div-div-eq-div-mul, pow-suc) in
    rw (byte_is, add-one, e) (put_bytes n (suc i) (suc b) x (set v b (x / 256 ^ i % 256)))

-- the part of k bytes of v from byte b on becomes bs
pub bytes_put : (v bs : List ℕ) (b k w x : ℕ) → b ≡ 8 * w → k ≡ 8 → 8 * w + 8 ≤ length v → bs ≡ to_le_bytes w64 x
    → put_mid b k v bs ≡ put_word v w x
unfolding put_word
bytes_put v bs b k w x s h g e =
    let p : put_le v (8 * w) 8 (x / 256 ^ 0) ≡ sets v (8 * w) (to_le_bytes w64 x) = put_bytes 8 0 (8 * w) x v in
    let q : sets v (8 * w) (to_le_bytes w64 x) ≡ take (8 * w) v ++ to_le_bytes w64 x ++ drop (8 * w + 8) v
    = sets-eq (to_le_bytes w64 x) v (8 * w) g in
    let r : put_mid b k v bs ≡ take (8 * w) v ++ bs ++ drop (8 * w + 8) v = rw (s, h, drop-drop, append_assoc) in
    r ∙ ap (λ ys. take (8 * w) v ++ ys ++ drop (8 * w + 8) v) e ∙ sym q ∙ sym p ∙ ap (λ y. put_le v (8 * w) 8 y) (div-one x)
