-- Bytes and words. "A word is 8 bytes, little-endian, aligned; word w is bytes 8w to 8w+7."
-- Bytes are a list of numbers below 256. What stands past a list's end reads as 0.
use Rattle.std.specs.Prelude.{ℕ, zero, suc, ◌+◌, ◌*◌, ◌/◌, ◌%◌, ◌^◌, List, get_or, set}

-- the number that n bytes make, little-endian: f b, f (b + 1), ..
abbrev pub le_from : (ℕ → ℕ) → ℕ → ℕ → ℕ
le_from f b zero = 0
le_from f b (suc n) = f b + 256 * le_from f (b + 1) n

-- word w of a list of bytes
unfoldable pub word : List ℕ → ℕ → ℕ
word v w = le_from (λ i. get_or v i 0) (8 * w) 8

-- the bytes v with x stored, little-endian, in the n bytes from b on
abbrev pub put_le : List ℕ → ℕ → ℕ → ℕ → List ℕ
put_le v b zero x = v
put_le v b (suc n) x = put_le (set v b (x % 256)) (b + 1) n (x / 256)

-- the bytes v with x stored in word w
unfoldable pub put_word : List ℕ → ℕ → ℕ → List ℕ
put_word v w x = put_le v (8 * w) 8 x

-- A memory: word index to word. `word v` is the memory that the bytes v make.
abbrev pub Mem : Type 0
Mem = ℕ → ℕ

-- byte i of a memory
unfoldable pub byte_at : Mem → ℕ → ℕ
byte_at m i = m (i / 8) / 256 ^ (i % 8) % 256
