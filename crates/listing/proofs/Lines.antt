-- A line is put part by part: its parts have room where the line has it, and come to the line.
use Rattle.model.proofs.Prelude.{ℕ, ◌+◌, ◌*◌, ◌≤◌, ◌≡◌, true, List, [], ◌∷◌, ◌++◌, arith, length, take, drop, length-append, take-append-le}
use Rattle.model.specs.Words.{Mem}
use Rattle.model.specs.Entry.{padded, field_ok}
use Rattle.model.specs.Listing.{files_word, free_word, refused_word, decimal, first_line, name_line, refusal_line}
use Rattle.model.proofs.Tests.{ands}
use Rattle.model.proofs.Log.Decode.{name_short, take_padded, length_padded}
use Rattle.directory.specs.Fields.{name_at}
use Rattle.directory.specs.Places.{place_ok}
use Rattle.stores.specs.Emitted.{Emitted}
use Rattle.stores.proofs.Emitting.{emitted_both}

module _ (l : List ℕ) (at r : ℕ) (m : List ℕ) where
  -- a space and a number
  pub field_put : (n : List ℕ) (a x : ℕ) → Emitted l at (32 ∷ []) a n → Emitted n a (decimal x) r m → Emitted l at (32 ∷ decimal x) r m
  field_put n a x p q = emitted_both p q

  pub first_put : (l₁ l₂ l₃ l₄ : List ℕ) (a b c d x y : ℕ) → Emitted l at files_word a l₁ → Emitted l₁ a (32 ∷ decimal x) b l₂
      → Emitted l₂ b (32 ∷ free_word) c l₃ → Emitted l₃ c (32 ∷ decimal y) d l₄ → Emitted l₄ d (10 ∷ []) r m → Emitted l at (first_line x y) r m
  unfolding first_line
  first_put l₁ l₂ l₃ l₄ a b c d x y p₁ p₂ p₃ p₄ p₅ = emitted_both (emitted_both (emitted_both (emitted_both p₁ p₂) p₃) p₄) p₅

  pub refusal_put : (l₁ l₂ : List ℕ) (a b x : ℕ) → Emitted l at refused_word a l₁ → Emitted l₁ a (32 ∷ decimal x) b l₂
      → Emitted l₂ b (10 ∷ []) r m → Emitted l at (refusal_line x) r m
  unfolding refusal_line
  refusal_put l₁ l₂ a b x p₁ p₂ p₃ = emitted_both (emitted_both p₁ p₂) p₃

  pub line_put : (l₁ l₂ l₃ l₄ n : List ℕ) (a b c d x y : ℕ) → Emitted l at (decimal x) a l₁ → Emitted l₁ a (32 ∷ decimal y) b l₂
      → Emitted l₂ b (32 ∷ []) c l₃ → Emitted l₃ c n d l₄ → Emitted l₄ d (10 ∷ []) r m → Emitted l at (name_line x y n) r m
  unfolding name_line
  line_put l₁ l₂ l₃ l₄ n a b c d x y p₁ p₂ p₃ p₄ p₅ = emitted_both (emitted_both (emitted_both p₁ p₂) (emitted_both p₃ p₄)) p₅

-- the room of a line
pub line_room : (at x y : ℕ) (n : List ℕ) → at + length (name_line x y n) ≤ 11264
    → at + 3 + length (decimal x) + length (decimal y) + length n ≤ 11264
unfolding name_line
line_room at x y n h = let l = simp length-append at h in omega arith

-- The name of the entry at place p: i and c are what `lay_name` answered and left in the buffer b.
module _ (m : Mem) (L p : ℕ) (ok : place_ok m L p ≡ true) (i : ℕ) (b c : List ℕ) (e : i ≡ length (name_at m (8 * p))) (q : c ≡ padded (name_at m (8 * p)) ++ drop 32 b) where
  fits : length (name_at m (8 * p)) ≤ 32
  unfolding name_at field_ok
  fits = name_short (name_at m (8 * p)) (search ands)

  in_field : i ≤ length (padded (name_at m (8 * p)))
  in_field = rw (length_padded (name_at m (8 * p)) fits, e) fits

  pub name_in_lem : i ≤ length c
  name_in_lem = let s = in_field in rw (q, length-append) (omega arith)

  name_part : take i c ≡ name_at m (8 * p)
  name_part = rw (q, take-append-le i (padded (name_at m (8 * p))) (drop 32 b) in_field, e, take_padded)

  pub name_length : i ≡ length (take i c)
  name_length = rw (name_part, ← e)

  pub name_room : (at : ℕ) → at + length (name_at m (8 * p)) ≤ 11264 → at + length (take i c) ≤ 11264
  name_room at h = rw name_part h

  pub name_put : (l n : List ℕ) (at r : ℕ) → Emitted l at (take i c) r n → Emitted l at (name_at m (8 * p)) r n
  name_put l n at r h = rw name_part at h
