-- Laws of a cut: each byte, and each word, of what it leaves is the old one or the new one. By induction over the bytes.
use Rattle.model.proofs.Prelude.{ℕ, zero, suc, ◌+◌, ◌*◌, ◌/◌, ◌≡◌, refl, ap, Bool, cond, List, [], ◌∷◌, arith, add-zero, length, get_or}
use Rattle.model.specs.Words.{word}
use Rattle.model.specs.Power.{mixed}
use Rattle.model.proofs.Tests.{by_bool}
use Rattle.model.proofs.Words.{le_from_same}

module _ (size : ℕ) (kept : ℕ → Bool) where
  pub length_mixed : (b : ℕ) (old new : List ℕ) → length (mixed size kept b old new) ≡ length old
  unfolding mixed
  length_mixed b [] new = refl
  length_mixed b (x ∷ old) [] = refl
  length_mixed b (x ∷ old) (y ∷ new) = ap suc (length_mixed (b + 1) old new)

  pub mixed_at : (b : ℕ) (old new : List ℕ) (i : ℕ) → length old ≡ length new
      → get_or (mixed size kept b old new) i 0 ≡ cond (kept ((b + i) / size)) (get_or new i 0) (get_or old i 0)
  unfolding mixed
  mixed_at b [] [] i h = by_bool (kept ((b + i) / size)) (λ e. rw e) (λ e. rw e)
  mixed_at b [] (y ∷ new) i h = absurd (omega arith)
  mixed_at b (x ∷ old) [] i h = absurd (omega arith)
  mixed_at b (x ∷ old) (y ∷ new) zero h = rw add-zero
  mixed_at b (x ∷ old) (y ∷ new) (suc i) h =
      let e : b + suc i ≡ b + 1 + i = omega arith in rw e (mixed_at (b + 1) old new i (omega arith))

-- where pieces are words, each word is the old one or the new one
pub word_mixed : (kept : ℕ → Bool) (old new : List ℕ) (w : ℕ) → length old ≡ length new
    → word (mixed 8 kept 0 old new) w ≡ cond (kept w) (word new w) (word old w)
unfolding word
word_mixed kept old new w h =
    by_bool (kept w) (λ e. rw e (all_of new (λ k q. rw (mixed_at 8 kept 0 old new k h, q, e))))
    (λ e. rw e (all_of old (λ k q. rw (mixed_at 8 kept 0 old new k h, q, e))))
  where
    all_of : (v : List ℕ) → ((k : ℕ) → (0 + k) / 8 ≡ w → get_or (mixed 8 kept 0 old new) k 0 ≡ get_or v k 0)
        → word (mixed 8 kept 0 old new) w ≡ word v w
    all_of v s = le_from_same 8 (λ k. get_or (mixed 8 kept 0 old new) k 0) (λ k. get_or v k 0) (8 * w) (λ k g f. s k (omega arith))
