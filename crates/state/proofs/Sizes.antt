-- A file of an accepted volume has a log that is good, so that its state is what the log means.
use Rattle.model.proofs.Prelude.{ℕ, ◌≤◌, ◌<◌, ◌≡◌, Bool, true, false, not, ◌||◌, le-leb, lt-leb, lt-ltb, le-ltb, ne_eqb, not-false, leb-false, leb, eqb}
use Rattle.model.specs.Words.{Mem}
use Rattle.model.specs.Log.{entries}
use Rattle.model.specs.State.{file_of}
use Rattle.model.specs.Layout.{is_directory}
use Rattle.model.specs.Accept.{is_valid, log_ok}
use Rattle.model.proofs.Tests.{by_bool, by_lt, or_false, ands}
use Rattle.model.proofs.State.Bytes.{small_file}
use Rattle.names.specs.Inodes.{below, valid_in}

-- the cases of `no_file`; r is what `is_valid` answered
module _ (u : Mem) (N k : ℕ) where
  pub file_none : (r : Bool) → (k ≡ 0 → ⊥) → r ≡ valid_in u N k → not r ≡ (leb N k || not (is_valid u k)) || eqb k 0
  unfolding valid_in below
  file_none r e g =
      by_lt k N
      (λ h. rw (lt-leb N k h, ne_eqb k 0 e, g, lt-ltb k N h) (by_bool (is_valid u k) (λ i. rw i) (λ i. rw i)))
      (λ h. rw (le-leb N k h, g, le-ltb k N h))

-- an inode of which `no_file` answers no
module _ (u : Mem) (N k : ℕ) (d : (leb N k || not (is_valid u k)) || eqb k 0 ≡ false) where
  pub there_below : k < N
  there_below = leb-false N k (or_false (leb N k) (not (is_valid u k)) (or_false (leb N k || not (is_valid u k)) (eqb k 0) d).0).0

  pub there_valid : is_valid u k ≡ true
  there_valid = not-false (is_valid u k) (or_false (leb N k) (not (is_valid u k)) (or_false (leb N k || not (is_valid u k)) (eqb k 0) d).0).1

-- the size of a file whose log is good
pub good_small : (u : Mem) (P N k : ℕ) → is_directory u k ≡ false → log_ok u P N k ≡ true → (file_of u P N k).size ≤ 65536
unfolding log_ok file_of
good_small u P N k c h = let g = rw c at h in small_file P N (entries u P N k) (search ands)
