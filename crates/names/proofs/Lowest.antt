-- The lowest invalid inode: the search from inode k on is the test of k, and the search from the next on.
use Rattle.model.proofs.Prelude.{ℕ, suc, ◌+◌, ◌-◌, ◌≤◌, ◌<◌, ◌≡◌, refl, sym, ◌∙◌, ap, Bool, true, false, not, Option, none, some, arith, lt-ltb, not-true, not-false}
use Rattle.std.specs.Prelude as code
use Rattle.std.specs.Prelude.{Some, None}
use Rattle.model.specs.Lists.{lowest, is_some}
use Rattle.model.specs.Words.{Mem}
use Rattle.model.specs.Accept.{is_valid}
use Rattle.model.specs.Calls.{invalid_inode}
use Rattle.model.proofs.Lists.{lowest_is}
use Rattle.names.specs.Inodes.{below, valid_in}
use Rattle.layout.specs.Options.{to_model}

-- the lowest invalid inode from k on, of N inodes
abbrev pub invalid_from : Mem → ℕ → ℕ → Option ℕ
invalid_from u N k = lowest (λ j. not (is_valid u j)) (N - k) k

-- The loop of `free_inode`: r is whether inode k is valid, z what the whole search finds.
module _ (u : Mem) (N k : ℕ) (r : Bool) (z : Option ℕ) (l : k < N) (e : r ≡ valid_in u N k) (a : invalid_from u N k ≡ z) where
  more : N - k ≡ suc (N - (k + 1))
  more = omega arith

  valid_is : is_valid u k ≡ r
  unfolding valid_in below
  valid_is = sym (e ∙ rw (lt-ltb k N l))

  pub invalid_here : not r ≡ true → some k ≡ z
  unfolding lowest
  invalid_here h = rw (more, lowest, valid_is, not-true r h) at a

  pub invalid_next : not r ≡ false → invalid_from u N (k + 1) ≡ z
  unfolding lowest
  invalid_next h = rw (more, lowest, valid_is, not-false r h) at a

pub invalid_none : (u : Mem) (N k : ℕ) (z : Option ℕ) → N ≤ k → invalid_from u N k ≡ z → none ≡ z
unfolding lowest
invalid_none u N k z l a = let o : N - k ≡ 0 = omega arith in rw o at a

-- For callers: r is what `free_inode` answered.
module _ (u : Mem) (P N : ℕ) (r : code.Option ℕ) (e : to_model r ≡ invalid_from u N 1) where
  pub inode_is : to_model r ≡ invalid_inode u P N
  unfolding invalid_inode
  inode_is = e

  pub inode_some : is_some (invalid_inode u P N) ≡ code.is_some r
  unfolding invalid_inode
  inode_some = rw (← e) (same r)
    where
      same : (o : code.Option ℕ) → is_some (to_model o) ≡ code.is_some o
      same None = refl
      same (Some k) = refl

  pub inode_below : (k : ℕ) → r ≡ Some k → (0 < k) × (k < N)
  inode_below k h =
      let q : invalid_from u N 1 ≡ some k = sym e ∙ ap to_model h in
      let b = lowest_is (λ j. not (is_valid u j)) (N - 1) 1 k q in (omega (arith, b.from), omega (arith, b.below, b.from))
