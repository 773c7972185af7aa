-- An accepted volume whose journal is closed: its sizes, its free pages, and the tails of its logs.
use Rattle.model.proofs.Prelude.{ℕ, ◌+◌, ◌*◌, ◌/◌, ◌%◌, ◌≤◌, ◌<◌, ◌≡◌, refl, Bool, true, false, cond, ◌&&◌, List, [], ◌∷◌, arith, leb, eqb, length, eqb-true, leb-true}
use Rattle.model.specs.Lists.{all}
use Rattle.model.specs.Words.{Mem, word}
use Rattle.model.specs.Layout.{tail_word}
use Rattle.model.specs.Journal.{enqueue_word, journal_ok, view}
use Rattle.model.specs.Log.{tail_ok}
use Rattle.model.specs.Accept.{is_valid, log_ok, free, view_ok, accepted}
use Rattle.model.proofs.Tests.{by_eq, and_left, and_right}
use Rattle.model.proofs.Lists.{all_has}
use Rattle.model.proofs.Frame.Placed.{in_bounds}
use Rattle.model.proofs.Frame.Inode.{full, page_in, tail_page}
use Rattle.model.proofs.Frame.View.{log_ok_lem}
use Rattle.model.proofs.Crash.Journal.{closed_view, journal_parts}
use Rattle.model.proofs.Crash.Landing.{volume_parts, sizes_parts}
use Rattle.model.proofs.Calls.Room.{free_bounds}
use Rattle.model.proofs.Calls.Stored.{not_logged}
use Rattle.layout.specs.declared.Sizes.{Sizes}
use Rattle.inodes.specs.Judged.{Closed}
use Rattle.space.proofs.Free.{unmarked_pages}
use Rattle.laying.specs.Laying.{may_take}
use Rattle.append.specs.Appended.{old_tail}

tail_multiple : (t : ℕ) → tail_ok t ≡ true → (t % 512 ≤ 448) × (t % 64 ≡ 0)
unfolding tail_ok all
tail_multiple t h =
    let a = all_has (λ x. eqb (x % 64) 0 && leb x 448) (t % 512) (64 ∷ 128 ∷ 192 ∷ 256 ∷ 320 ∷ 384 ∷ 448 ∷ []) refl h in
    let b = eqb-true (t % 512 % 64) 0 (and_left _ _ a) in
    (leb-true (t % 512) 448 (and_right (eqb (t % 512 % 64) 0) _ a), omega arith)

module _ (v b : List ℕ) (c : Closed v b) where
  abbrev u : Mem
  u = word v

  abbrev P : ℕ
  P = word v 0

  abbrev N : ℕ
  N = word v 1

  pub closed_bytes : length v ≡ 512 * P
  closed_bytes = (volume_parts (length v) u c.volume).bytes

  pub closed_sizes : (P ≤ 4096) × (N ≤ 256) × (64 + 8 * N ≤ 64 * P) × (8 ≤ N)
  closed_sizes =
      let s = sizes_parts P N (volume_parts (length v) u c.volume).sizes in
      (s.most_pages, s.most_inodes, omega (arith, s.whole, s.room), s.some_inodes)

  pub closed_fine : view_ok u P N ≡ true
  unfolding accepted
  closed_fine = rw (closed_view u c.closed) at (and_right (journal_ok u N) (view_ok (view u) P N) c.good)

  pub closed_enqueue : u enqueue_word < 16
  unfolding accepted
  closed_enqueue = (journal_parts u N (and_left (journal_ok u N) (view_ok (view u) P N) c.good)).enqueue

  pub closed_free : (s : Sizes) → s.pages ≡ P → s.inodes ≡ N → may_take b s ≡ free u P N
  closed_free s p q = rw (p, q) (unmarked_pages u P N b closed_sizes.0 (rw (closed_view u c.closed) at c.served))

  -- the tail of inode k's log
  module _ (k : ℕ) (l : k < N) (val : is_valid u k ≡ true) where
    good_log : log_ok u P N k ≡ true
    good_log = log_ok_lem u P N closed_fine k l val

    abbrev t : ℕ
    t = u (tail_word k)

    tail_fine : (t % 512 ≤ 448) × (t % 64 ≡ 0) × (t / 512 < P)
    tail_fine =
        by_eq t 0 (λ z. let s = closed_sizes.2 in (omega arith, omega arith, omega arith))
        (λ z.
        let a = tail_multiple t (full u P N k good_log z).3 in
        (a.0, a.1, (in_bounds P N (t / 512) (page_in u P N k good_log (t / 512) (tail_page u P N k good_log z))).1))

    tail_apart : (p : ℕ) → free u P N p ≡ true → t / 512 ≡ p → ⊥
    tail_apart p f e =
        by_eq t 0 (λ z. let g = free_bounds u P N p f in absurd (omega arith))
        (λ z. not_logged u P N k l val p f (rw (← e) (tail_page u P N k good_log z)))

  -- the tail that the log of inode k goes on with
  module _ (anew : Bool) (k : ℕ) (l : k < N) (val : is_valid u k ≡ true) where
    by_anew : (Q : ℕ → Type 0) → Q 0 → Q (u (tail_word k)) → Q (old_tail u anew k)
    unfolding old_tail
    by_anew Q x y = go anew
      where
        go : (z : Bool) → Q (cond z 0 (u (tail_word k)))
        go true = x
        go false = y

    pub old_fine : (old_tail u anew k % 512 ≤ 448) × (old_tail u anew k % 64 ≡ 0) × (old_tail u anew k / 512 < P)
    old_fine =
        by_anew (λ x. (x % 512 ≤ 448) × (x % 64 ≡ 0) × (x / 512 < P))
        (let s = closed_sizes.2 in (omega arith, omega arith, omega arith)) (tail_fine k l val)

    pub old_apart : (p : ℕ) → free u P N p ≡ true → old_tail u anew k / 512 ≡ p → ⊥
    old_apart =
        by_anew (λ x. (p : ℕ) → free u P N p ≡ true → x / 512 ≡ p → ⊥)
        (λ p f e. let g = free_bounds u P N p f in omega arith) (tail_apart k l val)
