-- After each test the value is that of the definition's tests up to it.
use Rattle.model.proofs.Prelude.{ℕ, Bool, ◌≡◌, ◌∙◌, ap, refl, ◌&&◌, ltb, leb, lt-ltb, le-ltb}
use Rattle.model.specs.Words.{Mem, word}
use Rattle.model.specs.Lists.{all}
use Rattle.model.specs.Journal.{dequeue_word, enqueue_word, open_count, open_targets, target_ok, journal_ok}
use Rattle.journal.proofs.Turns.{and_goes, and_stays}
use Rattle.journal.proofs.journal_ok.Goals as goal
use Rattle.journal.proofs.journal_ok.Goals.{then-word_at-lt-COUNT, else-word_at-lt-COUNT, then-word_at-lt-COUNT-2, else-word_at-lt-COUNT-2}
use Rattle.journal.proofs.journal_ok.Goals.{then-open_count-le-MOST_OPEN, else-open_count-le-MOST_OPEN, Joined-open_count-le-MOST_OPEN}

-- the first four of the definition's tests
abbrev four : Mem → ℕ → Bool
four u N = ltb (u dequeue_word) 16 && ltb (u enqueue_word) 16 && leb (open_count u) 4 && all (target_ok N) (open_targets u)

value_of_four : (c : Joined-open_count-le-MOST_OPEN) → c.if-open_count-le-MOST_OPEN.value ≡ four (word c.args.v.now) c.args.inodes
value_of_four c =
    let u = word c.args.v.now in
    let d = ap (λ n. ltb n 16) c.word_at.ensures in
    let a : c.if-word_at-lt-COUNT.value ≡ ltb (u dequeue_word) 16 && ltb (u enqueue_word) 16 =
    elim c.if-word_at-lt-COUNT.branch [
      | then-word_at-lt-COUNT w ↦
          and_goes _ _ _ _ d (lt-ltb _ _ w.if-word_at-lt-COUNT.true) (w.value-is ∙ ap (λ n. ltb n 16) w.word_at-then-word_at-lt-COUNT.ensures)
      | else-word_at-lt-COUNT w ↦ and_stays _ _ _ _ d (le-ltb _ _ w.if-word_at-lt-COUNT.false) w.value-is
    ] in
    let b : c.if-word_at-lt-COUNT-2.value ≡ ltb (u dequeue_word) 16 && ltb (u enqueue_word) 16 && leb (open_count u) 4 =
    elim c.if-word_at-lt-COUNT-2.branch [
      | then-word_at-lt-COUNT-2 w ↦ and_goes _ _ _ _ a w.if-word_at-lt-COUNT-2.true (w.value-is ∙ ap (λ n. leb n 4) w.open_count.ensures.0)
      | else-word_at-lt-COUNT-2 w ↦ and_stays _ _ _ _ a w.if-word_at-lt-COUNT-2.false w.value-is
    ] in
    elim c.if-open_count-le-MOST_OPEN.branch [
      | then-open_count-le-MOST_OPEN w ↦ and_goes _ _ _ _ b w.if-open_count-le-MOST_OPEN.true (w.value-is ∙ w.targets_ok.ensures)
      | else-open_count-le-MOST_OPEN w ↦ and_stays _ _ _ _ b w.if-open_count-le-MOST_OPEN.false w.value-is
    ]

pub returns-then-targets_ok : goal.returns-then-targets_ok
unfolding journal_ok
returns-then-targets_ok c =
    let e = value_of_four (goal.at.returns-then-targets_ok c).Joined-open_count-le-MOST_OPEN in
    and_goes _ _ _ _ e c.if-targets_ok.true c.targets_differ.ensures

pub returns-else-targets_ok : goal.returns-else-targets_ok
unfolding journal_ok
returns-else-targets_ok c =
    let e = value_of_four (goal.at.returns-else-targets_ok c).Joined-open_count-le-MOST_OPEN in
    and_stays _ _ _ _ e c.if-targets_ok.false refl
