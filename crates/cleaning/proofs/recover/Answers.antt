-- The list's length and the volume are the checks; the list is empty where no entry is open.
use Rattle.model.proofs.Prelude.{ap, not, arith}
use Rattle.gate.proofs.Gates.{gate_dequeue, gate_enqueue, gate_long}
use Rattle.cleaning.proofs.Back.{recover_short, recover_refused, recover_closed, close_pairs, recover_comes}
use Rattle.cleaning.proofs.recover.Goals as goal

pub returns-then-list-lt-LIST_WORDS : goal.returns-then-list-lt-LIST_WORDS
returns-then-list-lt-LIST_WORDS c = search recover_short

pub returns-in_err-judged : goal.returns-in_err-judged
returns-in_err-judged c = search (recover_refused, c.in_err-judged.ensures)

pub is_open-requires : goal.is_open-requires
is_open-requires c = search (gate_dequeue, gate_enqueue, gate_long, c.in_ok-judged.ensures)

pub returns-then-not-is_open : goal.returns-then-not-is_open
returns-then-not-is_open c = search (recover_closed, c.in_ok-judged.ensures)

pub put_back-end-requires : goal.put_back-end-requires
put_back-end-requires c = (
  search (gate_dequeue, c.in_ok-judged.ensures),
  search (gate_enqueue, c.in_ok-judged.ensures),
  search (gate_long, c.in_ok-judged.ensures),
  omega arith,
)

pub word_at-enqueue-requires : goal.word_at-enqueue-requires
word_at-enqueue-requires c =
    let h = gate_long _ _ _ _ _ _ c.in_ok-judged.ensures in
    omega arith

pub commit-requires : goal.commit-requires
commit-requires c = (search (close_pairs, c.in_ok-judged.ensures), omega arith, omega arith)

pub returns : goal.returns
returns c =
    recover_comes _ _ c.if-list-lt-LIST_WORDS.false _ _ _ _ c.in_ok-judged.ensures _
    c.is_open.ensures (ap not c.if-not-is_open.false) _ _ c.put_back-end.ensures.0 _ c.word_at-enqueue.ensures _ _
    c.commit.ensures.0 c.commit.ensures.1
