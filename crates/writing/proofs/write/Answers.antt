-- A refusal is that of the file's state or one of the call's own, in their order; else the append decides.
use Rattle.model.proofs.Prelude.{arith, refl, rules}
use Rattle.state.proofs.Within.{state_within}
use Rattle.writing.proofs.Calls.{write_short, write_refused, write_long, write_starts_past, write_ends_past, write_none, write_ready, write_comes}
use Rattle.writing.proofs.write.Goals as goal

pub returns-then-list-lt-LIST_WORDS : goal.returns-then-list-lt-LIST_WORDS
returns-then-list-lt-LIST_WORDS c = search write_short

pub returns-in_err-size : goal.returns-in_err-size
returns-in_err-size c = search (rules, write_refused, c.in_err-size.ensures)

pub returns-then-bytes-gt-WRITE_BYTES : goal.returns-then-bytes-gt-WRITE_BYTES
returns-then-bytes-gt-WRITE_BYTES c = search (write_long, c.in_ok-size.ensures)

pub returns-then-offset-gt-FILE_BYTES : goal.returns-then-offset-gt-FILE_BYTES
returns-then-offset-gt-FILE_BYTES c = search (write_starts_past, c.in_ok-size.ensures)

pub returns-then-end-gt-FILE_BYTES : goal.returns-then-end-gt-FILE_BYTES
returns-then-end-gt-FILE_BYTES c = search (write_ends_past, c.in_ok-size.ensures)

pub returns-then-bytes-eq0 : goal.returns-then-bytes-eq0
returns-then-bytes-eq0 c = search (write_none, c.in_ok-size.ensures)

pub lay_write-requires : goal.lay_write-requires
lay_write-requires c = (
  state_within _ _ _ _ _ c.in_ok-size.ensures,
  omega arith,
  c.if-bytes-gt-WRITE_BYTES.false,
  c.if-end-gt-FILE_BYTES.false,
)

pub make-requires : goal.make-requires
make-requires c =
    write_ready _ _ _ _ _ c.if-list-lt-LIST_WORDS.false _ _ _ c.in_ok-size.ensures c.if-bytes-gt-WRITE_BYTES.false
    c.if-end-gt-FILE_BYTES.false c.if-bytes-eq0.false
    _ c.pages_covered-n.ensures _ c.lay_write.ensures _ _ _ c.to_file-a.ensures (omega arith)

pub returns : goal.returns
returns c =
    let y = write_comes _ _ _ _ _ c.if-list-lt-LIST_WORDS.false _ _ _ c.in_ok-size.ensures c.if-bytes-gt-WRITE_BYTES.false
    c.if-end-gt-FILE_BYTES.false c.if-bytes-eq0.false
    _ c.pages_covered-n.ensures _ c.lay_write.ensures _ _ _ c.to_file-a.ensures refl in search (y, c.make.ensures)
