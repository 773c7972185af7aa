-- A refusal is that of the file's state or one of the call's own, in their order; else the append decides.
use Rattle.model.proofs.Prelude.{refl, rules}
use Rattle.state.proofs.Within.{state_within, state_small}
use Rattle.writing.proofs.Words.{kept_fits, kept_taken}
use Rattle.writing.proofs.Calls.{size_short, size_refused, size_past, size_none, size_ready, size_comes}
use Rattle.writing.proofs.set_size.Goals as goal

pub returns-then-list-lt-LIST_WORDS : goal.returns-then-list-lt-LIST_WORDS
returns-then-list-lt-LIST_WORDS c = search size_short

pub returns-in_err-old : goal.returns-in_err-old
returns-in_err-old c = search (rules, size_refused, c.in_err-old.ensures)

pub returns-then-size-gt-FILE_BYTES : goal.returns-then-size-gt-FILE_BYTES
returns-then-size-gt-FILE_BYTES c = search (size_past, c.in_ok-old.ensures)

pub returns-then-size-old : goal.returns-then-size-old
returns-then-size-old c = search (size_none, c.in_ok-old.ensures)

pub lay_kept-n-requires : goal.lay_kept-n-requires
lay_kept-n-requires c =
    let a = c.in_ok-old.ensures in (state_within _ _ _ _ _ a, state_small _ _ _ _ _ a, refl)

pub slice_bounds-data-end : goal.slice_bounds-data-end
slice_bounds-data-end c = kept_fits _ _ _ _ _ _ c.lay_kept-n.ensures

pub slice_bounds-make-end-2 : goal.slice_bounds-make-end-2
slice_bounds-make-end-2 c = kept_taken _ _ _ _ _ _ c.lay_kept-n.ensures

pub make-requires : goal.make-requires
make-requires c =
    size_ready _ _ _ _ c.if-list-lt-LIST_WORDS.false _ _ _ c.in_ok-old.ensures c.if-size-gt-FILE_BYTES.false
    c.if-size-old.false
    _ _ c.lay_kept-n.ensures _ _ c.size_words-e.ensures _ _ _ c.to_file-a.ensures refl

pub returns : goal.returns
returns c =
    size_comes _ _ _ _ c.if-list-lt-LIST_WORDS.false _ _ _ c.in_ok-old.ensures c.if-size-gt-FILE_BYTES.false
    c.if-size-old.false
    _ _ c.lay_kept-n.ensures _ _ c.size_words-e.ensures _ _ _ c.to_file-a.ensures refl refl refl _ _ c.make.ensures
