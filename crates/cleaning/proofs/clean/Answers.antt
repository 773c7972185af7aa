-- The gate refuses as the model does, and an inode that is not there; the rest is `clean_log`.
use Rattle.model.proofs.Prelude.{ap, not}
use Rattle.cleaning.proofs.Anew.{gate_told, clean_long, clean_good, clean_readable, clean_turned, clean_absent, can_clean, is_checked}
use Rattle.cleaning.proofs.clean.Goals as goal

pub returns-in_err-count : goal.returns-in_err-count
returns-in_err-count c = search (gate_told, c.in_err-count.ensures)

pub of-sizes-requires : goal.of-sizes-requires
of-sizes-requires c = search (clean_long, c.in_ok-count.ensures)

pub is_valid-requires : goal.is_valid-requires
is_valid-requires c = search (clean_readable, c.in_ok-count.ensures)

pub returns-then-not-is_valid : goal.returns-then-not-is_valid
returns-then-not-is_valid c = search (clean_absent, c.in_ok-count.ensures)

pub turn-listed-requires : goal.turn-listed-requires
turn-listed-requires c = (search (clean_good, c.in_ok-count.ensures), search (clean_turned, c.in_ok-count.ensures))

pub clean_log-requires : goal.clean_log-requires
clean_log-requires c =
    let l = c.args.list.now in (
      can_clean _ l _ _ _ _ c.in_ok-count.ensures _ _ c.of-sizes.ensures.1 _ c.is_valid.ensures
          (ap not c.if-not-is_valid.false) _ _ c.turn-listed.ensures,
      is_checked _ l _ _ _ _ c.in_ok-count.ensures _,
    )
