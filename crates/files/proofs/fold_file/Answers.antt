-- A turn takes the first of the entries that are left, since one is left as long as the loop goes on.
use Rattle.model.proofs.Prelude.{rules, arith, ◌+◌, ◌*◌, ◌-◌, ◌<◌, ◌≡◌}
use Rattle.inode_log.proofs.Turns.{step_here, step_there, step_low, within_turn}
use Rattle.files.proofs.Entries.{passed}
use Rattle.files.proofs.Folding.{all_turn, all_bad, fold_turn, fold_done, fold_spent}
use Rattle.files.proofs.fold_file.Goals as goal

pub returns-then-c-log : goal.returns-then-c-log
returns-then-c-log c = search (rules, fold_done)

pub log_step-s-requires : goal.log_step-s-requires
log_step-s-requires c =
    let l : 0 < 7 * c.args.log.pages - c.loop-turn._turn = omega arith in
    search (rules, step_here, step_there, step_low)

pub returns-then-not-entry_ok : goal.returns-then-not-entry_ok
returns-then-not-entry_ok c = let l : 0 < 7 * c.args.log.pages - c.loop-turn._turn = omega arith in search (rules, all_bad)

pub apply-size-requires : goal.apply-size-requires
apply-size-requires c = search (rules, passed)

pub loop-turn-preserved : goal.loop-turn-preserved
loop-turn-preserved c =
    let l : 0 < 7 * c.args.log.pages - c.loop-turn._turn = omega arith in
    let k : 7 * c.args.log.pages - (c.loop-turn._turn + 1) ≡ 7 * c.args.log.pages - c.loop-turn._turn - 1 = omega arith in
    rw k (search rules, search (rules, within_turn), search (rules, all_turn), search (rules, fold_turn))

pub returns : goal.returns
returns c = search (rules, fold_spent)
