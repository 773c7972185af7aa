-- A turn lists the entry's place where it stands and leaves those after it; of the turns that are left one is there.
use Rattle.model.proofs.Prelude.{◌+◌, ◌*◌, ◌-◌, ◌≤◌, ◌<◌, ◌≡◌, arith}
use Rattle.inode_log.proofs.Turns.{step_here, step_there, step_low}
use Rattle.directory.proofs.Indexing.{going_next}
use Rattle.directory.proofs.Listing.{list_done, list_spent, list_skip, list_put, list_many}
use Rattle.directory.proofs.list_standing.Goals as goal
use Rattle.directory.proofs.list_standing.Goals.{then-stands+else-count-eq-MOST_NAMES, else-stands}

pub returns-then-c-log : goal.returns-then-c-log
returns-then-c-log c = search list_done

pub log_step-s-requires : goal.log_step-s-requires
log_step-s-requires c = let l : 0 < 7 * c.args.log.pages - c.loop.counter = omega arith in search (step_here, step_there, step_low)

pub returns-then-count-eq-MOST_NAMES : goal.returns-then-count-eq-MOST_NAMES
returns-then-count-eq-MOST_NAMES c = let l : 0 < 7 * c.args.log.pages - c.loop.counter = omega arith in search list_many

pub loop-preserved : goal.loop-preserved
loop-preserved c =
    let l : 0 < 7 * c.args.log.pages - c.loop.counter = omega arith in
    let k : 7 * c.args.log.pages - (c.loop.counter + 1) ≡ 7 * c.args.log.pages - c.loop.counter - 1 = omega arith in
    rw k (elim c.if-stands.branch [
      | then-stands+else-count-eq-MOST_NAMES w ↦ (search going_next, search, omega arith, search list_put)
      | else-stands w ↦ (search going_next, search, omega arith, search list_skip)
    ])

pub returns : goal.returns
returns c = let l : 7 * c.args.log.pages - c.loop.counter ≤ 0 = omega arith in search list_spent
