-- A turn takes one entry into the index and leaves those after it; of the turns that are left one is there, since the loop goes on.
use Rattle.model.proofs.Prelude.{◌+◌, ◌*◌, ◌-◌, ◌<◌, ◌≡◌, arith}
use Rattle.inode_log.proofs.Turns.{step_here, step_there, step_low}
use Rattle.directory.proofs.Indexing.{going_next, place_in, place_low, index_turn, room_turn, long_turn, count_turn, ok_turn, ok_bad}
use Rattle.directory.proofs.Indexing.{bad_index, full_turn, whole_index, spent_index}
use Rattle.directory.proofs.index_names.Goals as goal

pub returns-then-c-log : goal.returns-then-c-log
returns-then-c-log c = search whole_index

pub log_step-s-requires : goal.log_step-s-requires
log_step-s-requires c = let l : 0 < 7 * c.args.log.pages - c.loop.counter = omega arith in search (step_here, step_there, step_low)

pub index_entry-requires : goal.index_entry-requires
index_entry-requires c = let l : 0 < 7 * c.args.log.pages - c.loop.counter = omega arith in (search, search place_in, search place_low)

pub returns-then-not-entry_ok : goal.returns-then-not-entry_ok
returns-then-not-entry_ok c = let l : 0 < 7 * c.args.log.pages - c.loop.counter = omega arith in search (bad_index, ok_bad)

pub returns-then-most-count : goal.returns-then-most-count
returns-then-most-count c = let l : 0 < 7 * c.args.log.pages - c.loop.counter = omega arith in search full_turn

pub loop-preserved : goal.loop-preserved
loop-preserved c =
    let l : 0 < 7 * c.args.log.pages - c.loop.counter = omega arith in
    let k : 7 * c.args.log.pages - (c.loop.counter + 1) ≡ 7 * c.args.log.pages - c.loop.counter - 1 = omega arith in
    rw k (search going_next, search, search long_turn, search room_turn, search count_turn, omega arith, search ok_turn, search index_turn)

pub returns : goal.returns
returns c = search (spent_index, arith)
