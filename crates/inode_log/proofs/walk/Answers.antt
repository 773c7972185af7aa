-- A turn is one case of the definition of the walk; of the turns that are left one is there, since the loop goes on.
use Rattle.model.proofs.Prelude.{rules, ◌+◌, ◌-◌, ◌<◌, ◌≡◌, arith}
use Rattle.inode_log.proofs.Marking.{page_in, page_fits, page_bound}
use Rattle.inode_log.proofs.Marking.{walk_starts, walk_taken, walk_done, walk_lost, walk_turn, walk_spent}
use Rattle.inode_log.proofs.walk.Goals as goal

pub loop-turn-init : goal.loop-turn-init
loop-turn-init c = search (rules, page_bound, walk_starts)

pub returns-then-not-take : goal.returns-then-not-take
returns-then-not-take c =
    let l : 0 < c.args.sizes.pages - c.loop-turn._turn = omega arith in
    search (rules, walk_taken)

pub returns-then-p-last : goal.returns-then-p-last
returns-then-p-last c =
    let l : 0 < c.args.sizes.pages - c.loop-turn._turn = omega arith in
    search (rules, walk_done)

pub overflow_cast-p-then-is_page : goal.overflow_cast-p-then-is_page
overflow_cast-p-then-is_page c = let fits = page_fits _ _ _ _ c.is_page.ensures c.if-is_page.true in search rules

pub loop-turn-preserved : goal.loop-turn-preserved
loop-turn-preserved c =
    let l : 0 < c.args.sizes.pages - c.loop-turn._turn = omega arith in
    let k : c.args.sizes.pages - (c.loop-turn._turn + 1) ≡ c.args.sizes.pages - c.loop-turn._turn - 1 = omega arith in
    (search (rules, page_fits), search (rules, page_in), search (rules, walk_turn))

pub returns-else-is_page : goal.returns-else-is_page
returns-else-is_page c =
    let l : 0 < c.args.sizes.pages - c.loop-turn._turn = omega arith in
    search (rules, walk_lost)

pub returns : goal.returns
returns c = search (rules, walk_spent)
