-- A tail that is not 0 is right if it is a multiple of 64 and none of 512; head and tail's page are pages; then the walk decides.
use Rattle.model.proofs.Prelude.{rules}
use Rattle.inode_log.proofs.Marking.{page_fits}
use Rattle.inode_log.proofs.Viewed.{empty_log, odd_tail, round_tail, last_out, head_out, log_walk}
use Rattle.inode_log.proofs.mark_log.Goals.{then-tail-ne0-via-then-tail-ne0, then-tail-ne0-via-else-tail-ne0+then-tail-eq0-2}
use Rattle.inode_log.proofs.mark_log.Goals as goal

pub returns-then-tail-eq0 : goal.returns-then-tail-eq0
returns-then-tail-eq0 c = search (rules, empty_log)

pub returns-then-tail-ne0 : goal.returns-then-tail-ne0
returns-then-tail-ne0 c =
    elim c.then-tail-ne0.branch [
      | then-tail-ne0-via-then-tail-ne0 w ↦ search (rules, odd_tail)
      | then-tail-ne0-via-else-tail-ne0+then-tail-eq0-2 w ↦ search (rules, round_tail)
    ]

pub overflow_cast-head : goal.overflow_cast-head
overflow_cast-head c = let fits = page_fits _ _ _ _ c.is_page-then-is_page.ensures c.if-is_page-2.true in search rules

pub overflow_cast-last : goal.overflow_cast-last
overflow_cast-last c =
    let fits = page_fits _ _ _ _ c.is_page.ensures c.if-is_page.true in
    search rules

pub returns-then-is_page-2 : goal.returns-then-is_page-2
returns-then-is_page-2 c = search (rules, log_walk)

pub returns-then-is_page : goal.returns-then-is_page
returns-then-is_page c = search (rules, head_out)

pub returns : goal.returns
returns c = search (rules, last_out)
