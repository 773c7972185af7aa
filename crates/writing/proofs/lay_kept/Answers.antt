-- Either the size cuts a page, whose words are laid, or nothing is laid.
use Rattle.writing.proofs.Words.{kept_page, kept_none}
use Rattle.writing.proofs.lay_kept.Goals as goal

pub returns-then-cuts_page : goal.returns-then-cuts_page
returns-then-cuts_page c = search kept_page

pub returns : goal.returns
returns c = search kept_none
