-- The third demand: every history of calls and power cuts, from any accepted volume. Each call does what it owes (Calls), dead words are
-- framed (Frame), and the crash library (Crash) does the rest.
use Rattle.model.proofs.Prelude.{ℕ}
use Rattle.model.specs.Words.{Mem}
use Rattle.model.specs.FileMap.{Call}
use Rattle.model.specs.Claim.{ThirdDemand}
use Rattle.model.specs.Promises.{PageKept}
use Rattle.model.proofs.Frame.Dead.{Dead, low, frame}
use Rattle.model.proofs.Crash.Commit.{Ready}
use Rattle.model.proofs.Crash.History as history
use Rattle.model.proofs.Crash.History.{Duties, SafeCall, calls_safe}
use Rattle.model.proofs.Calls.NameCalls.{create_done, create_folder_done, link_done, unlink_done, rename_done}
use Rattle.model.proofs.Calls.Files.{write_done, size_done}
use Rattle.model.proofs.Calls.Clean.{clean_done}

duties : (P N : ℕ) (m : Mem) → Ready P N m → Duties P N m
duties P N m r = record {
  create_duty = create_done P N m r;
  create_folder_duty = create_folder_done P N m r;
  link_duty = link_done P N m r;
  unlink_duty = unlink_done P N m r;
  rename_duty = rename_done P N m r;
  write_duty = write_done P N m r;
  size_duty = size_done P N m r;
  clean_duty = clean_done P N m r;
}

pub every_call_safe : (c : Call) → SafeCall c
every_call_safe =
    calls_safe (λ P N u w. Dead u P N w) frame (λ P N u w h. low h) duties

pub third_demand : ThirdDemand 8
third_demand = history.third_demand every_call_safe

-- "Create, link, write and set size shall not take the last free page."
pub page_kept : PageKept
page_kept = history.page_kept every_call_safe
