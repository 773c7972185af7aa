-- For callers: a file of an accepted volume is at most 65,536 bytes long, its data pages lie inside the volume, and its bytes are those of
-- the volume as it stands, since the journal is closed.
use Rattle.model.proofs.Prelude.{ℕ, ◌≤◌, ◌<◌, ◌≡◌, ap, true, List, arith, length}
use Rattle.std.specs.Prelude.{Ok}
use Rattle.model.specs.Words.{word}
use Rattle.model.specs.Journal.{view}
use Rattle.model.specs.State.{File}
use Rattle.model.specs.Accept.{log_ok}
use Rattle.model.proofs.Frame.View.{log_ok_lem}
use Rattle.model.proofs.Frame.Inode.{file_placed}
use Rattle.model.proofs.Crash.Landing.{volume_parts, sizes_parts}
use Rattle.contents.specs.Laid.{Within}
use Rattle.contents.proofs.Pages.{placed_within}
use Rattle.names.proofs.Listing.{good_view}
use Rattle.state.specs.Stated.{FileState, Stated}
use Rattle.state.proofs.Sizes.{good_small}

-- what the state of a file k that is there allows
module _ (v : List ℕ) (k s : ℕ) (marks t : List ℕ) (f : FileState v k s marks t) where
  pub file_below : k < word v 1
  file_below = f.below

  pub file_good : log_ok (view (word v)) (word v 0) (word v 1) k ≡ true
  file_good =
      log_ok_lem (view (word v)) (word v 0) (word v 1) (good_view v (record { volume = f.volume; good = f.good })) k f.below f.valid

  pub file_small : s ≤ 65536
  file_small = rw (ap (λ (x : File). x.size) f.file) (good_small (view (word v)) (word v 0) (word v 1) k f.kind file_good)

  pub file_within : Within (length v) t
  file_within =
      let p = volume_parts (length v) (word v) f.volume in
      let z = sizes_parts (word v 0) (word v 1) p.sizes in
      placed_within (word v 0) (word v 1) s (length v) t _ (file_placed (view (word v)) (word v 0) (word v 1) k file_good f.kind)
      f.file (omega arith) p.bytes

-- the same of what was answered, where it is a number
module _ (v : List ℕ) (k s : ℕ) (marks t : List ℕ) (a : Stated v k (Ok s) marks t) where
  pub state_small : s ≤ 65536
  state_small = file_small v k s marks t a.state

  pub state_within : Within (length v) t
  state_within = file_within v k s marks t a.state
