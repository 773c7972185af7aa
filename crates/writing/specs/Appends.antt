-- What write and set size append to a file's log.
use Rattle.std.specs.Prelude.{ℕ, true, false}
use Rattle.append.specs.declared.Append.{Append}

-- an append to the log of inode k, which keeps the last free page; its data are file pages from i on of a file of z bytes
abbrev pub file_append : ℕ → ℕ → ℕ → Append
file_append k i z = record { log = k; anew = false; file = i; size = z; second = 0; moved = 0; other = 0; valid = 0; kind = 0; keeps = true }
