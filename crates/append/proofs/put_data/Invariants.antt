-- The loop's invariant: the data of the pages from the i-th on are left to add.
use Rattle.model.proofs.Prelude.{◌+◌, ◌*◌, ◌-◌, ◌≤◌, length, drop}
use Rattle.model.specs.Calls.{lay_pages}
use Rattle.stores.specs.Added.{Adding, element, element_from}
use Rattle.append.proofs.put_data.Given as goal

abbrev pub invariant-loop-i : goal.invariant-loop-i
invariant-loop-i l =
    (l.e + 128 * (length l.pages - l.i) ≤ l.end + 128 * length l.pages)
    × Adding l.initial.list 0 l.end (lay_pages l.pages (element l.«data»)) l.list l.e
    (lay_pages (drop l.i l.pages) (element_from l.«data» (64 * l.i)))
