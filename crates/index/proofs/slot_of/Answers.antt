-- A turn is one step of the look-up: it ends at the slot, or goes on at the next.
use Rattle.model.proofs.Prelude.{◌-◌, ◌<◌, ◌≡◌, length, get_or, arith}
use Rattle.index.proofs.Looks.{slot_in, look_start, look_empty, look_found, look_on, look_spent}
use Rattle.index.proofs.slot_of.Goals as goal
use Rattle.index.proofs.slot_of.Goals.{then-place-eq0-via-then-place-eq0, then-place-eq0-via-else-place-eq0+then-has_name}

pub loop-init : goal.loop-init
loop-init c = (search, search (arith, look_start))

pub has_name-requires : goal.has_name-requires
has_name-requires c = (search slot_in, search arith)

pub returns-then-place-eq0 : goal.returns-then-place-eq0
returns-then-place-eq0 c =
    let some : 0 < length c.args.index.now - c.loop.counter = omega arith in
    let place : c.from-place.result ≡ get_or c.args.index.now c.loop.s 0 = search in (
      elim c.then-place-eq0.branch [
        | then-place-eq0-via-then-place-eq0 w ↦ look_empty _ _ _ _ _ _ _ c.loop.invariant.1 some place (search)
        | then-place-eq0-via-else-place-eq0+then-has_name w ↦
            look_found _ _ _ _ _ _ _ c.loop.invariant.1 some place _ w.has_name.ensures w.if-place-eq0.false (search)
      ],
      search,
    )

pub loop-preserved : goal.loop-preserved
loop-preserved c = (search, search (arith, look_on))

pub returns : goal.returns
returns c = (search (arith, look_spent), search)
