-- Each refusal is one case of the definition's checks; what is stored is what the definition carries out.
use Rattle.model.proofs.Prelude.{rules}
use Rattle.storing.proofs.Carrying.{carry_refused, carry_done}
use Rattle.storing.proofs.Carrying.{no_volume_lem, odd_count, long_count, bad_list_lem, good_list}
use Rattle.storing.proofs.carry_out.Goals as goal

pub returns-then-not-is_volume : goal.returns-then-not-is_volume
returns-then-not-is_volume c =
    let r = carry_refused c.args.v.now c.args.list.now c.args.count _ (search (rules, no_volume_lem)) in
    record { answer = r.0; bytes = r.1 }

pub returns-then-count-ne0 : goal.returns-then-count-ne0
returns-then-count-ne0 c =
    let r = carry_refused c.args.v.now c.args.list.now c.args.count _ (search (rules, odd_count)) in
    record { answer = r.0; bytes = r.1 }

pub returns-then-list-count : goal.returns-then-list-count
returns-then-list-count c =
    let r = carry_refused c.args.v.now c.args.list.now c.args.count _ (search (rules, long_count)) in
    record { answer = r.0; bytes = r.1 }

pub returns-then-not-list_ok : goal.returns-then-not-list_ok
returns-then-not-list_ok c =
    let r = carry_refused c.args.v.now c.args.list.now c.args.count _ (search (rules, bad_list_lem)) in
    record { answer = r.0; bytes = r.1 }

pub returns : goal.returns
returns c =
    let r = carry_done c.args.v.now c.args.list.now c.args.count _ (search (rules, good_list)) in
    record { answer = r.0; bytes = r.1 }
