-- A refusal is put as its line, by the length or by the gate; else the text is put. Every listing has room.
use Rattle.model.proofs.Prelude.{rules}
use Rattle.gate.proofs.Gates.{gate_good}
use Rattle.listing.proofs.Fits.{refusal_room}
use Rattle.listing.proofs.Text.{long_put, refused_put, passed_put, listed}
use Rattle.listing.proofs.lay_listing.Goals as goal

pub put_refusal-requires : goal.put_refusal-requires
put_refusal-requires c = search (rules, refusal_room)

pub returns-then-v-gt-MOST_BYTES : goal.returns-then-v-gt-MOST_BYTES
returns-then-v-gt-MOST_BYTES c = listed _ _ _ _ (search rules) search (rules, long_put)

pub put_text-requires : goal.put_text-requires
put_text-requires c = search (gate_good, c.in-Ok.ensures)

pub put_refusal-requires-in-Err : goal.put_refusal-requires-in-Err
put_refusal-requires-in-Err c = search (rules, refusal_room)

pub returns-in-Ok : goal.returns-in-Ok
returns-in-Ok c = listed _ _ _ _ (search rules) search (rules, passed_put, c.in-Ok.ensures)

pub returns-in-Err : goal.returns-in-Err
returns-in-Err c = listed _ _ _ _ (search rules) search (rules, refused_put, c.in-Err.ensures)
