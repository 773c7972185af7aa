-- One digit, or the number without its last digit and then that digit.
use Rattle.model.proofs.Prelude.{arith, rules}
use Rattle.listing.proofs.Putting.{number_one, number_more, room_one, room_before, room_last}
use Rattle.listing.proofs.+put_number.Goals as goal

pub put_byte-requires : goal.put_byte-requires
put_byte-requires t c = search (rules, room_one)

pub returns-then-x-lt10 : goal.returns-then-x-lt10
returns-then-x-lt10 t c = search (rules, number_one)

pub put_number-next-requires : goal.put_number-next-requires
put_number-next-requires t c = (omega arith, search (rules, room_before))

pub put_byte-requires-2 : goal.put_byte-requires-2
put_byte-requires-2 t c = search (rules, room_last)

pub returns : goal.returns
returns t c = search (rules, number_more)
