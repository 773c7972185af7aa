-- A number below 10 is its one digit; another is put as what is left without its last digit, and then that digit. The number falls.
use Rattle.listing.proofs.+put_number.Given as goal

abbrev pub decreases-put_number : goal.decreases-put_number
decreases-put_number l = l.x
