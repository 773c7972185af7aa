-- The cases of format: what its sizes are decides the answer, and with good sizes the zeros and the header lie in the volume.
use Rattle.model.proofs.Prelude.{ℕ, ◌+◌, ◌*◌, ◌/◌, ◌≤◌, ◌≡◌, sym, ◌∙◌, Bool, true, false, not, ◌&&◌, List, ◌++◌, none, arith, eqb-true, not-true, not-false, eqb, length, drop, replicate, take, length-take-le}
use Rattle.model.specs.Words.{put_word}
use Rattle.model.specs.Layout.{sizes_ok}
use Rattle.model.specs.Answer.{refused, done, no_volume}
use Rattle.model.specs.Public.{formatted, format, format_answer, format_volume}
use Rattle.model.proofs.Tests.{and_left, and_right}
use Rattle.model.proofs.Crash.Landing.{Sizes, sizes_parts}
use Rattle.answer.specs.Meaning.{plain}

-- What `sizes_fit` answered, f, decides.

module _ (v : List ℕ) (P N : ℕ) (f : Bool) (g : f ≡ sizes_ok P N && eqb (length v) (512 * P)) where
  module _ (h : not f ≡ true) where
    format_not : refused no_volume ≡ format v P N
    unfolding format
    format_not = rw (← g, not-true f h)

    pub not_answer : refused no_volume ≡ plain (format_answer v P N)
    unfolding format_answer
    not_answer = rw (← format_not)

    pub not_volume : v ≡ format_volume v P N
    unfolding format_volume
    not_volume = rw (← format_not)

  module _ (h : not f ≡ false) where
    both : sizes_ok P N && eqb (length v) (512 * P) ≡ true
    both = sym g ∙ not-false f h

    sizes : Sizes P N
    sizes = sizes_parts P N (and_left (sizes_ok P N) (eqb (length v) (512 * P)) both)

    whole : length v ≡ 512 * P
    whole = eqb-true (length v) (512 * P) (and_right (sizes_ok P N) (eqb (length v) (512 * P)) both)

    pub few_inodes : N ≤ 256
    few_inodes = sizes.most_inodes

    -- t is what `table_end` answered
    pub table_in : (t : ℕ) → t ≡ 512 * (N / 8 + 1) → t ≤ length v
    table_in t e = omega (arith, whole, sizes.room)

    -- the bytes up to t, as they are lent to be filled
    pub table_part : (t : ℕ) → t ≡ 512 * (N / 8 + 1) → t ≡ length (take t v)
    table_part t e = sym (length-take-le t v (table_in t e))

    pub header_in : (w : List ℕ) → length w ≡ length v → 520 ≤ length w
    header_in w e = omega (arith, whole, sizes.room, sizes.some_inodes)

    format_is : done (formatted v P N) ≡ format v P N
    unfolding format
    format_is = rw both

    pub done_answer : done none ≡ plain (format_answer v P N)
    unfolding format_answer
    done_answer = rw (← format_is)

    -- bs is what these bytes became
    pub done_volume : (t : ℕ) (bs z : List ℕ) → t ≡ 512 * (N / 8 + 1) → bs ≡ replicate (length (take t v)) 0
        → z ≡ put_word (put_word (put_word (put_word (bs ++ drop t v) 0 P) 1 N) 2 1) 64 1 → z ≡ format_volume v P N
    unfolding format_volume formatted
    done_volume t bs z k e d =
        let w : bs ≡ replicate t 0 = rw (length-take-le t v (table_in t k)) at e in
        rw (← format_is, ← k, ← w) d
