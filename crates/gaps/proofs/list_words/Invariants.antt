-- The loop's invariant: the words of the gaps so far stand at the list's start.
use Rattle.model.proofs.Prelude.{◌≡◌, sets}
use Rattle.gaps.proofs.Filling.{without_numbers, words_of}
use Rattle.gaps.proofs.list_words.Given as goal

abbrev pub invariant-loop-i : goal.invariant-loop-i
invariant-loop-i l = l.pairs ≡ sets l.initial.pairs 0 (words_of (without_numbers l.yielded))
