-- Volumes held as lists of words: what the cases are computed on.
use Rattle.model.proofs.Prelude.{ℕ, ◌+◌, ◌-◌, ◌*◌, ◌%◌, ◌^◌, cond, ◌&&◌, not, List, [], ◌∷◌, ◌++◌, length, get_or, set, drop, replicate, eqb}
use Rattle.model.specs.Words.{Mem}
use Rattle.model.specs.Layout.{sizes_ok, table_pages}
use Rattle.model.specs.Stores.{fence}
use Rattle.model.specs.Power.{Power, held, cut, before, group, mixed}
use Rattle.model.specs.Answer.{Answer, done, first_refusal, no_volume}
use Rattle.cases.specs.Run.{Holding}

-- the words of a list; 0 past its end
abbrev pub mem_of : List ℕ → Mem
mem_of l w = get_or l w 0

-- x in word i, modulo 2 ^ 64 as eight bytes hold it
unfoldable pub stored : List ℕ → ℕ → ℕ → List ℕ
stored l i x = set l i (x % 2 ^ 64)

unfoldable pub carried_words : List ℕ → List ℕ → List ℕ
carried_words l [] = l
carried_words l (i ∷ []) = l
carried_words l (i ∷ x ∷ r) = carried_words (cond (eqb i fence) l (stored l i x)) r

-- a piece is a word
unfoldable pub leaves_words : Power → List ℕ → List ℕ → List ℕ
leaves_words held l r = carried_words l r
leaves_words (cut g kept) l r =
    let old = carried_words l (before g r) in
    mixed 1 kept 0 old (carried_words old (group g r))

unfoldable pub format_words : List ℕ → ℕ → ℕ → Answer (List ℕ)
format_words l P N =
    let t = 64 * (table_pages N + 1) in
    first_refusal ((not (sizes_ok P N && eqb (8 * length l) (512 * P)), no_volume) ∷ [])
    (done (stored (stored (stored (stored (replicate t 0 ++ drop t l) 0 P) 1 N) 2 1) 64 1))

unfoldable pub as_words : Holding (List ℕ)
as_words =
    record {
      blank = λ n. replicate (64 * n) (2 ^ 64 - 1);
      len = λ l. 8 * length l;
      mem = mem_of;
      format = format_words;
      after = leaves_words;
    }
