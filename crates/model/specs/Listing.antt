-- The text that the program volume-list prints. Document 01, "Campsite examples", last paragraphs.
use Rattle.std.specs.Prelude.{ℕ, zero, suc, ◌+◌, ◌/◌, ◌%◌, cond, List, [], ◌∷◌, ◌++◌, length, ltb}
use Rattle.model.specs.Words.{Mem, word}
use Rattle.model.specs.Layout.{root}
use Rattle.model.specs.Journal.{view}
use Rattle.model.specs.State.{Names}
use Rattle.model.specs.Accept.{folders_of, free_count}
use Rattle.model.specs.Answer.{Answer, refused, done, first_refusal, no_volume}
use Rattle.model.specs.Public.{closed_checks, counts}

-- Bytes of the text.
abbrev pub space : ℕ
space = 32

abbrev pub newline : ℕ
newline = 10

-- "files", "free", "refused"
abbrev pub files_word : List ℕ
files_word = 102 ∷ 105 ∷ 108 ∷ 101 ∷ 115 ∷ []

abbrev pub free_word : List ℕ
free_word = 102 ∷ 114 ∷ 101 ∷ 101 ∷ []

abbrev pub refused_word : List ℕ
refused_word = 114 ∷ 101 ∷ 102 ∷ 117 ∷ 115 ∷ 101 ∷ 100 ∷ []

-- a number's decimal digits, before the text r; a number below 10 ^ n has at most n of them
unfoldable pub digits : ℕ → ℕ → List ℕ → List ℕ
digits zero x r = r
digits (suc n) x r =
    let d = (48 + x % 10) ∷ r in
    let more = digits n (x / 10) d in
    cond (ltb x 10) d more

-- a number in decimal; 20 digits hold every number of 64 bits
unfoldable pub decimal : ℕ → List ℕ
decimal x = digits 20 x []

-- "First line: names and free pages."
unfoldable pub first_line : ℕ → ℕ → List ℕ
first_line names free = files_word ++ space ∷ decimal names ++ space ∷ free_word ++ space ∷ decimal free ++ newline ∷ []

-- "Then per name in list order: inode, size, name."
unfoldable pub name_line : ℕ → ℕ → List ℕ → List ℕ
name_line inode size name = decimal inode ++ space ∷ decimal size ++ space ∷ name ++ newline ∷ []

-- "A refusal prints "refused", a space and the number, ended by a newline."
unfoldable pub refusal_line : ℕ → List ℕ
refusal_line n = refused_word ++ space ∷ decimal n ++ newline ∷ []

-- "at most 65,536 bytes [..] (longer: "refused 2")"
abbrev pub most_bytes : ℕ
most_bytes = 65536

-- Document 02, order 6: "The program lists inode 0's names; a folder's size there is its total."
module _ (u : Mem) (P N : ℕ) where
  unfoldable pub name_lines : Names → List ℕ
  name_lines [] = []
  name_lines (p ∷ ps) = name_line p.1 (counts u P N N p.1) p.0 ++ name_lines ps

  unfoldable pub text_of : List ℕ
  text_of = first_line (length (folders_of u P N root)) (free_count u P N) ++ name_lines (folders_of u P N root)

abbrev pub text_or : Answer (List ℕ) → List ℕ
text_or (refused n) = refusal_line n
text_or (done t) = t

-- the text for a volume of `len` bytes with the words m
unfoldable pub listing_of : ℕ → Mem → List ℕ
listing_of len m =
    text_or (first_refusal ((ltb most_bytes len, no_volume) ∷ closed_checks len m) (done (text_of (view m) (m 0) (m 1))))

-- what volume-list prints for the bytes v on its standard input
unfoldable pub listing : List ℕ → List ℕ
listing v = listing_of (length v) (word v)
