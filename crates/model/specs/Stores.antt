-- Document 01, "The store list": groups of stores, their text in the list, and what carrying them out leaves.
use Rattle.std.specs.Prelude.{ℕ, zero, suc, ◌+◌, ◌-◌, ◌^◌, Bool, cond, ◌&&◌, List, [], ◌∷◌, ◌++◌, leb, ltb, eqb}
use Rattle.std.proofs.Math.Option.{Option, none, some}
use Rattle.model.specs.Lists.{or_else}
use Rattle.model.specs.Words.{Mem, put_word}

-- The stores of one group: which words are stored, and what. A word is stored once.
abbrev pub Stores : Type 0
Stores = ℕ → Option ℕ

-- no word
abbrev pub no_words : Stores
no_words w = none

-- x in word i
unfoldable pub one_word : ℕ → ℕ → Stores
one_word i x w = cond (eqb w i) (some x) none

-- n words from i on, the j-th being f j
unfoldable pub run : ℕ → ℕ → (ℕ → ℕ) → Stores
run i n f w = cond (leb i w && ltb w (i + n)) (some (f (w - i))) none

abbrev pub first_of : Option ℕ → Option ℕ → Option ℕ
first_of none b = b
first_of (some x) b = some x

-- the stores of s and of t; where both have a word, what s stores
unfoldable pub both : Stores → Stores → Stores
both s t w = first_of (s w) (t w)

unfoldable pub only_if : Bool → Stores → Stores
only_if b s w = cond b (s w) none

-- a memory after the stores of a group
unfoldable pub over : Stores → Mem → Mem
over s m w = or_else (s w) (m w)

-- a memory after all groups
unfoldable pub landed : List Stores → Mem → Mem
landed [] m = m
landed (s ∷ ss) m = landed ss (over s m)

-- A group's text: "pairs of word index and value [..] in ascending index, each word once", of the n words from w on.
abbrev pub pair_of : ℕ → Option ℕ → List ℕ → List ℕ
pair_of w none r = r
pair_of w (some x) r = w ∷ x ∷ r

unfoldable pub listed : Stores → ℕ → ℕ → List ℕ
listed s zero w = []
listed s (suc n) w = let r = listed s n (w + 1) in pair_of w (s w) r

-- "The pair 2^64−1, 0 is a fence."
abbrev pub fence : ℕ
fence = 2 ^ 64 - 1

-- A store list: "Stores between fences form a group [..]; the last pair is a fence." `words` is the volume's count of words.
unfoldable pub store_list : ℕ → List Stores → List ℕ
store_list words [] = []
store_list words (s ∷ ss) = listed s words 0 ++ (fence ∷ 0 ∷ store_list words ss)

-- The bytes v after the pairs of a list, in list order; a fence stores nothing.
unfoldable pub carried : List ℕ → List ℕ → List ℕ
carried v [] = v
carried v (i ∷ []) = v
carried v (i ∷ x ∷ r) = carried (cond (eqb i fence) v (put_word v i x)) r
