-- The third demand as one claim about a whole list of calls, each with what the power did to it.
use Rattle.std.specs.Prelude.{ℕ, ◌<◌, ◌≡◌, ◌⊎◌, true, false, List, [], ◌∷◌, length, get_or}
use Rattle.model.specs.Words.{word}
use Rattle.model.specs.Journal.{is_open, view}
use Rattle.model.specs.FileMap.{FileMap, map_of, map_after, Call, create, create_folder, link, unlink, rename, write, set_size, clean}
use Rattle.model.specs.FileMap.{recover}
use Rattle.model.specs.Power.{Power, held, cut, leaves}
use Rattle.model.specs.Answer.{Answer, refused, done}
use Rattle.model.specs.Public.{is_accepted, fills}

-- Bytes: numbers below 256.
abbrev pub Bytes : List ℕ → Type 0
Bytes l = (i : ℕ) → get_or l i 0 < 256

-- the names and the data of a call are bytes; its numbers are any numbers
abbrev pub CallBytes : Call → Type 0
CallBytes (create d n) = Bytes n
CallBytes (create_folder d n) = Bytes n
CallBytes (link d a e b) = Bytes a × Bytes b
CallBytes (unlink d n) = Bytes n
CallBytes (rename d a e b) = Bytes a × Bytes b
CallBytes (write k o bs) = Bytes bs
CallBytes (set_size k s) = Unit {0}
CallBytes (clean k) = Unit {0}
CallBytes recover = Unit {0}

-- An event: a call, the length of the list that it is lent, and what the power did to the stores of that list.
pub record Event : Type 0 where
  pub call : Call
  pub list : ℕ
  pub power : Power

abbrev pub History : Type 0
History = List Event

abbrev pub HistoryBytes : History → Type 0
HistoryBytes [] = Unit {0}
HistoryBytes (e ∷ es) = CallBytes e.call × HistoryBytes es

-- what an event's call answers, with the words that it fills: "each call gets, with any arguments, the volume as the one before left it"
unfoldable pub answer_to : List ℕ → Event → Answer (List ℕ)
answer_to v e = fills (length v) (word v) e.list e.call

-- The bytes after an event, where pieces of `size` bytes land whole. A refused call stores nothing.
abbrev pub landing : ℕ → Power → List ℕ → Answer (List ℕ) → List ℕ
landing size p v (refused n) = v
landing size p v (done l) = leaves size p v l

unfoldable pub volume_after : ℕ → List ℕ → Event → List ℕ
volume_after size v e = landing size e.power v (answer_to v e)

-- the file map of the volume v
unfoldable pub map_in : List ℕ → FileMap
map_in v = map_of (view (word v)) (word v 0) (word v 1)

-- What is demanded of an event that led from v to v'.
-- "If the call was refused, the map is the one before it; if it was not and all its stores landed, the journal is closed and the map is the
-- one after it, by document 01; if it was cut, the map is one of these two."
abbrev pub Demanded : List ℕ → List ℕ → Call → Power → Answer (List ℕ) → Type 0
Demanded v v' c p (refused n) = map_in v' ≡ map_in v
Demanded v v' c held (done l) = (is_open (word v') ≡ false) × (map_in v' ≡ map_after (word v 1) c (map_in v))
Demanded v v' c (cut g kept) (done l) = (map_in v' ≡ map_in v) ⊎ (map_in v' ≡ map_after (word v 1) c (map_in v))

-- "after each call the volume is accepted", header included, and of the same P and N
pub record Step (v v' : List ℕ) (e : Event) : Type 0 where
  pub accepted_after : is_accepted v' ≡ true
  pub same_pages : word v' 0 ≡ word v 0
  pub same_inodes : word v' 1 ≡ word v 1
  pub demanded : Demanded v v' e.call e.power (answer_to v e)

-- every event of a history that starts at v is as demanded
abbrev pub Kept : ℕ → List ℕ → History → Type 0
Kept size v [] = Unit {0}
Kept size v (e ∷ es) = Step v (volume_after size v e) e × Kept size (volume_after size v e) es

-- The claim. "For every list of create, link, unlink, rename, write, set size, clean and recover calls, refused and cut ones included, from
-- an accepted volume with its journal closed, wherever each cut falls and whichever unfenced stores it keeps". `size` is the size of the
-- pieces that land whole: the demand is `ThirdDemand 8`. A create of a folder is a create: "the cut rule and the POSIX rule, narrowed by
-- this order too, speak of that larger map" (document 02, order 6).
abbrev pub ThirdDemand : ℕ → Type 0
ThirdDemand size =
    (v : List ℕ) → Bytes v → is_accepted v ≡ true → is_open (word v) ≡ false → (es : History) → HistoryBytes es → Kept size v es
