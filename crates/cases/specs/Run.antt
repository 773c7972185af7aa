-- Running a table: the volume that each row leaves, and whether the row's answer and facts are as expected.
-- The run is the same whatever a volume is held as: bytes here, words where it is computed (proofs/Held.antt).
use Rattle.std.specs.Prelude.{ℕ, ◌*◌, ◌≡◌, Bool, true, false, cond, ◌&&◌, List, [], ◌∷◌, length, replicate, eqb}
use Rattle.model.specs.Lists.{has, all, same_list, values_from}
use Rattle.model.specs.Words.{Mem, word}
use Rattle.model.specs.Layout.{list_words}
use Rattle.model.specs.Journal.{view}
use Rattle.model.specs.Log.{pages}
use Rattle.model.specs.State.{file_of, names_of}
use Rattle.model.specs.FileMap.{Call}
use Rattle.model.specs.Power.{Power, held, cut, leaves}
use Rattle.model.specs.Answer.{Answer, refused, done, map_answer}
use Rattle.model.specs.Public.{format, fills, size, read, total, count_free}
use Rattle.model.specs.Listing.{listing_of}
use Rattle.cases.specs.Table as Table
use Rattle.cases.specs.Table.{Step, formats, calls, cuts, stores, Expected, is_done, refuses, Fact, word_is, free_is, names_are, size_is}
use Rattle.cases.specs.Table.{total_is, data_is, log_is, bytes_are, prints, Row, table, folder_table}

-- How volumes are held: as a Volume.
pub record Holding (Volume : Type 0) : Type 0 where
  -- blank memory of n pages
  pub blank : ℕ → Volume
  -- the length in bytes, and the words
  pub len : Volume → ℕ
  pub mem : Volume → Mem
  -- format with sizes P and N, and the volume after a store list
  pub format : Volume → ℕ → ℕ → Answer Volume
  pub after : Power → Volume → List ℕ → Volume

-- Volumes as document 01 has them: bytes, of which each aligned 8 land whole. Blank memory may hold any bytes; here each is 255.
-- Of any bytes, format is promised by the model (specs/Promises.antt, FormatDone).
unfoldable pub as_bytes : Holding (List ℕ)
as_bytes =
    record {
      blank = λ n. replicate (512 * n) 255;
      len = length;
      mem = word;
      format = format;
      after = leaves 8;
    }

-- the words that a call fills, the volume that format leaves; none where it was refused
abbrev pub words_of : Answer (List ℕ) → List ℕ
words_of (refused n) = []
words_of (done l) = l

abbrev pub or_volume : {Volume : Type 0} → Volume → Answer Volume → Volume
or_volume v (refused n) = v
or_volume v (done w) = w

abbrev pub answer_is : Answer (List ℕ) → Expected → Bool
answer_is (refused n) is_done = false
answer_is (refused n) (Table.fills w) = false
answer_is (refused n) (refuses k) = eqb n k
answer_is (done l) is_done = true
answer_is (done l) (Table.fills w) = eqb (length l) w
answer_is (done l) (refuses k) = false

abbrev pub number_is : Answer ℕ → ℕ → Bool
number_is (refused n) x = false
number_is (done n) x = eqb n x

-- whether a fact holds of the volume of `len` bytes with the words m
unfoldable pub fact_holds : ℕ → Mem → Fact → Bool
fact_holds len m (word_is i x) = eqb (m i) x
fact_holds len m (free_is n) = number_is (count_free len m) n
fact_holds len m (names_are d n) = eqb (length (names_of (view m) (m 0) (m 1) d)) n
fact_holds len m (size_is k n) = number_is (size len m k) n
fact_holds len m (total_is d n) = number_is (total len m d) n
fact_holds len m (data_is k ps) = same_list (values_from (file_of (view m) (m 0) (m 1) k).page 0 (length ps)) ps
fact_holds len m (log_is k ps) = same_list (pages (view m) (m 0) (m 1) k) ps
fact_holds len m (bytes_are k o bs) = same_list (words_of (read len m k o (length bs))) bs
fact_holds len m (prints t) = same_list (listing_of len m) t

module _ {Volume : Type 0} (H : Holding Volume) where
  -- the volume that row i of the rows so far left
  unfoldable pub volume_of : List Volume → ℕ → Volume
  volume_of [] i = H.blank 0
  volume_of (v ∷ vs) i = cond (eqb i (length vs)) v (volume_of vs i)

  -- the words that call c fills on volume v, with a list of 4,096 words
  unfoldable pub filling : Volume → Call → Answer (List ℕ)
  filling v c = fills (H.len v) (H.mem v) list_words c

  -- a row's answer, and the volume that it leaves; vs are the volumes that the rows before it left, the latest first
  unfoldable pub answer : List Volume → Step → Answer (List ℕ)
  answer vs (formats P N) = map_answer (λ v. []) (H.format (H.blank P) P N)
  answer vs (calls i c) = filling (volume_of vs i) c
  answer vs (cuts i c g kept) = filling (volume_of vs i) c
  answer vs (stores i l) = done l

  unfoldable pub left_by : List Volume → Step → Answer (List ℕ) → Volume
  left_by vs (formats P N) a = or_volume (H.blank P) (H.format (H.blank P) P N)
  left_by vs (calls i c) a = H.after held (volume_of vs i) (words_of a)
  left_by vs (cuts i c g kept) a = H.after (cut g (λ w. has w kept)) (volume_of vs i) (words_of a)
  left_by vs (stores i l) a = H.after held (volume_of vs i) (words_of a)

  -- whether every row is as expected
  unfoldable pub all_hold : List Row → List Volume → Bool
  all_hold [] vs = true
  all_hold (r ∷ rs) vs =
      let a = answer vs r.step in
      let v = left_by vs r.step a in
      let rest = all_hold rs (v ∷ vs) in
      cond (answer_is a r.answer && all (fact_holds (H.len v) (H.mem v)) r.facts) rest false

-- The claim: cases A to K and M come out, every number of them, from the definition of format on, and the rows of folders.
abbrev pub Cases : Type 0
Cases = (all_hold as_bytes table [] ≡ true) × (all_hold as_bytes folder_table [] ≡ true)
