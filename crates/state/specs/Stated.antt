-- What reading a file's state answers, and what its tables hold where the file is there.
use Rattle.std.specs.Prelude.{ℕ, ◌<◌, ◌≡◌, true, false, List, length, Result, IfOk}
use Rattle.model.specs.Words.{word}
use Rattle.model.specs.Layout.{is_directory}
use Rattle.model.specs.Journal.{is_open, view}
use Rattle.model.specs.State.{file_of}
use Rattle.model.specs.Accept.{is_valid, accepted}
use Rattle.model.specs.Answer.{done, first_refusal}
use Rattle.model.specs.Calls.{file_checks}
use Rattle.model.specs.Public.{is_volume, size_answer}
use Rattle.files.specs.State.{file_from}
use Rattle.inodes.specs.Judged.{Served}
use Rattle.answer.specs.Meaning.{meaning, numbered}
use Rattle.answer.specs.declared.Refusal.{Refusal}

-- inode k is a file of the volume v with s bytes, and the table t holds its data pages
pub record FileThere (v : List ℕ) (k s : ℕ) (t : List ℕ) : Type 0 where
  pub below : k < word v 1
  pub valid : is_valid (view (word v)) k ≡ true
  pub kind : is_directory (view (word v)) k ≡ false
  pub file : file_from s t ≡ file_of (view (word v)) (word v 0) (word v 1) k

-- r: the refusal of an inode of the accepted volume v, or its file's size
pub record FileRead (v : List ℕ) (k : ℕ) (r : Result ℕ Refusal) (t : List ℕ) : Type 0 where
  pub answer : meaning r ≡ numbered (first_refusal (file_checks (view (word v)) (word v 0) (word v 1) k)
      (done (file_of (view (word v)) (word v 0) (word v 1) k).size))
  pub there : IfOk r (λ s. FileThere v k s t)

-- v is an accepted volume with its journal closed, and inode k is a file of it with s bytes; the table t holds its data pages, and the
-- marks are those of the pages in use.
pub record FileState (v : List ℕ) (k s : ℕ) (marks t : List ℕ) : Type 0 where
  pub volume : is_volume (length v) (word v) ≡ true
  pub good : accepted (word v) (word v 0) (word v 1) ≡ true
  pub closed : is_open (word v) ≡ false
  pub below : k < word v 1
  pub valid : is_valid (view (word v)) k ≡ true
  pub kind : is_directory (view (word v)) k ≡ false
  pub file : file_from s t ≡ file_of (view (word v)) (word v 0) (word v 1) k
  pub served : Served (view (word v)) (word v 0) (word v 1) true marks

-- r: the refusal, or the file's size
pub record Stated (v : List ℕ) (k : ℕ) (r : Result ℕ Refusal) (marks t : List ℕ) : Type 0 where
  pub answer : meaning r ≡ numbered (size_answer v k)
  pub state : IfOk r (λ s. FileState v k s marks t)
