-- What the functions that judge and mark answer, r, and the marks b that they leave of the marks a. u is the view of a volume.
use Rattle.std.specs.Prelude.{ℕ, ◌+◌, ◌*◌, ◌/◌, ◌≤◌, ◌<◌, ◌≡◌, Bool, true, false, cond, not, ◌&&◌, ◌||◌, List, ◌++◌, eqb, length, get_or, replicate}
use Rattle.model.specs.Lists.{bit, is_some, all_below, sum_below}
use Rattle.model.specs.Words.{Mem, word}
use Rattle.model.specs.Layout.{root, is_directory, file_pages}
use Rattle.model.specs.Journal.{is_open, view}
use Rattle.model.specs.Log.{log_pages, pages}
use Rattle.model.specs.State.{file_of}
use Rattle.model.specs.Accept.{is_valid, valid_ok, type_ok, log_ok, end_ok, inode_ok, serves_once, accepted}
use Rattle.model.specs.Public.{is_volume}
use Rattle.tree.specs.Noted.{noted_state}
use Rattle.files.specs.State.{file_from}
use Rattle.marks.specs.Marks.{fresh, marked, unmarked, mapped_by, mapped, used_by, used_below, Judged}

-- the end of a file with size s and table t, of which only the data pages of file pages that start below the size are marked; m are the
-- volume's words
abbrev pub EndJudged : Mem → ℕ → List ℕ → List ℕ → Bool → List ℕ → Type 0
EndJudged m s t a r b = Judged (end_ok m (file_from s t)) a (mapped t 0 ((s + 511) / 512)) r b

-- the log pages and the data pages of file k
abbrev pub pages_of_file : Mem → ℕ → ℕ → ℕ → List ℕ
pages_of_file u P N k = pages u P N k ++ mapped_by (file_of u P N k).page 0 file_pages

-- file k, which is valid
abbrev pub FileJudged : Mem → ℕ → ℕ → ℕ → List ℕ → Bool → List ℕ → Type 0
FileJudged u P N k a r b = Judged (log_ok u P N k && end_ok u (file_of u P N k)) a (pages_of_file u P N k) r b

-- marks of which none is set
abbrev pub no_marks : List ℕ
no_marks = replicate 4096 0

-- the directory's inode, of whose log only the walk is judged, on marks of which none was set
abbrev pub RootJudged : Mem → ℕ → ℕ → Bool → List ℕ → Type 0
RootJudged u P N r b = Judged (is_valid u root && is_some (log_pages u P N root)) no_marks (pages u P N root) r b

-- What is asked of inode k before the names are read: of a folder only that the walk of its log ends.
unfoldable pub shape_ok : Mem → ℕ → ℕ → ℕ → Bool
shape_ok u P N k =
    valid_ok u k
    && (not (is_valid u k)
    || (type_ok u k && cond (is_directory u k) (is_some (log_pages u P N k)) (log_ok u P N k && end_ok u (file_of u P N k))))

-- A judgement that answers a state r: 7 where it is no, and s where it is yes.
pub record StateJudged (ok : Bool) (a ps : List ℕ) (s r : ℕ) (b : List ℕ) : Type 0 where
  pub judged : Judged ok a ps (not (eqb r 7)) b
  pub state : (r ≡ 7 → ⊥) → r ≡ s
  pub low : r ≤ 7

-- the state of inode k before a name is noted
abbrev pub first_state : Mem → ℕ → ℕ
first_state u k = noted_state (is_valid u k) (is_directory u k) 0

-- inode k
abbrev pub InodeJudged : Mem → ℕ → ℕ → ℕ → List ℕ → ℕ → List ℕ → Type 0
InodeJudged u P N k a r b = StateJudged (shape_ok u P N k) a (used_by u P N k) (first_state u k) r b

-- the inodes below k are good, their names apart, and b are the marks of their pages, each marked once
pub record Below (u : Mem) (P N k : ℕ) (b : List ℕ) : Type 0 where
  pub good : all_below k (shape_ok u P N) ≡ true
  pub once : fresh no_marks (used_below u P N k) ≡ true
  pub list : b ≡ marked no_marks (used_below u P N k)

-- t has the states of the inodes below k, before a name is noted
pub record States (u : Mem) (k : ℕ) (t : List ℕ) : Type 0 where
  pub first : get_or t 0 0 ≡ 256 * 6
  pub element : (i : ℕ) → 0 < i → i < k → get_or t i 0 ≡ 256 * first_state u i
  pub long : length t ≡ 256

-- all inodes, on marks of which none was set
abbrev pub AllJudged : Mem → ℕ → ℕ → Bool → List ℕ → Type 0
AllJudged u P N r b = Judged (all_below N (shape_ok u P N)) no_marks (used_below u P N N) r b

-- the answer of `judge_inodes`
pub record Inspected (u : Mem) (P N : ℕ) (r : Bool) (b t : List ℕ) : Type 0 where
  pub judged : AllJudged u P N r b
  pub states : r ≡ true → States u N t

-- The answer of the whole: every inode is good and no page serves twice. Where the answer is yes, the marks are those of
-- all pages that serve.
pub record Served (u : Mem) (P N : ℕ) (r : Bool) (b : List ℕ) : Type 0 where
  pub answer : r ≡ all_below N (inode_ok u P N) && all_below P (serves_once u P N)
  pub list : r ≡ true → b ≡ marked no_marks (used_below u P N N)

-- how many log and data pages are not marked in b
unfoldable pub unmarked_count : List ℕ → ℕ → ℕ → ℕ
unmarked_count b P N = sum_below P (λ p. bit (unmarked b P N p))

-- v is an accepted volume whose journal is closed, and b are the marks of its pages in use
pub record Closed (v b : List ℕ) : Type 0 where
  pub volume : is_volume (length v) (word v) ≡ true
  pub good : accepted (word v) (word v 0) (word v 1) ≡ true
  pub closed : is_open (word v) ≡ false
  pub served : Served (view (word v)) (word v 0) (word v 1) true b
