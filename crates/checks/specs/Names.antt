-- What the calls by name ask before 12, on the volume v: d is the folder of name n, f are the folders of two names, and k says where these
-- lead. Where a call asks in two stages, the checks of the second are said of k.
use Rattle.std.specs.Prelude.{ℕ, ◌<◌, ◌≡◌, Bool, not, ◌&&◌, ◌||◌, cond, List, [], ◌∷◌, leb, eqb, length}
use Rattle.model.specs.Lists.{or_else}
use Rattle.model.specs.Words.{Mem, word}
use Rattle.model.specs.Layout.{is_directory, most_names}
use Rattle.model.specs.Journal.{view}
use Rattle.model.specs.Entry.{name_ok, new_name_ok}
use Rattle.model.specs.Tree.{is_beneath}
use Rattle.model.specs.Answer.{Answer, Nothing, done, Checks, first_refusal, bad_name, not_there, taken, directory_full, wrong_type, into_itself}
use Rattle.model.specs.Calls.{none_there, leads_to, is_absent, invalid_inode, create_action, unlink_action}
use Rattle.names.specs.Listed.{names_in}
use Rattle.checks.specs.declared.TwoFolders.{TwoFolders}
use Rattle.checks.specs.declared.Leads.{Leads}

module _ (v : List ℕ) where
  abbrev u : Mem
  u = view (word v)

  abbrev P : ℕ
  P = word v 0

  abbrev N : ℕ
  N = word v 1

  -- the inode that name n leads to in folder d; the one that a new file or folder gets
  abbrev pub leads_in : ℕ → List ℕ → ℕ
  leads_in d n = leads_to u P N d n

  abbrev pub new_inode : ℕ
  new_inode = or_else (invalid_inode u P N) 0

  -- one name
  unfoldable pub find_first : ℕ → List ℕ → Checks
  find_first d n =
      (not (name_ok n), bad_name) ∷ (none_there u P N d || is_absent u P N d n, not_there) ∷ (not (is_directory u d), wrong_type) ∷ []

  abbrev pub create_first : ℕ → List ℕ → Checks
  create_first d n = (create_action u P N 0 d n).always

  abbrev pub unlink_first : ℕ → List ℕ → Checks
  unlink_first d n = (unlink_action u P N d n).always

  -- whether an inode to which a name of inode d leads, 0 where it does not stand there, makes the name count as absent
  unfoldable pub absent_in : ℕ → ℕ → Bool
  absent_in d i = is_directory u d && not (not (eqb i 0))

  -- whether inode i is a folder that has names
  unfoldable pub has_names_in : ℕ → Bool
  has_names_in i = not (eqb (length (names_in v i)) 0)

  -- two names, first stage
  unfoldable pub given_first : TwoFolders → List ℕ → List ℕ → Checks
  given_first f a b = (not (name_ok a && new_name_ok b), bad_name) ∷ (none_there u P N f.old || none_there u P N f.new, not_there) ∷ []

  abbrev pub given_comes : TwoFolders → List ℕ → List ℕ → Answer Nothing
  given_comes f a b = first_refusal (given_first f a b) (done record {})

  -- where the names a and b lead
  pub record Led (f : TwoFolders) (a b : List ℕ) (k : Leads) : Type 0 where
    pub old : k.old ≡ leads_in f.old a
    pub new : k.new ≡ leads_in f.new b
    pub count : k.count ≡ length (names_in v f.new)

  -- all these are inodes of the volume
  pub record Inodes (f : TwoFolders) (k : Leads) : Type 0 where
    pub old_folder : f.old < N
    pub new_folder : f.new < N
    pub old : k.old < N
    pub new : k.new < N

  -- second stage
  unfoldable pub are_folders : TwoFolders → Bool
  are_folders f = is_directory u f.old && is_directory u f.new

  unfoldable pub link_last : TwoFolders → Leads → Checks
  link_last f k =
      (absent_in f.old k.old, not_there) ∷ (not (eqb k.new 0), taken) ∷ (not (are_folders f) || is_directory u k.old, wrong_type)
      ∷ (leb most_names k.count, directory_full) ∷ []

  unfoldable pub are_same : TwoFolders → Leads → Bool
  are_same f k = are_folders f && eqb k.old k.new

  unfoldable pub is_onto : Leads → Bool
  is_onto k = not (eqb k.new 0) && (is_directory u k.old || is_directory u k.new)

  unfoldable pub is_into : TwoFolders → Leads → Bool
  is_into f k = is_directory u k.old && is_beneath N (names_in v) k.old f.new

  unfoldable pub rename_last : TwoFolders → Leads → Checks
  rename_last f k =
      (not (are_folders f) || is_onto k, wrong_type) ∷ (is_into f k, into_itself)
      ∷ (not (eqb f.old f.new) && not (not (eqb k.new 0)) && leb most_names k.count, directory_full) ∷ []

  -- "Names leading to one inode still change nothing, before the new checks": 0 then, and else the inode that the old name leads to
  unfoldable pub rename_comes : TwoFolders → Leads → Answer ℕ
  rename_comes f k =
      first_refusal ((absent_in f.old k.old, not_there) ∷ [])
      (cond (are_same f k) (done 0) (first_refusal (rename_last f k) (done k.old)))
