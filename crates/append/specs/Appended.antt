-- What an append takes, stores and commits, and what it comes to. v is the volume, b are the marks and s the sizes.
use Rattle.std.specs.Prelude.{ℕ, ◌+◌, ◌*◌, ◌-◌, ◌/◌, ◌≤◌, ◌<◌, ◌≡◌, Bool, true, false, cond, ◌&&◌, not, List, [], ◌∷◌, ◌++◌, eqb, length}
use Rattle.model.specs.Words.{Mem, word}
use Rattle.model.specs.Layout.{valid_word, head_word, tail_word, type_word}
use Rattle.model.specs.Accept.{is_valid}
use Rattle.model.specs.Stores.{Stores, one_word, both, only_if, store_list}
use Rattle.model.specs.Answer.{Answer, done, first_refusal}
use Rattle.model.specs.Calls as calls
use Rattle.model.specs.Calls.{Change, Action, lay_pages, entries_only, action_checks, action_groups}
use Rattle.inodes.specs.Judged.{Closed}
use Rattle.layout.specs.declared.Sizes.{Sizes}
use Rattle.stores.specs.Added.{Added, element}
use Rattle.entries.specs.Table.{entries_of}
use Rattle.append.specs.declared.Append.{Append}
use Rattle.laying.specs.declared.Laid.{Laid}
use Rattle.laying.specs.Laying.{to_lay, head_behind, tail_behind}

-- the tail that the log of inode k goes on with; 0 where it is written anew
unfoldable pub old_tail : Mem → Bool → ℕ → ℕ
old_tail u anew k = cond anew 0 (u (tail_word k))

-- the head h of the log of inode k, where the log goes on and its tail t was 0
unfoldable pub head_of : Bool → ℕ → ℕ → ℕ → Stores
head_of anew k t h = only_if (not anew && eqb t 0) (one_word (head_word k) h)

-- what the first group stores beside the first log, behind tail t: its head h, and the data ds on the pages ps
unfoldable pub rest_of : Append → ℕ → ℕ → List ℕ → List ℕ → Stores
rest_of a t h ps ds = both (head_of a.anew a.log t h) (lay_pages ps (element ds))

-- what it stores of the second log, that of inode k: the entries es, laid at g, and the head
unfoldable pub second_stores : List ℕ → Sizes → Laid → ℕ → List (List ℕ) → Stores
second_stores b s g k es =
    only_if (not (eqb (length es) 0)) (both (to_lay b s g es) (head_of false k g.tail (head_behind b s g (length es))))

-- `lay_second`
pub record SecondLaid (b : List ℕ) (s : Sizes) (l : List ℕ) (g : Laid) (k : ℕ) (ws : List ℕ) (r : Laid) (m : List ℕ) : Type 0 where
  pub end : r.end ≤ g.end + 18 * (length ws / 8) + 2
  pub stores : Added l 0 g.end (second_stores b s g k (entries_of ws 0 (length ws / 8))) r.end m
  pub tail : r.tail ≡ tail_behind b s g (length ws / 8)

-- a new inode's head, tail and type
unfoldable pub zeroed : Append → Stores
zeroed a =
    only_if (not (eqb a.other 0) && not (eqb a.valid 0))
    (both (one_word (head_word a.other) 0) (both (one_word (tail_word a.other) 0) (one_word (type_word a.other) a.kind)))

-- changes as pairs of words
unfoldable pub pairs_of : List Change → List ℕ
pairs_of [] = []
pairs_of (c ∷ cs) = c.0 ∷ c.1 ∷ pairs_of cs

-- the valid word that is committed too
unfoldable pub also_committed : Append → List Change
also_committed a = cond (not (eqb a.other 0)) ((valid_word a.other, a.valid) ∷ []) []

-- all words that are committed: the first log's head h, if it is written anew, and its tail t; the second log's tail t₂; the valid word
unfoldable pub committing : Append → ℕ → ℕ → ℕ → List Change
committing a h t t₂ =
    cond a.anew ((head_word a.log, h) ∷ []) [] ++ ((tail_word a.log, t) ∷ [])
    ++ cond (not (eqb a.moved 0)) ((tail_word a.second, t₂) ∷ []) []
    ++ also_committed a

-- how many of the entries of ws go to the first log
unfoldable pub first_count : Append → List ℕ → ℕ
first_count a ws = length ws / 8 - a.moved

-- the definitions' append to the first log, with the entries of ws and the data ds
unfoldable pub asked : Append → List ℕ → List ℕ → calls.Append
asked a ws ds =
    record {
      log = a.log;
      anew = a.anew;
      entries = entries_of ws 0 (first_count a ws);
      file = a.file;
      count = length ds / 64;
      words = element ds;
      size = a.size;
    }

-- that to the second log, if entries are left for it
unfoldable pub second_asked : Append → List ℕ → List calls.Append
second_asked a ws =
    cond (not (eqb a.moved 0)) (entries_only false a.second (entries_of ws (8 * first_count a ws) a.moved) ∷ []) []

-- an action that checks nothing but room, and keeps the last free page or not
abbrev pub plain : Bool → List calls.Append → Stores → List Change → Action
plain b xs s cs = record { always = []; unchanged = false; changing = []; keeps = b; appends = xs; further = s; changes = cs }

-- all that an append does
unfoldable pub action_of : Append → List ℕ → List ℕ → Action
action_of a ws ds = plain a.keeps (asked a ws ds ∷ second_asked a ws) (zeroed a) (also_committed a)

-- what an action on the volume v comes to
unfoldable pub outcome : List ℕ → Action → Answer (List ℕ)
outcome v x =
    first_refusal (action_checks (word v) (word v 0) (word v 1) x)
    (done (store_list (64 * word v 0) (action_groups (word v) (word v 0) (word v 1) x)))

-- An append can be made: its inodes are below the inode count and those of both logs valid, the second one's also where nothing is moved;
-- its first log gets an entry or is written anew, its data are whole pages, nine at most, and the list has room.
pub record Ready (v b : List ℕ) (a : Append) (ws ds l : List ℕ) : Type 0 where
  pub volume : Closed v b
  pub log : a.log < word v 1
  pub valid : is_valid (word v) a.log ≡ true
  pub second : a.second < word v 1
  pub second_valid : is_valid (word v) a.second ≡ true
  pub other : a.other < word v 1
  pub moved : a.moved ≤ length ws / 8
  pub some_entry : a.anew ≡ false → 0 < first_count a ws + length ds / 64
  pub few : length ws < 4294967296
  pub whole : 64 * (length ds / 64) ≡ length ds
  pub nine : length ds / 64 ≤ 9
  pub file : a.file < 4294967296
  pub room : 18 * (length ws / 8 + length ds / 64) + 2 * length ds + 46 ≤ length l
