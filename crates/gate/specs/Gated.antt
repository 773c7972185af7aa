-- What the checks that calls ask first come to, and what the tables hold where none of them refuses.
use Rattle.std.specs.Prelude.{ℕ, ◌≡◌, true, List, ◌∷◌, ltb, length, Result, IfOk}
use Rattle.model.specs.Words.{Mem, word}
use Rattle.model.specs.Layout.{root, list_words}
use Rattle.model.specs.Journal.{view}
use Rattle.model.specs.State.{Names}
use Rattle.model.specs.Accept.{accepted}
use Rattle.model.specs.Answer.{done, Checks, first_refusal, short_memory}
use Rattle.model.specs.Public.{is_volume, closed_checks}
use Rattle.names.specs.Listed.{names_in, Lists}
use Rattle.inodes.specs.Judged.{Served}
use Rattle.survey.specs.Surveyed.{TreeOf}
use Rattle.answer.specs.Meaning.{meaning, numbered}
use Rattle.answer.specs.declared.Refusal.{Refusal}

-- the names of inode 0 of the volume v
abbrev pub root_names : List ℕ → Names
root_names v = names_in v root

-- 1 to 4 of a call that fills a store list of l words: every such call but recover
unfoldable pub fill_checks : ℕ → Mem → ℕ → Checks
fill_checks len m l = (ltb l list_words, short_memory) ∷ closed_checks len m

-- v is an accepted volume whose inode 0 has n names; the first places are those of these names, the marks those of its pages in use, and
-- the tree is that of its folders.
pub record Tables (v : List ℕ) (n : ℕ) (places marks tree : List ℕ) : Type 0 where
  pub volume : is_volume (length v) (word v) ≡ true
  pub good : accepted (word v) (word v 0) (word v 1) ≡ true
  pub lists : Lists v root n places
  pub served : Served (view (word v)) (word v 0) (word v 1) true marks
  pub settled : TreeOf (word v) tree

-- r: the number of the first check that holds, or the count of names of inode 0 where none does
pub record Gated (v : List ℕ) (checks : Checks) (r : Result ℕ Refusal) (places marks tree : List ℕ) : Type 0 where
  pub answer : meaning r ≡ numbered (first_refusal checks (done (length (root_names v))))
  pub tables : IfOk r (λ n. Tables v n places marks tree)
