-- For the calls by name: what a call comes to, as the stages in which the code asks. Behind the last of them refusals 12 and 15 are left.
use Rattle.model.proofs.Prelude.{ℕ, ◌≡◌, refl, ◌∙◌, Bool, true, false, not, cond, ◌&&◌, ◌||◌, List, [], ◌∷◌, none, length}
use Rattle.std.specs.Prelude.{Result, Ok, Err, IsErrAnd, ⊤}
use Rattle.model.specs.Words.{Mem, word}
use Rattle.model.specs.Journal.{view}
use Rattle.model.specs.Stores.{store_list}
use Rattle.model.specs.FileMap.{Call, create, create_folder, link, unlink, rename}
use Rattle.model.specs.Answer as model
use Rattle.model.specs.Answer.{done, Checks, first_refusal, not_there}
use Rattle.model.specs.Calls.{checks, groups, action, action_checks, action_groups, space_checks, create_action, link_action, unlink_action, rename_action}
use Rattle.model.specs.Calls.{is_absent, stands, is_full, same_inode}
use Rattle.model.specs.Public.{needs_closed}
use Rattle.model.proofs.Tests.{by_bool}
use Rattle.answer.specs.Meaning.{meaning, done_meaning, numbered, plain, number_of}
use Rattle.answer.specs.Comes.{Comes, came_to}
use Rattle.answer.specs.declared.Refusal.{Refusal}
use Rattle.answer.proofs.Checked.{checks_after, passed_on, refuses_alike, passes_alike, same_refusal, none_refuses}
use Rattle.answer.proofs.Coming.{comes_refused}
use Rattle.gate.specs.Gated.{fill_checks, Gated}
use Rattle.gate.proofs.Lists.{filled_words, own_checks, fill_behind}
use Rattle.checks.specs.declared.TwoFolders.{TwoFolders}
use Rattle.checks.specs.declared.Leads.{Leads}
use Rattle.checks.specs.Names.{create_first, unlink_first, absent_in, given_first, Led, are_folders, link_last, are_same, is_onto, is_into, rename_last}

-- One stage: call c comes to y where none of the checks cs holds. They came to a refusal, which `?` passed on, ..
module _ (v l : List ℕ) (c : Call) (cs : Checks) (y : model.Answer (List ℕ)) (q : came_to v l c ≡ first_refusal cs y) where
  pub told : (x : ℕ) (e : Refusal) (r : Result ℕ Refusal) → IsErrAnd r (λ d. d ≡ e) → meaning (Err e) ≡ numbered (first_refusal cs (done x))
      → Comes (came_to v l c) l r l
  told x e r p h = rw (passed_on e r p) (comes_refused (came_to v l c) l e (q ∙ same_refusal (number_of e) cs x h y))

  pub told_plain : (e : Refusal) (r : Result ℕ Refusal) → IsErrAnd r (λ d. d ≡ e)
      → done_meaning (Err e) ≡ plain (first_refusal cs (done record {})) → Comes (came_to v l c) l r l
  told_plain e r p h =
      rw (passed_on e r p) (comes_refused (came_to v l c) l e (q ∙ refuses_alike (λ n. none) (number_of e) cs _ h y))

  -- .. or to a number, or to done
  pub passed : (x i : ℕ) → meaning (Ok i) ≡ numbered (first_refusal cs (done x)) → came_to v l c ≡ y
  passed x i h = q ∙ none_refuses cs x i h y

  pub passed_plain : (u : ⊤) → done_meaning (Ok u) ≡ plain (first_refusal cs (done record {})) → came_to v l c ≡ y
  passed_plain u h = q ∙ passes_alike (λ n. none) none cs _ h y

or_split : {A : Type 0} (a b : Bool) (r s : A) → cond (a || b) r s ≡ cond a r (cond b r s)
or_split true b r s = refl
or_split false b r s = refl

not_both : (a b : Bool) → not a || not b ≡ not (a && b)
not_both true b = refl
not_both false b = refl

-- n, places, marks and tree are what the gate answered and left
module _ (v l : List ℕ) (n : ℕ) (places marks tree : List ℕ)
    (g : Gated v (fill_checks (length v) (word v) (length l)) (Ok n) places marks tree) where
  abbrev u : Mem
  u = view (word v)

  abbrev P : ℕ
  P = word v 0

  abbrev N : ℕ
  N = word v 1

  -- what call c comes to behind its own checks, of which refusals 12 and 15 are the last
  abbrev pub filled : Call → model.Answer (List ℕ)
  filled c =
      let a = action (word v) P N c in
      first_refusal (space_checks u P N a.keeps a.appends) (done (filled_words v c))

  came_to_lem : (c : Call) → needs_closed c ≡ true → came_to v l c ≡ first_refusal (own_checks v c) (done (filled_words v c))
  came_to_lem c o = fill_behind v l c o places marks tree n g

  pub create_came : (d : ℕ) (x : List ℕ) → came_to v l (create d x) ≡ first_refusal (create_first v d x) (filled (create d x))
  unfolding checks action action_checks create_action
  create_came d x = came_to_lem (create d x) refl

  pub folder_came : (d : ℕ) (x : List ℕ) → came_to v l (create_folder d x) ≡ first_refusal (create_first v d x) (filled (create_folder d x))
  unfolding checks action action_checks create_action
  folder_came d x = came_to_lem (create_folder d x) refl

  pub unlink_came : (d : ℕ) (x : List ℕ) → came_to v l (unlink d x) ≡ first_refusal (unlink_first v d x) (filled (unlink d x))
  unfolding checks action action_checks unlink_action
  unlink_came d x = came_to_lem (unlink d x) refl

  -- f are the folders of the names a and b, which lead to k
  module _ (f : TwoFolders) (a b : List ℕ) (k : Leads) (w : Led v f a b k) where
    pub link_came : came_to v l (link f.old a f.new b)
        ≡ first_refusal (given_first v f a b) (first_refusal (link_last v f k) (filled (link f.old a f.new b)))
    unfolding checks action action_checks link_action given_first link_last absent_in are_folders is_absent stands is_full
    link_came =
        came_to_lem (link f.old a f.new b) refl
        ∙ rw (checks_after, w.old, w.new, w.count, not_both, or_split)

    same_is : same_inode u P N f.old a f.new b ≡ are_same v f k
    unfolding same_inode are_same are_folders
    same_is = rw (w.old, w.new)

    pub rename_came : came_to v l (rename f.old a f.new b)
        ≡ first_refusal (given_first v f a b) (first_refusal ((absent_in v f.old k.old, not_there) ∷ [])
        (cond (are_same v f k) (done []) (first_refusal (rename_last v f k) (filled (rename f.old a f.new b)))))
    unfolding checks action action_checks rename_action groups action_groups store_list given_first rename_last absent_in are_folders is_onto is_into is_absent stands is_full
    rename_came =
        by_bool (are_same v f k)
        (λ s. came_to_lem (rename f.old a f.new b) refl ∙ rw (same_is, s, w.old, or_split))
        (λ s. came_to_lem (rename f.old a f.new b) refl ∙ rw (same_is, s, w.old, w.new, w.count, not_both, or_split))
