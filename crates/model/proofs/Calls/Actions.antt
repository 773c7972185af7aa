-- An action with one append or two: what it checks, stores and commits is that of the appends, and the action's own.
use Rattle.model.proofs.Prelude.{◌≡◌, refl, fun_ext, ℕ, ◌-◌, Bool, true, false, List, [], ◌∷◌, ◌++◌, append-nil, Option, none, some, ◌≤◌, arith, add-zero, zero-add, length, get_or, ltb-false}
use Rattle.model.specs.Words.{Mem}
use Rattle.model.specs.Layout.{head_word, tail_word}
use Rattle.model.specs.Lists.{values_from, lowest_few, index_of}
use Rattle.model.specs.Stretches.{stretches}
use Rattle.model.specs.Accept.{free, free_count}
use Rattle.model.specs.FileMap.{FileMap}
use Rattle.model.specs.Stores.{Stores, no_words, both, only_if}
use Rattle.model.specs.Calls.{Change, Append, lay_entries, lay_pages, tail_after, pages_for, commit, entries_only, stretch_entries, lowest_run, run_or, lowest_pages, data_pages, appended, old_pages, old_slots, fresh_pages, fresh_log, pages_needed, pages_left, prepared, new_tail, own_changes, all_needed, all_prepared, all_changes, room_checks, space_checks}
use Rattle.model.proofs.Lists.{few_none}
use Rattle.model.proofs.Frame.Dead.{low, frame}
use Rattle.model.proofs.Crash.Stores.{first_none}
use Rattle.model.proofs.Crash.Commit.{Ready, Owed, Sound, commit_safe}
use Rattle.model.proofs.Crash.History.{Passed}
use Rattle.model.proofs.Calls.Room.{HasRoom}
use Rattle.model.proofs.Calls.Grown.{free_behind, DeadIn}
use Rattle.model.proofs.Calls.Stored.{changes_on}

pub both_none : (s : Stores) → both s no_words ≡ s
unfolding both
both_none s = fun_ext (λ w. first_none (s w))

module _ (u : Mem) (P : ℕ) (f : ℕ → Bool) (a : Append) where
  pub one_needed : all_needed u P f (a ∷ []) ≡ pages_needed u P f a
  unfolding all_needed
  one_needed = add-zero (pages_needed u P f a)

  pub one_prepared : all_prepared u P f (a ∷ []) ≡ prepared u P f a
  unfolding all_prepared
  one_prepared = both_none (prepared u P f a)

  pub one_changes : all_changes u P f (a ∷ []) ≡ own_changes u P f a
  unfolding all_changes
  one_changes = append-nil (own_changes u P f a)

-- two appends
module _ (u : Mem) (P : ℕ) (f : ℕ → Bool) (a b : Append) (on-a : a.anew ≡ false) (on-b : b.anew ≡ false) where
  pub two_prepared : all_prepared u P f (a ∷ b ∷ []) ≡ both (prepared u P f a) (prepared u P (pages_left u P f a) b)
  unfolding all_prepared
  two_prepared = rw (both_none (prepared u P (pages_left u P f a) b))

  pub two_changes : all_changes u P f (a ∷ b ∷ []) ≡ new_tail u P f a ∷ new_tail u P (pages_left u P f a) b ∷ []
  unfolding all_changes
  two_changes = rw (changes_on u P f a on-a, changes_on u P (pages_left u P f a) b on-b)

-- its pages are there where the checks for room do not hold
pub room_passed : (u : Mem) (P N : ℕ) (b : Bool) (a : Append) → Passed (space_checks u P N b (a ∷ [])) → HasRoom u P N a
unfolding space_checks room_checks
room_passed u P N b a p =
    let l = ltb-false (free_count u P N) (all_needed u P (free u P N) (a ∷ [])) p.0 in rw (one_needed u P (free u P N) a) at l

-- entries and no data
run_none : (f : ℕ → Bool) (P : ℕ) (o : Option ℕ) → run_or 0 o (lowest_few f P 0 0) ≡ []
unfolding values_from
run_none f P none = few_none f P 0
run_none f P (some p) = refl

pub no_data : (u : Mem) (P : ℕ) (f : ℕ → Bool) (b : Bool) (k : ℕ) (es : List (List ℕ)) → data_pages u P f (entries_only b k es) ≡ []
unfolding data_pages lowest_pages entries_only
no_data u P f b k es = run_none f P (lowest_run f P 0)

pub only_entries : (u : Mem) (P : ℕ) (f : ℕ → Bool) (b : Bool) (k : ℕ) (es : List (List ℕ)) → appended u P f (entries_only b k es) ≡ es
unfolding appended entries_only stretches stretch_entries
only_entries u P f b k es = append-nil es

-- A log written anew: its entries stand from the first slot of fresh pages on, and head and tail commit it.
module _ (u : Mem) (P : ℕ) (f : ℕ → Bool) (k : ℕ) (es : List (List ℕ)) where
  abbrev a : Append
  a = entries_only true k es

  abbrev ls : List ℕ
  ls = fresh_log u P f a

  pub fresh_anew : fresh_pages u P f a ≡ pages_for (length es)
  unfolding fresh_pages old_pages old_slots entries_only
  fresh_anew = rw (only_entries u P f true k es) (omega arith)

  pub anew_needed : all_needed u P f (a ∷ []) ≡ pages_for (length es)
  unfolding pages_needed entries_only
  anew_needed = rw (one_needed u P f a, fresh_anew) (zero-add (pages_for (length es)))

  own_prepared : prepared u P f a ≡ lay_entries ls 0 es
  unfolding prepared lay_pages old_pages old_slots entries_only both only_if index_of
  own_prepared = rw (no_data u P f true k es, only_entries u P f true k es) (fun_ext (λ i. first_none (lay_entries ls 0 es i)))

  own_changes_lem : own_changes u P f a ≡ (head_word k, get_or ls 0 0) ∷ (tail_word k, tail_after ls 0 (length es)) ∷ []
  unfolding own_changes new_tail old_pages old_slots entries_only
  own_changes_lem = rw (only_entries u P f true k es)

  pub anew_prepared : both (all_prepared u P f (a ∷ [])) no_words ≡ lay_entries ls 0 es
  anew_prepared = rw (one_prepared u P f a, both_none (prepared u P f a)) own_prepared

  pub anew_changes : all_changes u P f (a ∷ []) ++ [] ≡ (head_word k, get_or ls 0 0) ∷ (tail_word k, tail_after ls 0 (length es)) ∷ []
  anew_changes = rw (append-nil (all_changes u P f (a ∷ [])), one_changes u P f a) own_changes_lem

-- what is owed is enough
module _ (P N : ℕ) (m : Mem) (r : Ready P N m) where
  pub owed_sound : (F : ℕ) (s : Stores) (c : Change) (cs : List Change) (M : FileMap) → Owed P N F (DeadIn P N) m s (c ∷ cs) M
      → Sound P N F m (commit m s (c ∷ cs)) M
  owed_sound F = commit_safe P N (DeadIn P N) (frame P N r.sizes) (λ u w h. low h) F m r

  -- an append to a log that goes on, with further stores t and further changes cs
  module _ (a : Append) (on : a.anew ≡ false) (cs : List Change) (M : FileMap) where
    -- the pages that the action leaves free
    abbrev F : ℕ
    F = free_count m P N - all_needed m P (free m P N) (a ∷ [])

    pub append_sound : (t : Stores) → Owed P N (free_behind m P N a) (DeadIn P N) m (both (prepared m P (free m P N) a) t)
        (new_tail m P (free m P N) a ∷ cs) M
        → Sound P N F m (commit m (both (all_prepared m P (free m P N) (a ∷ [])) t) (all_changes m P (free m P N) (a ∷ []) ++ cs)) M
    append_sound t o =
        rw (
          one_needed m P (free m P N) a,
          one_prepared m P (free m P N) a,
          one_changes m P (free m P N) a,
          changes_on m P (free m P N) a on,
        )
        (owed_sound (free_behind m P N a) _ _ cs M o)

    pub plain_sound : Owed P N (free_behind m P N a) (DeadIn P N) m (prepared m P (free m P N) a) (new_tail m P (free m P N) a ∷ cs) M
        → Sound P N F m (commit m (both (all_prepared m P (free m P N) (a ∷ [])) no_words) (all_changes m P (free m P N) (a ∷ []) ++ cs)) M
    plain_sound o = append_sound no_words (rw (both_none (prepared m P (free m P N) a)) o)

  -- two appends
  pub two_sound : (a b : Append) → a.anew ≡ false → b.anew ≡ false → (cs : List Change) (M : FileMap)
      → Owed P N (free_count m P N - all_needed m P (free m P N) (a ∷ b ∷ [])) (DeadIn P N) m
      (both (prepared m P (free m P N) a) (prepared m P (pages_left m P (free m P N) a) b))
      (new_tail m P (free m P N) a ∷ new_tail m P (pages_left m P (free m P N) a) b ∷ cs) M
      → Sound P N (free_count m P N - all_needed m P (free m P N) (a ∷ b ∷ [])) m
      (commit m (both (all_prepared m P (free m P N) (a ∷ b ∷ [])) no_words) (all_changes m P (free m P N) (a ∷ b ∷ []) ++ cs)) M
  two_sound a b on-a on-b cs M o =
      rw (
        two_prepared m P (free m P N) a b on-a on-b,
        both_none (both (prepared m P (free m P N) a) (prepared m P (pages_left m P (free m P N) a) b)),
        two_changes m P (free m P N) a b on-a on-b,
      )
      (owed_sound _ _ _ _ M o)

-- the pages of all appends are there where the checks for room do not hold
pub all_passed : (u : Mem) (P N : ℕ) (b : Bool) (xs : List Append) → Passed (space_checks u P N b xs)
    → all_needed u P (free u P N) xs ≤ free_count u P N
unfolding space_checks room_checks
all_passed u P N b xs p = ltb-false (free_count u P N) (all_needed u P (free u P N) xs) p.0
