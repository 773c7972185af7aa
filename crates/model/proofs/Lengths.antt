-- How long the store lists are: the words that a group stores stand in a list, and the group's text has two words for each of them at most.
use Rattle.model.proofs.Prelude.{◌≡◌, refl, ℕ, zero, suc, ◌+◌, ◌-◌, ◌*◌, ◌/◌, ◌%◌, ◌≤◌, ◌<◌, Bool, true, false, cond, ◌&&◌, List, [], ◌∷◌, ◌++◌, Option, none, some, arith, length, get_or, length-append, length-map, leb, ltb, eqb, not, not-false, leb-false, lt-ltb, leb-true, ltb-true, ltb-false, eq-eqb, ne_eqb, le-leb, lt-leb}
use Rattle.model.specs.Lists.{bit, values_from, has, index_of, or_else}
use Rattle.model.specs.Words.{Mem}
use Rattle.model.specs.Layout.{head_word, tail_word, type_word, is_directory, footer, list_words}
use Rattle.model.specs.Journal.{dequeue_word, enqueue_word, target_word, old_word, next_position, positions, open_count, open_positions, open_targets, is_open, view, journal_ok}
use Rattle.model.specs.Log.{tail_slots}
use Rattle.model.specs.Entry.{add_words, remove_words}
use Rattle.model.specs.State.{file_of, names_of}
use Rattle.model.specs.Tree.{name_count}
use Rattle.model.specs.Accept.{is_valid, folders_of, free, view_ok, accepted}
use Rattle.model.specs.FileMap.{Call, create, create_folder, link, unlink, rename, write, set_size, clean, recover}
use Rattle.model.specs.Stores.{Stores, one_word, no_words, both, only_if, listed, store_list}
use Rattle.model.specs.Calls.{lay_entries, lay_pages, tail_after, pages_for, tail_pages, Change, commit_one, journal_pairs, targets, commit_together, commit, stretch_entries, Append, entries_only, data_pages, appended, fresh_pages, fresh_log, pages_left, prepared, all_prepared, all_changes, action_checks, action_groups, none_there, leads_to, stands, release, invalid_inode, create_action, link_action, unlink_action, same_inode, rename_appends, rename_action, file_checks, write_append, write_action, cuts_page, size_append, size_action, clean_names, clean_entries, clean_action, old_values, recover_action, action, checks, groups}
use Rattle.model.specs.Promises.{most_words}
use Rattle.model.proofs.Tests.{by_bool, by_eq, by_lt, ands, or_false, cond_some, bit_le}
use Rattle.model.proofs.Lists.{length_values, has_left, has_right, values_has, get_or_index, has_head, few_length}
use Rattle.model.proofs.State.FoldersOk.{folders_fine}
use Rattle.model.proofs.State.Stretches.{stretches_length}
use Rattle.model.proofs.State.Clean.{clean_file_length}
use Rattle.model.proofs.Crash.Stores.{Only, only_none, only_word, only_both}
use Rattle.model.proofs.Crash.Journal.{journal_parts, targets_of, targets_in}
use Rattle.model.proofs.Crash.History.{Passed}
use Rattle.model.proofs.Calls.DataPages.{pages_few}
use Rattle.model.proofs.Calls.Room.{free_bounds, left_may}
use Rattle.model.proofs.Calls.Stored.{fresh_on, prepared_on, changes_on}
use Rattle.model.proofs.Calls.Actions.{both_none, one_prepared, one_changes, two_prepared, two_changes, only_entries, fresh_anew, anew_prepared, anew_changes}

-- The text of a group.

-- how many members of a list are w or more
above : ℕ → List ℕ → ℕ
above w [] = 0
above w (x ∷ xs) = bit (leb w x) + above w xs

above_all : (w : ℕ) (xs : List ℕ) → above w xs ≤ length xs
unfolding above
above_all w [] = omega arith
above_all w (x ∷ xs) = let b = bit_le (leb w x) in let r = above_all w xs in omega arith

above_next : (w : ℕ) (xs : List ℕ) → above (w + 1) xs + bit (has w xs) ≤ above w xs
unfolding above has bit
above_next w [] = omega arith
above_next w (x ∷ xs) =
    let r = above_next w xs in
    by_eq w x (λ e. rw (has, eq-eqb w x e, lt-leb (w + 1) x (omega arith), le-leb w x (omega arith)) (omega arith))
    (λ e. rw (has, ne_eqb w x e) (by_lt w x (λ l. rw (le-leb (w + 1) x (omega arith), le-leb w x (omega arith)) (omega arith))
    (λ l. rw (lt-leb (w + 1) x (omega arith)) (omega arith))))

listed_short : (s : Stores) (ws : List ℕ) → Only (λ w. has w ws ≡ true) s → (n w : ℕ) → length (listed s n w) ≤ 2 * above w ws
unfolding listed bit
listed_short s ws only zero w = omega arith
listed_short s ws only (suc n) w = go (s w) refl (listed_short s ws only n (w + 1)) (above_next w ws)
  where
    go : (o : Option ℕ) → s w ≡ o → length (listed s n (w + 1)) ≤ 2 * above (w + 1) ws → above (w + 1) ws + bit (has w ws) ≤ above w ws
        → length (listed s (suc n) w) ≤ 2 * above w ws
    go none e r a = rw (listed, e) (omega arith)
    go (some x) e r a = let b = rw (only w x e) at a in rw (listed, e) (omega arith)

-- A group stores at most n words: they stand in a list of that length.
record AtMost (s : Stores) (n : ℕ) : Type 0 where
  words : List ℕ
  number : length words ≤ n
  only : Only (λ w. has w words ≡ true) s

most_less : {s : Stores} {a b : ℕ} → AtMost s a → a ≤ b → AtMost s b
most_less m l = record { words = m.words; number = omega (arith, m.number); only = m.only }

most_none : AtMost (λ w. none) 0
most_none = record { words = []; number = omega arith; only = only_none (λ w x. has w [] ≡ true) }

most_word : (i x : ℕ) → AtMost (one_word i x) 1
most_word i x = record { words = i ∷ []; number = omega arith; only = only_word (λ w x. has w (i ∷ []) ≡ true) i x (has_head i []) }

most_both : {s t : Stores} {a b : ℕ} → AtMost s a → AtMost t b → AtMost (both s t) (a + b)
most_both {s} {t} p q =
    record {
      words = p.words ++ q.words;
      number = rw length-append (omega (arith, p.number, q.number));
      only = only_both {s = s} {t = t} (λ w x e. has_left w p.words q.words (p.only w x e))
          (λ w x e. has_right w p.words q.words (q.only w x e));
    }

most_if : (b : Bool) {s : Stores} {n : ℕ} → AtMost s n → AtMost (only_if b s) (cond b n 0)
unfolding only_if
most_if true m = m
most_if false m = most_none

-- a commit's pairs and its targets
most_pairs : (u : Mem) (i : ℕ) (cs : List Change) → AtMost (journal_pairs u i cs) (2 * length cs)
unfolding journal_pairs both
most_pairs u i [] = most_none
most_pairs u i (c ∷ cs) =
    most_less
    (most_both (most_word (target_word i) c.0) (most_both (most_word (old_word i) (u c.0)) (most_pairs u (next_position i) cs)))
    (omega arith)

most_targets : (cs : List Change) → AtMost (targets cs) (length cs)
most_targets cs = record { words = targets_of cs; number = rw length-map (omega arith); only = targets_in cs }

-- the old values of the open entries
length_positions : (n i : ℕ) → length (positions n i) ≡ n
unfolding positions
length_positions zero i = refl
length_positions (suc n) i = rw (length_positions n (next_position i))

most_old : (m : Mem) → AtMost (old_values m) (open_count m)
unfolding old_values open_targets open_positions
most_old m =
    record {
      words = open_targets m;
      number = rw (length-map, length_positions) (omega arith);
      only = λ w x e. (cond_some (has w (open_targets m)) (some (view m w)) x e).0;
    }

-- Entries laid into pages: eight words each, and a link in every page but the last.
module _ (ps : List ℕ) (i : ℕ) (es : List (List ℕ)) where
  -- word t of the 56 words for entries that each page has; the link of page j
  entry_word : ℕ → ℕ
  entry_word t = 64 * get_or ps (t / 56) 0 + t % 56

  link_word : ℕ → ℕ
  link_word j = footer (get_or ps j 0)

  abbrev entry_words : List ℕ
  entry_words = values_from entry_word (8 * i) (8 * length es)

  abbrev link_words : List ℕ
  link_words = values_from link_word 0 (length ps - 1)

  laid_in : Only (λ w. has w (entry_words ++ link_words) ≡ true) (lay_entries ps i es)
  unfolding lay_entries entry_word link_word
  laid_in w x e =
      let j = index_of (w / 64) ps in
      let o = w % 64 in
      let s = 7 * j + o / 8 in
      let c = cond_some (ltb j (length ps)) _ x e in
      let p : get_or ps j 0 ≡ w / 64 = get_or_index (w / 64) ps (ltb-true j (length ps) c.0) in
      by_eq o 56
      (λ h.
      let l = ltb-true (j + 1) (length ps) (cond_some (ltb (j + 1) (length ps)) _ x (rw (eq-eqb o 56 h) at c.1)).0 in
      let q : link_word j ≡ w = omega arith in
      has_right w entry_words link_words (rw q at (values_has link_word 0 (length ps - 1) j (omega arith) (omega arith))))
      (λ h.
      let b = (cond_some (ltb o 56 && leb i s && ltb s (i + length es)) _ x (rw (ne_eqb o 56 h) at c.1)).0 in
      let l : o < 56 = ltb-true o 56 (search ands) in
      let f : i ≤ s = leb-true i s (search ands) in
      let g : s < i + length es = ltb-true s (i + length es) (search ands) in
      let d : (56 * j + o) / 56 ≡ j = omega arith in
      let r : (56 * j + o) % 56 ≡ o = omega arith in
      let q : entry_word (56 * j + o) ≡ w = rw (d, r) (omega arith) in
      has_left w entry_words link_words (rw q at (values_has entry_word (8 * i) (8 * length es) (56 * j + o) (omega arith) (omega arith))))

  most_laid : AtMost (lay_entries ps i es) (8 * length es + (length ps - 1))
  most_laid =
      record {
        words = entry_words ++ link_words;
        number = rw (length-append, length_values entry_word _ _, length_values link_word _ _) (omega arith);
        only = laid_in;
      }

-- data laid into pages
most_pages : (ps : List ℕ) (f : ℕ → ℕ) → AtMost (lay_pages ps f) (64 * length ps)
unfolding lay_pages
most_pages ps f =
    let at : ℕ → ℕ = λ j. 64 * get_or ps (j / 64) 0 + j % 64 in
    record {
      words = values_from at 0 (64 * length ps);
      number = rw length_values (omega arith);
      only = λ w x e.
          let i = index_of (w / 64) ps in
          let l = ltb-true i (length ps) (cond_some (ltb i (length ps)) (some (f (64 * i + w % 64))) x e).0 in
          let g = get_or_index (w / 64) ps l in
          let j = 64 * i + w % 64 in
          let c : j / 64 ≡ i = omega arith in
          let d : j % 64 ≡ w % 64 = omega arith in
          let q : at j ≡ w = rw (c, d, g) (omega arith) in
          rw q at (values_has at 0 (64 * length ps) j (omega arith) (omega arith));
    }

-- An append that takes pages of which f holds. Its data has an entry for each page at most.
module _ (u : Mem) (P : ℕ) (f : ℕ → Bool) (bound : (p : ℕ) → f p ≡ true → p < P) (a : Append) where
  data_length : length (data_pages u P f a) ≤ a.count
  unfolding data_pages
  data_length = pages_few f P bound a.count

  few_entries : length (appended u P f a) ≤ length a.entries + a.count
  unfolding appended stretch_entries
  few_entries =
      let l = stretches_length (λ i. get_or (data_pages u P f a) (i - a.file) 0) a.count a.file in
      rw (length-append, length-map) (omega arith)

  fresh_short : length (fresh_log u P f a) ≤ fresh_pages u P f a
  unfolding fresh_log
  fresh_short = few_length _ P 0 (fresh_pages u P f a)

  -- one that goes on: the data, the entries, and links or the head, one and another for every seven entries
  module _ (on : a.anew ≡ false) where
    abbrev k : ℕ
    k = a.log

    link_or_head : length (tail_pages u k ++ fresh_log u P f a) - 1 + cond (eqb (u (tail_word k)) 0) 1 0 ≤ length (appended u P f a) / 7 + 1
    unfolding tail_pages
    link_or_head =
        let l = rw (fresh_on u P f a on) at fresh_short in
        by_eq (u (tail_word k)) 0 (λ e. let g = rw (eq-eqb _ _ e) at l in rw (eq-eqb _ _ e) (omega arith))
        (λ e. let g = rw (ne_eqb _ _ e) at l in rw (ne_eqb _ _ e) (omega arith))

    most_prepared : AtMost (prepared u P f a) (64 * a.count + 8 * length (appended u P f a) + (length (appended u P f a) / 7 + 1))
    most_prepared =
        let l = link_or_head in
        let d = data_length in
        rw (prepared_on u P f a on)
        (most_less (most_both (most_laid (tail_pages u k ++ fresh_log u P f a) (tail_slots u k) (appended u P f a))
        (most_both (most_if (eqb (u (tail_word k)) 0) (most_word (head_word k) (get_or (fresh_log u P f a) 0 0)))
        (most_pages (data_pages u P f a) a.words))) (omega arith))

-- Lists of groups, for a volume of W words.
module _ (W : ℕ) where
  -- a group and its fence
  list_step : {s : Stores} {n : ℕ} → AtMost s n → (ss : List Stores) → length (store_list W (s ∷ ss)) ≤ 2 * n + 2 + length (store_list W ss)
  unfolding store_list
  list_step {s} m ss =
      let t = listed_short s m.words m.only W 0 in
      let a = above_all 0 m.words in
      let n = m.number in rw length-append (omega arith)

  one_short : {s : Stores} {n : ℕ} → AtMost s n → (c : Change) → length (store_list W (commit_one s c)) ≤ 2 * n + 6
  unfolding commit_one store_list
  one_short m c =
      let a = list_step m (one_word c.0 c.1 ∷ []) in
      let b = list_step (most_word c.0 c.1) [] in omega arith

  together_short : {s : Stores} {n : ℕ} (u : Mem) → AtMost s n → (cs : List Change)
      → length (store_list W (commit_together u s cs)) ≤ 2 * n + 6 * length cs + 12
  unfolding commit_together store_list
  together_short u m cs =
      let e = (u enqueue_word + length cs) % 16 in
      let a = list_step (most_both m (most_pairs u (u enqueue_word) cs)) (one_word enqueue_word e ∷ targets cs ∷ one_word dequeue_word e ∷ []) in
      let b = list_step (most_word enqueue_word e) (targets cs ∷ one_word dequeue_word e ∷ []) in
      let c = list_step (most_targets cs) (one_word dequeue_word e ∷ []) in
      let d = list_step (most_word dequeue_word e) [] in omega arith

  commit_short : {s : Stores} {n : ℕ} (u : Mem) → AtMost s n → (c : Change) (cs : List Change) → length cs ≤ 1
      → length (store_list W (commit u s (c ∷ cs))) ≤ 2 * n + 24
  unfolding commit
  commit_short u m c [] l = let r = one_short m c in omega arith
  commit_short u m c (d ∷ cs) l = let r = together_short u m (c ∷ d ∷ cs) in omega arith

  -- several words are committed through the journal
  several_short : {s : Stores} {n : ℕ} (u : Mem) → AtMost s n → (c d : Change) (cs : List Change) → length cs ≤ 1
      → length (store_list W (commit u s (c ∷ d ∷ cs))) ≤ 2 * n + 30
  unfolding commit
  several_short u m c d cs l = let r = together_short u m (c ∷ d ∷ cs) in omega arith

  -- An append that goes on, with n words in the first group: committed by its tail alone, or with another word.
  module _ (u : Mem) (P N : ℕ) (a : Append) (on : a.anew ≡ false) where
    abbrev list_of : Stores → List Change → List ℕ
    list_of t cs = store_list W (commit u (both (all_prepared u P (free u P N) (a ∷ [])) t) (all_changes u P (free u P N) (a ∷ []) ++ cs))

    append_short : (n : ℕ) (t : Stores) → AtMost (both (prepared u P (free u P N) a) t) n → (cs : List Change) → length cs ≤ 1
        → length (list_of t cs) ≤ 2 * n + 24
    append_short n t m cs l =
        rw (one_prepared u P (free u P N) a, one_changes u P (free u P N) a, changes_on u P (free u P N) a on) (commit_short u m _ cs l)

    alone_short : (n : ℕ) → AtMost (prepared u P (free u P N) a) n → length (list_of no_words []) ≤ 2 * n + 6
    unfolding commit
    alone_short n m =
        rw (
          one_prepared u P (free u P N) a,
          both_none (prepared u P (free u P N) a),
          one_changes u P (free u P N) a,
          changes_on u P (free u P N) a on,
        ) (one_short m _)

  -- Two appends that go on, with n words in the first group: the tails are committed through the journal, with another word or without.
  module _ (u : Mem) (P N : ℕ) (a b : Append) (on-a : a.anew ≡ false) (on-b : b.anew ≡ false) where
    two_short : (n : ℕ) → AtMost (both (prepared u P (free u P N) a) (prepared u P (pages_left u P (free u P N) a) b)) n → (cs : List Change)
        → length cs ≤ 1
        → length (store_list W
        (commit u (both (all_prepared u P (free u P N) (a ∷ b ∷ [])) no_words) (all_changes u P (free u P N) (a ∷ b ∷ []) ++ cs))) ≤ 2 * n + 30
    two_short n m cs l =
        rw (
          two_prepared u P (free u P N) a b on-a on-b,
          both_none (both (prepared u P (free u P N) a) (prepared u P (pages_left u P (free u P N) a) b)),
          two_changes u P (free u P N) a b on-a on-b,
        )
        (several_short u m _ _ cs l)

  -- Each call, in any memory u.
  module _ (u : Mem) (P N : ℕ) where
    bound : (p : ℕ) → free u P N p ≡ true → p < P
    bound p h = (free_bounds u P N p h).1

    -- Names, in folder d.

    most_entries_in : (f : ℕ → Bool) → ((p : ℕ) → f p ≡ true → p < P) → (d : ℕ) (es : List (List ℕ)) → length es ≤ 6
        → AtMost (prepared u P f (entries_only false d es)) (8 * length es + 1)
    unfolding entries_only
    most_entries_in f b d es l =
        let e = only_entries u P f false d es in
        most_less (most_prepared u P f b (entries_only false d es) refl) (rw e (omega arith))

    most_entries : (d : ℕ) (es : List (List ℕ)) → length es ≤ 6
        → AtMost (prepared u P (free u P N) (entries_only false d es)) (8 * length es + 1)
    most_entries d es l = most_entries_in (free u P N) bound d es l

    release_short : (d : ℕ) (n : List ℕ) → length (release u P N d n) ≤ 1
    unfolding release
    release_short d n =
        by_bool (stands u P N d n && eqb (name_count N (folders_of u P N) (leads_to u P N d n)) 1) (λ e. rw e (omega arith))
        (λ e. rw e (omega arith))

    create_short : (t d : ℕ) (n : List ℕ) → length (store_list W (action_groups u P N (create_action u P N t d n))) ≤ 48
    unfolding action_groups create_action entries_only
    create_short t d n =
        let i = or_else (invalid_inode u P N) 0 in
        append_short u P N _ refl 12 _ (most_both (most_entries d _ (omega arith))
        (most_both (most_word (head_word i) 0) (most_both (most_word (tail_word i) 0) (most_word (type_word i) t)))) _ (omega arith)

    link_short : (d : ℕ) (a : List ℕ) (e : ℕ) (b : List ℕ) → length (store_list W (action_groups u P N (link_action u P N d a e b))) ≤ 24
    unfolding action_groups link_action entries_only
    link_short d a e b = alone_short u P N _ refl 9 (most_entries e _ (omega arith))

    most_alone : (d : ℕ) (es : List (List ℕ)) → length es ≤ 6
        → AtMost (both (prepared u P (free u P N) (entries_only false d es)) no_words) (8 * length es + 1)
    most_alone d es l = rw (both_none (prepared u P (free u P N) (entries_only false d es))) (most_entries d es l)

    unlink_short : (d : ℕ) (n : List ℕ) → length (store_list W (action_groups u P N (unlink_action u P N d n))) ≤ 42
    unfolding action_groups unlink_action entries_only
    unlink_short d n = append_short u P N _ refl 9 no_words (most_alone d _ (omega arith)) _ (release_short d n)

    goes_on : (k : ℕ) (es : List (List ℕ)) → (entries_only false k es).anew ≡ false
    unfolding entries_only
    goes_on k es = refl

    rename_short : (d : ℕ) (a : List ℕ) (e : ℕ) (b : List ℕ)
        → length (store_list W (action_groups u P N (rename_action u P N d a e b))) ≤ cond (eqb d e) 58 66
    unfolding action_groups rename_action rename_appends store_list
    rename_short d a e b =
        let add = add_words (leads_to u P N d a) b in
        by_bool (same_inode u P N d a e b) (λ t. rw t (by_bool (eqb d e) (λ q. rw q (omega arith)) (λ q. rw q (omega arith))))
        (λ t. rw t (by_bool (eqb d e)
        (λ q. rw q (append_short u P N (entries_only false d (remove_words a ∷ add ∷ [])) (goes_on d (remove_words a ∷ add ∷ [])) 17 no_words
        (most_alone d (remove_words a ∷ add ∷ []) (omega arith)) (release u P N e b) (release_short e b)))
        (λ q. rw q
        (two_short u P N (entries_only false d (remove_words a ∷ [])) (entries_only false e (add ∷ [])) (goes_on d (remove_words a ∷ []))
        (goes_on e (add ∷ [])) 18
        (most_both (most_entries d (remove_words a ∷ []) (omega arith))
        (most_entries_in (pages_left u P (free u P N) (entries_only false d (remove_words a ∷ [])))
        (λ p h. bound p (left_may u P N (free u P N) (entries_only false d (remove_words a ∷ [])) p h).0) e (add ∷ []) (omega arith)))
        (release u P N e b) (release_short e b)))))

    -- Files.

    write_short : (k o : ℕ) (bs : List ℕ) → length bs ≤ 4096 → length (store_list W (action_groups u P N (write_action u P N k o bs))) ≤ 1306
    unfolding action_groups write_action write_append store_list
    write_short k o bs l =
        let a = write_append u P N k o bs in
        let e = few_entries u P (free u P N) bound a in
        let r = alone_short u P N a refl 650 (most_less (most_prepared u P (free u P N) bound a refl) (omega arith)) in
        by_eq (length bs) 0 (λ e. rw (eq-eqb _ _ e) (omega arith)) (λ e. rw (ne_eqb _ _ e) (omega arith))

    size_short : (k s : ℕ) → length (store_list W (action_groups u P N (size_action u P N k s))) ≤ 168
    unfolding action_groups size_action size_append store_list
    size_short k s =
        let a = size_append u P N k s in
        let e = few_entries u P (free u P N) bound a in
        let b = bit_le (cuts_page u P N k s) in
        let r = alone_short u P N a refl 81 (most_less (most_prepared u P (free u P N) bound a refl) (omega arith)) in
        by_bool (eqb s (file_of u P N k).size) (λ e. rw e (omega arith)) (λ e. rw e (omega arith))

    -- Clean.

    -- n entries, a link in each of their pages but the last, head and tail through the journal
    clean_list : (k n : ℕ) → length (clean_entries u P N k) ≤ n
        → length (store_list W (action_groups u P N (clean_action u P N k))) ≤ 2 * (8 * n + (pages_for n - 1)) + 24
    unfolding action_groups clean_action store_list commit
    clean_list k n l =
        let es = clean_entries u P N k in
        let a = entries_only true k es in
        let ls = fresh_log u P (free u P N) a in
        let s = rw (fresh_anew u P (free u P N) k es) at (fresh_short u P (free u P N) bound a) in
        let r = together_short u (most_laid ls 0 es) ((head_word k, get_or ls 0 0) ∷ (tail_word k, tail_after ls 0 (length es)) ∷ []) in
        by_bool (eqb (u (tail_word k)) 0) (λ e. rw e (omega arith))
        (λ e. rw (e, anew_prepared u P (free u P N) k es, anew_changes u P (free u P N) k es) (omega arith))

    folder_short : (k : ℕ) → view_ok u P N ≡ true → k < N → is_valid u k ≡ true → is_directory u k ≡ true → length (names_of u P N k) ≤ 224
    unfolding folders_of
    folder_short k ok l v c = rw (lt-ltb k N l, v, c) at ((folders_fine u P N ok).short k)

    clean_short : (k : ℕ) → view_ok u P N ≡ true → none_there u P N k ≡ false
        → length (store_list W (action_groups u P N (clean_action u P N k))) ≤ 3670
    unfolding none_there clean_entries clean_names
    clean_short k ok e =
        let o = or_false (leb N k) (not (is_valid u k)) e in
        by_bool (is_directory u k)
        (λ c. clean_list k 224 (rw (c, length-map) (folder_short k ok (leb-false N k o.0) (not-false _ o.1) c)))
        (λ c. let r = clean_list k 128 (rw c (clean_file_length (file_of u P N k))) in omega arith)

  recover_short : (u m : Mem) (P N : ℕ) → journal_ok m N ≡ true → length (store_list W (action_groups u P N (recover_action m))) ≤ 14
  unfolding action_groups recover_action all_prepared all_changes commit commit_one both store_list
  recover_short u m P N ok =
      let f = (journal_parts m N ok).few in
      let a = list_step (most_old m) (one_word dequeue_word (m enqueue_word) ∷ []) in
      let b = list_step (most_word dequeue_word (m enqueue_word)) [] in
      by_bool (is_open m) (λ e. rw e (omega arith)) (λ e. rw e (omega arith))

-- All calls.

-- the most words that a call fills
pub list_most : (c : Call) (P N W : ℕ) (m : Mem) → accepted m P N ≡ true → Passed (checks m P N c)
    → length (store_list W (groups m P N c)) ≤ most_words c
unfolding groups checks action action_checks write_action file_checks clean_action accepted
list_most (create d n) P N W m a p = create_short W (view m) P N 0 d n
list_most (create_folder d n) P N W m a p = create_short W (view m) P N 1 d n
list_most (link d x e y) P N W m a p = link_short W (view m) P N d x e y
list_most (unlink d n) P N W m a p = unlink_short W (view m) P N d n
list_most (rename d x e y) P N W m a p = rename_short W (view m) P N d x e y
list_most (write k o bs) P N W m a p = write_short W (view m) P N k o bs (ltb-false 4096 (length bs) p.1.1.0)
list_most (set_size k s) P N W m a p = size_short W (view m) P N k s
list_most (clean k) P N W m a p = clean_short W (view m) P N k (search ands) p.0
list_most recover P N W m a p = recover_short W (view m) m P N (search ands)

pub most_fits : (c : Call) → most_words c ≤ list_words
most_fits (create d n) = omega arith
most_fits (create_folder d n) = omega arith
most_fits (link d a e b) = omega arith
most_fits (unlink d n) = omega arith
most_fits (rename d a e b) = by_bool (eqb d e) (λ q. rw q (omega arith)) (λ q. rw q (omega arith))
most_fits (write k o bs) = omega arith
most_fits (set_size k s) = omega arith
most_fits (clean k) = omega arith
most_fits recover = omega arith
