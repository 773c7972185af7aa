-- From one call to a whole history: where each call's groups are sound, every event leaves an accepted volume with the map that is
-- demanded. By induction over the events; what is kept from one to the next is that the volume is accepted, its journal open or closed, and
-- made of bytes.
use Rattle.model.proofs.Prelude.{◌≡◌, refl, sym, ◌∙◌, ap, ◌⊎◌, ⊎_elim, ⊎_map, ℕ, ◌-◌, ◌*◌, ◌^◌, ◌≤◌, ◌<◌, Bool, true, false, cond, ◌&&◌, not, List, [], ◌∷◌, arith, sub-zero, length, le-ltb, ltb-false, eq-eqb, ne_eqb}
use Rattle.model.specs.Words.{Mem, word}
use Rattle.model.specs.Layout.{sizes_ok, list_words}
use Rattle.model.specs.Stores.{Stores, store_list}
use Rattle.model.specs.Journal.{is_open, view}
use Rattle.model.specs.Accept.{free, free_count, view_ok, accepted}
use Rattle.model.specs.FileMap.{map_of, map_after, Call, create, create_folder, link, unlink, rename, write, set_size, clean, recover}
use Rattle.model.specs.Power.{Power, held, cut, leaves}
use Rattle.model.specs.Answer.{Answer, refused, done, Checks, first_refusal}
use Rattle.model.specs.Calls.{Append, Action, action_checks, action_groups, room_checks, space_checks, all_needed, create_action, link_action, unlink_action, rename_action, file_checks, write_action, size_action, clean_action, recover_action, action, checks, groups}
use Rattle.model.specs.Public.{is_volume, is_accepted, needs_closed, volume_checks, call_checks, fills}
use Rattle.model.specs.Claim.{Bytes, CallBytes, Event, History, HistoryBytes, answer_to, landing, volume_after, map_in, Demanded, Kept, ThirdDemand}
use Rattle.model.specs.Promises.{may_take_last, free_in, PageKept}
use Rattle.model.proofs.Tests.{by_bool, by_eq, ands, no}
use Rattle.model.proofs.Words.{word_lt}
use Rattle.model.proofs.Crash.Journal.{closed_view}
use Rattle.model.proofs.Crash.Landing.{left, left_header, length_leaves, leaves_bytes, leaves_left, volume_parts, volume_short}
use Rattle.model.proofs.Crash.Commit.{leads_held, leads_cut, Sound, Ready, recover_safe}

-- Refusals: what holds of every refusal, and of the answer where no condition held, holds of the whole.

abbrev pub Passed : Checks → Type 0
Passed [] = Unit {0}
Passed (t ∷ ts) = (t.0 ≡ false) × Passed ts

pub by_refusals : {A : Type 0} (S : Answer A → Type 0) → ((n : ℕ) → S (refused n))
    → (ts : Checks) (a : Answer A) → (Passed ts → S a) → S (first_refusal ts a)
by_refusals S r [] a f = f tt
by_refusals S r (t ∷ ts) a f = by_bool t.0 (λ e. rw e (r t.1)) (λ e. rw e (by_refusals S r ts a (λ p. f (e, p))))

-- the pages that an action leaves free: those that are, less those that it needs
abbrev pub free_after : Mem → ℕ → ℕ → Action → ℕ
free_after u P N a = free_count u P N - cond a.unchanged 0 (all_needed u P (free u P N) a.appends)

-- What every call provides, from an accepted memory of 64-bit words on which none of its checks holds: sound groups.
abbrev pub SafeCall : Call → Type 0
SafeCall c =
    (P N : ℕ) (m : Mem) → sizes_ok P N ≡ true → accepted m P N ≡ true → ((w : ℕ) → m w < 2 ^ 64) → CallBytes c
    → needs_closed c && is_open m ≡ false → Passed (checks m P N c)
    → Sound P N (free_after (view m) P N (action m P N c)) m (groups m P N c) (map_after N c (map_of (view m) P N))

-- The same of a call that wants a closed journal, with its action a: the memory is its own view.
abbrev pub Duty : ℕ → ℕ → Mem → Call → Action → Type 0
Duty P N m c a =
    CallBytes c → Passed (action_checks m P N a) → Sound P N (free_after m P N a) m (action_groups m P N a) (map_after N c (map_of m P N))

pub record Duties (P N : ℕ) (m : Mem) : Type 0 where
  pub create_duty : (d : ℕ) (n : List ℕ) → Duty P N m (create d n) (create_action m P N 0 d n)
  pub create_folder_duty : (d : ℕ) (n : List ℕ) → Duty P N m (create_folder d n) (create_action m P N 1 d n)
  pub link_duty : (d : ℕ) (a : List ℕ) (e : ℕ) (b : List ℕ) → Duty P N m (link d a e b) (link_action m P N d a e b)
  pub unlink_duty : (d : ℕ) (n : List ℕ) → Duty P N m (unlink d n) (unlink_action m P N d n)
  pub rename_duty : (d : ℕ) (a : List ℕ) (e : ℕ) (b : List ℕ) → Duty P N m (rename d a e b) (rename_action m P N d a e b)
  pub write_duty : (k o : ℕ) (bs : List ℕ) → Duty P N m (write k o bs) (write_action m P N k o bs)
  pub size_duty : (k s : ℕ) → Duty P N m (set_size k s) (size_action m P N k s)
  pub clean_duty : (k : ℕ) → Duty P N m (clean k) (clean_action m P N k)

module _ (Dead : ℕ → ℕ → Mem → ℕ → Type 0)
    (frame : (P N : ℕ) → sizes_ok P N ≡ true → (u u' : Mem) → view_ok u P N ≡ true → ((w : ℕ) → (u' w ≡ u w) ⊎ Dead P N u w)
    → (view_ok u' P N ≡ true) × (map_of u' P N ≡ map_of u P N) × (free_count u' P N ≡ free_count u P N))
    (page0-dead : (P N : ℕ) (u : Mem) (w : ℕ) → w < 64 → Dead P N u w)
    (duties : (P N : ℕ) (m : Mem) → Ready P N m → Duties P N m) where
  owed : (P N : ℕ) (m : Mem) → sizes_ok P N ≡ true → accepted m P N ≡ true → ((w : ℕ) → m w < 2 ^ 64) → is_open m ≡ false → Duties P N m
  owed P N m s a w o = duties P N m (record { sizes = s; ok = a; closed = o; words = w })

  pub calls_safe : (c : Call) → SafeCall c
  unfolding checks groups action map_after all_needed recover_action
  calls_safe (create d n) P N m s a w b o p = rw (closed_view m o) ((owed P N m s a w o).create_duty d n b (rw (closed_view m o) at p))
  calls_safe (create_folder d n) P N m s a w b o p =
      rw (closed_view m o) ((owed P N m s a w o).create_folder_duty d n b (rw (closed_view m o) at p))
  calls_safe (link d x e y) P N m s a w b o p = rw (closed_view m o) ((owed P N m s a w o).link_duty d x e y b (rw (closed_view m o) at p))
  calls_safe (unlink d n) P N m s a w b o p = rw (closed_view m o) ((owed P N m s a w o).unlink_duty d n b (rw (closed_view m o) at p))
  calls_safe (rename d x e y) P N m s a w b o p =
      rw (closed_view m o) ((owed P N m s a w o).rename_duty d x e y b (rw (closed_view m o) at p))
  calls_safe (write k x bs) P N m s a w b o p = rw (closed_view m o) ((owed P N m s a w o).write_duty k x bs b (rw (closed_view m o) at p))
  calls_safe (set_size k x) P N m s a w b o p = rw (closed_view m o) ((owed P N m s a w o).size_duty k x b (rw (closed_view m o) at p))
  calls_safe (clean k) P N m s a w b o p = rw (closed_view m o) ((owed P N m s a w o).clean_duty k b (rw (closed_view m o) at p))
  calls_safe recover P N m s a w b o p =
      let none : ◌≡◌ {A = ℕ} (cond (not (is_open m)) 0 0) 0 = by_bool (is_open m) (λ e. rw e) (λ e. rw e) in
      rw (none, sub-zero (free_count (view m) P N)) (recover_safe P N (Dead P N) (frame P N s) (page0-dead P N) m s a w)

-- A call that keeps the last free page leaves one, where there was one and none of its checks holds.
module _ (u : Mem) (P N : ℕ) (some-free : 1 ≤ free_count u P N) where
  room_kept : (xs : List Append) → Passed (space_checks u P N true xs) → 1 ≤ free_count u P N - all_needed u P (free u P N) xs
  unfolding space_checks room_checks
  room_kept xs p =
      let n = all_needed u P (free u P N) xs in
      let l = ltb-false (free_count u P N) n p.0 in
      by_eq n 0 (λ z. omega arith)
      (λ z. by_eq n (free_count u P N) (λ q. no (sym (rw (ne_eqb n 0 z, eq-eqb n (free_count u P N) q) at p.1.0))) (λ q. omega arith))

  maybe_kept : (b : Bool) (xs : List Append) → Passed (cond b [] (space_checks u P N true xs))
      → 1 ≤ free_count u P N - cond b 0 (all_needed u P (free u P N) xs)
  maybe_kept true xs p = omega arith
  maybe_kept false xs p = room_kept xs p

page_left : (c : Call) (m : Mem) (P N : ℕ) → may_take_last c ≡ false → 1 ≤ free_count (view m) P N → Passed (checks m P N c)
    → 1 ≤ free_after (view m) P N (action m P N c)
unfolding checks action action_checks create_action link_action write_action size_action file_checks recover_action all_needed
page_left (create d n) m P N k l p = room_kept (view m) P N l _ p.1.1.1.1.1.1
page_left (create_folder d n) m P N k l p = room_kept (view m) P N l _ p.1.1.1.1.1.1
page_left (link d a e b) m P N k l p = room_kept (view m) P N l _ p.1.1.1.1.1
page_left (unlink d n) m P N k l p = no (sym k)
page_left (rename d a e b) m P N k l p = no (sym k)
page_left (write i o bs) m P N k l p =
    let a = write_action (view m) P N i o bs in maybe_kept (view m) P N l a.unchanged a.appends p.1.1.1.1
page_left (set_size i s) m P N k l p =
    let a = size_action (view m) P N i s in maybe_kept (view m) P N l a.unchanged a.appends p.1.1.1
page_left (clean i) m P N k l p = no (sym k)
page_left recover m P N k l p = by_bool (is_open m) (λ e. rw e (omega arith)) (λ e. rw e (omega arith))

-- One event.

-- the bytes v' that an answer a to call c leaves of v, of which pieces of 8 bytes landed
record Good (v v' : List ℕ) (c : Call) (p : Power) (a : Answer (List ℕ)) : Type 0 where
  bytes : Bytes v'
  ok : is_accepted v' ≡ true
  pages : word v' 0 ≡ word v 0
  inodes : word v' 1 ≡ word v 1
  demanded : Demanded v v' c p a
  stays : may_take_last c ≡ false → 1 ≤ free_in v → 1 ≤ free_in v'

-- bytes with the length and the first words of a volume are one
accepted_after : (v v' : List ℕ) → is_volume (length v) (word v) ≡ true → length v' ≡ length v → ((k : ℕ) → k < 8 → word v' k ≡ word v k)
    → accepted (word v') (word v 0) (word v 1) ≡ true → is_accepted v' ≡ true
unfolding is_accepted is_volume
accepted_after v v' h l same a = rw (l, same 0 (omega arith), same 1 (omega arith), same 2 (omega arith), h) a

-- a call that is not refused
module _ (v : List ℕ) (is_volume_lem : is_volume (length v) (word v) ≡ true) (gs : List Stores) (c : Call)
    (F : ℕ) (s : Sound (word v 0) (word v 1) F (word v) gs (map_after (word v 1) c (map_in v))) where
  abbrev l : List ℕ
  l = store_list (64 * word v 0) gs

  words_left : (p : Power) → word (leaves 8 p v l) ≡ left gs p (word v)
  words_left p =
      leaves_left (64 * word v 0) (volume_short (length v) (word v) is_volume_lem) gs s.fits p v
      (let h = (volume_parts (length v) (word v) is_volume_lem).bytes in omega arith)

  header : (p : Power) (k : ℕ) → k < 8 → word (leaves 8 p v l) k ≡ word v k
  header p k h = ap (λ (m : Mem). m k) (words_left p) ∙ left_header (64 * word v 0) gs s.fits p (word v) k h

  accepted_left : (p : Power) → accepted (left gs p (word v)) (word v 0) (word v 1) ≡ true
  unfolding left
  accepted_left held = (leads_held (word v 0) (word v 1) F _ _ (word v) gs s.leads).1.ok
  accepted_left (cut g kept) =
      ⊎_elim (λ z. z.ok) (λ z. z.ok) (leads_cut (word v 0) (word v 1) F _ _ (word v) gs s.leads g kept)

  map_left : (p : Power) → map_in (leaves 8 p v l) ≡ map_of (view (left gs p (word v))) (word v 0) (word v 1)
  unfolding map_in
  map_left p = rw (header p 0 (omega arith), header p 1 (omega arith), words_left p)

  demanded_left : (p : Power) → Demanded v (leaves 8 p v l) c p (done l)
  unfolding left map_in
  demanded_left held =
      let z = leads_held (word v 0) (word v 1) F _ _ (word v) gs s.leads in (rw (words_left held) z.0, map_left held ∙ z.1.is)
  demanded_left (cut g kept) =
      ⊎_map (λ z. map_left (cut g kept) ∙ z.is) (λ z. map_left (cut g kept) ∙ z.is)
      (leads_cut (word v 0) (word v 1) F _ _ (word v) gs s.leads g kept)

  free_left : (p : Power) → F ≤ free_in (leaves 8 p v l)
  unfolding left
  free_left p = rw (header p 0 (omega arith), header p 1 (omega arith), words_left p) (go p)
    where
      go : (p : Power) → F ≤ free_count (view (left gs p (word v))) (word v 0) (word v 1)
      go held = (leads_held (word v 0) (word v 1) F _ _ (word v) gs s.leads).1.free
      go (cut g kept) = ⊎_elim (λ z. z.free) (λ z. z.free) (leads_cut (word v 0) (word v 1) F _ _ (word v) gs s.leads g kept)

  good_done : (p : Power) → Bytes v → (may_take_last c ≡ false → 1 ≤ free_in v → 1 ≤ F) → Good v (leaves 8 p v l) c p (done l)
  good_done p b kept =
      record {
        bytes = leaves_bytes 8 p v l b;
        ok = accepted_after v (leaves 8 p v l) is_volume_lem (length_leaves 8 p v l) (header p) (rw (words_left p) (accepted_left p));
        pages = header p 0 (omega arith);
        inodes = header p 1 (omega arith);
        demanded = demanded_left p;
        stays = λ k l. let f = free_left p in omega (arith, kept k l);
      }

-- every call is safe
module _ (safe : (c : Call) → SafeCall c) where
  good : (v : List ℕ) → Bytes v → is_accepted v ≡ true → (e : Event) → CallBytes e.call
      → Good v (landing 8 e.power v (answer_to v e)) e.call e.power (answer_to v e)
  unfolding answer_to fills call_checks volume_checks is_accepted map_in
  good v b a e n =
      let m = word v in
      let is_volume_lem : is_volume (length v) m ≡ true = search ands in
      let acc : accepted m (m 0) (m 1) ≡ true = search ands in
      let sizes = (volume_parts (length v) m is_volume_lem).sizes in
      by_refusals (λ (r : Answer (List ℕ)). Good v (landing 8 e.power v r) e.call e.power r)
      (λ k. record { bytes = b; ok = a; pages = refl; inodes = refl; demanded = refl; stays = λ t l. l })
      (call_checks (length v) m e.list e.call) (done (store_list (64 * m 0) (groups m (m 0) (m 1) e.call)))
      (λ p. good_done v is_volume_lem (groups m (m 0) (m 1) e.call) e.call _
      (safe e.call (m 0) (m 1) m sizes acc (λ w. word_lt v w b) n p.1.1.1.0 p.1.1.1.1) e.power b
      (λ k l. page_left e.call m (m 0) (m 1) k l p.1.1.1.1))

  pub history_kept : (v : List ℕ) → Bytes v → is_accepted v ≡ true → (es : History) → HistoryBytes es → Kept 8 v es
  unfolding volume_after
  history_kept v b a [] n = tt
  history_kept v b a (e ∷ es) n =
      let g = good v b a e n.0 in (
        record { accepted_after = g.ok; same_pages = g.pages; same_inodes = g.inodes; demanded = g.demanded },
        history_kept (volume_after 8 v e) g.bytes g.ok es n.1,
      )

  pub page_kept : PageKept
  unfolding volume_after
  page_kept v b a [] n = tt
  page_kept v b a (e ∷ es) n = let g = good v b a e n.0 in (g.stays, page_kept (volume_after 8 v e) g.bytes g.ok es n.1)

  pub third_demand : ThirdDemand 8
  third_demand v b a o es n = history_kept v b a es n

-- Recover has no check of its own, so that on an accepted volume it is done, whatever the journal.
pub recover_passes : {A : Type 0} (m : Mem) (P N : ℕ) (x : Answer A) → first_refusal (checks m P N recover) x ≡ x
unfolding checks action action_checks recover_action room_checks space_checks all_needed
recover_passes m P N x = by_bool (is_open m) (λ e. rw (e, le-ltb (free_count (view m) P N) 0 (omega arith))) (λ e. rw e)

pub recover_done : (v : List ℕ) (n : ℕ) → is_accepted v ≡ true → list_words ≤ n
    → fills (length v) (word v) n recover ≡ done (store_list (64 * word v 0) (groups (word v) (word v 0) (word v 1) recover))
unfolding is_accepted fills call_checks volume_checks
recover_done v n a h =
    let is_volume_lem : is_volume (length v) (word v) ≡ true = search ands in
    let acc : accepted (word v) (word v 0) (word v 1) ≡ true = search ands in
    rw (le-ltb n list_words h, is_volume_lem, acc) (recover_passes (word v) (word v 0) (word v 1) _)
