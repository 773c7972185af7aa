-- What follows from the third demand: finished calls are kept, a cut leaves one of two maps, and a recovery run through keeps the map. Each
-- by induction over the events, from the claim's step.
use Rattle.model.proofs.Prelude.{◌≡◌, refl, sym, ◌∙◌, ◌⊎◌, inl, inr, ⊎_elim, ⊎_map, ℕ, Bool, true, List, [], ◌∷◌, arith}
use Rattle.model.specs.Words.{word}
use Rattle.model.specs.FileMap.{FileMap, map_after, Call, recover}
use Rattle.model.specs.Power.{Power, held, cut}
use Rattle.model.specs.Answer.{Answer, refused, done}
use Rattle.model.specs.Public.{is_accepted}
use Rattle.model.specs.Claim.{Bytes, CallBytes, Event, History, answer_to, landing, volume_after, map_in, Demanded, Step, Kept}
use Rattle.model.specs.Promises.{ByOutcome, Explained, FinishedKept, left_by, AtMostTwo, recover_with, recoveries, RunThrough}
use Rattle.model.proofs.Crash.Landing.{leaves_bytes}
use Rattle.model.proofs.Crash.History.{history_kept, recover_done}
use Rattle.model.proofs.ThirdDemand.{every_call_safe}

-- One event.

pub step : (v : List ℕ) → Bytes v → is_accepted v ≡ true → (e : Event) → CallBytes e.call → Step v (volume_after 8 v e) e
step v b a e n = (history_kept every_call_safe v b a (e ∷ []) (n, tt)).0

pub bytes_after : (v : List ℕ) → Bytes v → (e : Event) → Bytes (volume_after 8 v e)
unfolding volume_after
bytes_after v b e = go (answer_to v e)
  where
    go : (a : Answer (List ℕ)) → Bytes (landing 8 e.power v a)
    go (refused n) = b
    go (done l) = leaves_bytes 8 e.power v l b

-- what holds of the map before a call and of the map after it holds of the map that is left
pub either : (Q : FileMap → Type 0) (v v' : List ℕ) (c : Call) (p : Power) (r : Answer (List ℕ)) → Demanded v v' c p r
    → Q (map_in v) → Q (map_after (word v 1) c (map_in v)) → Q (map_in v')
either Q v v' c p (refused n) d f g = rw d f
either Q v v' c held (done l) d f g = rw d.1 g
either Q v v' c (cut h kept) (done l) d f g = ⊎_elim (λ q. rw q f) (λ q. rw q g) d

-- Finished calls are kept.

outcome : (v v' : List ℕ) (c : Call) (p : Power) (a : Answer (List ℕ)) (A B : Type 0) → Demanded v v' c p a
    → (map_in v' ≡ map_in v → A) → (map_in v' ≡ map_after (word v 1) c (map_in v) → B) → ByOutcome a p A B
outcome v v' c p (refused n) A B d f g = f d
outcome v v' c held (done l) A B d f g = g d.1
outcome v v' c (cut h kept) (done l) A B d f g = ⊎_map f g d

explained : (es : History) (v : List ℕ) (M : FileMap) → map_in v ≡ M → Kept 8 v es → Explained v M es
explained [] v M e k = e
explained (x ∷ es) v M e k =
    outcome v (volume_after 8 v x) x.call x.power (answer_to v x) _ _ k.0.demanded
    (λ h. explained es (volume_after 8 v x) M (h ∙ e) k.1)
    (λ h. explained es (volume_after 8 v x) (map_after (word v 1) x.call M) (h ∙ rw e) k.1)

pub finished_kept : FinishedKept
finished_kept v b a es n = explained es v (map_in v) refl (history_kept every_call_safe v b a es n)

-- A cut leaves one of two maps.

two_of_three : {A : Type 0} (a b x y z : A) → (x ≡ a) ⊎ (x ≡ b) → (y ≡ a) ⊎ (y ≡ b) → (z ≡ a) ⊎ (z ≡ b) → (x ≡ y) ⊎ ((x ≡ z) ⊎ (y ≡ z))
two_of_three a b x y z (inl p) (inl q) r = inl (p ∙ sym q)
two_of_three a b x y z (inr p) (inr q) r = inl (p ∙ sym q)
two_of_three a b x y z (inl p) (inr q) (inl r) = inr (inl (p ∙ sym r))
two_of_three a b x y z (inl p) (inr q) (inr r) = inr (inr (q ∙ sym r))
two_of_three a b x y z (inr p) (inl q) (inl r) = inr (inr (q ∙ sym r))
two_of_three a b x y z (inr p) (inl q) (inr r) = inr (inl (p ∙ sym r))

cut_leaves : (v : List ℕ) → Bytes v → is_accepted v ≡ true → (c : Call) → CallBytes c → (l g : ℕ) (kept : ℕ → Bool)
    → (left_by v c l g kept ≡ map_in v) ⊎ (left_by v c l g kept ≡ map_after (word v 1) c (map_in v))
cut_leaves v b a c n l g kept = go (answer_to v e) (step v b a e n).demanded
  where
    e : Event
    e = record { call = c; list = l; power = cut g kept }

    go : (r : Answer (List ℕ)) → Demanded v (volume_after 8 v (record { call = c; list = l; power = cut g kept })) c (cut g kept) r
        → (left_by v c l g kept ≡ map_in v) ⊎ (left_by v c l g kept ≡ map_after (word v 1) c (map_in v))
    go (refused k) d = inl d
    go (done l) d = d

pub at_most_two : AtMostTwo
at_most_two v b a c n l g₁ g₂ g₃ k₁ k₂ k₃ =
    two_of_three _ _ _ _ _ (cut_leaves v b a c n l g₁ k₁) (cut_leaves v b a c n l g₂ k₂) (cut_leaves v b a c n l g₃ k₃)

-- A recovery run through.

recover_keeps : (v : List ℕ) → Bytes v → is_accepted v ≡ true → (l : ℕ) (p : Power) → map_in (volume_after 8 v (recover_with l p)) ≡ map_in v
unfolding map_after
recover_keeps v b a l p =
    let e = recover_with l p in
    either (λ M. M ≡ map_in v) v (volume_after 8 v e) recover p (answer_to v e) (step v b a e tt).demanded refl refl

-- what recoveries leave, however they were cut
record Before (v w : List ℕ) : Type 0 where
  bytes : Bytes w
  ok : is_accepted w ≡ true
  same : map_in w ≡ map_in v

recovered_before : (rs : List (ℕ × Power)) (v w : List ℕ) → Before v w → Before v (recoveries rs w)
recovered_before [] v w b = b
recovered_before (r ∷ rs) v w b =
    let e = recover_with r.0 r.1 in
    recovered_before rs v (volume_after 8 w e) (record {
      bytes = bytes_after w b.bytes e;
      ok = (step w b.bytes b.ok e tt).accepted_after;
      same = recover_keeps w b.bytes b.ok r.0 r.1 ∙ b.same;
    })

pub run_through : RunThrough
unfolding answer_to
run_through v b a rs l h =
    let w = recoveries rs v in
    let s = recovered_before rs v v (record { bytes = b; ok = a; same = refl }) in
    let e = recover_with l held in
    let d = recover_done w l s.ok h in
    let t = step w s.bytes s.ok e tt in
    record {
      ends_done = λ n q. let z : ◌≡◌ {A = ℕ} 0 1 = cc in omega arith;
      accepted_after = t.accepted_after;
      is_closed = (rw d at t.demanded).0;
      same_map = recover_keeps w s.bytes s.ok l held ∙ s.same;
    }
