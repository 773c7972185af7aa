-- Two holdings that are alike run every table alike: what a row answers and leaves depends on a volume's length and words alone.
use Rattle.model.proofs.Prelude.{ℕ, ◌≡◌, refl, List, [], ◌∷◌, length, eqb}
use Rattle.model.specs.Lists.{has}
use Rattle.model.specs.Power.{Power, held, cut}
use Rattle.model.specs.Answer.{Answer, refused, done, map_answer}
use Rattle.model.proofs.Tests.{by_bool}
use Rattle.cases.specs.Table.{Step, formats, calls, cuts, stores, Row}
use Rattle.cases.specs.Run.{Holding, words_of, or_volume, volume_of, filling, answer, left_by, all_hold}

module _ {X Y : Type 0} (H : Holding X) (K : Holding Y) (Same : X → Y → Type 0) where
  -- the same refusal, or volumes that are the same
  abbrev pub SameAnswer : Answer X → Answer Y → Type 0
  SameAnswer (refused n) (refused k) = n ≡ k
  SameAnswer (refused n) (done y) = ⊥
  SameAnswer (done x) (refused k) = ⊥
  SameAnswer (done x) (done y) = Same x y

  pub record Alike : Type 0 where
    pub len : (x : X) (y : Y) → Same x y → H.len x ≡ K.len y
    pub mem : (x : X) (y : Y) → Same x y → H.mem x ≡ K.mem y
    pub blank : (n : ℕ) → Same (H.blank n) (K.blank n)
    pub format : (x : X) (y : Y) (P N : ℕ) → Same x y → SameAnswer (H.format x P N) (K.format y P N)
    pub after : (p : Power) (x : X) (y : Y) (l : List ℕ) → Same x y → Same (H.after p x l) (K.after p y l)

  data AllSame : List X → List Y → Type 0 where
    nil : AllSame [] []
    cons : {x : X} {y : Y} {xs : List X} {ys : List Y} → Same x y → AllSame xs ys → AllSame (x ∷ xs) (y ∷ ys)

  lengths : {xs : List X} {ys : List Y} → AllSame xs ys → length xs ≡ length ys
  lengths nil = refl
  lengths (cons s r) = rw (lengths r)

  module _ (a : Alike) where
    volumes : {xs : List X} {ys : List Y} → AllSame xs ys → (i : ℕ) → Same (volume_of H xs i) (volume_of K ys i)
    unfolding volume_of
    volumes nil i = a.blank 0
    volumes (cons {x = x} {y = y} {xs = xs} {ys = ys} s r) i =
        rw (lengths r)
        (by_bool (eqb i (length ys)) (λ e. rw e s) (λ e. rw e (volumes r i)))

    fillings : (x : X) (y : Y) (c : _) → Same x y → filling H x c ≡ filling K y c
    unfolding filling
    fillings x y c s = rw (a.len x y s, a.mem x y s)

    formatted : (x : X) (y : Y) (b : Answer X) (c : Answer Y) → Same x y → SameAnswer b c
        → (map_answer {B = List ℕ} (λ v. []) b ≡ map_answer (λ v. []) c) × Same (or_volume x b) (or_volume y c)
    formatted x y (refused n) (refused k) s e = (rw e, s)
    formatted x y (refused n) (done k) s e = absurd e
    formatted x y (done n) (refused k) s e = absurd e
    formatted x y (done n) (done k) s e = (refl, e)

    formatting : (P N : ℕ)
        → (map_answer {B = List ℕ} (λ v. []) (H.format (H.blank P) P N) ≡ map_answer (λ v. []) (K.format (K.blank P) P N))
        × Same (or_volume (H.blank P) (H.format (H.blank P) P N)) (or_volume (K.blank P) (K.format (K.blank P) P N))
    formatting P N =
        formatted (H.blank P) (K.blank P) (H.format (H.blank P) P N) (K.format (K.blank P) P N) (a.blank P)
        (a.format (H.blank P) (K.blank P) P N (a.blank P))

    answers : {xs : List X} {ys : List Y} → AllSame xs ys → (t : Step) → answer H xs t ≡ answer K ys t
    unfolding answer
    answers r (formats P N) = (formatting P N).0
    answers r (calls i c) = fillings _ _ c (volumes r i)
    answers r (cuts i c g kept) = fillings _ _ c (volumes r i)
    answers r (stores i l) = refl

    lefts : {xs : List X} {ys : List Y} → AllSame xs ys → (t : Step) (l : Answer (List ℕ)) → Same (left_by H xs t l) (left_by K ys t l)
    unfolding left_by
    lefts r (formats P N) l = (formatting P N).1
    lefts r (calls i c) l = a.after held _ _ (words_of l) (volumes r i)
    lefts r (cuts i c g kept) l = a.after (cut g (λ w. has w kept)) _ _ (words_of l) (volumes r i)
    lefts r (stores i s) l = a.after held _ _ (words_of l) (volumes r i)

    runs : {xs : List X} {ys : List Y} → AllSame xs ys → (rs : List Row) → all_hold H rs xs ≡ all_hold K rs ys
    unfolding all_hold
    runs r [] = refl
    runs {xs} {ys} r (t ∷ rs) =
        let l = answer K ys t.step in
        let s = lefts r t.step l in
        rw (
          answers r t.step,
          a.len _ _ s,
          a.mem _ _ s,
          runs {xs = left_by H xs t.step l ∷ xs} {ys = left_by K ys t.step l ∷ ys} (cons s r) rs,
        )

    -- from the start
    pub run : (rs : List Row) → all_hold H rs [] ≡ all_hold K rs []
    run rs = runs nil rs
