-- What is stored lies inside the volume and is a word of 64 bits: pages are below P, and each word of an entry is small.
use Rattle.model.proofs.Prelude.{◌≡◌, ℕ, zero, suc, ◌+◌, ◌-◌, ◌*◌, ◌/◌, ◌%◌, ◌^◌, ◌≤◌, ◌<◌, Bool, true, false, cond, ◌&&◌, List, [], ◌∷◌, ◌++◌, none, some, arith, length, get_or, get_or-eq_default, leb, ltb, eqb}
use Rattle.model.specs.Lists.{all, index_of}
use Rattle.model.specs.Stretches.{Stretch, stretches}
use Rattle.model.specs.Words.{word}
use Rattle.model.specs.Layout.{in_pages}
use Rattle.model.specs.Entry.{write_words, size_words, name_words, add_words, remove_words}
use Rattle.model.specs.State.{File, Names}
use Rattle.model.specs.Calls.{lay_entries, tail_after, stretch_entries, clean_file, clean_names}
use Rattle.model.specs.Claim.{Bytes}
use Rattle.model.proofs.Tests.{by_bool, by_lt, not_some, cond_some}
use Rattle.model.proofs.Lists.{has_get_or, all_has}
use Rattle.model.proofs.Words.{word_lt}
use Rattle.model.proofs.Log.Decode.{name_short}
use Rattle.model.proofs.Log.Live.{lay_in}
use Rattle.model.proofs.State.Stretches.{Stands, stretches_stand}
use Rattle.model.proofs.State.Stretches as stretched
use Rattle.model.proofs.State.NameEntries.{GoodNames}
use Rattle.model.proofs.Frame.Placed.{in_bounds}
use Rattle.model.proofs.Crash.Stores.{Each}

-- a store inside a volume of P pages, of a word of 64 bits
abbrev pub Inside : ℕ → ℕ → ℕ → Type 0
Inside P w x = (w < 64 * P) × (x < 2 ^ 64)

-- Entries whose words have 64 bits.
abbrev pub SmallWords : List ℕ → Type 0
SmallWords e = (o : ℕ) → get_or e o 0 < 2 ^ 64

abbrev pub SmallEntries : List (List ℕ) → Type 0
SmallEntries es = (i : ℕ) → SmallWords (get_or es i [])

-- eight words, each small
eight_small : (a b c d e f g h : ℕ) → a < 2 ^ 64 → b < 2 ^ 64 → c < 2 ^ 64 → d < 2 ^ 64 → e < 2 ^ 64 → f < 2 ^ 64 → g < 2 ^ 64 → h < 2 ^ 64
    → SmallWords (a ∷ b ∷ c ∷ d ∷ e ∷ f ∷ g ∷ h ∷ [])
eight_small a b c d e f g h p q r s t u v w zero = p
eight_small a b c d e f g h p q r s t u v w (suc zero) = q
eight_small a b c d e f g h p q r s t u v w (suc (suc zero)) = r
eight_small a b c d e f g h p q r s t u v w (suc (suc (suc zero))) = s
eight_small a b c d e f g h p q r s t u v w (suc (suc (suc (suc zero)))) = t
eight_small a b c d e f g h p q r s t u v w (suc (suc (suc (suc (suc zero))))) = u
eight_small a b c d e f g h p q r s t u v w (suc (suc (suc (suc (suc (suc zero)))))) = v
eight_small a b c d e f g h p q r s t u v w (suc (suc (suc (suc (suc (suc (suc zero))))))) = w
eight_small a b c d e f g h p q r s t u v w (suc (suc (suc (suc (suc (suc (suc (suc o)))))))) = omega arith

pub write_small : (f d c s : ℕ) → f < 2 ^ 64 → d < 2 ^ 64 → c < 2 ^ 64 → s < 2 ^ 64 → SmallWords (write_words f d c s)
unfolding write_words
write_small f d c s a b e g = eight_small 1 f d c s 0 0 0 (omega arith) a b e g (omega arith) (omega arith) (omega arith)

pub size_small : (s : ℕ) → s < 2 ^ 64 → SmallWords (size_words s)
unfolding size_words
size_small s a =
    eight_small 2 s 0 0 0 0 0 0 (omega arith) a (omega arith) (omega arith) (omega arith) (omega arith) (omega arith) (omega arith)

name_small : (kind i : ℕ) (n : List ℕ) → kind < 2 ^ 64 → i < 2 ^ 64 → length n ≤ 32 → Bytes n → SmallWords (name_words kind i n)
unfolding name_words
name_small kind i n a b l h =
    eight_small kind i (length n) (word n 0) (word n 1) (word n 2) (word n 3) 0 a b (omega arith)
    (word_lt n 0 h) (word_lt n 1 h) (word_lt n 2 h) (word_lt n 3 h) (omega arith)

pub add_small : (i : ℕ) (n : List ℕ) → i < 2 ^ 64 → length n ≤ 32 → Bytes n → SmallWords (add_words i n)
unfolding add_words
add_small i n a l h = name_small 3 i n (omega arith) a l h

pub remove_small : (n : List ℕ) → length n ≤ 32 → Bytes n → SmallWords (remove_words n)
unfolding remove_words
remove_small n l h = name_small 4 0 n (omega arith) (omega arith) l h

pub no_small : SmallEntries []
no_small i o = omega arith

pub cons_small : (e : List ℕ) (es : List (List ℕ)) → SmallWords e → SmallEntries es → SmallEntries (e ∷ es)
cons_small e es a b zero = a
cons_small e es a b (suc i) = b i

-- one of two numbers that are small
one_of_two : (a b c : Bool) (p q x n : ℕ) → cond a (cond b (some p) none) (cond c (some q) none) ≡ some x → p < n → q < n → x < n
one_of_two true true c p q x n e h g = let y : p ≡ x = cc in omega arith
one_of_two true false c p q x n e h g = not_some x e
one_of_two false b true p q x n e h g = let y : q ≡ x = cc in omega arith
one_of_two false b false p q x n e h g = not_some x e

-- Pages of the volume.
module _ (P N : ℕ) (few : P ≤ 4096) (ps : List ℕ) (in_all : all (in_pages P N) ps ≡ true) where
  pub page_small : (j : ℕ) → get_or ps j 0 ≤ P
  page_small j =
      by_lt j (length ps) (λ l. let b = in_bounds P N (get_or ps j 0) (all_has (in_pages P N) (get_or ps j 0) ps in_all (has_get_or ps j l)) in omega arith)
      (λ l. rw (get_or-eq_default ps 0 {n = j} l) (omega arith))

  pub tail_small : (i n : ℕ) → tail_after ps i n < 2 ^ 64
  unfolding tail_after
  tail_small i n =
      let b = page_small ((i + n - 1) / 7) in by_bool (eqb n 0) (λ e. rw e (omega arith)) (λ e. rw e (omega arith))

  -- entries laid into them
  pub lay_small : (i : ℕ) (es : List (List ℕ)) → SmallEntries es → Each (Inside P) (lay_entries ps i es)
  unfolding lay_entries
  lay_small i es small w x e =
      let b = in_bounds P N (w / 64) (all_has (in_pages P N) (w / 64) ps in_all (lay_in ps i es w x e)) in
      let j = index_of (w / 64) ps in
      let o = w % 64 in
      let t = 7 * j + o / 8 in
      let p = page_small (j + 1) in
      let l : get_or ps (j + 1) 0 < 2 ^ 64 = omega arith in
      let last = cond (ltb o 56 && leb i t && ltb t (i + length es)) (some (get_or (get_or es (t - i) []) (o % 8) 0)) none in
      let c = cond_some (ltb j (length ps)) (cond (eqb o 56) (cond (ltb (j + 1) (length ps)) (some (get_or ps (j + 1) 0)) none) last) x e in (
        omega arith,
        one_of_two (eqb o 56) (ltb (j + 1) (length ps)) (ltb o 56 && leb i t && ltb t (i + length es)) (get_or ps (j + 1) 0)
            (get_or (get_or es (t - i) []) (o % 8) 0) x (2 ^ 64) c.1 l (small (t - i) (o % 8)),
      )

pub append_small : (xs ys : List (List ℕ)) → SmallEntries xs → SmallEntries ys → SmallEntries (xs ++ ys)
append_small [] ys a b = b
append_small (x ∷ xs) ys a b = cons_small x (xs ++ ys) (a 0) (append_small xs ys (λ i. a (suc i)) b)

-- the entries of stretches of numbers below 2^32 on pages below that
module _ (z : ℕ) (small : z < 2 ^ 64) (f : ℕ → ℕ) (pages : (i : ℕ) → f i ≤ 4096) (n i : ℕ) (short : i + n ≤ 128) where
  stretches_are_small : (ss : List Stretch) → stretched.Each (Stands f n i) ss → SmallEntries (stretch_entries z ss)
  unfolding stretch_entries
  stretches_are_small [] e = no_small
  stretches_are_small (s ∷ ss) e =
      let h = e.0 in
      let a = h.on 0 (omega (arith, h.some)) in
      let b = pages (s.first + 0) in
      cons_small (write_words s.first s.page s.count z) (stretch_entries z ss)
      (write_small s.first s.page s.count z (omega (arith, h.to)) (omega arith) (omega (arith, h.to)) small) (stretches_are_small ss e.1)

  pub stretches_small : SmallEntries (stretch_entries z (stretches f n i))
  stretches_small = stretches_are_small (stretches f n i) (stretches_stand f n i)

-- What clean writes.

pub clean_names_small : (N : ℕ) (ns : Names) → N ≤ 256 → GoodNames N ns → SmallEntries (clean_names ns)
unfolding clean_names
clean_names_small N [] l g = no_small
clean_names_small N (p ∷ ps) l g =
    cons_small (add_words p.1 p.0) (clean_names ps) (add_small p.1 p.0 (omega (arith, g.0.below)) (name_short p.0 g.0.fine) g.0.bytes) (clean_names_small N ps l g.1)

pub clean_file_small : (f : File) → ((i : ℕ) → f.page i ≤ 4096) → f.size ≤ 65536 → SmallEntries (clean_file f)
unfolding clean_file
clean_file_small f pages size =
    by_bool (eqb (length (stretch_entries f.size (stretches f.page 128 0))) 0)
    (λ e. rw e (by_bool (eqb f.size 0) (λ z. rw z no_small) (λ z. rw z (cons_small (size_words f.size) [] (size_small f.size (omega arith)) no_small))))
    (λ e. rw e (stretches_small f.size (omega arith) f.page pages 128 0 (omega arith)))
