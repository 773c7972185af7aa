-- The pages of a log as a chain: what `walk` finds is a chain, a chain is walked, and a chain hung onto another is one. By induction over the pages.
use Rattle.model.proofs.Prelude.{◌≡◌, refl, sym, ◌∙◌, subst, ℕ, zero, suc, ◌*◌, ◌≤◌, ◌<◌, Bool, true, false, cond, List, [], ◌∷◌, ◌++◌, append_assoc, Option, none, some, arith, length, get_or, eqb, eq-eqb, ne_eqb, eqb-true, eqb-false}
use Rattle.model.specs.Words.{Mem}
use Rattle.model.specs.Lists.{all, has, distinct}
use Rattle.model.specs.Layout.{footer, in_pages}
use Rattle.model.specs.Log.{walk, onto, slots, entry_words}
use Rattle.model.proofs.Tests.{not_some}
use Rattle.model.proofs.Lists.{has_head, has_tail, has_get_or, all_cons, distinct_cons, apart}

-- linked pages that end in q, where q stands at the end alone
abbrev pub Chain : Mem → ℕ → ℕ → ℕ → List ℕ → Type 0
Chain m P N q [] = ⊥
Chain m P N q (p ∷ []) = (in_pages P N p ≡ true) × (p ≡ q)
Chain m P N q (p ∷ r ∷ ps) = (in_pages P N p ≡ true) × (p ≡ q → ⊥) × (m (footer p) ≡ r) × Chain m P N q (r ∷ ps)

module _ (m : Mem) (P N q : ℕ) where
  pub chain_walk : (n p : ℕ) (ps : List ℕ) → Chain m P N q (p ∷ ps) → length (p ∷ ps) ≤ n → walk m P N n p q ≡ some (p ∷ ps)
  unfolding walk
  chain_walk zero p ps c h = absurd (omega arith)
  chain_walk (suc n) p [] c h = rw (walk, c.0, eq-eqb p q c.1)
  chain_walk (suc n) p (r ∷ ps) c h = rw (walk, c.0, ne_eqb p q c.1, c.2, chain_walk n r ps c.3 (omega arith))

  -- a walk's pages are a chain from p on
  abbrev Walked : ℕ → ℕ → List ℕ → Type 0
  Walked n p ps = Chain m P N q ps × (get_or ps 0 0 ≡ p) × (length ps ≤ n)

  chain_step : (n p : ℕ) (ps r : List ℕ) → in_pages P N p ≡ true → (p ≡ q → ⊥) → Walked n (m (footer p)) r → p ∷ r ≡ ps → Walked (suc n) p ps
  chain_step n p ps [] i d h e = absurd h.0
  chain_step n p ps (x ∷ r) i d h e = rw (← e) ((i, d, sym h.1, h.0), refl, omega arith)

  pub walk_chain : (n p : ℕ) (ps : List ℕ) → walk m P N n p q ≡ some ps → Chain m P N q ps × (get_or ps 0 0 ≡ p) × (length ps ≤ n)
  unfolding walk
  walk_chain zero p ps e = not_some ps e
  walk_chain (suc n) p ps e = go (in_pages P N p) (eqb p q) (walk m P N n (m (footer p)) q) refl refl (walk_chain n (m (footer p))) e
    where
      go : (a b : Bool) (o : Option (List ℕ)) → in_pages P N p ≡ a → eqb p q ≡ b → ((r : List ℕ) → o ≡ some r → Walked n (m (footer p)) r)
          → cond a (cond b (some (p ∷ [])) (onto p o)) none ≡ some ps → Walked (suc n) p ps
      go false b o i d h e = not_some ps e
      go true true o i d h e = let s : p ∷ [] ≡ ps = cc in rw (← s) ((i, eqb-true p q d), refl, omega arith)
      go true false none i d h e = not_some ps e
      go true false (some r) i d h e = chain_step n p ps r i (eqb-false p q d) (h r refl) (cc)

-- the end by another name
pub chain_to : (m : Mem) (P N q q' : ℕ) (ps : List ℕ) → q' ≡ q → Chain m P N q ps → Chain m P N q' ps
chain_to m P N q q' ps e c = subst (λ t. Chain m P N t ps) (sym e) c

-- a chain made longer: a new chain hung on at its end
pub chain_then : (m m' : Mem) (P N q q' : ℕ) (old ls : List ℕ) → Chain m P N q old
    → ((x : ℕ) → has x old ≡ true → (x ≡ q → ⊥) → (m' (footer x) ≡ m (footer x)) × (x ≡ q' → ⊥))
    → Chain m' P N q' (q ∷ ls) → Chain m' P N q' (old ++ ls)
chain_then m m' P N q q' [] ls c s d = absurd c
chain_then m m' P N q q' (p ∷ []) ls c s d = subst (λ t. Chain m' P N q' (t ∷ ls)) (sym c.1) d
chain_then m m' P N q q' (p ∷ r ∷ ps) ls c s d =
    let f = s p (has_head p (r ∷ ps)) c.1 in
    (c.0, f.1, f.0 ∙ c.2, chain_then m m' P N q q' (r ∷ ps) ls c.3 (λ x h. s x (has_tail x p (r ∷ ps) h)) d)

-- distinct pages, each linked to the next
pub linked_chain : (m : Mem) (P N p : ℕ) (ps : List ℕ) → all (in_pages P N) (p ∷ ps) ≡ true → distinct (p ∷ ps) ≡ true
    → ((j : ℕ) → j < length ps → m (footer (get_or (p ∷ ps) j 0)) ≡ get_or ps j 0) → Chain m P N (get_or (p ∷ ps) (length ps) 0) (p ∷ ps)
linked_chain m P N p [] a d l = ((all_cons (in_pages P N) p [] a).0, refl)
linked_chain m P N p (r ∷ ps) a d l =
    let b = all_cons (in_pages P N) p (r ∷ ps) a in
    let e = distinct_cons p (r ∷ ps) d in
    let z = get_or (r ∷ ps) (length ps) 0 in
    (b.0, (λ s. apart z p (r ∷ ps) e.0 (has_get_or (r ∷ ps) (length ps) (omega arith)) (sym s)), l 0 (omega arith), linked_chain m P N r ps b.1 e.1 (λ j h. l (suc j) (omega arith)))

pub chain_last : (m : Mem) (P N q : ℕ) (ps : List ℕ) → Chain m P N q ps → (has q ps ≡ true) × (in_pages P N q ≡ true)
chain_last m P N q [] c = absurd c
chain_last m P N q (p ∷ []) c = rw (← c.1) (has_head p [], c.0)
chain_last m P N q (p ∷ r ∷ ps) c = let d = chain_last m P N q (r ∷ ps) c.3 in (has_tail q p (r ∷ ps) d.0, d.1)

-- the entries of a chain's pages, as far as they stand before those of its last page
pub chain_words : (m : Mem) (P N q i c : ℕ) (ps ls ws : List ℕ) → Chain m P N q ps → entry_words (q ∷ ls) c ≡ slots i (64 * q) ++ ws
    → entry_words (ps ++ ls) c ≡ entry_words ps i ++ ws
unfolding entry_words
chain_words m P N q i c [] ls ws h e = absurd h
chain_words m P N q i c (p ∷ []) ls ws h e = subst (λ t. entry_words (t ∷ ls) c ≡ slots i (64 * t) ++ ws) (sym h.1) e
chain_words m P N q i c (p ∷ r ∷ ps) ls ws h e = rw (chain_words m P N q i c (r ∷ ps) ls ws h.3 e) (sym (append_assoc (slots 7 (64 * p)) (entry_words (r ∷ ps) i) ws))

pub chain_inside : (m : Mem) (P N q : ℕ) (ps : List ℕ) → Chain m P N q ps → all (in_pages P N) ps ≡ true
unfolding all
chain_inside m P N q [] c = absurd c
chain_inside m P N q (p ∷ []) c = rw c.0
chain_inside m P N q (p ∷ r ∷ ps) c = rw c.0 (chain_inside m P N q (r ∷ ps) c.3)
