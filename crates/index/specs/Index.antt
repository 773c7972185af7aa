-- An index of names, as a list of slots. A slot holds the place of the last entry so far that has a name, or 0 where it is empty; a
-- place is an entry's first word divided by 8. m are the volume's words. Laws: proofs/Kept.antt.
use Rattle.std.specs.Prelude.{ℕ, zero, suc, ◌+◌, ◌*◌, ◌/◌, ◌%◌, ◌^◌, ◌≤◌, ◌<◌, ◌≡◌, Bool, true, cond, ◌&&◌, ◌||◌, not, List, eqb, leb, length, get_or, set}
use Rattle.model.specs.Lists.{all, filter}
use Rattle.model.specs.Words.{Mem}
use Rattle.inode_log.specs.Entries.{name_in}
use Rattle.inode_log.specs.declared.Name.{Name}

-- whether two names are the same: their four words and their lengths are
unfoldable pub same_name : Name → Name → Bool
same_name a b =
    eqb a.first b.first && eqb a.second b.second && eqb a.third b.third && eqb a.fourth b.fourth
    && eqb a.len b.len

-- the sum of a word's two halves, each times a factor
unfoldable pub weighed_of : ℕ → ℕ → ℕ → ℕ
weighed_of x k l = x % 2 ^ 32 * k + x / 2 ^ 32 * l

-- a number folded to 32 bits and spread by a factor
unfoldable pub spread_of : ℕ → ℕ
spread_of x = (x % 2 ^ 32 + x / 2 ^ 32) % 2 ^ 32 * 2654435761 % 2 ^ 32

-- the slot of M at which the look-up of a name starts
unfoldable pub home_of : Name → ℕ → ℕ
home_of n M =
    spread_of (weighed_of n.first 506832829 378551291 + weighed_of n.second 445644797 334214467
    + weighed_of n.third 486187739 295075153 + weighed_of n.fourth 433494437 370248451) * M / 2 ^ 32

-- the slot after slot s of M: after the last comes the first
unfoldable pub next_slot : ℕ → ℕ → ℕ
next_slot M s = cond (eqb (s + 1) M) 0 (s + 1)

-- from slot s of M on the first of which f holds; the one after n slots where it holds of none of these
unfoldable pub seek : (ℕ → Bool) → ℕ → ℕ → ℕ → ℕ
seek f M zero s = s
seek f M (suc n) s = let r = seek f M n (next_slot M s) in cond (f s) s r

-- whether the look-up of a name ends at slot s: it is empty, or holds an entry of that name
unfoldable pub ends_at : Mem → List ℕ → Name → ℕ → Bool
ends_at m l n s = eqb (get_or l s 0) 0 || same_name (name_in m (8 * get_or l s 0)) n

-- the slot at which it ends
unfoldable pub slot_of : Mem → List ℕ → Name → ℕ
slot_of m l n = seek (ends_at m l n) (length l) (length l) (home_of n (length l))

-- what the index has for a name: the place of its last entry, or 0
unfoldable pub held : Mem → List ℕ → Name → ℕ
held m l n = get_or l (slot_of m l n) 0

-- the index with place p for a name, which is put in only where it is there already or the entry adds it
unfoldable pub noted : Mem → List ℕ → Name → ℕ → Bool → List ℕ
noted m l n p adds = cond (not (eqb (held m l n) 0) || adds) (set l (slot_of m l n) p) l

-- how many names the index has
abbrev pub is_taken : ℕ → Bool
is_taken p = not (eqb p 0)

unfoldable pub taken : List ℕ → ℕ
taken l = length (filter is_taken l)

-- whether the entry at place p lies in L bytes
abbrev pub lies_in : ℕ → ℕ → Bool
lies_in L p = leb (64 * p + 64) L

-- slots that can be looked at: there is one, there are few enough to count with, and their entries lie in L bytes
pub record Slots (L : ℕ) (l : List ℕ) : Type 0 where
  pub some : 0 < length l
  pub few : length l ≤ 65536
  pub inside : all (lies_in L) l ≡ true

-- r and k are what noting a name in the slots l answered and left: whether the name is new, and the slots
pub record Noted (m : Mem) (L : ℕ) (l : List ℕ) (n : Name) (p : ℕ) (adds r : Bool) (k : List ℕ) : Type 0 where
  pub answer : r ≡ eqb (held m l n) 0 && adds
  pub list : k ≡ noted m l n p adds
  pub long : length k ≡ length l
  pub slots : Slots L k
