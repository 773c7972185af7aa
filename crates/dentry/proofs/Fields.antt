-- The cases of the functions' answers: a word byte by byte, a name word by word, an entry by its kind.
use Rattle.model.proofs.Prelude.{ℕ, suc, ◌+◌, ◌-◌, ◌/◌, ◌%◌, ◌≤◌, ◌<◌, ◌≡◌, refl, sym, ◌∙◌, Bool, true, false, ◌&&◌, List, arith, leb, eqb, eq-eqb, ne_eqb, lt-leb, le-leb}
use Rattle.model.proofs.Tests.{by_lt}
use Rattle.model.specs.Entry.{add_entry, name_ok, field_ok, name_entry_ok}
use Rattle.inode_log.specs.Entries.{field_of, meant}
use Rattle.inode_log.specs.declared.Name.{Name}
use Rattle.inode_log.specs.declared.Entry.{Entry}
use Rattle.inode_log.specs.declared.Entry.TheVariants.{Write, SetSize, Add, Remove, None}
use Rattle.dentry.specs.Fields.{word_ok, bytes_in}
use Rattle.dentry.proofs.Bytes.{Words, field_words}

-- The loop of `word_ok`: n bytes of the name are left in x.

module _ (z : Bool) (x n i : ℕ) (a : word_ok (n - i) x ≡ z) where
  module _ (l : i < n) where
    more : n - i ≡ suc (n - (i + 1))
    more = omega arith

    pub byte_zero : x % 256 ≡ 0 → false ≡ z
    unfolding word_ok
    byte_zero e = rw (more, word_ok, eq-eqb (x % 256) 0 e) at a

    pub byte_slash : (x % 256 ≡ 0 → ⊥) → x % 256 ≡ 47 → false ≡ z
    unfolding word_ok
    byte_slash d e = rw (more, word_ok, ne_eqb (x % 256) 0 d, eq-eqb (x % 256) 47 e) at a

    pub byte_next : (x % 256 ≡ 0 → ⊥) → (x % 256 ≡ 47 → ⊥) → word_ok (n - (i + 1)) (x / 256) ≡ z
    unfolding word_ok
    byte_next d e = rw (more, word_ok, ne_eqb (x % 256) 0 d, ne_eqb (x % 256) 47 e) at a

  pub bytes_end : n ≤ i → eqb x 0 ≡ z
  unfolding word_ok
  bytes_end h = let o : n - i ≡ 0 = omega arith in rw (o, word_ok) at a

-- The answers of `name_ok`: p, q, r and s are what `word_ok` answered of the four words.

pub name_none : (l : ℕ) (f : List ℕ) → l < 1 → false ≡ field_ok l f
unfolding field_ok name_ok
name_none l f h = let z : l ≡ 0 = omega arith in rw z

pub name_long : (l : ℕ) (f : List ℕ) → 32 < l → false ≡ field_ok l f
unfolding field_ok
name_long l f h = rw (lt-leb l 32 h)

pub field_tests : (n : Name) → Words n → field_ok n.len (field_of n)
    ≡ leb 1 n.len && leb n.len 32 && word_ok (bytes_in n.len 0) n.first && word_ok (bytes_in n.len 8) n.second
    && word_ok (bytes_in n.len 16) n.third && word_ok (bytes_in n.len 24) n.fourth
field_tests n w =
    by_lt n.len 1 (λ h. rw (lt-leb 1 n.len h) (sym (name_none n.len (field_of n) h)))
    (λ g. by_lt 32 n.len (λ h. rw (le-leb 1 n.len g, lt-leb n.len 32 h) (sym (name_long n.len (field_of n) h)))
    (λ h. rw (le-leb 1 n.len g, le-leb n.len 32 h) (field_words n w g h
    ∙ nest (word_ok (bytes_in n.len 0) n.first) (word_ok (bytes_in n.len 8) n.second) (word_ok (bytes_in n.len 16) n.third)
    (word_ok (bytes_in n.len 24) n.fourth))))
  where
    nest : (p q r s : Bool) → p && (q && (r && s)) ≡ p && q && r && s
    nest true true r s = refl
    nest true false r s = refl
    nest false q r s = refl

-- The answers of `entry_ok`.

module _ (N : ℕ) (e : Entry) where
  pub ok_write : (f d c s : ℕ) → e ≡ Write f d c s → false ≡ name_entry_ok N (meant e)
  unfolding meant name_entry_ok
  ok_write f d c s h = rw h

  pub ok_size : (s : ℕ) → e ≡ SetSize s → false ≡ name_entry_ok N (meant e)
  unfolding meant name_entry_ok
  ok_size s h = rw h

  pub ok_add : (i : ℕ) (n : Name) (r : Bool) → e ≡ Add i n → r ≡ name_entry_ok N (add_entry i n.len (field_of n)) → r ≡ name_entry_ok N (meant e)
  unfolding meant
  ok_add i n r h g = rw h g

  pub ok_remove : (n : Name) (r : Bool) → e ≡ Remove n → r ≡ field_ok n.len (field_of n) → r ≡ name_entry_ok N (meant e)
  unfolding meant name_entry_ok
  ok_remove n r h g = rw h g

  pub ok_none : e ≡ None → false ≡ name_entry_ok N (meant e)
  unfolding meant name_entry_ok
  ok_none h = rw h
