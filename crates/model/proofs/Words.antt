-- Laws of words: a stored word reads back, other words stay, a part's words are the whole's. By induction on the count of bytes.
use Rattle.model.proofs.Prelude.{ℕ, zero, suc, ◌+◌, ◌*◌, ◌/◌, ◌%◌, ◌^◌, ◌≤◌, ◌<◌, ◌≡◌, refl, ap, sym, ◌∙◌, cond, List, ◌++◌, arith, mod-eq_of_lt, add-zero, add_assoc, mul-add, div-one, div-div-eq-div-mul, pow-succ', one-le-pow, length, get_or, set, drop, length-set, get_or-append, get_or-eq_default, get_or-set_same, get_or-set_other, get_or-drop, get_or-append-add, set_out, eqb, eq-eqb, ne_eqb}
use lib.Arith.{mod-mul}
use Rattle.model.specs.Words.{le_from, word, put_le, put_word, byte_at}
use Rattle.model.proofs.Tests.{by_eq, by_lt}

-- the same bytes make the same number
pub le_from_same : (n : ℕ) (f g : ℕ → ℕ) (b : ℕ) → ((k : ℕ) → b ≤ k → k < b + n → f k ≡ g k) → le_from f b n ≡ le_from g b n
le_from_same zero f g b h = refl
le_from_same (suc n) f g b h = rw (h b (omega arith) (omega arith), le_from_same n f g (b + 1) (λ k l i. h k (omega arith) (omega arith)))

-- n bytes make a number below 256 ^ n
pub le_from_lt : (n : ℕ) (f : ℕ → ℕ) (b : ℕ) → ((i : ℕ) → f i < 256) → le_from f b n < 256 ^ n
le_from_lt zero f b h = omega arith
le_from_lt (suc n) f b h = omega (arith, h b, le_from_lt n f (b + 1) h)

-- bytes counted from d on
le_from_shift : (n : ℕ) (f : ℕ → ℕ) (d b : ℕ) → le_from (λ i. f (d + i)) b n ≡ le_from f (d + b) n
le_from_shift zero f d b = refl
le_from_shift (suc n) f d b = rw (le_from_shift n f d (b + 1), add_assoc)

-- byte j of the number that n bytes make
pub le_from_byte : (n : ℕ) (f : ℕ → ℕ) (b j : ℕ) → ((i : ℕ) → f i < 256) → j < n → le_from f b n / 256 ^ j % 256 ≡ f (b + j)
le_from_byte zero f b j h l = absurd (omega arith)
le_from_byte (suc n) f b zero h l = rw (add-zero, div-one) (omega (arith, h b))
le_from_byte (suc n) f b (suc j) h l =
    let q : le_from f b (suc n) / 256 ≡ le_from f (b + 1) n = omega (arith, h b) in
    rw (pow-succ', ← div-div-eq-div-mul, q, le_from_byte n f (b + 1) j h (omega arith)) (ap f (omega arith))

length_put_le : (n : ℕ) (v : List ℕ) (b x : ℕ) → length (put_le v b n x) ≡ length v
length_put_le zero v b x = refl
length_put_le (suc n) v b x = length_put_le n (set v b (x % 256)) (b + 1) (x / 256) ∙ length-set v b (x % 256)

-- a byte outside of the n bytes from b on stays
put_le_other : (n : ℕ) (v : List ℕ) (b x j : ℕ) → (b ≤ j → j < b + n → ⊥) → get_or (put_le v b n x) j 0 ≡ get_or v j 0
put_le_other zero v b x j h = refl
put_le_other (suc n) v b x j h =
    put_le_other n (set v b (x % 256)) (b + 1) (x / 256) j (λ l g. h (omega arith) (omega arith))
    ∙ get_or-set_other v b j (x % 256) 0 (λ e. h (omega arith) (omega arith))

-- each of the bytes stored is below 256
put_le_bytes : (n : ℕ) (v : List ℕ) (b x : ℕ) → ((i : ℕ) → get_or v i 0 < 256) → (i : ℕ) → get_or (put_le v b n x) i 0 < 256
put_le_bytes zero v b x h i = h i
put_le_bytes (suc n) v b x h i = put_le_bytes n (set v b (x % 256)) (b + 1) (x / 256) (set_bytes v b (x % 256) h (omega arith)) i
  where
    set_bytes : (v : List ℕ) (b y : ℕ) → ((i : ℕ) → get_or v i 0 < 256) → y < 256 → (i : ℕ) → get_or (set v b y) i 0 < 256
    set_bytes v b y h l i =
        by_eq i b
        (λ e. rw e (by_lt b (length v) (λ g. rw (get_or-set_same v b y 0 g) l) (λ g. rw (set_out v b y g) (h b))))
        (λ e. rw (get_or-set_other v b i y 0 e) (h i))

le_from_put_le : (n : ℕ) (v : List ℕ) (b x : ℕ) → b + n ≤ length v → le_from (λ i. get_or (put_le v b n x) i 0) b n ≡ x % 256 ^ n
le_from_put_le zero v b x h = omega arith
le_from_put_le (suc n) v b x h =
    let split : x % (256 ^ n * 256) ≡ (x / 256 % 256 ^ n) * 256 + x % 256 = mod-mul x (one-le-pow n 256 (omega arith)) (omega arith) in
    let power : 256 ^ suc n ≡ 256 ^ n * 256 = omega arith in
    rw (
      put_le_other n (set v b (x % 256)) (b + 1) (x / 256) b (λ l g. omega arith),
      get_or-set_same v b (x % 256) 0 (omega arith),
      le_from_put_le n (set v b (x % 256)) (b + 1) (x / 256) (simp length-set (omega arith)),
      power,
    ) (omega arith)

-- Words of a list of bytes.

pub word_lt : (v : List ℕ) (w : ℕ) → ((i : ℕ) → get_or v i 0 < 256) → word v w < 2 ^ 64
unfolding word
word_lt v w h = le_from_lt 8 (λ i. get_or v i 0) (8 * w) h

-- the words of a part that starts at word a
pub word_drop : (v : List ℕ) (a w : ℕ) → word (drop (8 * a) v) w ≡ word v (a + w)
unfolding word
word_drop v a w =
    le_from_same 8 (λ i. get_or (drop (8 * a) v) i 0) (λ i. get_or v (8 * a + i) 0) (8 * w) (λ k l g. get_or-drop (8 * a) v k 0)
    ∙ le_from_shift 8 (λ i. get_or v i 0) (8 * a) (8 * w) ∙ ap (λ (b : ℕ). le_from (λ i. get_or v i 0) b 8) (sym (mul-add 8 a w))

pub length_put_word : (v : List ℕ) (w x : ℕ) → length (put_word v w x) ≡ length v
unfolding put_word
length_put_word v w x = length_put_le 8 v (8 * w) x

pub put_word_bytes : (v : List ℕ) (w x : ℕ) → ((i : ℕ) → get_or v i 0 < 256) → (i : ℕ) → get_or (put_word v w x) i 0 < 256
unfolding put_word
put_word_bytes v w x h i = put_le_bytes 8 v (8 * w) x h i

-- read back: what is stored is x modulo 2 ^ 64
pub word_same : (v : List ℕ) (w x : ℕ) → 8 * w + 8 ≤ length v → word (put_word v w x) w ≡ x % 2 ^ 64
unfolding put_word word
word_same v w x h = le_from_put_le 8 v (8 * w) x h

-- another word
pub word_other : (v : List ℕ) (w x u : ℕ) → (u ≡ w → ⊥) → word (put_word v w x) u ≡ word v u
unfolding put_word word
word_other v w x u h =
    le_from_same 8 (λ i. get_or (put_le v (8 * w) 8 x) i 0) (λ i. get_or v i 0) (8 * u)
    (λ k l g. put_le_other 8 v (8 * w) x k (λ p q. h (omega arith)))

-- any word
pub word_put : (v : List ℕ) (w x u : ℕ) → 8 * w + 8 ≤ length v → x < 2 ^ 64 → word (put_word v w x) u ≡ cond (eqb u w) x (word v u)
word_put v w x u h f =
    by_eq u w (λ e. rw (eq-eqb u w e, e) (word_same v w x h ∙ mod-eq_of_lt f)) (λ e. rw (ne_eqb u w e) (word_other v w x u e))

-- past the end nothing is stored
pub put_word_out : (v : List ℕ) (w x : ℕ) → length v ≤ 8 * w → put_word v w x ≡ v
unfolding put_word
put_word_out v w x h = put_le_out 8 v (8 * w) x h
  where
    put_le_out : (n : ℕ) (v : List ℕ) (b x : ℕ) → length v ≤ b → put_le v b n x ≡ v
    put_le_out zero v b x h = refl
    put_le_out (suc n) v b x h = rw (set_out v b (x % 256) h) (put_le_out n v (b + 1) (x / 256) (omega arith))

-- the words of two lists put together, the first a whole count of words long
pub word_append_left : (u v : List ℕ) (n w : ℕ) → length u ≡ 8 * n → w < n → word (u ++ v) w ≡ word u w
unfolding word
word_append_left u v n w h l =
    le_from_same 8 (λ i. get_or (u ++ v) i 0) (λ i. get_or u i 0) (8 * w) (λ k g f. get_or-append u v 0 k (omega arith))

pub word_append_right : (u v : List ℕ) (n w : ℕ) → length u ≡ 8 * n → word (u ++ v) (n + w) ≡ word v w
unfolding word
word_append_right u v n w h =
    ap (λ (b : ℕ). le_from (λ i. get_or (u ++ v) i 0) b 8) (mul-add 8 n w ∙ ap (λ (k : ℕ). k + 8 * w) (sym h))
    ∙ sym (le_from_shift 8 (λ i. get_or (u ++ v) i 0) (length u) (8 * w))
    ∙ le_from_same 8 (λ i. get_or (u ++ v) (length u + i) 0) (λ i. get_or v i 0) (8 * w) (λ k g f. get_or-append-add u v k 0)

-- past the end a word is 0
pub word_out : (v : List ℕ) (w : ℕ) → length v ≤ 8 * w → word v w ≡ 0
unfolding word
word_out v w h = le_from_same 8 (λ i. get_or v i 0) (λ i. 0) (8 * w) (λ k g f. get_or-eq_default v 0 (omega arith))

-- a byte of the memory is the byte of the list
pub byte_word : (v : List ℕ) (i : ℕ) → ((j : ℕ) → get_or v j 0 < 256) → byte_at (word v) i ≡ get_or v i 0
unfolding byte_at word
byte_word v i h =
    le_from_byte 8 (λ j. get_or v j 0) (8 * (i / 8)) (i % 8) h (omega arith) ∙ ap (λ (x : ℕ). get_or v x 0) (omega arith)
