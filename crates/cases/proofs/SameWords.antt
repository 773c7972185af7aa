-- Bytes and the list of their words are alike: each step of a run does the same to both.
use Rattle.model.proofs.Prelude.{ℕ, ◌+◌, ◌-◌, ◌*◌, ◌%◌, ◌^◌, ◌≡◌, refl, sym, ◌∙◌, fun_ext, Bool, ◌&&◌, List, [], ◌∷◌, ◌++◌, arith, div-one, zero-add, length, get_or, set, drop, replicate, length-set, length-append, length-drop, length-replicate, get_or-replicate, get_or-append, get_or-eq_default, get_or-set_same, get_or-set_other, get_or-append-add, get_or-drop, set_out, eqb}
use Rattle.model.specs.Words.{le_from, word, put_word}
use Rattle.model.specs.Layout.{sizes_ok, table_pages}
use Rattle.model.specs.Stores.{fence, carried}
use Rattle.model.specs.Power.{Power, held, cut, before, group, mixed, leaves}
use Rattle.model.specs.Public.{formatted, format}
use Rattle.model.proofs.Tests.{by_bool, by_eq, by_lt}
use Rattle.model.proofs.Words.{le_from_same, word_same, word_other, word_out, word_drop, word_append_left, word_append_right, length_put_word, put_word_out}
use Rattle.model.proofs.Power.{length_mixed, mixed_at, word_mixed}
use Rattle.cases.specs.Run.{as_bytes}
use Rattle.cases.proofs.Held.{stored, carried_words, leaves_words, format_words, as_words}
use Rattle.cases.proofs.Alike.{Alike, SameAnswer}

-- v are the bytes of the words l
pub record SameWords (v l : List ℕ) : Type 0 where
  pub len : length v ≡ 8 * length l
  pub words : (w : ℕ) → word v w ≡ get_or l w 0

put : (v l : List ℕ) (i x : ℕ) → SameWords v l → SameWords (put_word v i x) (stored l i x)
unfolding stored
put v l i x s = record { len = rw (length_put_word, length-set) s.len; words = at }
  where
    at : (u : ℕ) → word (put_word v i x) u ≡ get_or (set l i (x % 2 ^ 64)) u 0
    at u =
        by_eq u i
        (λ e. rw e (by_lt i (length l)
        (λ h. word_same v i x (omega (arith, s.len)) ∙ sym (get_or-set_same l i (x % 2 ^ 64) 0 h))
        (λ h. rw (put_word_out v i x (omega (arith, s.len)), set_out l i (x % 2 ^ 64) h) (s.words i))))
        (λ e. word_other v i x u e ∙ s.words u ∙ sym (get_or-set_other l i u (x % 2 ^ 64) 0 e))

carry : (v l r : List ℕ) → SameWords v l → SameWords (carried v r) (carried_words l r)
unfolding carried carried_words
carry v l [] s = s
carry v l (i ∷ []) s = s
carry v l (i ∷ x ∷ r) s =
    by_bool (eqb i fence) (λ e. rw e (carry v l r s)) (λ e. rw e (carry (put_word v i x) (stored l i x) r (put v l i x s)))

mix : (kept : ℕ → Bool) (v l v' l' : List ℕ) → SameWords v l → SameWords v' l' → length v ≡ length v' → SameWords (mixed 8 kept 0 v v') (mixed 1 kept 0 l l')
mix kept v l v' l' s t e =
    record {
      len = rw (length_mixed, length_mixed) s.len;
      words = λ w.
          word_mixed kept v v' w e ∙ rw (s.words w, t.words w)
          (rw (mixed_at 1 kept 0 l l' w (omega (arith, s.len, t.len)), div-one, zero-add));
    }

length_carried : (v r : List ℕ) → length (carried v r) ≡ length v
unfolding carried
length_carried v [] = refl
length_carried v (i ∷ []) = refl
length_carried v (i ∷ x ∷ r) =
    by_bool (eqb i fence) (λ e. rw e (length_carried v r)) (λ e. rw e (length_carried (put_word v i x) r ∙ length_put_word v i x))

leave : (p : Power) (v l r : List ℕ) → SameWords v l → SameWords (leaves 8 p v r) (leaves_words p l r)
unfolding leaves leaves_words
leave held v l r s = carry v l r s
leave (cut g kept) v l r s =
    let t = carry v l (before g r) s in
    mix kept _ _ _ _ t (carry _ _ (group g r) t) (sym (length_carried (carried v (before g r)) (group g r)))

append : (u k v l : List ℕ) → SameWords u k → SameWords v l → SameWords (u ++ v) (k ++ l)
append u k v l s t =
    record {
      len = rw (length-append, length-append) (omega (arith, s.len, t.len));
      words = λ w.
          by_lt w (length k)
          (λ h. word_append_left u v (length k) w s.len h ∙ s.words w ∙ sym (get_or-append k l 0 w h))
          (λ h.
          let e : w ≡ length k + (w - length k) = omega arith in
          rw e (word_append_right u v (length k) (w - length k) s.len ∙ t.words (w - length k) ∙ sym (get_or-append-add k l (w - length k) 0)));
    }

rest : (n : ℕ) (v l : List ℕ) → SameWords v l → SameWords (drop (8 * n) v) (drop n l)
rest n v l s =
    record {
      len = rw (length-drop, length-drop) (omega (arith, s.len));
      words = λ w. word_drop v n w ∙ s.words (n + w) ∙ sym (get_or-drop n l w 0);
    }

-- n words of which each byte is b
repeated : (n b : ℕ) → SameWords (replicate (8 * n) b) (replicate n (le_from (λ i. b) 0 8))
unfolding word
repeated n b = record { len = rw (length-replicate, length-replicate); words = at }
  where
    at : (w : ℕ) → word (replicate (8 * n) b) w ≡ get_or (replicate n (le_from (λ i. b) 0 8)) w 0
    at w =
        by_lt w n
        (λ h.
        le_from_same 8 (λ i. get_or (replicate (8 * n) b) i 0) (λ i. b) (8 * w) (λ k g f. get_or-replicate (8 * n) k b 0 (omega arith))
        ∙ sym (get_or-replicate n w (le_from (λ i. b) 0 8) 0 h))
        (λ h.
        word_out (replicate (8 * n) b) w (rw length-replicate (omega arith))
        ∙ sym (get_or-eq_default (replicate n (le_from (λ i. b) 0 8)) 0 (rw length-replicate h)))

zeroed : (v l : List ℕ) (n : ℕ) → SameWords v l → SameWords (replicate (8 * n) 0 ++ drop (8 * n) v) (replicate n 0 ++ drop n l)
zeroed v l n s = append _ _ _ _ (repeated n 0) (rest n v l s)

format_alike : (v l : List ℕ) (P N : ℕ) → SameWords v l → SameAnswer as_bytes as_words SameWords (format v P N) (format_words l P N)
unfolding format format_words formatted
format_alike v l P N s =
    let z : SameWords (replicate (512 * (table_pages N + 1)) 0 ++ drop (512 * (table_pages N + 1)) v)
    (replicate (64 * (table_pages N + 1)) 0 ++ drop (64 * (table_pages N + 1)) l)
    = rw (eight (table_pages N + 1)) at (zeroed v l (64 * (table_pages N + 1)) s) in
    rw s.len
    (by_bool (sizes_ok P N && eqb (8 * length l) (512 * P))
    (λ e. rw e (put _ _ 64 1 (put _ _ 2 1 (put _ _ 1 N (put _ _ 0 P z)))))
    (λ e. rw e))
  where
    eight : (n : ℕ) → 8 * (64 * n) ≡ 512 * n
    eight n = omega arith

blank_alike : (n : ℕ) → SameWords (replicate (512 * n) 255) (replicate (64 * n) (2 ^ 64 - 1))
blank_alike n = let e : 8 * (64 * n) ≡ 512 * n = omega arith in rw e at (repeated (64 * n) 255)

-- so a table holds of bytes if it holds of words
pub alike : Alike as_bytes as_words SameWords
unfolding as_bytes as_words
alike =
    record {
      len = λ v l s. s.len;
      mem = λ v l s. fun_ext s.words;
      blank = blank_alike;
      format = format_alike;
      after = leave;
    }
