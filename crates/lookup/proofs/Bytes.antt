-- Bytes of a slice: what `all` and `==` answer of them is what the definitions say of lists, and a part of a volume is the bytes that its
-- words hold.
use Rattle.model.proofs.Prelude.{ℕ, ◌+◌, ◌≤◌, ◌<◌, ◌≡◌, refl, sym, ◌∙◌, List, [], ◌∷◌, arith, length, get_or, take, drop, length-take, length-drop, ext_get_or, get_or-take, get_or-drop, eqb}
use Rattle.std.specs.List.{list_all}
use Rattle.std.specs.Cmp.Lexicographic.{pointwise}
use Rattle.model.specs.Lists.{all, same_list, values_from}
use Rattle.model.specs.Words.{word, byte_at}
use Rattle.model.specs.Entry.{name_byte_ok}
use Rattle.model.proofs.Tests.{by_bool}
use Rattle.model.proofs.Lists.{length_values, values_at}
use Rattle.model.proofs.Words.{byte_word}

pub all_bytes : (n : List ℕ) → all name_byte_ok n ≡ list_all name_byte_ok n
unfolding all
all_bytes [] = refl
all_bytes (x ∷ n) = by_bool (name_byte_ok x) (λ e. rw (all, e) (all_bytes n)) (λ e. rw (all, e))

pub same_bytes : (x y : List ℕ) → same_list x y ≡ pointwise eqb x y
unfolding same_list
same_bytes [] [] = refl
same_bytes [] (b ∷ y) = refl
same_bytes (a ∷ x) [] = refl
same_bytes (a ∷ x) (b ∷ y) = by_bool (eqb a b) (λ e. rw (same_list, e) (same_bytes x y)) (λ e. rw (same_list, e))

pub part_bytes : (v : List ℕ) (at n k : ℕ) → ((i : ℕ) → get_or v i 0 < 256) → at + n ≤ length v → k ≡ n
    → take k (drop at v) ≡ values_from (byte_at (word v)) at n
part_bytes v at n k bytes h q =
    let e : length (take k (drop at v)) ≡ n = rw (length-take, length-drop) (omega arith) in
    ext_get_or 0 (take k (drop at v)) (values_from (byte_at (word v)) at n) (e ∙ sym (length_values (byte_at (word v)) at n))
    (λ i l.
    let g : i < k = omega arith in
    get_or-take k (drop at v) i 0 g ∙ get_or-drop at v i 0 ∙ sym (values_at (byte_at (word v)) at n i (omega arith) ∙ byte_word v (at + i) bytes))
