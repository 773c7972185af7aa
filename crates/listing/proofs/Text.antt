-- What a volume's listing is: the line of the refusal that the gate answers, or the text, read from the gate's tables.
use Rattle.model.proofs.Prelude.{ℕ, ◌+◌, ◌≤◌, ◌<◌, ◌≡◌, refl, sym, true, List, ◌++◌, arith, lt-ltb, le-ltb, length, take, drop}
use Rattle.std.specs.Prelude.{Ok, Err}
use Rattle.model.specs.Lists.{all}
use Rattle.model.specs.Words.{word}
use Rattle.model.specs.Layout.{root}
use Rattle.model.specs.Journal.{view}
use Rattle.model.specs.Accept.{free_count}
use Rattle.model.specs.Answer.{done, first_refusal}
use Rattle.model.specs.Public.{closed_checks}
use Rattle.model.specs.Listing.{first_line, refusal_line, text_of, text_or, listing_of, listing}
use Rattle.directory.specs.Places.{standing, place_ok}
use Rattle.directory.proofs.Table.{standing_length}
use Rattle.names.specs.Listed.{Good, Lists}
use Rattle.names.proofs.Listing.{volume_sizes}
use Rattle.inodes.specs.Judged.{Served, unmarked_count}
use Rattle.inodes.proofs.Once.{free_count_lem}
use Rattle.answer.specs.Meaning.{number_of}
use Rattle.answer.specs.declared.Refusal.{Refusal}
use Rattle.answer.specs.declared.Refusal.TheVariants.{NoVolume}
use Rattle.gate.specs.Gated.{root_names, Gated}
use Rattle.answer.proofs.Checked.{same_refusal, none_refuses}
use Rattle.stores.specs.Emitted.{Emitted}
use Rattle.stores.proofs.Emitting.{emitted_both, emitted_parts}
use Rattle.listing.specs.Lines.{GoodInodes, lines_of}
use Rattle.listing.proofs.Files.{names_inodes}
use Rattle.listing.proofs.Fits.{first_most, lines_most, listing_fits}

-- The text of an accepted volume v with n names, by the gate's tables.
module _ (v : List ℕ) (g : Good v) (n : ℕ) (places : List ℕ) (t : Lists v root n places) where
  count_is : length (root_names v) ≡ n
  count_is = rw (← t.names) (standing_length (word v) (length v) places n t.filled)

  pub text_pages : (P : ℕ) → P ≡ word v 0 → P ≤ 4096
  text_pages P p = (volume_sizes v P (word v 1) g.volume p refl).most_pages

  pub text_places : all (place_ok (word v) (length v)) (take n places) ≡ true
  text_places = t.filled.oks

  pub text_inodes : GoodInodes (view (word v)) (word v 1) (standing (word v) (take n places))
  text_inodes = rw t.names (names_inodes v g)

  -- the first line is put, whatever its numbers are
  pub lines_room : (x y a : ℕ) (l m : List ℕ) → Emitted l 0 (first_line x y) a m
      → a + length (lines_of v (standing (word v) (take n places))) ≤ 11264
  lines_room x y a l m e =
      let b = lines_most v g in
      let c = first_most x y in
      let d = e.end in
      rw t.names (omega arith)

  -- P and N are the sizes as the code read them, and f is what `free_count` answered
  module _ (marks : List ℕ) (served : Served (view (word v)) (word v 0) (word v 1) true marks) (P N f : ℕ) (p : P ≡ word v 0)
      (q : N ≡ word v 1) (c : f ≡ unmarked_count marks P N) where
    free_is_lem : free_count (view (word v)) (word v 0) (word v 1) ≡ f
    free_is_lem =
        let u : f ≡ unmarked_count marks (word v 0) (word v 1) = rw (← p, ← q) c in
        sym (free_count_lem (view (word v)) (word v 0) (word v 1) true marks (text_pages (word v 0) refl) served refl f u)

    text_is : text_of (view (word v)) (word v 0) (word v 1) ≡ first_line n f ++ lines_of v (standing (word v) (take n places))
    unfolding text_of
    text_is = rw (count_is, free_is_lem, t.names)

    pub text_put : (l : List ℕ) (a : ℕ) (m : List ℕ) (r : ℕ) (o : List ℕ) → Emitted l 0 (first_line n f) a m
        → Emitted m a (lines_of v (standing (word v) (take n places))) r o → Emitted l 0 (text_of (view (word v)) (word v 0) (word v 1)) r o
    text_put l a m r o e d = rw text_is (emitted_both e d)

-- The listing of v, put into the text l; m is the text afterwards.
module _ (v : List ℕ) where
  abbrev text : List ℕ
  text = text_of (view (word v)) (word v 0) (word v 1)

  behind : length v ≤ 65536 → listing v ≡ text_or (first_refusal (closed_checks (length v) (word v)) (done text))
  unfolding listing listing_of
  behind h = rw (le-ltb 65536 (length v) h)

  module _ (l : List ℕ) (r : ℕ) (m : List ℕ) where
    pub long_put : (x : ℕ) → x ≡ number_of NoVolume → 65536 < length v → Emitted l 0 (refusal_line x) r m → Emitted l 0 (listing v) r m
    unfolding listing listing_of
    long_put x e h q = rw (lt-ltb 65536 (length v) h, ← e) q

    module _ (h : length v ≤ 65536) (places marks tree : List ℕ) where
      pub refused_put : (e : Refusal) → Gated v (closed_checks (length v) (word v)) (Err e) places marks tree → (x : ℕ) → x ≡ number_of e
          → Emitted l 0 (refusal_line x) r m → Emitted l 0 (listing v) r m
      refused_put e g x i q = rw (behind h, same_refusal (number_of e) (closed_checks (length v) (word v)) _ g.answer (done text), ← i) q

      pub passed_put : (n : ℕ) → Gated v (closed_checks (length v) (word v)) (Ok n) places marks tree
          → Emitted l 0 (text_of (view (word v)) (word v 0) (word v 1)) r m → Emitted l 0 (listing v) r m
      passed_put n g q = rw (behind h, none_refuses (closed_checks (length v) (word v)) _ n g.answer (done text)) q

    -- the text afterwards, by parts
    pub listed : length l ≡ 11264 → Emitted l 0 (listing v) r m → (r ≡ length (listing v)) × (r ≤ 11264) × (m ≡ listing v ++ drop r l)
    listed k e =
        let f = listing_fits v in
        let s = e.end in
        (omega arith, omega arith, emitted_parts e (omega arith))
