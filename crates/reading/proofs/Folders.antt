-- The calls that read a folder: behind the gate the call's own checks decide.
use Rattle.model.proofs.Prelude.{ℕ, ◌≤◌, ◌≡◌, sym, ◌∙◌, ap, Bool, true, false, not, List, none, some, not-true, not-false, length}
use Rattle.std.specs.Prelude.{Result, Ok, Err, IsErrAnd, ⊤}
use Rattle.model.specs.Words.{word}
use Rattle.model.specs.Layout.{is_directory, root}
use Rattle.model.specs.Journal.{view}
use Rattle.model.specs.Answer.{refused, done, first_refusal, not_there, wrong_type}
use Rattle.model.specs.Public.{closed_checks, find, total, find_answer, total_answer, beneath}
use Rattle.names.specs.Inodes.{valid_in}
use Rattle.answer.specs.Meaning.{meaning, done_meaning, numbered, plain, number_of}
use Rattle.answer.specs.declared.Refusal.{Refusal}
use Rattle.answer.proofs.Checked.{passed_on, refuses_alike, passes_alike}
use Rattle.gate.specs.Gated.{Gated}
use Rattle.gate.proofs.Gates.{gate_refused, gate_passed, gate_readable}
use Rattle.checks.specs.Names.{leads_in, find_first}
use Rattle.checks.proofs.Cases.{there_is}
use Rattle.reading.specs.Folder.{folder_first}

-- `folder_checks`: q is what `is_valid` answered of inode d, i what `is_directory` did
module _ (v : List ℕ) (d N : ℕ) (o : N ≡ word v 1) (q : Bool) (b : q ≡ valid_in (view (word v)) N d) where
  pub folder_none : not q ≡ true → refused not_there ≡ plain (first_refusal (folder_first v d) (done record {}))
  unfolding folder_first
  folder_none z = rw (there_is v N d q o b, not-true q z)

  module _ (z : not q ≡ false) (i : Bool) (l : i ≡ is_directory (view (word v)) d) where
    pub folder_file : not i ≡ true → refused wrong_type ≡ plain (first_refusal (folder_first v d) (done record {}))
    unfolding folder_first
    folder_file s = rw (there_is v N d q o b, not-false q z, ← l, not-true i s)

    pub folder_is : not i ≡ false → done none ≡ plain (first_refusal (folder_first v d) (done record {}))
    unfolding folder_first
    folder_is s = rw (there_is v N d q o b, not-false q z, ← l, not-false i s)

-- the bytes beneath folder d
abbrev bytes_of : List ℕ → ℕ → ℕ
bytes_of v d = beneath (view (word v)) (word v 0) (word v 1) (word v 1) d

-- places, marks and tree are what the gate left
module _ (v places marks tree : List ℕ) where
  module _ (e : Refusal) (r : Result ℕ Refusal) (p : IsErrAnd r (λ d. d ≡ e))
      (g : Gated v (closed_checks (length v) (word v)) (Err e) places marks tree) where
    pub find_gate : (d : ℕ) (x : List ℕ) → meaning r ≡ numbered (find_answer v d x)
    unfolding find_answer find find_first
    find_gate d x = rw (passed_on e r p, gate_refused v _ places marks tree e g (find_first v d x) (done (leads_in v d x)))

    pub total_gate : (d : ℕ) → meaning r ≡ numbered (total_answer v d)
    unfolding total_answer total folder_first
    total_gate d = rw (passed_on e r p, gate_refused v _ places marks tree e g (folder_first v d) (done (bytes_of v d)))

  module _ (n : ℕ) (g : Gated v (closed_checks (length v) (word v)) (Ok n) places marks tree) where
    pub gate_few : (N : ℕ) → N ≡ word v 1 → N ≤ 256
    gate_few N o = (gate_readable v _ n places marks tree g N o).inodes

    pub find_behind : (d : ℕ) (x : List ℕ) (t : Result ℕ Refusal)
        → meaning t ≡ numbered (first_refusal (find_first v d x) (done (leads_in v d x))) → meaning t ≡ numbered (find_answer v d x)
    unfolding find_answer find find_first
    find_behind d x t h = h ∙ sym (ap numbered (gate_passed v _ places marks tree n g (find_first v d x) (done (leads_in v d x))))

    module _ (d : ℕ) where
      total_came : total_answer v d ≡ first_refusal (folder_first v d) (done (bytes_of v d))
      unfolding total_answer total folder_first
      total_came = gate_passed v _ places marks tree n g (folder_first v d) (done (bytes_of v d))

      pub total_asked : (e : Refusal) (r : Result ℕ Refusal) → IsErrAnd r (λ d. d ≡ e)
          → done_meaning (Err e) ≡ plain (first_refusal (folder_first v d) (done record {})) → meaning r ≡ numbered (total_answer v d)
      total_asked e r p h =
          rw (passed_on e r p, total_came, refuses_alike (λ z. none) (number_of e) (folder_first v d) _ h (done (bytes_of v d)))

      pub total_is_lem : (u : ⊤) → done_meaning (Ok u) ≡ plain (first_refusal (folder_first v d) (done record {}))
          → (N x : ℕ) → N ≡ word v 1 → x ≡ beneath (view (word v)) (word v 0) (word v 1) N d → done (some x) ≡ numbered (total_answer v d)
      total_is_lem u h N x o c = rw (total_came, passes_alike (λ z. none) none (folder_first v d) _ h (done (bytes_of v d)), c, o)
