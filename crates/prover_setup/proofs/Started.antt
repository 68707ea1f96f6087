-- The state in which a search begins, by its parts.
use Rattle.std.proofs.Common.{◌≡◌, ℕ, suc, ◌+◌, ap, ◌∙◌, List, [], length, None}
use Rattle.derivation.specs.Lines.{InputRow}
use Rattle.fol_problem.specs.Stated.{Said}
use Rattle.prover_steps.specs.Clashing.{Held}
use Rattle.prover_steps.specs.Searching.{FoundProof, MadeLine, Queued, SearchState}
use Rattle.prover_steps.specs.Starting.{queued_inputs, rules_of, start_state}

abbrev pub state_by : List Held → List Held → List Held → List Queued → List MadeLine → ℕ → List FoundProof → SearchState
state_by waiting usable rules queue lines next proofs = record {
  waiting = waiting;
  usable = usable;
  rules = rules;
  queue = queue;
  lines = lines;
  next = next;
  turn = 0;
  given = 0;
  generated = 0;
  kept = 0;
  large = 0;
  symbols = 0;
  proofs = proofs;
  ended = None;
}

module _ (ss : List Said) (rows : List InputRow) where
  abbrev first_rules : List Held
  first_rules = rules_of ss (suc (length ss)) rows

  abbrev first_queue : List Queued
  first_queue = queued_inputs ss (suc (length ss)) rows

  pub started : (waiting usable rules : List Held) (queue : List Queued) (lines : List MadeLine) (next : ℕ) (proofs : List FoundProof) → waiting ≡ [] → usable ≡ [] → rules ≡ rules_of ss (suc (length ss)) rows
      → queue ≡ queued_inputs ss (suc (length ss)) rows → lines ≡ [] → next ≡ suc (length ss + length rows) → proofs ≡ [] → state_by waiting usable rules queue lines next proofs ≡ start_state ss rows
  started waiting usable rules queue lines next proofs a b c d e f g =
      ap (λ y. state_by y usable rules queue lines next proofs) a
      ∙ ap (λ y. state_by [] y rules queue lines next proofs) b
      ∙ ap (λ y. state_by [] [] y queue lines next proofs) c
      ∙ ap (λ y. state_by [] [] first_rules y lines next proofs) d
      ∙ ap (λ y. state_by [] [] first_rules first_queue y next proofs) e
      ∙ ap (λ y. state_by [] [] first_rules first_queue [] y proofs) f
      ∙ ap (λ y. state_by [] [] first_rules first_queue [] (suc (length ss + length rows)) y) g
