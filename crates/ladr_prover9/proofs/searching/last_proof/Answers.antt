-- There is one, and the last of those that the code has is that of the state.
use Rattle.std.proofs.Common.{◌≡◌, ◌-◌, ◌∙◌, ◌++◌, ◌∷◌, [], ℕ, suc, List, map, ap, length, subst, arith}
use Rattle.given_clause.specs.States.{found_of}
use Rattle.given_clause.specs.declared.state.FoundProof as code
use Rattle.ladr_prover9.proofs.Counted.{first_noted, last_found, one_behind}
use Rattle.ladr_prover9.proofs.searching.last_proof.Goals as goal
use Rattle.ladr_prover9.specs.Askings.{quest_of}
use Rattle.ladr_prover9.specs.Counting.{HasExtent}
use Rattle.ladr_prover9.specs.ProofTexts.{IsProofText}
use Rattle.ladr_prover9.specs.Quests.{quest_lines}
use Rattle.prover.specs.Provers.{state_at}
use Rattle.prover_steps.specs.Searching.{FoundProof}

pub returns-clause-text : goal.returns-clause-text
returns-clause-text c = λ ps p e.
    let q = quest_of c.args.asking.now in
    let all = quest_lines q (state_at c.args.prover.now) in
    let none : code.FoundProof = record { line = 0; given = 0 } in
    let xs = c.proofs-proofs.result.now in
    let had : map found_of xs ≡ ps ++ p ∷ [] = ap (λ (l : List code.FoundProof). map found_of l) c.proofs-proofs.ensures ∙ e in
    let many : length xs ≡ suc (length ps) = one_behind xs ps p had in
    let place : length xs - 1 ≡ length ps = omega (arith, many) in
    let text = c.in_ok-printed.printed.text.items in
    subst (λ (n : ℕ). IsProofText q all n p text) many
    (subst (λ (x : FoundProof). IsProofText q all (length xs) x text) (last_found xs ps p (length xs - 1) none had place) c.in_ok-printed.ensures.text)

pub returns-clause-first : goal.returns-clause-first
returns-clause-first c = λ ps p e h.
    let q = quest_of c.args.asking.now in
    let all = quest_lines q (state_at c.args.prover.now) in
    let none : code.FoundProof = record { line = 0; given = 0 } in
    let xs = c.proofs-proofs.result.now in
    let had : map found_of xs ≡ ps ++ p ∷ [] = ap (λ (l : List code.FoundProof). map found_of l) c.proofs-proofs.ensures ∙ e in
    let many : length xs ≡ suc (length ps) = one_behind xs ps p had in
    let place : length xs - 1 ≡ length ps = omega (arith, many) in
    let extent = c.in_ok-printed.printed.extent in
    first_noted all ps p (length xs) c.args.first.now c.note_first.new.first extent many c.note_first.ensures.one c.note_first.ensures.more h
    (subst (λ (x : FoundProof). HasExtent all x.line extent.length extent.level) (last_found xs ps p (length xs - 1) none had place) c.in_ok-printed.ensures.extent)
