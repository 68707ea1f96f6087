-- The parts of the state.
use Rattle.std.proofs.Common.{◌≡◌, ℕ, suc, ◌+◌, ap, ◌∙◌, List, length, map, arith}
use Rattle.std.proofs.lemmas.List.{length-map}
use Rattle.fol_problem.specs.Stated.{Said, all_said, said_of}
use Rattle.fol_problem.specs.declared.problem.Input.{Input}
use Rattle.given_clause.specs.States.{found_of, made_line_of}
use Rattle.prover_steps.specs.Starting.{queued_inputs, rules_of}
use Rattle.prover_setup.proofs.Started.{started}
use Rattle.prover_setup.proofs.starting.start_search.Goals as goal

pub returns-clause-state : goal.returns-clause-state
returns-clause-state c =
    let ss : List Said = all_said c.args.problem.now.inputs.items in
    let rows = c.args.clauses.now in
    let many : length ss ≡ length c.args.problem.now.inputs.items = length-map c.args.problem.now.inputs.items said_of in
    let said : all_said c.as_slice-inputs.result.now ≡ ss = ap all_said c.as_slice-inputs.ensures.value in
    let inputs : length c.as_slice-inputs.result.now ≡ length c.args.problem.now.inputs.items = ap (λ (is : List Input). length is) c.as_slice-inputs.ensures.value in
    let first : c.in_ok-first.first ≡ suc (length ss) = omega (arith, c.in_ok-first.ensures, inputs, many) in
    let next : c.in_ok-next.next ≡ suc (length ss + length rows) = omega (arith, c.in_ok-next.ensures, first) in
    started ss rows _ _ _ _ _ _ _
    c.new.ensures.held c.new-2.ensures
    (c.in_ok-rules.ensures ∙ ap (λ (ts : List Said). rules_of ts c.in_ok-first.first rows) said ∙ ap (λ (n : ℕ). rules_of ss n rows) first)
    (c.in_ok-queue.ensures ∙ ap (λ (ts : List Said). queued_inputs ts c.in_ok-first.first rows) said ∙ ap (λ (n : ℕ). queued_inputs ss n rows) first)
    (ap (λ ls. map made_line_of ls) c.new-3.ensures.items) next (ap (λ ps. map found_of ps) c.new-5.ensures.items)
