use Rattle.std.proofs.Common.{◌≡◌, OnOk, true, false, map, Some, None, sym, ap, ap₂, ◌∙◌, subst}
use Rattle.std.specs.Option.{option_map}
use Rattle.derivation.specs.Later.{is_unit}
use Rattle.derivation.specs.View.{later_of}
use Rattle.fol_core.specs.Literals.{ClauseTree}
use Rattle.given_clause.specs.Acting.{conflicts_with, first_in}
use Rattle.given_clause.specs.States.{state_of}
use Rattle.prover_steps.specs.Searching.{Queued, SearchState, all_held, with_line, with_proof}
use Rattle.resolution.specs.View.{conclusion_of}
use Rattle.given_clause.proofs.Conflicts.{conflict_met}
use Rattle.given_clause.proofs.acting.meet_units.Goals as goal

pub returns-clause-state : goal.returns-clause-state
returns-clause-state c =
    let s = state_of c.args.search.now in
    let h = c.args.held.now in
    let n = conclusion_of c.in-Some.conclusion in
    let q : Queued = record { clause = c.new.result; first = n.first; later = map later_of c.new-2.result.items; input = None; usable = false } in
    let one : is_unit h.clause ≡ true = sym (c.is_unit.ensures ∙ ap is_unit c.clause.ensures) ∙ c.if-not-is_unit.false in
    let made : Some n ≡ first_in (conflicts_with (all_held s) h) = ap (option_map conclusion_of) (sym c.in-Some.is) ∙ c.in_ok-conclusion.ensures.made in
    subst (λ (t : SearchState). OnOk c.add_proof.result (state_of c.add_proof.new.search ≡ t))
    (ap₂ with_proof (c.number.ensures ∙ ap (λ l. l.number) c.in_ok-line.ensures.held) c.in_ok-line.ensures.state
    ∙ ap (λ (t : SearchState). with_proof t.next (with_line t q)) c.in_ok-conclusion.ensures.state
    ∙ ap₂ (λ (d : ClauseTree) ls. with_proof s.next (with_line s (record { clause = d; first = n.first; later = map later_of ls; input = None; usable = false }))) c.new.ensures c.new-2.ensures.items
    ∙ conflict_met s h n one made)
    c.add_proof.ensures.state
