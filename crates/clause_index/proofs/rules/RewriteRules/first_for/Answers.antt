use Rattle.std.proofs.Common.{ℕ, ◌+◌, ◌≤◌, sym, ap, ◌∙◌, is_some}
use Rattle.std.specs.List.{find}
use Rattle.clause_index.specs.Places.{with_number}
use Rattle.discrim_tree.specs.Tries.{HasRisen}
use Rattle.fol_core.specs.TermView.{tree_of}
use Rattle.prover_steps.specs.Rewriting.{rewritten_by}
use Rattle.clause_index.proofs.Ruling.{rule_found, no_rule_found, tests_counted}
use Rattle.clause_index.proofs.rules.RewriteRules.first_for.Goals as goal

pub returns-in-Some-clause-first : goal.returns-in-Some-clause-first
returns-in-Some-clause-first c =
    c.with_number.ensures ∙ ap (with_number c.in-Some.number) c.as_slice.ensures.value
    ∙ rule_found (tree_of c.args.term.now) c.self.inside.rules.items c.self.inside.lefts c.in-Some.number c.self.invariant.indexed (sym c.in_ok-number.ensures.found ∙ c.in-Some.is)
    ∙ ap (find (λ r. is_some (rewritten_by r (tree_of c.args.term.now)))) c.self.view_is

pub returns-in-None-clause-first : goal.returns-in-None-clause-first
returns-in-None-clause-first c =
    sym (no_rule_found (tree_of c.args.term.now) c.self.inside.rules.items c.self.inside.lefts c.self.invariant.indexed (sym c.in_ok-number.ensures.found ∙ c.in-None.is))
    ∙ ap (find (λ r. is_some (rewritten_by r (tree_of c.args.term.now)))) c.self.view_is

pub returns-in-Some-clause-no_more : goal.returns-in-Some-clause-no_more
returns-in-Some-clause-no_more c =
    tests_counted (λ (n : ℕ). c.first_generalization.new.tries ≤ c.args.tries.now + n) (tree_of c.args.term.now) c.self.inside.rules.items c.args.self.now c.self.inside.lefts _
    c.self.invariant.indexed c.self.view_is c.in_ok-number.ensures.found c.in_ok-number.ensures.no_more

pub returns-in-Some-clause-tested : goal.returns-in-Some-clause-tested
returns-in-Some-clause-tested c =
    tests_counted (λ (n : ℕ). HasRisen n c.args.tries.now c.first_generalization.new.tries) (tree_of c.args.term.now) c.self.inside.rules.items c.args.self.now c.self.inside.lefts _
    c.self.invariant.indexed c.self.view_is c.in_ok-number.ensures.found c.in_ok-number.ensures.tested

pub returns-in-None-clause-no_more : goal.returns-in-None-clause-no_more
returns-in-None-clause-no_more c =
    tests_counted (λ (n : ℕ). c.first_generalization.new.tries ≤ c.args.tries.now + n) (tree_of c.args.term.now) c.self.inside.rules.items c.args.self.now c.self.inside.lefts _
    c.self.invariant.indexed c.self.view_is c.in_ok-number.ensures.found c.in_ok-number.ensures.no_more

pub returns-in-None-clause-tested : goal.returns-in-None-clause-tested
returns-in-None-clause-tested c =
    tests_counted (λ (n : ℕ). HasRisen n c.args.tries.now c.first_generalization.new.tries) (tree_of c.args.term.now) c.self.inside.rules.items c.args.self.now c.self.inside.lefts _
    c.self.invariant.indexed c.self.view_is c.in_ok-number.ensures.found c.in_ok-number.ensures.tested
