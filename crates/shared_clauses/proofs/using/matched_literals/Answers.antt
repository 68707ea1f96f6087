-- Nothing makes it of the term, or the bindings do.
use Rattle.std.proofs.Common.{◌≡◌, List, ℕ, [], None, Some, Option, Result, Ok, Err, IfOk, true, false, Bool, sym, ap, ◌∙◌, subst}
use Rattle.fol_core.specs.TermView.{tree_of}
use Rattle.shared_clauses.specs.Bound.{bound_in}
use Rattle.shared_clauses.specs.Shared.{clause_in}
use Rattle.shared_clauses.proofs.UsedSteps.{result_used, unmatched, used_none, used_with, was_matched}
use Rattle.term_bank.specs.Bank.{tree_at}
use Rattle.unifiers.specs.Matching.{matched}
use Rattle.shared_clauses.proofs.using.matched_literals.Goals as goal

pub returns-then-not-branch-clause-made : goal.returns-then-not-branch-clause-made
returns-then-not-branch-clause-made c =
    let g = tree_of c.args.general.now in
    let t = tree_at c.args.bank.now c.args.id.0 in
    used_none g t c.args.used.now (clause_in c.args.bank.now c.new.result.items) c.args.fresh
    (ap (λ l. matched g t (bound_in c.args.bank.now l)) (sym c.new-bindings.ensures.items)
    ∙ unmatched (matched g t (bound_in c.args.bank.now c.new-bindings.result.items)) c.args.bank.now c.match_onto.new.bindings.items c.in_ok-match_onto.field-0 c.in_ok-match_onto.ensures c.if-not-branch.true)

pub returns-clause-made : goal.returns-clause-made
returns-clause-made c =
    let g = tree_of c.args.general.now in
    let t = tree_at c.args.bank.now c.args.id.0 in
    result_used c.used_literals.result c.args.bank.now c.used_literals.new.bank g t c.args.used.now c.args.fresh c.match_onto.new.bindings.items c.as_slice.result.now c.as_slice.ensures.value
    (ap (λ l. matched g t (bound_in c.args.bank.now l)) (sym c.new-bindings.ensures.items)
    ∙ (was_matched (matched g t (bound_in c.args.bank.now c.new-bindings.result.items)) c.args.bank.now c.match_onto.new.bindings.items c.in_ok-match_onto.field-0 c.in_ok-match_onto.ensures c.if-not-branch.false).0)
    c.used_literals.ensures.made
