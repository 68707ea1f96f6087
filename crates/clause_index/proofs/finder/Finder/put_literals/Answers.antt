use Rattle.std.proofs.Common.{ℕ, Bool, not, subst, ap, ◌∙◌, arith}
use Rattle.clause_index.specs.Entries.{is_short}
use Rattle.clause_index.proofs.Filing.{LiteralsFiled, clause_filed}
use Rattle.clause_index.proofs.finder.Finder.put_literals.Goals as goal

pub returns-clause-filed : goal.returns-clause-filed
returns-clause-filed c = λ under.
    let literals = c.as_slice-literal-items.result.now in
    clause_filed c.args.self.now c.loop-literal.self c.args.held.now literals c.loop-literal.literal-index
    (c.as_slice-literal-items.ensures.literals ∙ c.clause-2.ensures) (omega (arith, c.loop-literal-test.false))
    (subst (λ (b : Bool). LiteralsFiled b c.args.self.now c.loop-literal.self c.args.held.now.number literals c.loop-literal.literal-index)
    (ap not (c.is_short-long.ensures ∙ ap is_short c.clause.ensures))
    (subst (λ (n : ℕ). LiteralsFiled (not c.is_short-long.result) c.args.self.now c.loop-literal.self n literals c.loop-literal.literal-index) c.number-number.ensures c.loop-literal.invariant)) under
