-- The sides differ, or are the same.
use Rattle.std.proofs.Common.{◌∙◌, sym}
use Rattle.inference.proofs.WordSteps.{drops, drops_not}
use Rattle.inference.proofs.words.drop_reflexive.Goals as goal

pub returns-then-not-has_same_sides_at-clause-follows : goal.returns-then-not-has_same_sides_at-clause-follows
returns-then-not-has_same_sides_at-clause-follows g c = λ ps.
    drops_not g.C.Underway.exceeds c.args.a (g.C.Underway.clause c.args.clause.now) ps (sym c.has_literal.ensures ∙ c.if-not-has_literal.false) (sym c.is_equation_at.ensures ∙ c.if-not-is_equation_at.false)
    (sym c.has_same_sides_at.ensures ∙ c.if-not-has_same_sides_at.true)

pub returns-clause-follows : goal.returns-clause-follows
returns-clause-follows g c = λ ps.
    drops g.C.Underway.exceeds c.args.a (g.C.Underway.clause c.args.clause.now) (g.C.Underway.clause c.take_out.new.self) ps (sym c.has_literal.ensures ∙ c.if-not-has_literal.false) (sym c.is_equation_at.ensures ∙ c.if-not-is_equation_at.false)
    (sym c.has_same_sides_at.ensures ∙ c.if-not-has_same_sides_at.false) c.take_out.ensures
