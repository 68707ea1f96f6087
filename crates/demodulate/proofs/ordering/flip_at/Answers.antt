use Rattle.std.proofs.Common.{ap, sym, ◌∙◌, map, arith}
use Rattle.std.proofs.lemmas.Bool.{and_parts}
use Rattle.std.proofs.lemmas.Grind.{common_steps}
use Rattle.derivation.specs.Equations.{is_equation}
use Rattle.derivation.specs.View.{later_of}
use Rattle.fol_core.specs.ClauseView.{literal_of}
use Rattle.held_clauses.specs.Order.{greater_of}
use Rattle.demodulate.proofs.Passing.{literal_at, flips_turn, flips_past}
use Rattle.inference.proofs.Placing.{atom_is_at}
use Rattle.demodulate.proofs.ordering.flip_at.Goals as goal

pub turn_at-requires-clause-equation : goal.turn_at-requires-clause-equation
turn_at-requires-clause-equation c =
    ap is_equation (atom_is_at c.clause.inside.literals.items c.args.clause.now c.clause.view_is c.args.place c.index.result.now c.requires c.index.ensures) ∙ (and_parts _ _ (sym c.in_ok-is_turned.ensures ∙ c.if-branch.true)).0

pub returns-in_ok-push : goal.returns-in_ok-push
returns-in_ok-push c =
    flips_turn (greater_of c.args.precedence.now) c.args.clause.now (map later_of c.args.words.now.items) c.args.place (literal_of c.index.result.now) c.turn_at.new.clause (map later_of c.push.new.self.items) c.requires
    (literal_at c.clause.inside.literals.items c.args.clause.now c.clause.view_is c.args.place c.index.result.now c.requires c.index.ensures) (sym c.in_ok-is_turned.ensures ∙ c.if-branch.true) c.turn_at.ensures (grind (arith, common_steps, c.in_ok-push.ensures.items))

pub returns-else-branch : goal.returns-else-branch
returns-else-branch c =
    flips_past (greater_of c.args.precedence.now) c.args.clause.now (map later_of c.args.words.now.items) c.args.place (literal_of c.index.result.now) c.requires (literal_at c.clause.inside.literals.items c.args.clause.now c.clause.view_is c.args.place c.index.result.now c.requires c.index.ensures) (sym c.in_ok-is_turned.ensures ∙ c.if-branch.false)
