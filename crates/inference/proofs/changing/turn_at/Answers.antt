use Rattle.std.proofs.Common.{ap, sym, ◌∙◌}
use Rattle.derivation.specs.Equations.{equation, is_equation, left_of, right_of}
use Rattle.derivation.specs.Places.{atom_at}
use Rattle.inference.proofs.Placing.{put_at, atom_is_at}
use Rattle.inference.proofs.changing.turn_at.Goals as goal

pub turn-requires : goal.turn-requires
turn-requires c =
    ap is_equation (sym (atom_is_at c.clause.inside.literals.items c.args.clause.now c.clause.view_is c.args.place c.index_mut.result.now c.requires.place c.index_mut.ensures.value)) ∙ c.requires.equation

pub returns : goal.returns
returns c =
    put_at c.clause.inside.literals.items c.args.clause.now c.clause.view_is c.args.place c.index_mut.result.now c.requires.place c.index_mut.ensures.value c.turn.new.atom
    (equation (right_of (atom_at c.args.clause.now c.args.place)) (left_of (atom_at c.args.clause.now c.args.place)))
    (c.turn.ensures ∙ ap (λ t. equation (right_of t) (left_of t)) (sym (atom_is_at c.clause.inside.literals.items c.args.clause.now c.clause.view_is c.args.place c.index_mut.result.now c.requires.place c.index_mut.ensures.value)))
