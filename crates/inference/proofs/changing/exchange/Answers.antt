use Rattle.std.proofs.Common.{ap, sym, ◌∙◌}
use Rattle.derivation.specs.Places.{atom_at}
use Rattle.fol_core.specs.TermView.{tree_of}
use Rattle.substitutions.specs.Paths.{replaced}
use Rattle.inference.proofs.Placing.{put_at, put_back, atom_is_at}
use Rattle.inference.proofs.changing.exchange.Goals as goal

pub returns-clause-changed : goal.returns-clause-changed
returns-clause-changed c =
    put_at c.clause.inside.literals.items c.args.clause.now c.clause.view_is c.args.place c.index_mut.result.now c.requires c.index_mut.ensures.value c.put_at.new.term (replaced (atom_at c.args.clause.now c.args.place) c.args.path.now (tree_of c.args.part))
    (c.put_at.ensures.changed ∙ ap (λ t. replaced t c.args.path.now (tree_of c.args.part)) (sym (atom_is_at c.clause.inside.literals.items c.args.clause.now c.clause.view_is c.args.place c.index_mut.result.now c.requires c.index_mut.ensures.value)))

pub returns-clause-back : goal.returns-clause-back
returns-clause-back c =
    put_back c.clause.inside.literals.items c.args.clause.now c.clause.view_is c.args.place c.index_mut.result.now c.requires c.index_mut.ensures.value c.put_at.new.term c.args.path.now (tree_of c.put_at.result) c.put_at.ensures.back
