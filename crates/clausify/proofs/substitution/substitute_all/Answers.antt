use Rattle.std.proofs.Common.{◌∙◌, ap}
use Rattle.fol_core.specs.Tree.{trees_of}
use Rattle.fol_core.specs.TermView.{tree_list}
use Rattle.fol_core.specs.Substitutions.{substitute_all}
use Rattle.clausify.specs.View.{put_by}
use Rattle.fol_core.proofs.Putting.{put_made}
use Rattle.clausify.proofs.substitution.substitute_all.Goals as goal

pub returns : goal.returns
returns c = put_made (put_by c.args.rows.now) c.deref-term-items.result.now c.loop-term.term-index c.loop-term.made c.loop-term-test.false c.loop-term.invariant
    ∙ ap (λ ts. substitute_all (put_by c.args.rows.now) (trees_of (tree_list ts))) c.deref-term-items.ensures.value
    ∙ ap (λ ts. substitute_all (put_by c.args.rows.now) (trees_of ts)) c.terms.view_is
