use Rattle.std.proofs.Common.{◌∙◌, ap, sym}
use Rattle.fol_core.specs.Tree.{app, trees_of}
use Rattle.fol_core.specs.TermView.{tree_of, tree_list}
use Rattle.fol_core.specs.Substitutions.{substitute, substitute_all}
use Rattle.clausify.specs.View.{put_by}
use Rattle.fol_core.proofs.Putting.{put_made}
use Rattle.clausify.proofs.substitution.+substitute.Goals as goal

pub returns-after-loop-term : goal.returns-after-loop-term
returns-after-loop-term t c =
    ap (app c.in-App.s.0) (put_made (put_by c.args.rows.now) c.deref-term-items.result.now c.loop-term.term-index c.loop-term.made c.loop-term-test.false c.loop-term.invariant
    ∙ ap (λ ts. substitute_all (put_by c.args.rows.now) (trees_of (tree_list ts))) c.deref-term-items.ensures.value
    ∙ ap (λ ts. substitute_all (put_by c.args.rows.now) (trees_of ts)) c.terms.view_is)
    ∙ ap (λ t. substitute (put_by c.args.rows.now) (tree_of t)) (sym c.in-App.is)
