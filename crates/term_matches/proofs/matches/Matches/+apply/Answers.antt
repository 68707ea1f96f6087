use Rattle.std.proofs.Common.{◌∙◌, ap, sym}
use Rattle.fol_core.specs.Tree.{app, trees_of}
use Rattle.fol_core.specs.TermView.{tree_of, tree_list}
use Rattle.fol_core.specs.Substitutions.{substitute, substitute_all}
use Rattle.fol_core.proofs.Putting.{put_made}
use Rattle.substitutions.specs.Bindings.{by_bindings}
use Rattle.term_matches.proofs.matches.Matches.+apply.Goals as goal

pub returns-after-loop-term : goal.returns-after-loop-term
returns-after-loop-term t c =
    ap (app c.in-App.f.0) (put_made (by_bindings c.args.self.now.bindings) c.deref-term-items.result.now c.loop-term.term-index c.loop-term.made c.loop-term-test.false c.loop-term.invariant
    ∙ ap (λ ts. substitute_all (by_bindings c.args.self.now.bindings) (trees_of (tree_list ts))) c.deref-term-items.ensures.value
    ∙ ap (λ ts. substitute_all (by_bindings c.args.self.now.bindings) (trees_of ts)) c.terms.view_is)
    ∙ ap (λ t. substitute (by_bindings c.args.self.now.bindings) (tree_of t)) (sym c.in-App.is)
