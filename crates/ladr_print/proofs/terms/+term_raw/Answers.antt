use Rattle.std.proofs.Common.{◌∙◌, ap, sym}
use Rattle.fol_core.specs.RawTree.{named}
use Rattle.fol_core.specs.TermView.{tree_of, tree_list}
use Rattle.fol_core.specs.Tree.{trees_of}
use Rattle.ladr_print.specs.TermText.{naming_of, term_raw, terms_raw}
use Rattle.ladr_print.proofs.Ends.{raws_made}
use Rattle.ladr_print.proofs.terms.+term_raw.Goals as goal

pub returns-after-loop-term : goal.returns-after-loop-term
returns-after-loop-term t c =
    let table = c.args.symbols.now in
    let v = naming_of c.args.variables in
    let all = raws_made table v c.deref-term-items.result.now c.loop-term.term-index c.loop-term.args c.loop-term-test.false c.loop-term.invariant
    ∙ ap (λ ts. terms_raw table v (trees_of (tree_list ts))) c.deref-term-items.ensures.value
    ∙ ap (λ ts. terms_raw table v (trees_of ts)) c.terms.view_is in
    (λ i. named (c.in_ok-name-in-App.ensures i) (all i)) ∙ ap (λ t. term_raw table v (tree_of t)) (sym c.in-App.is)
