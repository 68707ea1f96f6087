use Rattle.std.proofs.Common.{◌∙◌, ap}
use Rattle.fol_core.specs.Tree.{trees_of}
use Rattle.fol_core.specs.TermView.{tree_list}
use Rattle.ladr_print.specs.TermText.{naming_of, terms_raw}
use Rattle.ladr_print.proofs.Ends.{raws_made}
use Rattle.ladr_print.proofs.terms.terms_raw.Goals as goal

pub returns : goal.returns
returns c = raws_made c.args.symbols.now (naming_of c.args.variables) c.deref-term-items.result.now c.loop-term.term-index c.loop-term.args c.loop-term-test.false c.loop-term.invariant
    ∙ ap (λ ts. terms_raw c.args.symbols.now (naming_of c.args.variables) (trees_of (tree_list ts))) c.deref-term-items.ensures.value
    ∙ ap (λ ts. terms_raw c.args.symbols.now (naming_of c.args.variables) (trees_of ts)) c.terms.view_is
