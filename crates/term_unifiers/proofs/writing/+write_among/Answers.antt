-- An argument more, and all under their symbol.
use Rattle.std.proofs.Common.{◌∙◌, ap, sym, subst}
use Rattle.fol_core.specs.Substitutions.{substitute}
use Rattle.fol_core.specs.TermView.{tree_of}
use Rattle.fol_core.specs.Tree.{app, elem, trees_of}
use Rattle.substitutions.specs.Bindings.{by_bindings}
use Rattle.term_unifiers.specs.Renamed.{own_among}
use Rattle.term_unifiers.specs.Solutions.{bindings_of}
use Rattle.term_unifiers.specs.Written.{IsWritten}
use Rattle.term_unifiers.proofs.Written.{element_written, made_written, term_next, written_as}
use Rattle.term_unifiers.proofs.writing.+write_among.Goals as goal

pub loop-term-preserved : goal.loop-term-preserved
loop-term-preserved t c =
    term_next (own_among c.args.many (by_bindings (bindings_of c.args.found.now)) c.args.parent) c.deref-term-items.result.now c.loop-term.term-index c.term-item.result c.args.numbers.now c.loop-term.numbers c.write_among.new.numbers c.loop-term.made c.push.new.self
    (tree_of c.in_ok-write_among-in-App.field-0) c.loop-term-test.true c.term-item.is c.in_ok-push-in-App.ensures.ok c.loop-term.invariant c.in_ok-write_among-in-App.ensures

pub returns-in-Var : goal.returns-in-Var
returns-in-Var t c =
    let s = own_among c.args.many (by_bindings (bindings_of c.args.found.now)) c.args.parent in
    written_as c.write_variable.result c.args.numbers.now c.write_variable.new.numbers (by_bindings (bindings_of c.args.found.now) c.number_apart.result) (substitute s (tree_of c.args.term.now))
    (ap (by_bindings (bindings_of c.args.found.now)) c.number_apart.ensures ∙ ap (λ t. substitute s (tree_of t)) (sym c.in-Var.is)) c.write_variable.ensures

pub returns-in-Elem : goal.returns-in-Elem
returns-in-Elem t c =
    let s = own_among c.args.many (by_bindings (bindings_of c.args.found.now)) c.args.parent in
    subst (λ u. IsWritten c.args.numbers.now c.args.numbers.now u (elem c.in-Elem.k)) (ap (λ t. substitute s (tree_of t)) (sym c.in-Elem.is)) (element_written c.args.numbers.now c.in-Elem.k)

pub returns-after-loop-term : goal.returns-after-loop-term
returns-after-loop-term t c =
    let s = own_among c.args.many (by_bindings (bindings_of c.args.found.now)) c.args.parent in
    subst (λ u. IsWritten c.args.numbers.now c.loop-term.numbers u (app c.in-App.f.0 (trees_of c.loop-term.made))) (ap (λ t. substitute s (tree_of t)) (sym c.in-App.is))
    (made_written s c.in-App.f.0 c.args.numbers.now c.loop-term.numbers c.deref-term-items.result.now c.terms.inside.items.items c.in-App.terms c.loop-term.made c.loop-term.term-index c.loop-term.invariant c.loop-term-test.false c.deref-term-items.ensures.value c.terms.view_is)
