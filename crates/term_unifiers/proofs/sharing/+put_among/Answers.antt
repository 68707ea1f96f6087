-- An argument more, and all under their symbol.
use Rattle.std.proofs.Common.{IfOk, ap, sym, subst}
use Rattle.fol_core.specs.Substitutions.{substitute}
use Rattle.fol_core.specs.TermView.{tree_of}
use Rattle.substitutions.specs.Bindings.{by_bindings}
use Rattle.term_unifiers.specs.Renamed.{own_among}
use Rattle.term_unifiers.specs.Shared.{IsPut}
use Rattle.term_unifiers.specs.Solutions.{bindings_of}
use Rattle.term_unifiers.proofs.Held.{result_made, term_put}
use Rattle.term_unifiers.proofs.sharing.+put_among.Goals as goal

pub loop-term-preserved : goal.loop-term-preserved
loop-term-preserved t c =
    term_put (own_among c.args.many (by_bindings (bindings_of c.args.found.now)) c.args.parent) c.deref-term-items.result.now c.loop-term.term-index c.term-item.result c.args.bank.now c.loop-term.bank c.put_among.new.bank c.args.numbers.now c.loop-term.numbers c.put_among.new.numbers
    c.loop-term.made.items c.push.new.self.items c.in_ok-put_among-in-App.field-0 c.loop-term-test.true c.term-item.is c.in_ok-push-in-App.ensures.items c.loop-term.invariant c.in_ok-put_among-in-App.ensures

pub returns-after-loop-term : goal.returns-after-loop-term
returns-after-loop-term t c =
    let s = own_among c.args.many (by_bindings (bindings_of c.args.found.now)) c.args.parent in
    subst (λ u. IfOk c.apply.result (λ id. IsPut c.args.bank.now c.apply.new.self c.args.numbers.now c.loop-term.numbers u id.0)) (ap (λ t. substitute s (tree_of t)) (sym c.in-App.is))
    (result_made c.apply.result s c.in-App.f.0 c.args.bank.now c.loop-term.bank c.apply.new.self c.args.numbers.now c.loop-term.numbers c.deref-term-items.result.now c.terms.inside.items.items c.in-App.terms c.as_slice.result.now c.loop-term.made.items c.loop-term.term-index c.as_slice.ensures.value c.loop-term.invariant c.apply.ensures.grows c.apply.ensures.term
    c.loop-term-test.false c.deref-term-items.ensures.value c.terms.view_is)
