-- An argument more, and the node behind its arguments.
use Rattle.std.proofs.Common.{◌≡◌, ◌∙◌, ◌∷◌, [], sym, ap, subst, length, map, take, refl, arith}
use Rattle.fol_core.proofs.Putting.{put_made}
use Rattle.fol_core.specs.Substitutions.{substitute, substitute_all}
use Rattle.fol_core.specs.Tree.{var, app, trees_of}
use Rattle.fol_core.specs.TermView.{tree_of, tree_list}
use Rattle.substitutions.specs.Apart.{interleaved}
use Rattle.term_unifiers.specs.Arenas.{AreNodes, IsApplied}
use Rattle.term_unifiers.specs.Shapes.{variable, element}
use Rattle.term_unifiers.proofs.Entering.{nodes_next, leaf_node, application_node, made_next}
use Rattle.term_unifiers.proofs.apart.+put_apart.Goals as goal

pub loop-term-preserved : goal.loop-term-preserved
loop-term-preserved t c =
    let renamed = substitute (interleaved c.args.many c.args.place) in
    subst (AreNodes c.args.arena.now c.put_apart.new.arena c.args.numbers.now.items c.put_apart.new.numbers.items) (made_next renamed c.deref-term-items.result.now c.loop-term.term-index c.term-item.result c.loop-term-test.true c.term-item.is)
    (nodes_next c.args.arena.now c.loop-term.arena c.put_apart.new.arena c.args.numbers.now.items c.loop-term.numbers.items c.put_apart.new.numbers.items (map (λ u. renamed (tree_of u)) (take c.loop-term.term-index c.deref-term-items.result.now)) (renamed (tree_of c.term-item.result))
    c.loop-term.invariant c.in_ok-put_apart-in-App.ensures)

pub returns-in_ok-push-in-Var : goal.returns-in_ok-push-in-Var
returns-in_ok-push-in-Var t c =
    leaf_node c.args.arena.now c.enter_variable.new.arena c.args.numbers.now.items c.push.new.self.items (variable c.number_apart-own.result) c.in_ok-n-in-Var.n (substitute (interleaved c.args.many c.args.place) (tree_of c.args.term.now)) c.in_ok-n-in-Var.ensures c.in_ok-push-in-Var.ensures.items
    (ap var c.number_apart-own.ensures ∙ sym (ap (λ u. substitute (interleaved c.args.many c.args.place) (tree_of u)) c.in-Var.is))

pub returns-in_ok-push-in-Elem : goal.returns-in_ok-push-in-Elem
returns-in_ok-push-in-Elem t c =
    leaf_node c.args.arena.now c.enter_element.new.arena c.args.numbers.now.items c.push-in-Elem.new.self.items (element c.in-Elem.k) c.in_ok-n-in-Elem.n (substitute (interleaved c.args.many c.args.place) (tree_of c.args.term.now)) c.in_ok-n-in-Elem.ensures c.in_ok-push-in-Elem.ensures.items
    (sym (ap (λ u. substitute (interleaved c.args.many c.args.place) (tree_of u)) c.in-Elem.is))

pub returns-in_ok-apply-in-App : goal.returns-in_ok-apply-in-App
returns-in_ok-apply-in-App t c =
    let terms = interleaved c.args.many c.args.place in
    let first : c.len-first.result ≡ length c.args.numbers.now.items = omega (arith, c.len-first.ensures, c.args.numbers.now.ok.0) in
    let us = map (λ u. substitute terms (tree_of u)) (take c.loop-term.term-index c.deref-term-items.result.now) in
    let all : app c.in-App.f.0 (trees_of us) ≡ substitute terms (tree_of c.args.term.now) =
    ap (app c.in-App.f.0) (put_made terms c.deref-term-items.result.now c.loop-term.term-index us c.loop-term-test.false refl
    ∙ ap (λ ts. substitute_all terms (trees_of (tree_list ts))) c.deref-term-items.ensures.value
    ∙ ap (λ ts. substitute_all terms (trees_of ts)) c.terms.view_is)
    ∙ ap (λ t. substitute terms (tree_of t)) (sym c.in-App.is) in
    subst (λ u. AreNodes c.args.arena.now c.apply.new.arena c.args.numbers.now.items c.apply.new.numbers.items (u ∷ [])) all
    (application_node c.args.arena.now c.loop-term.arena c.apply.new.arena c.args.numbers.now.items c.loop-term.numbers.items c.apply.new.numbers.items c.in-App.f.0 us us
    c.loop-term.invariant refl (subst (λ n. IsApplied c.loop-term.arena c.apply.new.arena c.in-App.f.0 n c.loop-term.numbers.items c.apply.new.numbers.items) first c.in_ok-apply-in-App.ensures))
