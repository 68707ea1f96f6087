-- A path that isn't there, and one that goes on in an argument.
use Rattle.std.proofs.Common.{length, refl, ap, sym, ◌∙◌, arith}
use Rattle.std.proofs.lemmas.List.{length-map}
use Rattle.fol_core.specs.TermView.{tree_of}
use Rattle.fol_core.specs.Tree.{app, trees_of}
use Rattle.inference.proofs.Exchanging.{path_changed, path_back, path_zero, path_past}
use Rattle.inference.proofs.changing.+put_at.Goals as goal

pub returns-then-number-eq0-clause-changed : goal.returns-then-number-eq0-clause-changed
returns-then-number-eq0-clause-changed t c =
    path_zero c.in-App.field-0.0 c.in-App.terms c.in-Some.number.now c.args.path.now c.in-Some.rest.now (tree_of c.args.term.now) (tree_of c.args.part) (sym c.in-Some.ensures.cases.0) (ap tree_of (sym c.in-App.is)) c.if-number-eq0.true

pub returns-then-number-eq0-clause-back : goal.returns-then-number-eq0-clause-back
returns-then-number-eq0-clause-back t c =
    ap tree_of c.in-App.is
    ∙ path_zero c.in-App.field-0.0 c.in-App.terms c.in-Some.number.now c.args.path.now c.in-Some.rest.now (app c.in-App.field-0.0 (trees_of c.in-App.terms)) (tree_of c.args.part) (sym c.in-Some.ensures.cases.0) refl c.if-number-eq0.true

pub returns-then-number-len-clause-changed : goal.returns-then-number-len-clause-changed
returns-then-number-len-clause-changed t c =
    path_past c.in-App.field-0.0 c.in-App.terms c.in-Some.number.now c.args.path.now c.in-Some.rest.now (tree_of c.args.term.now) (tree_of c.args.part) (sym c.in-Some.ensures.cases.0) (ap tree_of (sym c.in-App.is))
    (omega (arith, c.if-number-len.true, c.len.ensures, ap length c.terms.view_is, length-map c.terms.inside.items.items tree_of))

pub returns-then-number-len-clause-back : goal.returns-then-number-len-clause-back
returns-then-number-len-clause-back t c =
    ap tree_of c.in-App.is
    ∙ path_past c.in-App.field-0.0 c.in-App.terms c.in-Some.number.now c.args.path.now c.in-Some.rest.now (app c.in-App.field-0.0 (trees_of c.in-App.terms)) (tree_of c.args.part) (sym c.in-Some.ensures.cases.0) refl
    (omega (arith, c.if-number-len.true, c.len.ensures, ap length c.terms.view_is, length-map c.terms.inside.items.items tree_of))

pub returns-else-number-len-clause-changed : goal.returns-else-number-len-clause-changed
returns-else-number-len-clause-changed t c =
    path_changed c.in-App.field-0.0 c.terms.inside.items.items c.in-Some.number.now c.args.path.now c.in-Some.rest.now c.index_mut.result.now c.put_at.new.term (tree_of c.args.term.now) (tree_of c.args.part) (sym c.in-Some.ensures.cases.0)
    (ap (λ ts. app c.in-App.field-0.0 (trees_of ts)) c.terms.view_is ∙ ap tree_of (sym c.in-App.is)) (omega (arith, c.if-number-eq0.false)) (omega (arith, c.if-number-len.false, c.len.ensures)) c.index_mut.ensures.value c.put_at.ensures.changed

pub returns-else-number-len-clause-back : goal.returns-else-number-len-clause-back
returns-else-number-len-clause-back t c =
    path_back c.in-App.field-0.0 c.terms.inside.items.items c.in-Some.number.now c.args.path.now c.in-Some.rest.now c.index_mut.result.now c.put_at.new.term (tree_of c.args.term.now) (tree_of c.put_at.result) (sym c.in-Some.ensures.cases.0)
    (ap (λ ts. app c.in-App.field-0.0 (trees_of ts)) c.terms.view_is ∙ ap tree_of (sym c.in-App.is)) (omega (arith, c.if-number-eq0.false)) (omega (arith, c.if-number-len.false, c.len.ensures)) c.index_mut.ensures.value c.put_at.ensures.back
