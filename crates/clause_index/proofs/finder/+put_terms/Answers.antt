use Rattle.std.proofs.Common.{◌≡◌, List, sym, subst, ap, ◌∙◌, arith}
use Rattle.clause_index.specs.Filing.{Shows}
use Rattle.clause_index.specs.Finding.{has_term_such}
use Rattle.discrim_tree.specs.Sieves.{IsUnder}
use Rattle.fol_core.specs.Tree.{Tree, app, trees_of}
use Rattle.fol_core.specs.TermView.{tree_of, tree_list}
use Rattle.clause_index.proofs.Filing.{application_shown}
use Rattle.clause_index.proofs.finder.+put_terms.Goals as goal

pub returns-after-loop-term-clause-put : goal.returns-after-loop-term-clause-put
returns-after-loop-term-clause-put t c =
    let items = c.deref-term-items.result.now in
    let first = c.put-in-App.new.self in
    let parts : tree_list items ≡ c.in-App.terms = ap tree_list c.deref-term-items.ensures.value ∙ c.terms.view_is in
    let whole : app c.in-App.field-0.0 (trees_of (tree_list items)) ≡ tree_of c.args.term.now = ap (λ (ts : List Tree). app c.in-App.field-0.0 (trees_of ts)) parts ∙ sym (ap tree_of c.in-App.is) in
    subst (λ (u : Tree). Shows c.loop-term.sieve c.args.number (λ test. has_term_such test u)) whole
    (application_shown first first c.loop-term.sieve c.args.number c.in-App.field-0.0 items c.loop-term.term-index (omega (arith, c.loop-term-test.false))
    (subst (λ (u : Tree). IsUnder first u c.args.number) (sym whole) c.in_ok-put-in-App.ensures.put) (λ u m h. h) c.loop-term.invariant)
