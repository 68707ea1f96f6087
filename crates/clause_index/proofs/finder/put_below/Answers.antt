use Rattle.std.proofs.Common.{◌≡◌, List, sym, subst, ap, ◌∙◌, arith}
use Rattle.clause_index.specs.Filing.{Shows}
use Rattle.clause_index.specs.Finding.{has_such_below}
use Rattle.fol_core.specs.Tree.{Tree, app, trees_of}
use Rattle.fol_core.specs.TermView.{tree_of, tree_list}
use Rattle.clause_index.proofs.Filing.{arguments_shown}
use Rattle.clause_index.proofs.finder.put_below.Goals as goal

pub returns-after-loop-term-clause-put : goal.returns-after-loop-term-clause-put
returns-after-loop-term-clause-put c =
    let items = c.deref-term-items.result.now in
    let parts : tree_list items ≡ c.in-App.terms = ap tree_list c.deref-term-items.ensures.value ∙ c.terms.view_is in
    let whole : app c.in-App.field-0.0 (trees_of (tree_list items)) ≡ tree_of c.args.atom.now = ap (λ (ts : List Tree). app c.in-App.field-0.0 (trees_of ts)) parts ∙ sym (ap tree_of c.in-App.is) in
    subst (λ (u : Tree). Shows c.loop-term.sieve c.args.number (λ test. has_such_below test u)) whole
    (arguments_shown c.args.sieve.now c.loop-term.sieve c.args.number items c.loop-term.term-index (omega (arith, c.loop-term-test.false)) c.loop-term.invariant)
