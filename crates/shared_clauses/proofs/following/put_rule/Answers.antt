-- The rule is put in where the way ends.
use Rattle.std.proofs.Common.{◌<◌, length, ap, sym, subst, arith}
use Rattle.std.proofs.lemmas.List.{get_or_read}
use Rattle.fol_core.specs.TermView.{tree_of}
use Rattle.shared_clauses.specs.Ways.{IsWay, first_tree}
use Rattle.substitutions.specs.Paths.{replaced}
use Rattle.term_bank.specs.Bank.{IsAt, tree_at}
use Rattle.term_bank.specs.declared.id.TermId.{TermId}
use Rattle.shared_clauses.proofs.FollowSteps.{rule_done, way_on}
use Rattle.shared_clauses.proofs.following.put_rule.Goals as goal

pub put_along-requires-clause-way : goal.put_along-requires-clause-way
put_along-requires-clause-way c =
    let way = rw c.in-Some.is at c.in_ok-way.ensures in
    subst (λ w. IsWay c.exchange.new.bank (first_tree c.exchange.new.bank w) c.args.path.now w) (sym c.as_slice.ensures.value)
    (way_on c.args.bank.now c.exchange.new.bank (tree_at c.args.bank.now c.args.id.0) c.args.path.now c.in-Some.way.items c.exchange.ensures.grows way)

pub returns-clause-made : goal.returns-clause-made
returns-clause-made c =
    let way = rw c.in-Some.is at c.in_ok-way.ensures in
    let made = rw c.in-Some-2.is at c.in_ok-new.ensures.made in
    let inside : length c.args.path.now < length c.in-Some.way.items = omega (arith, way.as_many) in
    rule_done c.args.bank.now c.exchange.new.bank c.put_along.new.bank (tree_at c.args.bank.now c.args.id.0) c.args.path.now c.in-Some.way.items (tree_of c.args.left.now) (tree_of c.args.right.now) c.in-Some-2.new.0 c.index.result.now.0 c.in_ok-atom.atom
    c.if-path-eq0.false way (ap (λ (k : TermId). k.0) (get_or_read c.in-Some.way.items (length c.args.path.now) c.index.result.now inside c.index.ensures (record { 0 = 0 }))) c.exchange.ensures.grows made
    (subst (λ w. IsAt c.put_along.new.bank c.in_ok-atom.atom.0 (replaced (first_tree c.exchange.new.bank w) c.args.path.now (tree_at c.exchange.new.bank c.in-Some-2.new.0))) c.as_slice.ensures.value c.in_ok-atom.ensures.term)
