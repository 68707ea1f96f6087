-- The term at the way's end.
use Rattle.fol_core.specs.TermView.{tree_of}
use Rattle.shared_clauses.proofs.UsedSteps.{result_along}
use Rattle.term_bank.specs.Bank.{tree_at}
use Rattle.shared_clauses.proofs.using.literals_along.Goals as goal

pub returns-in-Some-clause-made : goal.returns-in-Some-clause-made
returns-in-Some-clause-made c =
    let way = rw c.in-Some.is at c.in_ok-way_along.ensures in
    result_along c.matched_literals.result c.args.bank.now c.matched_literals.new.bank (tree_at c.args.bank.now c.args.id.0) c.args.path.now c.in-Some.way.items (tree_of c.args.general.now) c.args.used.now c.args.fresh c.index.result.now way c.index.ensures c.matched_literals.ensures.made
