-- As its literals are.
use Rattle.std.proofs.Common.{OnOk, subst}
use Rattle.fol_core.specs.TermView.{tree_of}
use Rattle.shared_clauses.specs.Shared.{clause_in}
use Rattle.shared_clauses.specs.Used.{IsUsedOn}
use Rattle.shared_clauses.proofs.shared.SharedClause.push_used.Goals as goal

pub returns : goal.returns
returns c = subst (λ d. OnOk c.push_literals.result (IsUsedOn d c.args.place c.args.path.now (tree_of c.args.general.now) c.args.used.now c.args.fresh (clause_in c.push_literals.new.bank c.push_literals.new.literals.items))) c.self.view_is c.push_literals.ensures.used
