use Rattle.std.proofs.Common.{Bool, filter, subst}
use Rattle.std.specs.Prelude.{OnOk}
use Rattle.clause_index.specs.Finding.{has_inside_such}
use Rattle.clause_index.specs.Numbered.{AddsAll}
use Rattle.fol_core.specs.Tree.{Tree}
use Rattle.fol_core.specs.TermView.{tree_of}
use Rattle.prover_steps.specs.HeldOrder.{numbers_of}
use Rattle.clause_index.proofs.TermTests.{either_order}
use Rattle.clause_index.proofs.held_set.HeldSet.add_near_inside.Goals as goal

pub returns : goal.returns
returns c =
    subst (λ (test : Tree → Bool). OnOk c.add_near.result (AddsAll c.args.numbers.now.items (numbers_of (filter (has_inside_such test) c.args.self.now)) c.add_near.new.numbers.items))
    (either_order (tree_of c.args.term.now)) c.add_near.ensures
