use Rattle.std.proofs.Common.{List, ℕ, subst}
use Rattle.std.specs.Prelude.{OnOk}
use Rattle.clause_index.specs.Filing.{AreMarksOf}
use Rattle.clause_index.proofs.Subsumers.{under_put}
use Rattle.discrim_tree.specs.Marks.{IsMarked}
use Rattle.fol_core.specs.Literals.{ClauseTree}
use Rattle.clause_index.proofs.finder.put_marks.Goals as goal

pub returns-clause-put : goal.returns-clause-put
returns-clause-put c =
    let marks = c.in_ok-marks.marks.items in
    under_put c.put.result c.put.new.self c.args.held.now marks c.number.result
    (subst (λ (d : ClauseTree). AreMarksOf marks d) c.clause-2.ensures (record { rise = c.in_ok-marks.ensures.rise; all = c.in_ok-marks.ensures.all; only = c.in_ok-marks.ensures.only }))
    c.number.ensures
    (subst (λ (ms : List ℕ). OnOk c.put.result (IsMarked c.put.new.self ms c.number.result)) c.deref.ensures.value c.put.ensures.put)
