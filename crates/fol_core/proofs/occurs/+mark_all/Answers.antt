use Rattle.fol_core.specs.FormulaView.{fol_of}
use Rattle.fol_core.proofs.Marks.{marked_both}
use Rattle.fol_core.proofs.occurs.+mark_all.Goals as goal

pub returns-in-And : goal.returns-in-And
returns-in-And t c =
    rw c.in-And.is (marked_both c.in-And.left c.in-And.right (fol_of c.shape.result.now) (fol_of c.shape-in-And.result.now) _ _ _ c.shape.ensures c.shape-in-And.ensures c.mark_all.auto.marks c.mark_all.ensures c.mark_all-in-And.ensures)

pub returns-in-Or : goal.returns-in-Or
returns-in-Or t c =
    rw c.in-Or.is (marked_both c.in-Or.left c.in-Or.right (fol_of c.shape-in-Or.result.now) (fol_of c.shape-in-Or-2.result.now) _ _ _ c.shape-in-Or.ensures c.shape-in-Or-2.ensures c.mark_all-in-Or.auto.marks c.mark_all-in-Or.ensures c.mark_all-in-Or-2.ensures)

pub returns-in-If : goal.returns-in-If
returns-in-If t c =
    rw c.in-If.is (marked_both c.in-If.left c.in-If.right (fol_of c.shape-in-If.result.now) (fol_of c.shape-in-If-2.result.now) _ _ _ c.shape-in-If.ensures c.shape-in-If-2.ensures c.mark_all-in-If.auto.marks c.mark_all-in-If.ensures c.mark_all-in-If-2.ensures)

pub returns-in-Iff : goal.returns-in-Iff
returns-in-Iff t c =
    rw c.in-Iff.is (marked_both c.in-Iff.left c.in-Iff.right (fol_of c.shape-in-Iff.result.now) (fol_of c.shape-in-Iff-2.result.now) _ _ _ c.shape-in-Iff.ensures c.shape-in-Iff-2.ensures c.mark_all-in-Iff.auto.marks c.mark_all-in-Iff.ensures c.mark_all-in-Iff-2.ensures)
