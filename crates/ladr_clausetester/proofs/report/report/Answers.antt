use Rattle.std.proofs.Common.{◌≡◌, ◌∙◌, Bool, List, [], ◌∷◌, Result, Ok, Err, sym}
use Rattle.std.specs.Prelude.{IfOk}
use Rattle.fol_problem.specs.Stated.{stated_of}
use Rattle.ladr_clausetester.specs.Report.{report}
use Rattle.ladr_clausetester.specs.Verdicts.{AreAllTold, AreTrueAsTold, meaning_in}
use Rattle.ladr_clausetester.proofs.Told.{one_told, report_by, told_length}
use Rattle.ladr_clausetester.proofs.report.report.Goals as goal

if_ok : {T E : Type 0} (P Q : T → Type 0) (r : Result T E) → ((v : T) → P v → Q v) → IfOk r P → IfOk r Q
if_ok P Q (Ok v) f h = f v h
if_ok P Q (Err e) f h = tt

pub returns-then-len-eq1 : goal.returns-then-len-eq1
returns-then-len-eq1 c =
    let p = stated_of c.args.problem.now in
    let its = c.args.its.now in
    if_ok (λ v. (all : List Bool) × AreTrueAsTold (meaning_in p c.at.result.now) p.formulas all × (v.items ≡ report (all ∷ [])))
    (λ v. (alls : List (List Bool)) × AreAllTold p its alls × (v.items ≡ report alls)) c.report_of_one.result
    (λ v h. (h.0 ∷ [], one_told p its c.at.result.now h.0 (sym c.len.ensures ∙ c.if-len-eq1.true) c.at.ensures h.1, h.2)) c.report_of_one.ensures

pub returns : goal.returns
returns c =
    let told = c.in_ok-out.ensures in
    let count = told_length (stated_of c.args.problem.now) c.args.its.now told.0 told.1 in (
      told.0,
      told.1,
      rw (c.in_ok-ending.ensures, c.deref.ensures.value) (report_by told.0 _ _ (λ e. c.if-len-eq1.false (c.len.ensures ∙ sym count ∙ e)) told.2 told.3),
    )
