use Rattle.std.proofs.Common.{◌∙◌, List, ℕ, sym, ap, arith}
use Rattle.fol_core.specs.RawTree.{raws_of}
use Rattle.fol_core.specs.RawView.{raw_of}
use Rattle.fol_core.specs.declared.raw.Raw.{Raw}
use Rattle.ladr_formulas.specs.Formulas.{is_denial, formula_in, relation_of}
use Rattle.ladr_formulas.proofs.FormulaLemmas.{if_ok_same, formula_alone}
use Rattle.ladr_formulas.proofs.formulas.formula.Goals as goal

pub returns-then-not-is_denial-clause-read : goal.returns-then-not-is_denial-clause-read
returns-then-not-is_denial-clause-read c =
    let st = c.args.style in
    let scope = c.args.reader.now.scope in
    let before = c.args.reader.now.reading in
    if_ok_same _ _ _ _
    (ap (λ (r : Raw). formula_in st scope before (raw_of r)) c.in-App.is ∙
    formula_alone st scope before c.in-App.name c.in-App.args (omega (arith, c.len.ensures, c.if-len-eq1.true)) (ap is_denial (sym c.bytes.ensures) ∙ sym c.is_denial.ensures ∙ c.if-not-is_denial.true) ∙
    ap (λ (name : List ℕ). relation_of st scope name (raws_of c.in-App.args) before) (sym c.bytes-then-not-is_denial.ensures))
    c.relation.ensures.read
