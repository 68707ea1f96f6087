use Rattle.std.proofs.Common.{◌≡◌, ◌∙◌, List, ℕ, Some, sym, ap, arith}
use Rattle.std.proofs.lemmas.Result.{IfOk-from_err}
use Rattle.fol_core.specs.FormulaView.{fol_of}
use Rattle.fol_core.specs.RawTree.{raws_of}
use Rattle.fol_core.specs.RawView.{raw_of}
use Rattle.fol_core.specs.declared.raw.Raw.{Raw}
use Rattle.ladr_formulas.specs.Formulas.{is_denial, connective_of, formula_in, relation_of, comparison}
use Rattle.ladr_formulas.proofs.TermLemmas.{kept_both}
use Rattle.ladr_formulas.proofs.FormulaLemmas.{if_ok_same, if_ok_made, on_ok_so, formula_two, formula_alone, formula_many, formula_compared, two_of}
use Rattle.ladr_formulas.proofs.formulas.+any_formula.Goals as goal

pub returns-in-1-clause-read : goal.returns-in-1-clause-read
returns-in-1-clause-read t c =
    let st = c.args.style in
    let scope = c.args.reader.now.scope in
    let before = c.args.reader.now.reading in
    if_ok_same _ _ _ _
    (ap (λ (r : Raw). formula_in st scope before (raw_of r)) c.in-App.is ∙
    formula_alone st scope before c.in-App.name c.in-App.args (omega (arith, c.len.ensures, c.in-1.is)) (ap is_denial (sym c.bytes-in-1.ensures) ∙ sym c.is_denial.ensures ∙ c.if-is_denial.false) ∙
    ap (λ (name : List ℕ). relation_of st scope name (raws_of c.in-App.args) before) (sym c.bytes-else-is_denial.ensures))
    c.relation.ensures.read

pub returns-in_err-conclusion-in-ThenIf-clause-kept : goal.returns-in_err-conclusion-in-ThenIf-clause-kept
returns-in_err-conclusion-in-ThenIf-clause-kept t c =
    kept_both _ _ _ c.in_ok-premise-in-ThenIf.ensures.kept c.in_err-conclusion-in-ThenIf.ensures.kept

pub returns-in_err-second-in_default-connective : goal.returns-in_err-second-in_default-connective
returns-in_err-second-in_default-connective t c = record {
  read = IfOk-from_err _ _ c.from_residual-in_err-second-in_default-connective.ensures.0;
  scope = IfOk-from_err _ _ c.from_residual-in_err-second-in_default-connective.ensures.0;
  kept = kept_both _ _ _ c.in_ok-first-in_default-connective.ensures.kept c.in_err-second-in_default-connective.ensures.kept;
}

pub returns-in-Some : goal.returns-in-Some
returns-in-Some t c =
    let st = c.args.style in
    let scope = c.args.reader.now.scope in
    let before = c.args.reader.now.reading in
    let known : connective_of c.in-App.name ≡ Some c.in-Some.connective = ap connective_of (sym c.bytes-in-2.ensures) ∙ sym c.connective_of.ensures ∙ c.in-Some.is in
    let scope_first = c.in_ok-first-in_default-connective.ensures.scope in
    record {
      read = if_ok_made _ _ _ _ fol_of
          (ap (λ (r : Raw). formula_in st scope before (raw_of r)) c.in-App.is ∙
          formula_two st scope _ before _ _ c.in-App.name c.in-App.args _ _ c.in-Some.connective _ _ c.two-first.ensures known c.in_default-connective.not-ThenIf scope_first c.in_ok-first-in_default-connective.ensures.read c.in_ok-second-in_default-connective.ensures.read)
          c.joined-in_default-connective.ensures;
      scope = on_ok_so _ _ (c.in_ok-second-in_default-connective.ensures.scope ∙ scope_first);
      kept = kept_both _ _ _ c.in_ok-first-in_default-connective.ensures.kept c.in_ok-second-in_default-connective.ensures.kept;
    }

pub returns-in-2-clause-read : goal.returns-in-2-clause-read
returns-in-2-clause-read t c =
    let st = c.args.style in
    let scope = c.args.reader.now.scope in
    let before = c.args.reader.now.reading in
    let both = two_of c.in-App.args (omega (arith, c.len.ensures, c.in-2.is)) in
    if_ok_same _ _ _ _
    (ap (λ (r : Raw). formula_in st scope before (raw_of r)) c.in-App.is ∙
    formula_compared st scope before c.in-App.name c.in-App.args both.0 both.1 both.2 (ap connective_of (sym c.bytes-in-2.ensures) ∙ sym c.connective_of.ensures ∙ c.in-None.is) ∙
    ap (λ (name : List ℕ). comparison st scope name both.0 both.1 before) (sym c.bytes-in-None.ensures))
    (c.comparison.ensures.read both.0 both.1 both.2)

pub returns-clause-read : goal.returns-clause-read
returns-clause-read t c =
    let st = c.args.style in
    let scope = c.args.reader.now.scope in
    let before = c.args.reader.now.reading in
    if_ok_same _ _ _ _
    (ap (λ (r : Raw). formula_in st scope before (raw_of r)) c.in-App.is ∙
    formula_many st scope before c.in-App.name c.in-App.args (omega (arith, c.len.ensures)) ∙
    ap (λ (name : List ℕ). relation_of st scope name (raws_of c.in-App.args) before) (sym c.bytes-in_default.ensures))
    c.relation-in_default.ensures.read
