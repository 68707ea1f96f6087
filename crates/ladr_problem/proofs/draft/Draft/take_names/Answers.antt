use Rattle.std.proofs.Common.{◌≡◌, ◌≤◌, ℕ, List, [], length, Option, Some, ap, sym, subst, ◌∙◌, arith}
use Rattle.std.specs.Prelude.{OnOk, IfErr}
use Rattle.std.specs.Option.{option_map}
use Rattle.std.specs.List.{list_any}
use Rattle.std.specs.declared.result.Result.{Result}
use Rattle.std.specs.declared.result.Result.TheVariants.{Ok}
use Rattle.fol_core.specs.RawTree.{RawTree}
use Rattle.fol_core.specs.RawView.{raw_of}
use Rattle.ladr_distinct.specs.Formula.{distinct_formula}
use Rattle.ladr_formulas.specs.Formulas.{is_free_name, is_too_great}
use Rattle.ladr_formulas.specs.declared.styles.Style.{Style}
use Rattle.ladr_lex.specs.declared.misuse.Misuse.{Misuse}
use Rattle.ladr_lex.specs.declared.misuse.Misuse.TheVariants.{UnfitNumeral, VariableAmongNames}
use Rattle.ladr_problem.specs.Adding.{after_names, met}
use Rattle.ladr_problem.specs.Draft.{sofar_of}
use Rattle.ladr_problem.specs.Reading.{IsNo, after_formula_read}
use Rattle.ladr_problem.specs.Sofar.{Sofar}
use Rattle.ladr_problem.specs.declared.refusal.Refusal.{Refusal}
use Rattle.ladr_problem.proofs.NamesMade.{same_names, few_names}
use Rattle.ladr_rules.specs.Attributes.{attributed, has_unfit_weight, label_of, hint_weight_of}
use Rattle.ladr_settings.specs.declared.lists.FormulaList.TheVariants.{Assumptions}
use Rattle.ladr_problem.proofs.draft.Draft.take_names.Goals as goal

-- the names are taken as their formula is
same : (c : goal.After-settle)
    → after_formula_read c.args.program (Some Assumptions) c.args.byte c.len-before.result (record (sofar_of c.args.self.now) { symbols = c.read_formula.new.symbols }) c.of-stated.result.notes c.new.result.items
    (record c.in_ok-read.read { least = c.least_among-read.result })
    ≡ after_names c.args.program c.args.byte (sofar_of c.args.self.now) c.args.names.now
same c =
    let m = c.args.program in
    let s = sofar_of c.args.self.now in
    let ns = c.args.names.now in
    let table = c.read_formula.new.symbols in
    let r = c.in_ok-read.read in
    let a = c.of-stated.result.notes in
    let raw = c.in_ok-raw.ensures ∙ ap distinct_formula c.as_slice-2.ensures in
    ap (λ (n : ℕ). after_formula_read m (Some Assumptions) c.args.byte n (record s { symbols = table }) a c.new.result.items (record r { least = c.least_among-read.result })) c.len-before.ensures.len
    ∙ ap (λ (places : List ℕ). after_formula_read m (Some Assumptions) c.args.byte (length s.symbols) (record s { symbols = table }) a places (record r { least = c.least_among-read.result })) c.new.ensures.items
    ∙ same_names m c.args.byte s ns c.of-stated.result.formula a r c.least_among-read.result table
    (c.of-stated.ensures.formula ∙ ap (λ (t : RawTree). (attributed t).formula) raw)
    (c.of-stated.ensures.label ∙ ap (λ (t : RawTree). label_of (attributed t).attributes) raw)
    (c.of-stated.ensures.misused ∙ ap (λ (t : RawTree). has_unfit_weight (attributed t).attributes) raw)
    (c.of-stated.ensures.hint_weight ∙ ap (λ (t : RawTree). hint_weight_of (attributed t).attributes) raw)
    (c.least_among-read.ensures ∙ ap (λ (us : List (List ℕ)). met (list_any (is_free_name c.style_of.result) us) VariableAmongNames (met (list_any (is_too_great c.style_of.result) us) UnfitNumeral r.least)) c.as_slice-3.ensures ∙ ap (λ (st : Style). met (list_any (is_free_name st) ns) VariableAmongNames (met (list_any (is_too_great st) ns) UnfitNumeral r.least)) c.style_of.ensures)
    c.in_ok-read.ensures.read c.read_formula.ensures.kept
    ∙ sym (few_names m c.args.byte s ns (subst (λ n. n ≤ 200) c.len.ensures c.if-len-gt-MOST_NAMES.false))

pub returns-clause-ok : goal.returns-clause-ok
returns-clause-ok c = subst (λ (r : Result Sofar Refusal). OnOk c.settle.result (r ≡ Ok (sofar_of c.settle.new.self))) (same c) c.settle.ensures.ok

pub returns-clause-refused : goal.returns-clause-refused
returns-clause-refused c = subst (λ (r : Result Sofar Refusal). IfErr c.settle.result (IsNo r)) (same c) c.settle.ensures.refused
