use Rattle.std.proofs.Common.{◌∙◌, ◌++◌, List, ℕ, Some, length, sym, ap, arith}
use Rattle.fol_core.specs.RawTree.{raws_of}
use Rattle.fol_core.specs.RawView.{raw_of, raw_list}
use Rattle.fol_core.specs.declared.raw.Raw.{Raw}
use Rattle.ladr_formulas.specs.Counting.{names_bound}
use Rattle.ladr_formulas.specs.Formulas.{Bound, connective_of}
use Rattle.ladr_formulas.specs.Occurring.{occurring, symbols_of_relation}
use Rattle.ladr_formulas.proofs.TermLemmas.{two_raws, length_raw_list, kept_both}
use Rattle.ladr_formulas.proofs.CountingLemmas.{stops_as, goes_on_ok, scope_kept_ok, joined_here, reversed_here, many_here, same_counted}
use Rattle.ladr_formulas.proofs.counting.+count_formula.Goals as goal

pub returns-then-not-branch-clause-counted : goal.returns-then-not-branch-clause-counted
returns-then-not-branch-clause-counted t c =
    let st = c.args.style in
    let names = names_bound c.args.scope.now in
    let two = sym (ap raw_list c.as_slice.ensures.value ∙ c.args-in-App.view_is) ∙ two_raws c.as_slice.result.now c.first-item.result c.second-item.result (omega (arith, c.in-len2.len_at_least, c.in-len2.len_below)) c.first-item.is c.second-item.is in
    let known = ap connective_of (sym c.bytes-in-len2.ensures) ∙ sym c.connective_of.ensures ∙ c.in-Some.is ∙ ap Some c.in-ThenIf.is in
    stops_as c.args.symbols.now (occurring st names (raw_of c.second-item.result)) (occurring st names (raw_of c.first-item.result)) _ _ c.in_ok-count_formula-in-ThenIf.field-0
    (ap (λ (r : Raw). occurring st names (raw_of r)) c.in-App.is ∙ reversed_here st names c.in-App.name c.in-App.args _ _ two known)
    c.if-not-branch.true c.in_ok-count_formula-in-ThenIf.ensures.counted

pub returns-then-not-branch-2 : goal.returns-then-not-branch-2
returns-then-not-branch-2 t c =
    let st = c.args.style in
    let names = names_bound c.args.scope.now in
    let two = sym (ap raw_list c.as_slice.ensures.value ∙ c.args-in-App.view_is) ∙ two_raws c.as_slice.result.now c.first-item.result c.second-item.result (omega (arith, c.in-len2.len_at_least, c.in-len2.len_below)) c.first-item.is c.second-item.is in
    let known = ap connective_of (sym c.bytes-in-len2.ensures) ∙ sym c.connective_of.ensures ∙ c.in-Some.is in
    record {
      counted = stops_as c.args.symbols.now (occurring st names (raw_of c.first-item.result)) (occurring st names (raw_of c.second-item.result)) _ _ c.in_ok-count_formula-in_default-connective.field-0
          (ap (λ (r : Raw). occurring st names (raw_of r)) c.in-App.is ∙ joined_here st names c.in-App.name c.in-App.args _ _ c.in-Some.connective two known c.in_default-connective.not-ThenIf)
          c.if-not-branch-2.true c.in_ok-count_formula-in_default-connective.ensures.counted;
      scope = λ e. absurd (cc);
      kept = c.in_ok-count_formula-in_default-connective.ensures.kept;
    }

pub returns-else-not-branch-clause-counted : goal.returns-else-not-branch-clause-counted
returns-else-not-branch-clause-counted t c =
    let st = c.args.style in
    let names = names_bound c.args.scope.now in
    let two = sym (ap raw_list c.as_slice.ensures.value ∙ c.args-in-App.view_is) ∙ two_raws c.as_slice.result.now c.first-item.result c.second-item.result (omega (arith, c.in-len2.len_at_least, c.in-len2.len_below)) c.first-item.is c.second-item.is in
    let known = ap connective_of (sym c.bytes-in-len2.ensures) ∙ sym c.connective_of.ensures ∙ c.in-Some.is ∙ ap Some c.in-ThenIf.is in
    let one = occurring st names (raw_of c.second-item.result) in
    goes_on_ok c.args.symbols.now one _ _ c.count_formula-in-ThenIf.new.symbols _ c.in_ok-count_formula-in-ThenIf.field-0 c.count_formula-in-ThenIf-2.result
    (ap (λ (r : Raw). occurring st names (raw_of r)) c.in-App.is ∙ reversed_here st names c.in-App.name c.in-App.args _ _ two known ∙
    ap (λ (s : List Bound). one ++ occurring st (names_bound s) (raw_of c.first-item.result)) (sym (c.in_ok-count_formula-in-ThenIf.ensures.scope c.if-not-branch.false)))
    c.if-not-branch.false c.in_ok-count_formula-in-ThenIf.ensures.counted c.count_formula-in-ThenIf-2.ensures.counted

pub returns-else-not-branch-2 : goal.returns-else-not-branch-2
returns-else-not-branch-2 t c =
    let st = c.args.style in
    let names = names_bound c.args.scope.now in
    let two = sym (ap raw_list c.as_slice.ensures.value ∙ c.args-in-App.view_is) ∙ two_raws c.as_slice.result.now c.first-item.result c.second-item.result (omega (arith, c.in-len2.len_at_least, c.in-len2.len_below)) c.first-item.is c.second-item.is in
    let known = ap connective_of (sym c.bytes-in-len2.ensures) ∙ sym c.connective_of.ensures ∙ c.in-Some.is in
    let one = occurring st names (raw_of c.first-item.result) in
    record {
      counted = goes_on_ok c.args.symbols.now one _ _ c.count_formula-in_default-connective.new.symbols _ c.in_ok-count_formula-in_default-connective.field-0 c.count_formula-in_default-connective-2.result
          (ap (λ (r : Raw). occurring st names (raw_of r)) c.in-App.is ∙ joined_here st names c.in-App.name c.in-App.args _ _ c.in-Some.connective two known c.in_default-connective.not-ThenIf ∙
          ap (λ (s : List Bound). one ++ occurring st (names_bound s) (raw_of c.second-item.result)) (sym (c.in_ok-count_formula-in_default-connective.ensures.scope c.if-not-branch-2.false)))
          c.if-not-branch-2.false c.in_ok-count_formula-in_default-connective.ensures.counted c.count_formula-in_default-connective-2.ensures.counted;
      scope = scope_kept_ok c.in_ok-count_formula-in_default-connective.field-0 c.count_formula-in_default-connective-2.result _ _ _ c.if-not-branch-2.false c.in_ok-count_formula-in_default-connective.ensures.scope c.count_formula-in_default-connective-2.ensures.scope;
      kept = kept_both _ _ _ c.in_ok-count_formula-in_default-connective.ensures.kept c.count_formula-in_default-connective-2.ensures.kept;
    }

pub returns-in_default-clause-counted : goal.returns-in_default-clause-counted
returns-in_default-clause-counted t c =
    let st = c.args.style in
    let names = names_bound c.args.scope.now in
    let trees = ap raw_list c.as_slice.ensures.value ∙ c.args-in-App.view_is in
    same_counted _ _ _ _ c.count_relation-in_default.result
    (ap (λ (r : Raw). occurring st names (raw_of r)) c.in-App.is ∙
    many_here st names c.in-App.name c.in-App.args (omega (arith, c.in_default.len_at_least, length_raw_list c.as_slice.result.now, ap length trees)) ∙
    ap (λ (name : List ℕ). symbols_of_relation st names name (raws_of c.in-App.args)) (sym c.bytes-in_default.ensures))
    c.count_relation-in_default.ensures.counted
