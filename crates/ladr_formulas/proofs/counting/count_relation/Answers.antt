use Rattle.std.proofs.Common.{◌∙◌, List, [], ◌∷◌, ◌+◌, ◌++◌, drop, refl, sym, ap}
use Rattle.fol_core.specs.RawTree.{RawTree, raws_of}
use Rattle.fol_core.specs.RawView.{raw_of, raw_list}
use Rattle.fol_core.specs.SymbolTable.{symbol}
use Rattle.fol_core.specs.declared.symbols.Kind.TheVariants.{Relation}
use Rattle.ladr_formulas.specs.Counting.{names_bound}
use Rattle.ladr_formulas.specs.Formulas.{Bound, arity_of}
use Rattle.ladr_formulas.specs.Occurring.{symbols_of_term, symbols_of_terms}
use Rattle.ladr_formulas.proofs.CountingLemmas.{argument_here, stops_as, loop_stops, loop_goes_on, scope_kept}
use Rattle.ladr_formulas.proofs.TermLemmas.{kept_both}
use Rattle.ladr_formulas.proofs.counting.count_relation.Goals as goal

pub returns-then-not-branch-clause-counted : goal.returns-then-not-branch-clause-counted
returns-then-not-branch-clause-counted c =
    let rest = symbols_of_terms c.args.style (names_bound c.args.scope.now) (raws_of c.args.args.now) in
    stops_as c.args.symbols.now (symbol c.args.name.now (arity_of (raws_of c.args.args.now)) Relation ∷ []) rest _ _ c.in_ok-count_head.field-0 refl
    c.if-not-branch.true c.in_ok-count_head.ensures.counted

pub returns-then-not-branch-2-clause-counted : goal.returns-then-not-branch-2-clause-counted
returns-then-not-branch-2-clause-counted c =
    let st = c.args.style in
    let names = names_bound c.args.scope.now in
    let items = c.deref-arg-items.result.now in
    let rest = symbols_of_terms st names (raws_of (raw_list items)) in
    let arity = arity_of (raws_of c.args.args.now) in
    let later = symbols_of_terms st names (raws_of (raw_list (drop (c.loop-arg.arg-index + 1) items))) in
    let same = ap raw_list c.deref-arg-items.ensures.value ∙ c.args-2.view_is in
    loop_stops c.args.symbols.now (symbol c.args.name.now arity Relation ∷ []) c.count_head.new.symbols rest c.loop-arg.symbols _ later _ _ _ c.in_ok-count_head.field-0 c.in_ok-count_term.field-0
    (ap (λ (l : List RawTree). symbol c.args.name.now arity Relation ∷ symbols_of_terms st names (raws_of l)) (sym same))
    c.if-not-branch.false c.in_ok-count_head.ensures.counted c.loop-arg.invariant.0
    (argument_here st names c.arg-item.result items c.loop-arg.arg-index c.loop-arg-test.true c.arg-item.is ∙
    ap (λ (s : List Bound). symbols_of_term st (names_bound s) (raw_of c.arg-item.result) ++ later) (sym c.loop-arg.invariant.1))
    c.if-not-branch-2.true c.in_ok-count_term.ensures.counted

pub loop-arg-preserved : goal.loop-arg-preserved
loop-arg-preserved c =
    let st = c.args.style in
    let names = names_bound c.args.scope.now in
    let items = c.deref-arg-items.result.now in
    let later = symbols_of_terms st names (raws_of (raw_list (drop (c.loop-arg.arg-index + 1) items))) in (
      loop_goes_on c.count_head.new.symbols (symbols_of_terms st names (raws_of (raw_list items))) c.loop-arg.symbols (symbols_of_term st (names_bound c.loop-arg.scope) (raw_of c.arg-item.result)) later (symbols_of_terms st names (raws_of (raw_list (drop c.loop-arg.arg-index items)))) _ c.in_ok-count_term.field-0 c.loop-arg.invariant.0
          (argument_here st names c.arg-item.result items c.loop-arg.arg-index c.loop-arg-test.true c.arg-item.is ∙
          ap (λ (s : List Bound). symbols_of_term st (names_bound s) (raw_of c.arg-item.result) ++ later) (sym c.loop-arg.invariant.1))
          c.if-not-branch-2.false c.in_ok-count_term.ensures.counted,
      scope_kept c.in_ok-count_term.field-0 _ _ _ c.if-not-branch-2.false c.in_ok-count_term.ensures.scope c.loop-arg.invariant.1,
      kept_both _ _ _ c.loop-arg.invariant.2 c.in_ok-count_term.ensures.kept,
    )
