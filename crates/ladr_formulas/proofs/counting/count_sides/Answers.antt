use Rattle.std.proofs.Common.{◌++◌, List, refl, sym, ap}
use Rattle.fol_core.specs.RawView.{raw_of}
use Rattle.ladr_formulas.specs.Counting.{names_bound}
use Rattle.ladr_formulas.specs.Formulas.{Bound}
use Rattle.ladr_formulas.specs.Occurring.{symbols_of_term}
use Rattle.ladr_formulas.proofs.CountingLemmas.{stops_as, goes_on_ok}
use Rattle.ladr_formulas.proofs.counting.count_sides.Goals as goal

pub returns-then-not-branch-clause-counted : goal.returns-then-not-branch-clause-counted
returns-then-not-branch-clause-counted c =
    let st = c.args.style in
    let names = names_bound c.args.scope.now in
    stops_as c.args.symbols.now (symbols_of_term st names (raw_of c.args.left.now)) (symbols_of_term st names (raw_of c.args.right.now)) _ _ c.in_ok-count_term.field-0 refl
    c.if-not-branch.true c.in_ok-count_term.ensures.counted

pub returns-clause-counted : goal.returns-clause-counted
returns-clause-counted c =
    let st = c.args.style in
    let names = names_bound c.args.scope.now in
    let left = symbols_of_term st names (raw_of c.args.left.now) in
    goes_on_ok c.args.symbols.now left _ _ c.count_term.new.symbols _ c.in_ok-count_term.field-0 c.count_term-2.result
    (ap (λ (s : List Bound). left ++ symbols_of_term st (names_bound s) (raw_of c.args.right.now)) (sym (c.in_ok-count_term.ensures.scope c.if-not-branch.false)))
    c.if-not-branch.false c.in_ok-count_term.ensures.counted c.count_term-2.ensures.counted
