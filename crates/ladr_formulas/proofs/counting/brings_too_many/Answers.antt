use Rattle.std.proofs.Common.{◌∙◌, length, sym, ap}
use Rattle.std.specs.Prelude.{nat_lt}
use Rattle.std.proofs.lemmas.Bool.{lt-ltb}
use Rattle.fol_core.specs.RawView.{raw_of}
use Rattle.ladr_lex.specs.declared.limits.TheConstants.{MOST_SYMBOLS}
use Rattle.ladr_formulas.specs.Formulas.{style_of}
use Rattle.ladr_formulas.proofs.CountingLemmas.{few_behind, many_behind}
use Rattle.ladr_formulas.proofs.counting.brings_too_many.Goals as goal

pub returns-then-branch-clause-many : goal.returns-then-branch-clause-many
returns-then-branch-clause-many c =
    ap (nat_lt MOST_SYMBOLS) (c.len.ensures.len ∙ ap length (few_behind (style_of c.args.mode c.args.prolog) c.style_of.result c.new-scope.result c.args.symbols.now c.count_formula.new.symbols (raw_of c.args.raw.now) c.in_ok-count_formula.field-0
    c.style_of.ensures c.new-scope.ensures c.if-branch.true c.in_ok-count_formula.ensures.counted))

pub returns-clause-many : goal.returns-clause-many
returns-clause-many c =
    sym (lt-ltb MOST_SYMBOLS _ (many_behind (style_of c.args.mode c.args.prolog) c.style_of.result c.new-scope.result c.args.symbols.now c.count_formula.new.symbols (raw_of c.args.raw.now) c.in_ok-count_formula.field-0
    c.style_of.ensures c.new-scope.ensures c.if-branch.false c.in_ok-count_formula.ensures.counted))
