-- Words for examples.
use Rattle.std.specs.Prelude.{List, [], Option, None}
use Rattle.std.specs.Option.{option_map, option_map_or}
use Prim.Native.String.{String}
use Rattle.fol_core.specs.Fol.{Fol}
use Rattle.fol_core.specs.RawTree.{RawTree}
use Rattle.fol_core.specs.SymbolTable.{Symbol}
use Rattle.fol_core.specs.Weights.{Rule}
use Rattle.ladr_lex.specs.declared.misuse.Misuse.{Misuse}
use Rattle.ladr_formulas.specs.Formulas.{formula_reading}
use Rattle.fol_core.specs.declared.raw.Quantifier.TheVariants.{Exists}
use Rattle.ladr_reader.specs.Worked.{constant, unary, binary, binder}
use Rattle.ladr_formulas.specs.WorkedFormulas.{for_prover}
use Rattle.ladr_formulas.specs.declared.styles.Style.{Style}
use Rattle.ladr_rules.specs.Rules.{rule_in}

-- names without arguments
abbrev pub p : RawTree
p = constant "p"

abbrev pub q : RawTree
q = constant "q"

abbrev pub a : RawTree
a = constant "a"

abbrev pub b : RawTree
b = constant "b"

abbrev pub x : RawTree
x = constant "x"

abbrev pub y : RawTree
y = constant "y"

-- f(t)
abbrev pub f : RawTree → RawTree
f t = unary "f" t

-- exists x exists y p, and exists x exists x p
abbrev pub two_in_front : RawTree
two_in_front = binder Exists "x" (binder Exists "y" p)

abbrev pub one_twice : RawTree
one_twice = binder Exists "x" (binder Exists "x" p)

-- bsub_hint_wt(n)
abbrev pub weighing : String → RawTree
weighing n = unary "bsub_hint_wt" (constant n)

-- weight(t), and weight(pattern) = value
abbrev pub weight : RawTree → RawTree
weight t = unary "weight" t

abbrev pub weight_is : RawTree → RawTree → RawTree
weight_is pattern value = binary "=" (weight pattern) value

-- weight(g(y,x)) = 1 + (2 * weight(x))
abbrev pub one_and_twice : RawTree
one_and_twice =
    weight_is (binary "g" y x) (binary "+" (constant "1") (binary "*" (constant "2") (weight x)))

-- the formula that a term is
abbrev pub formula : RawTree → Fol
formula t = (formula_reading for_prover [] t).tree

-- the rule that a term is; how its pattern is misused, and the symbols that it enters
abbrev pub weight_rule_in : Style → RawTree → Option Rule
weight_rule_in style t = option_map (λ m. m.tree) (rule_in style [] t)

abbrev pub misuse_of : Style → RawTree → Option Misuse
misuse_of style t = option_map_or (λ m. m.reading.least) (rule_in style [] t) None

abbrev pub symbols_of : Style → RawTree → Option (List Symbol)
symbols_of style t = option_map (λ m. m.reading.symbols) (rule_in style [] t)
