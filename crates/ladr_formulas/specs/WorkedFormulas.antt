-- Terms whose formulas are worked out.
use Rattle.std.specs.Prelude.{ℕ, List, [], Option, codes, true, false}
use Rattle.fol_core.specs.RawTree.{RawTree, named, quantified, no_raws, more_raws}
use Rattle.fol_core.specs.Tree.{Tree, app, none, more}
use Rattle.fol_core.specs.declared.raw.Quantifier.TheVariants.{All}
use Rattle.ladr_lex.specs.declared.misuse.Misuse.{Misuse}
use Rattle.ladr_formulas.specs.Broken.{broken}
use Rattle.ladr_formulas.specs.Formulas.{Style, Variable, formula_reading}

abbrev pub for_tester : Style
for_tester = record { elements = true; prolog = false }

abbrev pub for_prover : Style
for_prover = record { elements = false; prolog = false }

abbrev pub in_prolog : Style
in_prolog = record { elements = false; prolog = true }

-- the misuse of the least row that a term meets as a formula
abbrev pub misuse_of : Style → RawTree → Option Misuse
misuse_of style t = (formula_reading style [] t).reading.least

-- the rows that a term breaks by its own symbols
abbrev pub rows_of : Style → RawTree → List Misuse
rows_of style t = broken style (formula_reading style [] t).reading.symbols t

abbrev pub leaf : List ℕ → RawTree
leaf name = named name no_raws

abbrev pub one_part : List ℕ → RawTree → RawTree
one_part name t = named name (more_raws t no_raws)

abbrev pub two_parts : List ℕ → RawTree → RawTree → RawTree
two_parts name t u = named name (more_raws t (more_raws u no_raws))

abbrev pub function : ℕ → Tree → Tree
function s t = app s (more t none)

abbrev pub bound : List ℕ → RawTree → RawTree
bound name t = quantified All name t

-- all x p(x,f(y))
abbrev pub bound_and_free : RawTree
bound_and_free =
    bound (codes "x")
    (two_parts (codes "p") (leaf (codes "x")) (one_part (codes "f") (leaf (codes "y"))))

-- f(f(x)) = x
abbrev pub involution : RawTree
involution =
    two_parts (codes "=") (one_part (codes "f") (one_part (codes "f") (leaf (codes "x"))))
    (leaf (codes "x"))

-- p(x) <- (all x q(x))
abbrev pub one_name_twice : RawTree
one_name_twice =
    two_parts (codes "<-") (one_part (codes "p") (leaf (codes "x")))
    (bound (codes "x") (one_part (codes "q") (leaf (codes "x"))))

-- f(a) & x, where f stands for a relation and x, and then g(f(a), 1000000000)
abbrev pub misuses : RawTree
misuses =
    two_parts (codes "&")
    (two_parts (codes "&") (one_part (codes "f") (leaf (codes "a"))) (leaf (codes "x")))
    (two_parts (codes "g") (one_part (codes "f") (leaf (codes "a"))) (leaf (codes "1000000000")))

-- a != 2
abbrev pub numeral : RawTree
numeral = two_parts (codes "!=") (leaf (codes "a")) (leaf (codes "2"))

-- p(f,f(x),f(x,x))
abbrev pub three_arities : RawTree
three_arities =
    let x = leaf (codes "x") in
    named (codes "p")
    (more_raws (leaf (codes "f"))
    (more_raws (one_part (codes "f") x) (more_raws (two_parts (codes "f") x x) no_raws)))

-- all $T p($T)
abbrev pub constant_bound : RawTree
constant_bound = bound (codes "$T") (one_part (codes "p") (leaf (codes "$T")))

-- -(p,q)
abbrev pub denial_of_two : RawTree
denial_of_two = two_parts (codes "-") (leaf (codes "p")) (leaf (codes "q"))

-- $T <-> ($F & (t | u(x)))
abbrev pub connectives : RawTree
connectives =
    two_parts (codes "<->") (leaf (codes "$T"))
    (two_parts (codes "&") (leaf (codes "$F"))
    (two_parts (codes "|") (leaf (codes "t")) (one_part (codes "u") (leaf (codes "x")))))

-- p(1000000000) and 1000000000(a)
abbrev pub great_numeral : RawTree
great_numeral = one_part (codes "p") (leaf (codes "1000000000"))

abbrev pub great_function : RawTree
great_function = one_part (codes "p") (one_part (codes "1000000000") (leaf (codes "a")))

-- variables that a quantifier brings, and free ones
abbrev pub bound_variable : List ℕ → Variable
bound_variable name = record { name = name; free = false }

abbrev pub free_variable : List ℕ → Variable
free_variable name = record { name = name; free = true }
