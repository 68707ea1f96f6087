-- The text of a clause.
use Rattle.std.specs.Prelude.{ℕ, List, [], ◌∷◌, ◌++◌, if◌then◌else◌, codes}
use Rattle.fol_core.specs.Literals.{Lit, ClauseTree}
use Rattle.fol_core.specs.RawTree.{RawTree, named, no_raws}
use Rattle.fol_core.specs.SymbolTable.{Symbol}
use Rattle.ladr_lex.specs.declared.operators.Operator.{Operator}
use Rattle.ladr_lex.specs.declared.operators.OperatorKind.TheVariants.{InfixRight}
use Rattle.ladr_print.specs.FormulaText.{two, denial}
use Rattle.ladr_print.specs.RawText.{left_argument, right_argument, text_of, printed}
use Rattle.ladr_print.specs.TermText.{Naming, term_raw}
use Rattle.ladr_reader.specs.Table.{OperatorTable}

-- a literal as a term as read: its atom, or the denial of it
abbrev pub literal_raw : List Symbol → Naming → Lit → RawTree
literal_raw table v l =
    if l.positive then term_raw table v l.atom else denial (term_raw table v l.atom)

-- a clause as a term as read: its literals nest to the right; the empty clause is `$F`
abbrev pub clause_raw : List Symbol → Naming → ClauseTree → RawTree
clause_raw table v [] = named (codes "$F") no_raws
clause_raw table v (l ∷ []) = literal_raw table v l
clause_raw table v (l ∷ m ∷ ls) =
    two (codes "|") (literal_raw table v l) (clause_raw table v (m ∷ ls))

-- the operator `|`, which can't be changed
abbrev pub bar : Operator
bar = record { precedence = 790; kind = InfixRight }

-- the operator `#`, which can't be changed either
abbrev pub hash : Operator
hash = record { precedence = 810; kind = InfixRight }

-- two literals or more, each an argument of `|`
abbrev pub clause_disjunction : OperatorTable → List Symbol → Naming → Lit → List Lit → List ℕ
clause_disjunction g table v l [] = right_argument bar (printed g (literal_raw table v l))
clause_disjunction g table v l (m ∷ ls) =
    left_argument bar (printed g (literal_raw table v l)) ++ codes " | "
    ++ clause_disjunction g table v m ls

-- the literals between ` | `
abbrev pub clause_bytes : OperatorTable → List Symbol → Naming → ClauseTree → List ℕ
clause_bytes g table v [] = codes "$F"
clause_bytes g table v (l ∷ []) = text_of g (literal_raw table v l)
clause_bytes g table v (l ∷ m ∷ ls) = clause_disjunction g table v l (m ∷ ls)

-- a clause as the left argument of `#`: one literal alone may need parentheses
abbrev pub clause_in_front : OperatorTable → List Symbol → Naming → ClauseTree → List ℕ
clause_in_front g table v [] = codes "$F"
clause_in_front g table v (l ∷ []) = left_argument hash (printed g (literal_raw table v l))
clause_in_front g table v (l ∷ m ∷ ls) = clause_disjunction g table v l (m ∷ ls)
