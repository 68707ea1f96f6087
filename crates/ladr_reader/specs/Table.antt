-- What a reading needs to know of names, and what an operator's arguments may be.
use Rattle.std.specs.Prelude.{ℕ, Bool, true, false, not, ◌&&◌, ◌==◌, nat_lt, nat_le, List, Option, Some, None, if◌then◌else◌, codes}
use Rattle.std.specs.Str.{bytes_eq}
use Rattle.fol_core.specs.RawTree.{RawTree, named, quantified}
use Rattle.fol_core.specs.declared.raw.Quantifier.{Quantifier}
use Rattle.fol_core.specs.declared.raw.Quantifier.TheVariants.{All, Exists}
use Rattle.ladr_lex.specs.Lexeme.{Sort, ordinary, quoted, special}
use Rattle.ladr_lex.specs.Numeral.{is_numeral}
use Rattle.ladr_lex.specs.Operators.{OperatorRow, operator_of, is_quantifier_word, if_after}
use Rattle.ladr_lex.specs.declared.operators.Operator.{Operator}
use Rattle.ladr_lex.specs.declared.operators.OperatorKind.{OperatorKind}
use Rattle.ladr_lex.specs.declared.operators.OperatorKind.TheVariants.{Infix, InfixLeft, InfixRight, Prefix, PrefixParen, Postfix, PostfixParen}
use Rattle.ladr_reader.specs.declared.sides.Side.{Side}
use Rattle.ladr_reader.specs.declared.sides.Side.TheVariants.{Nothing, Below, UpTo}

-- the operator of a name, the quantifier that it is the word of, and whether a symbol may be a
-- quantifier's variable
pub record OperatorTable : Type 0 where
  pub op : List ℕ → Option Operator
  pub word : List ℕ → Option Quantifier
  pub variable : Sort → List ℕ → Bool

-- the quantifier of a word
abbrev pub quantifier_of : List ℕ → Option Quantifier
quantifier_of name =
    if bytes_eq (codes "all") name then Some All
    else (if bytes_eq (codes "exists") name then Some Exists else None)

-- a quantifier's variable is an ordinary symbol, but no numeral and neither of the words
abbrev pub may_be_bound : Sort → List ℕ → Bool
may_be_bound ordinary name = not (is_numeral name) && not (is_quantifier_word name)
may_be_bound quoted name = false
may_be_bound special name = false

-- what the rows of a table of operators say of names
abbrev pub table_of : List OperatorRow → OperatorTable
table_of rows = record { op = operator_of rows; word = quantifier_of; variable = may_be_bound }

-- what an operator's left argument may be
abbrev pub left : OperatorKind → Side
left Infix = Below
left InfixLeft = UpTo
left InfixRight = Below
left Prefix = Nothing
left PrefixParen = Nothing
left Postfix = UpTo
left PostfixParen = Below

-- what an operator's right argument may be
abbrev pub right : OperatorKind → Side
right Infix = Below
right InfixLeft = Below
right InfixRight = UpTo
right Prefix = UpTo
right PrefixParen = Below
right Postfix = Nothing
right PostfixParen = Nothing

-- whether a side of an operator of precedence p takes a term of precedence q
abbrev pub takes : Side → ℕ → ℕ → Bool
takes Nothing p q = false
takes Below p q = nat_lt q p
takes UpTo p q = nat_le q p

-- whether terms of an operator go on to the left with others of their precedence
abbrev pub grows : OperatorKind → Bool
grows Infix = false
grows InfixLeft = true
grows InfixRight = false
grows Prefix = false
grows PrefixParen = false
grows Postfix = true
grows PostfixParen = false

-- whether a term of precedence q may be the last argument, on this side, of a term of precedence p;
-- one of precedence p itself may not where it grows to the left
abbrev pub ends : Side → ℕ → ℕ → Bool → Bool
ends side p q growing = takes side p q && not (q == p && growing)

abbrev pub operator_grows : Option Operator → Bool
operator_grows None = false
operator_grows (Some o) = grows o.kind

-- whether a term's operator is infix_left or postfix
abbrev pub tree_grows : OperatorTable → RawTree → Bool
tree_grows g (named s ts) = operator_grows (if_after (g.op s))
tree_grows g (quantified q x t) = false
