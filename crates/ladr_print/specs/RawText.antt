-- The text of a term as read.
use Rattle.std.specs.Prelude.{ℕ, Bool, List, [], ◌∷◌, ◌++◌, Option, Some, if◌then◌else◌, codes}
use Rattle.fol_core.specs.RawTree.{RawTree, named, quantified, RawTrees, no_raws, more_raws}
use Rattle.fol_core.specs.declared.raw.Quantifier.{Quantifier}
use Rattle.fol_core.specs.declared.raw.Quantifier.TheVariants.{All, Exists}
use Rattle.ladr_lex.specs.Operators.{is_prefix}
use Rattle.ladr_lex.specs.declared.operators.Operator.{Operator}
use Rattle.ladr_print.specs.Precedences.{is_infix, precedence}
use Rattle.ladr_print.specs.Spacing.{kept_apart}
use Rattle.ladr_reader.specs.Table.{OperatorTable, left, right, takes, ends, tree_grows}
use Rattle.ladr_reader.specs.declared.sides.Side.TheVariants.{UpTo}

-- a printed term: its text, its precedence, and whether its operator is infix_left or postfix
pub record Printed : Type 0 where
  pub text : List ℕ
  pub precedence : ℕ
  pub grows : Bool

-- parentheses stand where an argument wouldn't fit without them
abbrev pub wrapped : Bool → List ℕ → List ℕ
wrapped fits text = if fits then text else codes "(" ++ text ++ codes ")"

-- an operator's left argument, and its right one
abbrev pub left_argument : Operator → Printed → List ℕ
left_argument o p = wrapped (takes (left o.kind) o.precedence p.precedence) p.text

abbrev pub right_argument : Operator → Printed → List ℕ
right_argument o p = wrapped (ends (right o.kind) o.precedence p.precedence p.grows) p.text

-- a quantifier's body
abbrev pub body : Printed → List ℕ
body p = wrapped (ends UpTo 750 p.precedence p.grows) p.text

abbrev pub word : Quantifier → List ℕ
word All = codes "all"
word Exists = codes "exists"

-- arguments with commas between them
abbrev pub further : List Printed → List ℕ
further [] = []
further (p ∷ ps) = codes "," ++ p.text ++ further ps

abbrev pub commas : List Printed → List ℕ
commas [] = []
commas (p ∷ ps) = p.text ++ further ps

-- a name in front of its arguments
abbrev pub application_text : List ℕ → List Printed → List ℕ
application_text s [] = s
application_text s (p ∷ ps) = s ++ codes "(" ++ commas (p ∷ ps) ++ codes ")"

-- an operator's name with one argument, and with two
abbrev pub with_one : Operator → List ℕ → Printed → List ℕ
with_one o s p =
    if is_infix o.kind then application_text s (p ∷ [])
    else (if is_prefix o.kind then kept_apart s (right_argument o p)
    else kept_apart (left_argument o p) s)

abbrev pub with_two : Operator → List ℕ → Printed → Printed → List ℕ
with_two o s p q =
    if is_infix o.kind then left_argument o p ++ codes " " ++ s ++ codes " " ++ right_argument o q
    else application_text s (p ∷ q ∷ [])

-- a name, which is this operator if it is one, with its arguments
abbrev pub arranged : Option Operator → List ℕ → List Printed → List ℕ
arranged (Some o) s (p ∷ []) = with_one o s p
arranged (Some o) s (p ∷ q ∷ []) = with_two o s p q
arranged o s ps = application_text s ps

abbrev mutual
  -- the text of a term, with the operators of a table
  pub text_of : OperatorTable → RawTree → List ℕ
  text_of g (named s ts) = arranged (g.op s) s (printed_all g ts)
  text_of g (quantified q x t) =
      word q ++ codes " " ++ x ++ codes " "
      ++ body (record { text = text_of g t; precedence = precedence g t; grows = tree_grows g t })

  pub printed_all : OperatorTable → RawTrees → List Printed
  printed_all g no_raws = []
  printed_all g (more_raws t ts) =
      record { text = text_of g t; precedence = precedence g t; grows = tree_grows g t }
      ∷ printed_all g ts

abbrev pub printed : OperatorTable → RawTree → Printed
printed g t = record { text = text_of g t; precedence = precedence g t; grows = tree_grows g t }
