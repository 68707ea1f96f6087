-- Which terms as read have a text.
use Rattle.std.specs.Prelude.{◌≡◌, ℕ, suc, Bool, true, false, List, None, Some}
use Rattle.fol_core.specs.RawTree.{RawTree, named, quantified, RawTrees, no_raws, more_raws}
use Rattle.ladr_lex.specs.Cuts.{can_be}
use Rattle.ladr_lex.specs.Lexeme.{Sort, ordinary, quoted, special}
use Rattle.ladr_lex.specs.Operators.{is_prefix, if_prefix}
use Rattle.ladr_lex.specs.declared.operators.Operator.{Operator}
use Rattle.ladr_lex.specs.declared.operators.OperatorKind.{OperatorKind}
use Rattle.ladr_lex.specs.declared.operators.OperatorKind.TheVariants.{Infix, InfixLeft, InfixRight, Prefix, PrefixParen, Postfix, PostfixParen}
use Rattle.ladr_lex.specs.declared.token.TokenKind.{TokenKind}
use Rattle.ladr_lex.specs.declared.token.TokenKind.TheVariants.{Ordinary, Quoted, Special}
use Rattle.ladr_reader.specs.Table.{OperatorTable, right}
use Rattle.ladr_reader.specs.declared.sides.Side.TheVariants.{Nothing}

-- whether an operator stands between two arguments
abbrev pub is_infix : OperatorKind → Bool
is_infix Infix = true
is_infix InfixLeft = true
is_infix InfixRight = true
is_infix Prefix = false
is_infix PrefixParen = false
is_infix Postfix = false
is_infix PostfixParen = false

abbrev pub raws_count : RawTrees → ℕ
raws_count no_raws = 0
raws_count (more_raws t ts) = suc (raws_count ts)

abbrev pub kind_of : Sort → TokenKind
kind_of ordinary = Ordinary
kind_of quoted = Quoted
kind_of special = Special

-- How a name with n arguments may stand: in front of them, unless it is the word of a quantifier or
-- an operator that stands before its argument; or as an operator before, behind or between them.
pub data CanStand (g : OperatorTable) (s : List ℕ) (n : ℕ) : Type 0 where
  plain : g.word s ≡ None → if_prefix (g.op s) ≡ None → CanStand g s n
  before : (o : Operator) → g.word s ≡ None → g.op s ≡ Some o → is_prefix o.kind ≡ true → n ≡ 1
      → CanStand g s n
  behind : (o : Operator) → g.op s ≡ Some o → is_prefix o.kind ≡ false → right o.kind ≡ Nothing
      → n ≡ 1 → CanStand g s n
  between : (o : Operator) → g.op s ≡ Some o → is_infix o.kind ≡ true → n ≡ 2 → CanStand g s n

-- a name with so many arguments is a symbol of some sort that may stand so
pub record CanName (g : OperatorTable) (s : List ℕ) (n : ℕ) : Type 0 where
  pub sort : Sort
  pub written : can_be (Some (kind_of sort)) s ≡ true
  pub allowed : CanStand g s n

-- a name is a symbol of some sort that may be a quantifier's variable
pub record CanBind (g : OperatorTable) (x : List ℕ) : Type 0 where
  pub sort : Sort
  pub written : can_be (Some (kind_of sort)) x ≡ true
  pub allowed : g.variable sort x ≡ true

-- each name in a term as read is such a one
abbrev mutual
  pub HasText : OperatorTable → RawTree → Type 0
  HasText g (named s ts) = CanName g s (raws_count ts) × HaveTexts g ts
  HasText g (quantified q x t) = CanBind g x × HasText g t

  pub HaveTexts : OperatorTable → RawTrees → Type 0
  HaveTexts g no_raws = Unit {0}
  HaveTexts g (more_raws t ts) = HasText g t × HaveTexts g ts
