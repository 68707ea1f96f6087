-- What the kinds of operators are, and that an argument in parentheses fits each.
use Rattle.std.proofs.Common.{◌≡◌, ℕ, ◌≤◌, Bool, true, false, Some, None, refl, arith}
use Rattle.std.proofs.lemmas.Bool.Decides.{nat_tests}
use Rattle.ladr_lex.specs.Operators.{is_prefix, if_prefix}
use Rattle.ladr_lex.specs.declared.operators.Operator.{Operator}
use Rattle.ladr_lex.specs.declared.operators.OperatorKind.{OperatorKind}
use Rattle.ladr_lex.specs.declared.operators.OperatorKind.TheVariants.{Infix, InfixLeft, InfixRight, Prefix, PrefixParen, Postfix, PostfixParen}
use Rattle.ladr_reader.specs.Table.{left, right, takes, ends}
use Rattle.ladr_reader.specs.declared.sides.Side.TheVariants.{Nothing}
use Rattle.ladr_reader.proofs.Lawful.{below_room, up_to_room}
use Rattle.ladr_reader.specs.HasText.{is_infix}

pub prefix_one : (k : OperatorKind) → is_prefix k ≡ true → is_infix k ≡ false
prefix_one Infix h = cc
prefix_one InfixLeft h = cc
prefix_one InfixRight h = cc
prefix_one Prefix h = refl
prefix_one PrefixParen h = refl
prefix_one Postfix h = refl
prefix_one PostfixParen h = refl

pub infix_after : (k : OperatorKind) → is_infix k ≡ true → is_prefix k ≡ false
infix_after Infix h = refl
infix_after InfixLeft h = refl
infix_after InfixRight h = refl
infix_after Prefix h = cc
infix_after PrefixParen h = cc
infix_after Postfix h = cc
infix_after PostfixParen h = cc

-- behind its argument, as it has none on the right
pub postfix_one : (k : OperatorKind) → right k ≡ Nothing → is_infix k ≡ false
postfix_one Infix h = cc
postfix_one InfixLeft h = cc
postfix_one InfixRight h = cc
postfix_one Prefix h = cc
postfix_one PrefixParen h = cc
postfix_one Postfix h = refl
postfix_one PostfixParen h = refl

pub no_right : (k : OperatorKind) → is_infix k ≡ false → is_prefix k ≡ false → right k ≡ Nothing
no_right Infix h p = cc
no_right InfixLeft h p = cc
no_right InfixRight h p = cc
no_right Prefix h p = cc
no_right PrefixParen h p = cc
no_right Postfix h p = refl
no_right PostfixParen h p = refl

pub left_room : (k : OperatorKind) (p : ℕ) → is_prefix k ≡ false → 1 ≤ p → takes (left k) p 0 ≡ true
left_room Infix p h l = grind (arith, nat_tests)
left_room InfixLeft p h l = grind (arith, nat_tests)
left_room InfixRight p h l = grind (arith, nat_tests)
left_room Prefix p h l = cc
left_room PrefixParen p h l = cc
left_room Postfix p h l = grind (arith, nat_tests)
left_room PostfixParen p h l = grind (arith, nat_tests)

pub right_room : (k : OperatorKind) (p : ℕ) (b : Bool) → is_infix k ≡ true → 1 ≤ p → ends (right k) p 0 b ≡ true
right_room Infix p b h l = below_room p b l
right_room InfixLeft p b h l = below_room p b l
right_room InfixRight p b h l = up_to_room p b l
right_room Prefix p b h l = cc
right_room PrefixParen p b h l = cc
right_room Postfix p b h l = cc
right_room PostfixParen p b h l = cc

pub no_prefix : (o : Operator) → if_prefix (Some o) ≡ None → is_prefix o.kind ≡ false
no_prefix o h = by (is_prefix o.kind) refl
  where
    by : (b : Bool) → is_prefix o.kind ≡ b → is_prefix o.kind ≡ false
    by true e = absurd (let f : Some o ≡ None = rw e at h in cc)
    by false e = e
