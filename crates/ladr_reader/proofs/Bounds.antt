-- Which arguments go together.
use Rattle.std.proofs.Common.{◌≡◌, ℕ, ◌≤◌, ◌<◌, ◌⊎◌, Bool, true, false, refl, arith}
use Rattle.std.proofs.lemmas.Bool.Decides.{nat_tests}
use Rattle.ladr_lex.specs.declared.operators.OperatorKind.{OperatorKind}
use Rattle.ladr_lex.specs.declared.operators.OperatorKind.TheVariants.{Infix, InfixLeft, InfixRight, Prefix, PrefixParen, Postfix, PostfixParen}
use Rattle.ladr_reader.specs.Table.{left, takes, grows, ends}
use Rattle.ladr_reader.specs.declared.sides.Side.{Side}
use Rattle.ladr_reader.specs.declared.sides.Side.TheVariants.{Nothing, Below, UpTo}

not_true : (b : Bool) → (b ≡ true → ⊥) → b ≡ false
not_true true h = absurd (h refl)
not_true false h = refl

-- an argument is at most its operator's precedence
pub takes_at_most : (side : Side) (p q : ℕ) → takes side p q ≡ true → q ≤ p
takes_at_most Nothing p q h = grind (arith, nat_tests)
takes_at_most Below p q h = grind (arith, nat_tests)
takes_at_most UpTo p q h = grind (arith, nat_tests)

pub ends_at_most : (side : Side) (p q : ℕ) (b : Bool) → ends side p q b ≡ true → q ≤ p
ends_at_most Nothing p q b h = grind (arith, nat_tests)
ends_at_most Below p q b h = grind (arith, nat_tests)
ends_at_most UpTo p q b h = grind (arith, nat_tests)

-- a side takes less where it takes more
pub takes_less : (side : Side) (p q r : ℕ) → r ≤ q → takes side p q ≡ true → takes side p r ≡ true
takes_less Nothing p q r h t = grind (arith, nat_tests)
takes_less Below p q r h t = grind (arith, nat_tests)
takes_less UpTo p q r h t = grind (arith, nat_tests)

-- an operator takes a term of its own precedence on the left just where its terms grow there
left_takes :
    (k : OperatorKind) (p q : ℕ) → takes (left k) p q ≡ true → (q < p) ⊎ ((q ≡ p) × (grows k ≡ true))
left_takes Infix p q h = grind (arith, nat_tests)
left_takes InfixLeft p q h = grind (arith, nat_tests)
left_takes InfixRight p q h = grind (arith, nat_tests)
left_takes Prefix p q h = grind (arith, nat_tests)
left_takes PrefixParen p q h = grind (arith, nat_tests)
left_takes Postfix p q h = grind (arith, nat_tests)
left_takes PostfixParen p q h = grind (arith, nat_tests)

-- an operator that may stand in a last argument ends none of its terms
ends_takes_not :
    (side : Side) (k : OperatorKind) (p own : ℕ) → ends side p own (grows k) ≡ true → takes (left k) own p ≡ true → ⊥
ends_takes_not Nothing k p own h t = cc
ends_takes_not Below k p own h t = let l = left_takes k own p t in grind (arith, nat_tests)
ends_takes_not UpTo k p own h t = let l = left_takes k own p t in grind (arith, nat_tests)

pub ends_or_takes :
    (side : Side) (k : OperatorKind) (p own : ℕ) → ends side p own (grows k) ≡ true → takes (left k) own p ≡ false
ends_or_takes side k p own h = not_true (takes (left k) own p) (ends_takes_not side k p own h)

-- where an operator's term may stand, its left argument may
pub ends_left :
    (side : Side) (k : OperatorKind) (p own q : ℕ) (b : Bool) → takes (left k) own q ≡ true →
    ends side p own (grows k) ≡ true → ends side p q b ≡ true
ends_left Nothing k p own q b t h = cc
ends_left Below k p own q b t h = let l = left_takes k own q t in grind (arith, nat_tests)
ends_left UpTo k p own q b t h = let l = left_takes k own q t in grind (arith, nat_tests)
