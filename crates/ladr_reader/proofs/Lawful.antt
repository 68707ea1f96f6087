-- What follows from the precedences of a table.
use Rattle.std.proofs.Common.{◌≡◌, ℕ, ◌≤◌, Bool, true, false, List, [], ◌∷◌, Option, Some, None, arith, rules, if◌then◌else◌}
use Rattle.std.proofs.Common.{refl}
use Rattle.std.proofs.lemmas.Bool.{and_parts}
use Rattle.std.proofs.lemmas.Bool.Decides.{nat_tests}
use Rattle.ladr_lex.specs.Bytes.{is_ordinary, is_special}
use Rattle.std.specs.Str.{bytes_eq}
use Rattle.fol_core.specs.RawTree.{RawTree}
use Rattle.ladr_lex.specs.Lexeme.{Lexeme}
use Rattle.ladr_lex.specs.Operators.{OperatorRow, operator_of, has_precedence, are_lawful, standard_rows, is_prefix, if_prefix, if_after}
use Rattle.ladr_lex.specs.declared.operators.Operator.{Operator}
use Rattle.ladr_lex.specs.declared.operators.OperatorKind.{OperatorKind}
use Rattle.ladr_lex.specs.declared.operators.OperatorKind.TheVariants as kind
use Rattle.ladr_reader.specs.Reads.{Reads, atom, applied, group, bound, prefixed, postfixed, infixed}
use Rattle.ladr_reader.specs.Table.{OperatorTable, table_of, right, ends}
use Rattle.ladr_reader.specs.declared.sides.Side.TheVariants.{Below, UpTo}

-- precedences are from 1 to 998
pub record Lawful (g : OperatorTable) : Type 0 where
  pub own : (s : List ℕ) (o : Operator) → g.op s ≡ Some o → (1 ≤ o.precedence) × (o.precedence ≤ 998)

-- an operator that stands before its argument, or behind one, is one of the table
pub prefix_is : (o : Option Operator) (p : Operator) → if_prefix o ≡ Some p → o ≡ Some p
prefix_is None p h = cc
prefix_is (Some o) p h = search rules

pub after_is : (o : Option Operator) (p : Operator) → if_after o ≡ Some p → o ≡ Some p
after_is None p h = cc
after_is (Some o) p h = search rules

pub prefix_own : (g : OperatorTable) → Lawful g → (s : List ℕ) (o : Operator) → if_prefix (g.op s) ≡ Some o → (1 ≤ o.precedence) × (o.precedence ≤ 998)
prefix_own g l s o h = l.own s o (prefix_is (g.op s) o h)

pub after_own : (g : OperatorTable) → Lawful g → (s : List ℕ) (o : Operator) → if_after (g.op s) ≡ Some o → (1 ≤ o.precedence) × (o.precedence ≤ 998)
after_own g l s o h = l.own s o (after_is (g.op s) o h)

-- an atom may be the last argument on each side
pub below_room : (p : ℕ) (b : Bool) → 1 ≤ p → ends Below p 0 b ≡ true
below_room p b h = grind (arith, nat_tests)

pub up_to_room : (p : ℕ) (b : Bool) → 1 ≤ p → ends UpTo p 0 b ≡ true
up_to_room p b h = grind (arith, nat_tests)

-- each term has a precedence of at most 999
pub reads_at_most : (g : OperatorTable) → Lawful g → {ts : List Lexeme} {t : RawTree} {p : ℕ} → Reads g ts t p → p ≤ 999
reads_at_most g l (atom k s w e) = omega arith
reads_at_most g l (applied k s w e rs) = omega arith
reads_at_most g l (group r) = omega arith
reads_at_most g l (bound k j w s x e v r fits) = omega arith
reads_at_most g l (prefixed k s o w e r fits) = omega (arith, prefix_own g l s o e)
reads_at_most g l (postfixed k s o e nothing r t) = omega (arith, after_own g l s o e)
reads_at_most g l (infixed k s o e r t u fits) = omega (arith, after_own g l s o e)

prefix_kind : (o : Option Operator) (p : Operator) → if_prefix o ≡ Some p → is_prefix p.kind ≡ true
prefix_kind None p h = cc
prefix_kind (Some o) p h = search rules

kind_room : (k : OperatorKind) (p : ℕ) (b : Bool) → is_prefix k ≡ true → 1 ≤ p → ends (right k) p 0 b ≡ true
kind_room kind.Infix p b h l = below_room p b l
kind_room kind.InfixLeft p b h l = below_room p b l
kind_room kind.InfixRight p b h l = up_to_room p b l
kind_room kind.Prefix p b h l = up_to_room p b l
kind_room kind.PrefixParen p b h l = below_room p b l
kind_room kind.Postfix p b h l = cc
kind_room kind.PostfixParen p b h l = cc

pub prefix_room :
    (g : OperatorTable) → Lawful g → (s : List ℕ) (o : Operator) (b : Bool) → if_prefix (g.op s) ≡ Some o →
    ends (right o.kind) o.precedence 0 b ≡ true
prefix_room g l s o b h = kind_room o.kind o.precedence b (prefix_kind (g.op s) o h) (prefix_own g l s o h).0

own_of : (q : Option Operator) (o : Operator) → has_precedence q ≡ true → q ≡ Some o → (1 ≤ o.precedence) × (o.precedence ≤ 998)
own_of None o h e = cc
own_of (Some q) o h e = grind (arith, nat_tests)

row_at :
    (r : OperatorRow) (rs : List OperatorRow) (s : List ℕ) (o : Operator) (b : Bool) → has_precedence r.operator ≡ true →
    (operator_of rs s ≡ Some o → (1 ≤ o.precedence) × (o.precedence ≤ 998)) →
    (if b then r.operator else operator_of rs s) ≡ Some o → (1 ≤ o.precedence) × (o.precedence ≤ 998)
row_at r rs s o true h rest e = own_of r.operator o h e
row_at r rs s o false h rest e = rest e

row_lawful :
    (rows : List OperatorRow) → are_lawful rows ≡ true → (s : List ℕ) (o : Operator) → operator_of rows s ≡ Some o →
    (1 ≤ o.precedence) × (o.precedence ≤ 998)
row_lawful [] h s o e = cc
row_lawful (r ∷ rs) h s o e =
    let parts = and_parts _ _ h in
    let own = (and_parts _ _ (and_parts _ _ parts.0).0).1 in
    row_at r rs s o (bytes_eq s r.name) own (row_lawful rs parts.1 s o) e

-- the rows of a table of operators are lawful
pub table_lawful : (rows : List OperatorRow) → are_lawful rows ≡ true → Lawful (table_of rows)
table_lawful rows h = record { own = row_lawful rows h }

pub standard_lawful : Lawful (table_of standard_rows)
unfolding is_ordinary is_special
standard_lawful = table_lawful standard_rows refl
