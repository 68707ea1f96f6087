-- The term of names keeps the limits, and has a text.
use Rattle.std.proofs.Common.{◌≡◌, ℕ, zero, suc, ◌+◌, ◌*◌, ◌/◌, ◌^◌, ◌≤◌, true, List, [], ◌∷◌, map, length, take, drop, Option, Some, None, refl, ap, arith, codes}
use Rattle.std.specs.Prelude.{is_none}
use Rattle.std.specs.List.{AllByRecursion, list_all}
use Rattle.std.proofs.lemmas.Bool.{and_parts, false≢true}
use Rattle.std.proofs.lemmas.List.{length-append, length-map, length-take, length-drop}
use Rattle.std.proofs.Math.Nat.{pow-succ', pow-zero}
use Rattle.fol_core.specs.RawTree.{RawTree, depth}
use Rattle.ladr_distinct.specs.Formula.{differ, all_differ, halved, distinct_formula}
use Rattle.ladr_distinct.proofs.Halves.{first_half, second_half, halved_all}
use Rattle.ladr_distinct.proofs.Pairs.{each_pair}
use Rattle.ladr_lex.specs.Bytes.{is_ordinary, is_special}
use Rattle.ladr_lex.specs.Lexeme.{Lexeme, ordinary, special, symbol, comma, close_square, full_stop}
use Rattle.ladr_lex.specs.Operators.{OperatorRow, if_prefix}
use Rattle.ladr_reader.specs.Counts.{names_count}
use Rattle.ladr_reader.specs.Fixed.{KeepsFixed}
use Rattle.ladr_reader.specs.HasText.{CanName, plain, HasText}
use Rattle.ladr_reader.specs.HasText as texts
use Rattle.ladr_distinct.specs.Names.{may_be_listed, AreNames, one, further, NamesItem, empty, filled}
use Rattle.ladr_reader.specs.Table.{OperatorTable, table_of}
use Rattle.ladr_reader.proofs.HasText.{is_written, written_parts}

-- how many parts there are
many_parts : (ns : List (List ℕ)) → length ns ≤ 200 → length (all_differ ns) ≤ 200 * length ns
many_parts [] h = omega arith
many_parts (s ∷ ss) h = omega (arith, h, many_parts ss (omega (arith, h)), length-append (map (differ s) ss) (all_differ ss), length-map ss (differ s))

-- as often as their number can be halved there is a level more
levels : (n k : ℕ) (ts : List RawTree) → length ts ≤ 2 ^ k → AllByRecursion (λ t. depth t ≤ 2) ts → depth (halved n ts) ≤ k + 2
unfolding halved
levels n k [] h each = omega arith
levels n k (t ∷ []) h each = omega (arith, each.0)
levels zero k (t ∷ u ∷ ts) h each = omega arith
levels (suc n) zero (t ∷ u ∷ ts) h each = absurd (omega (arith, h, pow-zero 2))
levels (suc n) (suc j) (t ∷ u ∷ ts) h each =
    let all = t ∷ u ∷ ts in
    let half = length all / 2 in
    let power : 2 ^ suc j ≡ 2 * 2 ^ j = pow-succ' 2 j in
    let first : length (take half all) ≤ 2 ^ j = omega (arith, h, length-take half all, power) in
    let rest : length (drop half all) ≤ 2 ^ j = omega (arith, h, length-drop half all, power) in
    let a = levels n j (take half all) first (first_half (λ t. depth t ≤ 2) half all each) in
    let b = levels n j (drop half all) rest (second_half (λ t. depth t ≤ 2) half all each) in
    omega (arith, a, b)

units : (ns : List (List ℕ)) → AllByRecursion (λ s. Unit {0}) ns
units [] = tt
units (n ∷ ns) = (tt, units ns)

part_levels : (ns : List (List ℕ)) → AllByRecursion (λ t. depth t ≤ 2) (all_differ ns)
part_levels ns = each_pair (λ s. Unit {0}) (λ t. depth t ≤ 2) (λ s u a b. omega arith) ns (units ns)

-- so two hundred names make eighteen at most
pub distinct_levels : (ns : List (List ℕ)) → length ns ≤ 200 → depth (distinct_formula ns) ≤ 18
unfolding distinct_formula
distinct_levels ns h =
    let many = many_parts ns h in
    levels (length (all_differ ns)) 16 (all_differ ns) (omega (arith, h, many)) (part_levels ns)

-- each part has three names, and each time that parts are joined there is one more
count_joined : (n : ℕ) (ts : List RawTree) → 1 ≤ length ts → AllByRecursion (λ t. names_count t ≤ 3) ts → names_count (halved n ts) + 1 ≤ 4 * length ts
unfolding halved
count_joined n [] some h = absurd (omega (arith, some))
count_joined n (t ∷ []) some h = omega (arith, h.0)
count_joined zero (t ∷ u ∷ ts) some h = omega arith
count_joined (suc n) (t ∷ u ∷ ts) some h =
    let all = t ∷ u ∷ ts in
    let half = length all / 2 in
    let a = count_joined n (take half all) (omega (arith, length-take half all)) (first_half (λ t. names_count t ≤ 3) half all h) in
    let b = count_joined n (drop half all) (omega (arith, length-drop half all)) (second_half (λ t. names_count t ≤ 3) half all h) in
    omega (arith, a, b, length-take half all, length-drop half all)

counted : (n : ℕ) (ts : List RawTree) → AllByRecursion (λ t. names_count t ≤ 3) ts → names_count (halved n ts) ≤ 1 + 4 * length ts
unfolding halved
counted n [] h = omega arith
counted n (t ∷ ts) h = let c = count_joined n (t ∷ ts) (omega arith) h in omega (arith, c)

pub distinct_names : (ns : List (List ℕ)) → length ns ≤ 200 → names_count (distinct_formula ns) ≤ 2 ^ 26
unfolding distinct_formula
distinct_names ns h =
    let many = many_parts ns h in
    let c = counted (length (all_differ ns)) (all_differ ns) (each_pair (λ s. Unit {0}) (λ t. names_count t ≤ 3) (λ s u a b. omega arith) ns (units ns)) in
    omega (arith, h, many, c)

pub distinct_text : (rows : List OperatorRow) → KeepsFixed rows → (ns : List (List ℕ)) → AllByRecursion (λ s. CanName (table_of rows) s 0) ns → HasText (table_of rows) (distinct_formula ns)
unfolding distinct_formula is_ordinary is_special
distinct_text rows fixed ns h =
    halved_all (HasText (table_of rows)) (truth_named, tt) (λ t u a b. (and_named, (a, (b, tt)))) (length (all_differ ns)) (all_differ ns)
    (each_pair (λ s. CanName (table_of rows) s 0) (HasText (table_of rows)) (λ s u a b. (differs_named, ((a, tt), ((b, tt), tt)))) ns h)
  where
    truth_named : CanName (table_of rows) (codes "$T") 0
    truth_named = record { sort = ordinary; written = refl; allowed = plain refl (ap if_prefix (fixed (codes "$T") refl)) }

    and_named : CanName (table_of rows) (codes "&") 2
    and_named = record { sort = special; written = refl; allowed = texts.between _ (fixed (codes "&") refl) refl refl }

    differs_named : CanName (table_of rows) (codes "!=") 2
    differs_named = record { sort = special; written = refl; allowed = texts.between _ (fixed (codes "!=") refl) refl refl }

-- the names of an item can stand for terms
none_there : {A : Type 0} (o : Option A) → is_none o ≡ true → o ≡ None
none_there None h = refl
none_there (Some a) h = absurd (false≢true h)

name_stands : (g : OperatorTable) (s : List ℕ) → may_be_listed g s ≡ true → (g.word s ≡ None) × (if_prefix (g.op s) ≡ None)
name_stands g s h =
    let parts = and_parts _ _ (and_parts _ _ h).0 in
    (none_there (g.word s) parts.0, none_there (if_prefix (g.op s)) parts.1)

names_stand : (g : OperatorTable) {ts : List Lexeme} {ns : List (List ℕ)} → AreNames g ts ns → list_all is_written ts ≡ true → AllByRecursion (λ s. CanName g s 0) ns
names_stand g (one k s ok) w =
    let may = name_stands g s ok in
    (record { sort = k; written = (and_parts _ _ w).0; allowed = plain may.0 may.1 }, tt)
names_stand g (further {ts} {ns} k s ok more) w =
    let may = name_stands g s ok in
    let parts = and_parts (is_written (symbol k s)) (list_all is_written (comma ∷ ts)) w in
    (record { sort = k; written = parts.0; allowed = plain may.0 may.1 }, names_stand g more parts.1)

pub item_names_stand : (g : OperatorTable) (ts : List Lexeme) (ns : List (List ℕ)) → NamesItem g ts ns → list_all is_written ts ≡ true → AllByRecursion (λ s. CanName g s 0) ns
item_names_stand g _ _ empty w = tt
item_names_stand g _ _ (filled {ts} {ns} names) w = names_stand g names (written_parts ts (close_square ∷ full_stop ∷ []) w).0
