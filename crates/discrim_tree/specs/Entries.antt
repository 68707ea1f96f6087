-- The entries of an index.
use Rattle.std.specs.Prelude.{ℕ, ◌<◌, ◌==◌, Bool, not, nat_lt, List, [], ◌∷◌, ◌++◌, map, refl}
use Rattle.std.specs.Coded.{Coded, code_by, coded×, coded_ℕ, coded_list}
use Rattle.std.specs.List.{filter, list_any}
use Rattle.fol_core.specs.Tree.{Tree}
use Rattle.fol_core.specs.TreeCodes.{coded_tree}

-- the entry's number and its term
pub record Indexed : Type 0 where
  pub number : ℕ
  pub tree : Tree

abbrev pub indexed : ℕ → Tree → Indexed
indexed number tree = record { number = number; tree = tree }

abbrev pub coded_entries : Coded (List Indexed)
coded_entries =
    coded_list
    (code_by (ℕ × Tree) (coded× coded_ℕ coded_tree)
    (λ e. (e.number, e.tree)) (λ p. indexed p.0 p.1) (λ _. refl))

-- the number is above that of no entry
abbrev pub HaveNumbersAbove : ℕ → List Indexed → Type 0
HaveNumbersAbove n [] = Unit {0}
HaveNumbersAbove n (e ∷ es) = (n < e.number) × HaveNumbersAbove n es

-- the entries' numbers rise
abbrev pub NumbersRise : List Indexed → Type 0
NumbersRise [] = Unit {0}
NumbersRise (e ∷ es) = HaveNumbersAbove e.number es × NumbersRise es

-- whether an entry has the number
abbrev pub has_number : ℕ → List Indexed → Bool
has_number n es = list_any (λ e. e.number == n) es

-- the entries with one more, at its place by number
abbrev pub with_entry : Indexed → List Indexed → List Indexed
with_entry e es =
    filter (λ d. nat_lt d.number e.number) es ++ e ∷ filter (λ d. nat_lt e.number d.number) es

-- the entries but for the one of a number
abbrev pub without_entry : ℕ → List Indexed → List Indexed
without_entry n es = filter (λ e. not (e.number == n)) es

-- the numbers of the entries whose terms pass a test, in their order
abbrev pub numbers_found : (Tree → Bool) → List Indexed → List ℕ
numbers_found test es = map (λ e. e.number) (filter (λ e. test e.tree) es)
