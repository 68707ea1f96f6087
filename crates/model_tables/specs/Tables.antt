-- Finite interpretations given by tables.
use Rattle.std.specs.Prelude.{ℕ, ◌+◌, ◌*◌, ◌==◌, nat_le, Bool, not, if◌then◌else◌, List, [], ◌∷◌, length, slice_get, slice_index}
use Rattle.std.specs.Option.{option_map_or}
use Rattle.fol_core.specs.Meaning.{Meaning}
use Rattle.fol_core.specs.declared.symbols.Kind.{Kind}

-- what a symbol is, and the list of its values, the last argument running fastest; an empty list is
-- that of a symbol without an entry
pub record Listing : Type 0 where
  pub kind : Kind
  pub values : List ℕ

abbrev pub listing : Kind → List ℕ → Listing
listing kind values = record { kind = kind; values = values }

-- the greatest element, the elements being 0 and up to it, and the values of each symbol number
pub record Finite : Type 0 where
  pub top : ℕ
  pub rows : List Listing

-- the values of a symbol
abbrev pub row_of : Finite → ℕ → List ℕ
row_of t s = option_map_or (λ l. l.values) (slice_get t.rows s) []

-- whether a symbol has an entry
abbrev pub has : Finite → ℕ → Bool
has t s = not (length (row_of t s) == 0)

-- the place of a list of arguments behind those that lead to p
abbrev pub place_from : ℕ → ℕ → List ℕ → ℕ
place_from size p [] = p
place_from size p (x ∷ xs) = place_from size (p * size + x) xs

-- what a symbol's list has for these arguments, 0 where it has nothing
abbrev pub listed_value : Finite → ℕ → List ℕ → ℕ
listed_value t s xs = slice_index (row_of t s) (place_from (t.top + 1) 0 xs)

-- an element, 0 in place of a number that is none
abbrev pub element : Finite → ℕ → ℕ
element t x = if nat_le x t.top then x else 0

-- the interpretation: a function has the listed element, a relation holds where 1 is listed
abbrev pub meaning_of : Finite → Meaning
meaning_of t = record {
  within = λ x. nat_le x t.top;
  function = λ f xs. element t (listed_value t f xs);
  relation = λ r xs. listed_value t r xs == 1;
}
