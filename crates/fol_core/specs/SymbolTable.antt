-- Tables of symbols: a symbol's number is its place.
use Rattle.std.specs.Prelude.{ℕ, suc, Bool, true, false, ◌==◌, ◌&&◌, not, if◌then◌else◌, ◌≡◌, List, [], ◌∷◌, ◌++◌, Option, Some, None, is_some, slice_get}
use Rattle.std.specs.Option.{option_map, option_map_or}
use Rattle.std.specs.Str.{bytes_eq}
use Rattle.fol_core.specs.declared.symbols.Kind.{Kind}
use Rattle.fol_core.specs.declared.symbols.Kind.TheVariants.{Function, Relation}

-- a name with an arity, and whether it is a function or a relation
pub record Symbol : Type 0 where
  pub name : List ℕ
  pub arity : ℕ
  pub kind : Kind

abbrev pub symbol : List ℕ → ℕ → Kind → Symbol
symbol name arity kind = record { name = name; arity = arity; kind = kind }

-- whether the symbol has this name and arity
abbrev pub is_called : List ℕ → ℕ → Symbol → Bool
is_called name arity s = bytes_eq name s.name && arity == s.arity

-- the first place in a list at which a test passes
abbrev pub first_place : {X : Type 0} → (X → Bool) → List X → Option ℕ
first_place test [] = None
first_place test (x ∷ xs) = if test x then Some 0 else option_map suc (first_place test xs)

-- the first number under which a name and arity stand
abbrev pub number_of : List Symbol → List ℕ → ℕ → Option ℕ
number_of table name arity = first_place (is_called name arity) table

-- the name of the symbol under a number, and nothing past the table's end
abbrev pub name_at : List Symbol → ℕ → List ℕ
name_at table n = option_map_or (λ s. s.name) (slice_get table n) []

-- its arity, and 0 past the end
abbrev pub arity_at : List Symbol → ℕ → ℕ
arity_at table n = option_map_or (λ s. s.arity) (slice_get table n) 0

-- its kind, and a function past the end
abbrev pub kind_at : List Symbol → ℕ → Kind
kind_at table n = option_map_or (λ s. s.kind) (slice_get table n) Function

-- the table with the symbol at its end, unless the name and arity stand in it
abbrev pub entered : List Symbol → Symbol → List Symbol
entered table s = if is_some (number_of table s.name s.arity) then table else table ++ s ∷ []

abbrev pub is_same_kind : Kind → Kind → Bool
is_same_kind Function Function = true
is_same_kind Function Relation = false
is_same_kind Relation Function = false
is_same_kind Relation Relation = true

-- whether the symbol's name and arity stand in the table with the other kind
abbrev pub is_clash : List Symbol → Symbol → Bool
is_clash table s =
    option_map_or (λ n. not (is_same_kind (kind_at table n) s.kind))
    (number_of table s.name s.arity) false

-- each number of the old table means the same in the new one
abbrev pub KeepsNumbers : List Symbol → List Symbol → Type 0
KeepsNumbers old new = (n : ℕ) (s : Symbol) → slice_get old n ≡ Some s → slice_get new n ≡ Some s

-- no name and arity stands twice: each symbol is found under its own number
abbrev pub FindsEach : List Symbol → Type 0
FindsEach table =
    (n : ℕ) (s : Symbol) → slice_get table n ≡ Some s → number_of table s.name s.arity ≡ Some n
