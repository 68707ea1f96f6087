-- The names of Skolem symbols, and their numbers in a table.
use Rattle.std.specs.Prelude.{ℕ, zero, suc, ◌≡◌, ◌⊎◌, ◌+◌, ◌^◌, ◌<◌, ◌==◌, Bool, true, false, if◌then◌else◌, length, List, [], ◌∷◌, unwrap_or}
use Rattle.std.specs.List.{list_any}
use Rattle.std.specs.Str.{bytes_eq}
use Rattle.std.specs.Fmt.{decimal}
use Rattle.std.specs.Global.{Vec}
use Rattle.fol_core.specs.SymbolTable.{Symbol, symbol, number_of, entered, kind_at, name_at}
use Rattle.fol_core.specs.declared.symbols.Kind.TheVariants.{Function, Relation}

-- a letter with a number behind it
abbrev pub letter_numbered : ℕ → ℕ → List ℕ
letter_numbered letter n = letter ∷ decimal n

-- whether a symbol of the table has this name, whatever its arity
abbrev pub is_named : List Symbol → List ℕ → Bool
is_named table name = list_any (λ s. bytes_eq name s.name) table

-- the names are those of the table's symbols
abbrev pub HasNames : List Symbol → List (Vec ℕ) → Type 0
HasNames table names =
    (name : List ℕ) → list_any (λ v. bytes_eq name v.items) names ≡ is_named table name

-- the first number from n on whose name isn't taken, where at most so many are passed
abbrev pub free_from : List Symbol → ℕ → ℕ → ℕ → ℕ
free_from table letter zero n = n
free_from table letter (suc most) n =
    if is_named table (letter_numbered letter n) then free_from table letter most (n + 1) else n

-- the first number after n whose name isn't taken: of one more than the table is long, one is free
abbrev pub next_free : List Symbol → ℕ → ℕ → ℕ
next_free table letter n = free_from table letter (length table) (n + 1)

-- the name of a Skolem symbol with so many arguments, where the last numbers were c and f: c1, c2,
-- .. without, f1, f2, .. with
abbrev pub next_name : List Symbol → ℕ → ℕ → ℕ → List ℕ
next_name input c f arity =
    if arity == 0 then letter_numbered 99 (next_free input 99 c)
    else letter_numbered 102 (next_free input 102 f)

-- the last numbers after it
abbrev pub next_constant : List Symbol → ℕ → ℕ → ℕ
next_constant input c arity = if arity == 0 then next_free input 99 c else c

abbrev pub next_function : List Symbol → ℕ → ℕ → ℕ
next_function input f arity = if arity == 0 then f else next_free input 102 f

-- the Skolem symbols with these arities, no name of the input's symbols being taken
abbrev pub skolem_symbols : List Symbol → ℕ → ℕ → List ℕ → List Symbol
skolem_symbols input c f [] = []
skolem_symbols input c f (arity ∷ arities) =
    symbol (next_name input c f arity) arity Function
    ∷ skolem_symbols input (next_constant input c arity) (next_function input f arity) arities

-- the table with these symbols at its end, but for those that stand in it
abbrev pub all_entered : List Symbol → List Symbol → List Symbol
all_entered table [] = table
all_entered table (s ∷ ss) = all_entered (entered table s) ss

-- the number of each as it is entered
abbrev pub entered_numbers : List Symbol → List Symbol → List ℕ
entered_numbers table [] = []
entered_numbers table (s ∷ ss) =
    unwrap_or (number_of (entered table s) s.name s.arity) 0 ∷ entered_numbers (entered table s) ss

-- A relation of the table that is named like a Skolem symbol, with a number of at most 64 digits,
-- has a name of the input.
abbrev pub HasNoSkolemRelation : List Symbol → List Symbol → Type 0
HasNoSkolemRelation input table =
    (r letter n : ℕ) → n < 10 ^ 64 → kind_at table r ≡ Relation → (letter ≡ 99) ⊎ (letter ≡ 102) →
    name_at table r ≡ letter_numbered letter n
    → is_named input (letter_numbered letter n) ≡ true

-- the name is one of a Skolem symbol, and no name of the input
pub record IsNewName (input : List Symbol) (name : List ℕ) : Type 0 where
  pub letter : ℕ
  pub number : ℕ
  pub skolem : (letter ≡ 99) ⊎ (letter ≡ 102)
  pub is : name ≡ letter_numbered letter number
  pub few : number < 10 ^ 64
  pub free : is_named input name ≡ false
