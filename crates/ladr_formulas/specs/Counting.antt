-- How many symbols there are behind a formula, without anything else of it.
use Rattle.std.specs.Prelude.{◌≡◌, ℕ, ◌<◌, Bool, true, false, ◌||◌, nat_lt, List, [], ◌∷◌, length}
use Rattle.fol_core.specs.RawTree.{RawTree, named, quantified, RawTrees, no_raws, more_raws}
use Rattle.fol_core.specs.SymbolTable.{Symbol, entered}
use Rattle.ladr_lex.specs.declared.limits.TheConstants.{MOST_ARGUMENTS, MOST_SYMBOLS}
use Rattle.ladr_formulas.specs.Formulas.{Bound, arity_of}

abbrev mutual
  -- whether some name in a term has more arguments than a symbol may have
  pub is_wide : RawTree → Bool
  is_wide (quantified q x t) = is_wide t
  is_wide (named name ts) = nat_lt MOST_ARGUMENTS (arity_of ts) || are_wide ts

  pub are_wide : RawTrees → Bool
  are_wide no_raws = false
  are_wide (more_raws t ts) = is_wide t || are_wide ts

-- the names that quantifiers around bind
abbrev pub names_bound : List Bound → List (List ℕ)
names_bound [] = []
names_bound (b ∷ bs) = b.name ∷ names_bound bs

-- the table with these symbols entered in their order
abbrev pub all_entered : List Symbol → List Symbol → List Symbol
all_entered table [] = table
all_entered table (s ∷ ss) = all_entered (entered table s) ss

-- Symbols were entered in a table: all of them, or as many as show that they are too many.
abbrev pub IsCounted : List Symbol → List Symbol → List Symbol → Bool → Type 0
IsCounted before ss after true = after ≡ all_entered before ss
IsCounted before ss after false = MOST_SYMBOLS < length (all_entered before ss)
