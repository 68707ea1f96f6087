-- Interpretations of a size over the symbols of a problem.
use Rattle.std.specs.Prelude.{ℕ, ◌≡◌, ◌+◌, ◌^◌, ◌<◌, suc, Bool, if◌then◌else◌, List, [], ◌∷◌, length, map}
use Rattle.fol_core.specs.Fol.{Fol}
use Rattle.fol_core.specs.Occurs.{occurs_in}
use Rattle.fol_problem.specs.Stated.{Stated}
use Rattle.fol_core.specs.SymbolTable.{Symbol}
use Rattle.fol_core.specs.declared.symbols.Kind.{Kind}
use Rattle.fol_core.specs.declared.symbols.Kind.TheVariants.{Function, Relation}
use Rattle.model_tables.specs.Tables.{Listing, Finite}

-- what the values of a symbol are below, where there are n elements
abbrev pub bound_of : ℕ → Kind → ℕ
bound_of n Function = n
bound_of n Relation = 2

-- how many cells a symbol has: one for each list of arguments, and none where it stands in no
-- formula
abbrev pub cells_for : ℕ → ℕ → Bool → ℕ
cells_for n arity used = if used then n ^ arity else 0

abbrev pub AllBelow : ℕ → List ℕ → Type 0
AllBelow b [] = Unit {0}
AllBelow b (x ∷ xs) = (x < b) × AllBelow b xs

-- a value for each cell of the symbol, none too great
abbrev pub IsListing : ℕ → Symbol → Bool → Listing → Type 0
IsListing n s used l =
    (l.kind ≡ s.kind) × (length l.values ≡ cells_for n s.arity used)
    × AllBelow (bound_of n s.kind) l.values

-- a listing for each of the symbols, whose numbers are k and those behind it
abbrev pub AreListings : ℕ → List Fol → ℕ → List Symbol → List Listing → Type 0
AreListings n fs k [] [] = Unit {0}
AreListings n fs k [] (l ∷ ls) = ⊥
AreListings n fs k (s ∷ ss) [] = ⊥
AreListings n fs k (s ∷ ss) (l ∷ ls) =
    IsListing n s (occurs_in k fs) l × AreListings n fs (suc k) ss ls

-- the formulas, whatever their roles
abbrev pub formulas_of : Stated → List Fol
formulas_of p = map (λ s. s.formula) p.formulas

-- tables are an interpretation of size n over the symbols that stand in the formulas of a problem
abbrev pub IsInterpretation : ℕ → Stated → Finite → Type 0
IsInterpretation n p t = (t.top + 1 ≡ n) × AreListings n (formulas_of p) 0 p.symbols t.rows
