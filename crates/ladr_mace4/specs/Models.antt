-- The models of a size, as a search shows them.
use Rattle.std.specs.Prelude.{◌≡◌, ℕ, true, List, [], ◌∷◌, ◌++◌}
use Rattle.std.specs.List.{AllByRecursion}
use Rattle.clausify.specs.Input.{skolems}
use Rattle.fol_core.specs.Literals.{AreTrueClauses}
use Rattle.fol_problem.specs.Stated.{Stated, IsCountermodel}
use Rattle.fol_core.specs.SymbolTable.{Symbol}
use Rattle.ladr_cells.specs.Worlds.{clauses_for}
use Rattle.mace_search.specs.Complete.{AreDifferent}
use Rattle.model_tables.specs.Size.{IsListing, IsInterpretation}
use Rattle.model_tables.specs.Tables.{Listing, Finite, meaning_of}

-- a row for each of the symbols, with a value for each list of arguments
abbrev pub AreFullRows : ℕ → List Symbol → List Listing → Type 0
AreFullRows n [] [] = Unit {0}
AreFullRows n [] (l ∷ ls) = ⊥
AreFullRows n (s ∷ ss) [] = ⊥
AreFullRows n (s ∷ ss) (l ∷ ls) = IsListing n s true l × AreFullRows n ss ls

-- Whole tables of size n in which each assumption is true and each goal is false: an
-- interpretation of the problem's symbols, and behind it the values of the Skolem symbols, with
-- which the clauses are true.
pub record IsWholeModel (p : Stated) (n : ℕ) (u : Finite) : Type 0 where
  pub own : List Listing
  pub skolem : List Listing
  pub parts : u.rows ≡ own ++ skolem
  pub interpretation : IsInterpretation n p (record { top = u.top; rows = own })
  pub full : AreFullRows n (skolems p.symbols p.formulas) skolem
  pub says : IsCountermodel (meaning_of u) p.formulas
  pub holds : AreTrueClauses (meaning_of u) (clauses_for p)

-- such tables, no two the same
abbrev pub AreShown : Stated → ℕ → List Finite → Type 0
AreShown p n us = AllByRecursion (IsWholeModel p n) us × AreDifferent us
