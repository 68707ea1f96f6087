-- The leaves of the plain search as the models of what is stated.
use Rattle.std.specs.Prelude.{ℕ, ◌<◌, ◌≤◌, length}
use Rattle.fol_core.specs.Literals.{equality}
use Rattle.fol_core.specs.Occurs.{size_needed}
use Rattle.fol_problem.specs.Stated.{Stated, IsWellFormed}
use Rattle.ladr_cells.specs.Fitting.{FitsTable}
use Rattle.ladr_cells.specs.Showing.{CoverModels}
use Rattle.ladr_mace4.specs.Done.{leaf_models}
use Rattle.ladr_mace4.specs.Models.{AreShown}
use Rattle.ladr_mace4.specs.Skolems.{all_axioms}
use Rattle.mace_cells.specs.declared.way.Way.{Way}
use Rattle.model_tables.specs.Size.{formulas_of}

-- What is stated has its symbols alone, as its table has them, which are few enough, as are the
-- Skolem symbols; there are elements, among them each that the formulas name.
pub record MakesSense (p : Stated) (n : ℕ) : Type 0 where
  pub well_formed : IsWellFormed p
  pub fits : FitsTable p
  pub few : length p.symbols ≤ equality
  pub few_witnesses : length (all_axioms p) ≤ equality
  pub some : 0 < n
  pub needed : size_needed (formulas_of p) ≤ n

-- Then the tables of the leaves of a size are models of it, no two the same,
abbrev pub LeavesAreModels : Type 0
LeavesAreModels =
    (p : Stated) (n : ℕ) (way : Way) → MakesSense p n → AreShown p n (leaf_models p n way)

-- and each model of the size is one of them, renamed.
abbrev pub LeavesCoverModels : Type 0
LeavesCoverModels =
    (p : Stated) (n : ℕ) (way : Way) → MakesSense p n → CoverModels p n (leaf_models p n way)
