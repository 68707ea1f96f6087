-- The models of a size.
use Rattle.std.specs.Prelude.{ℕ}
use Rattle.fol_problem.specs.Stated.{Stated, IsCountermodel}
use Rattle.model_tables.specs.Size.{IsInterpretation}
use Rattle.model_tables.specs.Tables.{Finite, meaning_of}

-- tables of size n in which each assumption is true and each goal is false
abbrev pub IsModel : Stated → ℕ → Finite → Type 0
IsModel p n t = IsInterpretation n p t × IsCountermodel (meaning_of t) p.formulas
