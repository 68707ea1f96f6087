-- What every problem is that a file says, and its options.
use Rattle.std.specs.Prelude.{◌≤◌, ◌<◌, ◌^◌, length}
use Rattle.fol_problem.specs.Stated.{Stated, IsWellFormed}
use Rattle.ladr_lex.specs.declared.limits.TheConstants.{MOST_SYMBOLS}
use Rattle.ladr_options.specs.Ranges.{AreInRange}
use Rattle.ladr_options.specs.declared.options.Options.{Options}
use Rattle.ladr_problem.specs.Names.{AreTellable}

-- Its formulas have its symbols alone, which are few enough and can be told apart; its options have
-- values of theirs.
pub record IsProper (p : Stated) (o : Options) : Type 0 where
  pub well_formed : IsWellFormed p
  pub few : length p.symbols ≤ MOST_SYMBOLS
  pub tellable : AreTellable p.symbols
  pub ranged : AreInRange o
  pub countable : o.max_models < 2 ^ 32
