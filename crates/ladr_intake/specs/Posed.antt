-- What the bytes of an input say to a command, whatever their language.
use Rattle.std.specs.Prelude.{◌≡◌, ℕ, List}
use Rattle.fol_problem.specs.Stated.{Stated, stated_of}
use Rattle.ladr_commands.specs.ByName.{ByName}
use Rattle.ladr_options.specs.declared.options.Options.{Options}
use Rattle.ladr_problem.specs.File.{Says, problem}
use Rattle.ladr_problem.specs.Sofar.{Sofar, stated_in}
use Rattle.ladr_problem.specs.declared.read.FileRead.{FileRead}
use Rattle.ladr_formulas.specs.declared.styles.Mode.{Mode}
use Rattle.ladr_formulas.specs.declared.styles.Mode.TheVariants.{Tester}

-- a problem with options
pub record Posed : Type 0 where
  pub stated : Stated
  pub options : Options

-- a problem with interpretations by names, in their order
pub record Interpreted : Type 0 where
  pub stated : Stated
  pub interpretations : List ByName

-- the bytes of a file say this problem with these options to a program
abbrev pub poses : Mode → List ℕ → Posed → Type 0
poses m bytes x =
    (s : Sofar) × Says m bytes (problem s) × (stated_in s ≡ x.stated)
    × (s.settings.options ≡ x.options)

-- and this one with these interpretations, to a program that tests them
abbrev pub interprets : List ℕ → Interpreted → Type 0
interprets bytes x =
    (s : Sofar) × Says Tester bytes (problem s) × (stated_in s ≡ x.stated)
    × (s.settings.interpretations ≡ x.interpretations)

-- what the code has of a problem, and with its interpretations
abbrev pub posed_by : FileRead → Posed
posed_by r = record { stated = stated_of r.problem; options = r.problem.options }

abbrev pub interpreted_by : FileRead → Interpreted
interpreted_by r =
    record { stated = stated_of r.problem; interpretations = r.interpretations }
