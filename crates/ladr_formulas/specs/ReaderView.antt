-- What the reader of formulas has read, from its parts.
use Rattle.std.specs.Prelude.{Bool, List, Option}
use Rattle.fol_core.specs.SymbolTable.{Symbol}
use Rattle.ladr_lex.specs.declared.misuse.Misuse.{Misuse}
use Rattle.ladr_formulas.specs.Formulas.{Reading, Variable, Bound}

-- what has been read, and the quantifiers around
pub record Progress : Type 0 where
  pub reading : Reading
  pub scope : List Bound

abbrev pub progress : List Symbol → List Variable → List Bound → Option Misuse → Bool → Progress
progress symbols variables scope least large =
    record {
      reading = record
          { symbols = symbols; variables = variables; least = least; large = large };
      scope = scope;
    }
