-- What is printed of a search, item by item.
use Rattle.std.specs.Prelude.{◌≡◌, ℕ, List, [], ◌⊎◌}
use Rattle.std.specs.declared.result.Result.{Result}
use Rattle.std.specs.declared.result.Result.TheVariants.{Err}
use Rattle.fol_problem.specs.Stated.{Stated}
use Rattle.ladr_io.specs.Streams.{Outflow, Takes}
use Rattle.ladr_mace4.specs.Lines.{size_line, skipped_line, exhausted_line}
use Rattle.ladr_mace4.specs.Skolems.{all_symbols}
use Rattle.ladr_mace4.specs.declared.printing.SearchItem.{SearchItem}
use Rattle.ladr_mace4.specs.declared.printing.SearchItem.TheVariants.{Begins, Skips, Shows, Exhausts}
use Rattle.ladr_output.specs.Telling.{IsPiece}
use Rattle.ladr_output.specs.declared.cut.Cut.{Cut}
use Rattle.ladr_output.specs.declared.cut.Cut.TheVariants.{Memory}
use Rattle.model_tables.specs.ModelText.{model_text}

abbrev pub IsItemText : Stated → SearchItem → List ℕ → Type 0
IsItemText p (Begins n) text = text ≡ size_line n
IsItemText p (Skips n) text = text ≡ skipped_line n
IsItemText p (Shows tables k) text = text ≡ model_text (all_symbols p) k tables.now
IsItemText p (Exhausts n) text = text ≡ exhausted_line n

-- such a text was a piece of the output; or memory was lacking for it, and none was printed
abbrev pub IsPrinted : (List ℕ → Type 0) → Outflow → Outflow → Result (Unit {0}) Cut → Type 0
IsPrinted IsText old new r =
    ((text : List ℕ) × IsText text × IsPiece text old new r) ⊎ ((r ≡ Err Memory) × Takes old new [])
