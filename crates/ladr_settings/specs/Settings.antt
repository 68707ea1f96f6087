-- What the commands of a file set, and how they are misused.
use Rattle.std.specs.Prelude.{ℕ, Bool, true, false, ◌&&◌, if◌then◌else◌, List, [], ◌∷◌, ◌++◌, Option, Some, None, is_some, length, nat_lt, codes}
use Rattle.std.specs.List.{list_any}
use Rattle.std.specs.Option.{option_map_or}
use Rattle.std.specs.Str.{bytes_eq}
use Rattle.std.specs.declared.result.Result.{Result}
use Rattle.std.specs.declared.result.Result.TheVariants.{Ok, Err}
use Rattle.fol_core.specs.NamesOnce.{are_apart}
use Rattle.ladr_commands.specs.ByName.{ByName}
use Rattle.ladr_commands.specs.declared.command.Command.{Command}
use Rattle.ladr_commands.specs.declared.command.Command.TheVariants as command
use Rattle.ladr_commands.specs.declared.command.Value.{Value}
use Rattle.ladr_commands.specs.declared.command.Value.TheVariants as value
use Rattle.ladr_lex.specs.Operators.{OperatorRow, standard_rows, is_unfit_operator, is_unfit_symbol, declared}
use Rattle.ladr_lex.specs.declared.misuse.Misuse.{Misuse}
use Rattle.ladr_lex.specs.declared.misuse.Misuse.TheVariants.{UnknownFlag, UnknownParameter, UnfitValue, UnknownList, UnfitOperator, UnfitSymbol, TooLate, UnmatchedIf, UnfitRule, UnfitInterpretation}
use Rattle.ladr_interpretations.specs.Good.{is_good}
use Rattle.ladr_options.specs.Options.{start, flagged, is_among, numbered, symbolized}
use Rattle.ladr_options.specs.declared.options.Options.{Options}
use Rattle.ladr_options.specs.declared.options.OptionError.{OptionError}
use Rattle.ladr_options.specs.declared.options.OptionError.TheVariants.{Unknown, NotAValue}
use Rattle.ladr_settings.specs.declared.lists.FormulaList.{FormulaList}
use Rattle.ladr_settings.specs.declared.lists.FormulaList.TheVariants.{Assumptions, Usable, Demodulators, Goals, Hints}
use Rattle.ladr_settings.specs.declared.lists.OpenList.{OpenList}
use Rattle.ladr_settings.specs.declared.lists.OpenList.TheVariants.{Formulas, Weights, KboWeights, Distinct, OtherFormulas, OtherRules}
use Rattle.ladr_formulas.specs.declared.styles.Mode.{Mode}
use Rattle.ladr_formulas.specs.declared.styles.Mode.TheVariants.{Prover, Mace, Tester}
use Rattle.ladr_settings.specs.declared.settings.Settings.{Settings}

-- the lists of formulas by name; `sos` is another name of the assumptions
abbrev pub formulas_named : List ℕ → Option FormulaList
formulas_named name =
    if bytes_eq name (codes "assumptions") then Some Assumptions
    else (if bytes_eq name (codes "sos") then Some Assumptions
    else (if bytes_eq name (codes "usable") then Some Usable
    else (if bytes_eq name (codes "demodulators") then Some Demodulators
    else (if bytes_eq name (codes "goals") then Some Goals
    else (if bytes_eq name (codes "hints") then Some Hints
    else None)))))

-- the list that `formulas(name)` opens, and the one that `list(name)` does
abbrev pub formulas_opened : List ℕ → OpenList
formulas_opened name = option_map_or Formulas (formulas_named name) OtherFormulas

abbrev pub rules_opened : List ℕ → OpenList
rules_opened name =
    if bytes_eq name (codes "weights") then Weights
    else (if bytes_eq name (codes "kbo_weights") then KboWeights
    else (if bytes_eq name (codes "distinct") then Distinct else OtherRules))

-- whether a list has a name that is unknown
abbrev pub is_other : OpenList → Bool
is_other (Formulas list) = false
is_other Weights = false
is_other KboWeights = false
is_other Distinct = false
is_other OtherFormulas = true
is_other OtherRules = true

-- whether the items behind `if` of a name are for a program
abbrev pub is_for : Mode → List ℕ → Bool
is_for Prover name = bytes_eq name (codes "Prover9")
is_for Mace name = bytes_eq name (codes "Mace4")
is_for Tester name = false

-- whether an item that stands here is meant for the program
abbrev pub is_meant : Mode → Settings → Bool
is_meant p s = option_map_or (is_for p) s.block true

-- how unknown flags, unknown parameters, and other values than those of a parameter are misused
abbrev pub flag_misuse : OptionError → Misuse
flag_misuse e = UnknownFlag

abbrev pub parameter_misuse : OptionError → Misuse
parameter_misuse Unknown = UnknownParameter
parameter_misuse NotAValue = UnfitValue

-- the settings with other options, or the misuse
abbrev pub with_options : Settings → (OptionError → Misuse) → Result Options OptionError →
    Result Settings Misuse
with_options s misuse (Ok o) = Ok (record s { options = o })
with_options s misuse (Err e) = Err (misuse e)

-- the style of variables can't be changed once a list was opened
abbrev pub is_late_style : List ℕ → Settings → Bool
is_late_style name s = bytes_eq name (codes "prolog_style_variables") && s.listed

abbrev pub after_flag : Bool → List ℕ → Settings → Result Settings Misuse
after_flag on name s =
    if is_late_style name s then Err TooLate
    else with_options s flag_misuse (flagged name on s.options)

-- the parameters that no file sets yet
abbrev pub kept_back : List (List ℕ)
kept_back = codes "proof_format" ∷ codes "eval_limit" ∷ []

abbrev pub with_assigned : List ℕ → Value → Settings → Result Settings Misuse
with_assigned name (value.Symbol text) s =
    with_options s parameter_misuse (symbolized name text s.options)
with_assigned name (value.Number negative n) s =
    with_options s parameter_misuse (numbered name negative n s.options)

abbrev pub after_value : List ℕ → Value → Settings → Result Settings Misuse
after_value name v s =
    if is_among kept_back name then Err UnknownParameter else with_assigned name v s

-- the table of operators once all these symbols are declared
abbrev pub all_declared : ℕ → List ℕ → List (List ℕ) → List OperatorRow → List OperatorRow
all_declared p type [] rows = rows
all_declared p type (name ∷ names) rows = all_declared p type names (declared p type name rows)

-- first the precedence and the type count, then the symbols, and then whether a list was opened
abbrev pub after_operators : ℕ → List ℕ → List (List ℕ) → Settings → Result Settings Misuse
after_operators p type names s =
    if nat_lt 0 (length names) && is_unfit_operator p type then Err UnfitOperator
    else (if list_any is_unfit_symbol names then Err UnfitSymbol
    else (if s.listed then Err TooLate
    else Ok (record s { operators = all_declared p type names s.operators })))

-- no name stands twice in an order
abbrev pub after_order : List (List ℕ) → Settings → Result Settings Misuse
after_order names s =
    if are_apart names then Ok (record s { function_order = names }) else Err UnfitRule

-- a list of an unknown name is misuse
abbrev pub after_opening : OpenList → Settings → Result Settings Misuse
after_opening list s =
    if is_other list then Err UnknownList else Ok (record s { list = Some list; listed = true })

-- `if` inside `if` is misuse, and so is `end_if` without `if`
abbrev pub after_if : List ℕ → Settings → Result Settings Misuse
after_if name s = if is_some s.block then Err UnmatchedIf else Ok (record s { block = Some name })

abbrev pub after_end_if : Settings → Result Settings Misuse
after_end_if s = if is_some s.block then Ok (record s { block = None }) else Err UnmatchedIf

-- a bad interpretation is misuse
abbrev pub after_interpretation : ByName → Settings → Result Settings Misuse
after_interpretation it s =
    if is_good it then Ok (record s { interpretations = s.interpretations ++ it ∷ [] })
    else Err UnfitInterpretation

-- what a command that is meant for the program makes of the settings, or its misuse of the least
-- row
abbrev pub after_meant : Command → Settings → Result Settings Misuse
after_meant (command.Flag on name) s = after_flag on name s
after_meant (command.Assign name v) s = after_value name v s
after_meant (command.Op p type names) s = after_operators p type names s
after_meant (command.FunctionOrder names) s = after_order names s
after_meant (command.PredicateOrder names) s = Ok s
after_meant (command.Formulas name) s = after_opening (formulas_opened name) s
after_meant (command.List name) s = after_opening (rules_opened name) s
after_meant (command.If name) s = after_if name s
after_meant command.EndIf s = after_end_if s
after_meant (command.Interpretation it) s = after_interpretation it s

-- A command that isn't meant for the program adds nothing: only the list that it opens is gone
-- through, and `end_if` ends the block.
abbrev pub after_other : Command → Settings → Settings
after_other (command.Flag on name) s = s
after_other (command.Assign name v) s = s
after_other (command.Op p type names) s = s
after_other (command.FunctionOrder names) s = s
after_other (command.PredicateOrder names) s = s
after_other (command.Formulas name) s = record s { list = Some (formulas_opened name) }
after_other (command.List name) s = record s { list = Some (rules_opened name) }
after_other (command.If name) s = s
after_other command.EndIf s = record s { block = None }
after_other (command.Interpretation it) s = s

-- what a command makes of the settings of a program, or its misuse of the least row
abbrev pub settings_after : Mode → Command → Settings → Result Settings Misuse
settings_after p c s = if is_meant p s then after_meant c s else Ok (after_other c s)

-- before the first command
abbrev pub at_start : Settings
at_start = record {
  operators = standard_rows;
  options = start;
  function_order = [];
  block = None;
  list = None;
  listed = false;
  interpretations = [];
}
