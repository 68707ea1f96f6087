-- A command keeps the options in range.
use Rattle.std.proofs.Common.{◌≡◌, ℕ, Bool, true, false, List, [], ◌∷◌, ◌++◌, Some, None, is_some, Result, Ok, Err, IfOk, ◌&&◌, nat_lt, length, if◌then◌else◌, refl}
use Rattle.std.specs.List.{list_any}
use Rattle.std.proofs.lemmas.Result.{IfOk-at_ok}
use Rattle.ladr_lex.specs.declared.misuse.Misuse.{Misuse}
use Rattle.ladr_lex.specs.declared.misuse.Misuse.TheVariants.{UnknownParameter, UnknownList, UnfitOperator, UnfitSymbol, TooLate, UnmatchedIf, UnfitRule, UnfitInterpretation}
use Rattle.ladr_commands.specs.declared.command.Command.{Command}
use Rattle.ladr_commands.specs.declared.command.Command.TheVariants as command
use Rattle.ladr_commands.specs.declared.command.Value.{Value}
use Rattle.ladr_commands.specs.declared.command.Value.TheVariants as value
use Rattle.ladr_lex.specs.Operators.{is_unfit_operator, is_unfit_symbol}
use Rattle.ladr_interpretations.specs.Good.{is_good}
use Rattle.ladr_options.proofs.Ranges.{flagged_in_range, numbered_in_range, symbolized_in_range}
use Rattle.ladr_options.specs.Options.{flagged, is_among, numbered, symbolized}
use Rattle.ladr_options.specs.Ranges.{AreInRange}
use Rattle.ladr_options.specs.declared.options.Options.{Options}
use Rattle.ladr_options.specs.declared.options.OptionError.{OptionError}
use Rattle.ladr_formulas.specs.declared.styles.Mode.{Mode}
use Rattle.fol_core.specs.NamesOnce.{are_apart}
use Rattle.ladr_settings.specs.Settings.{settings_after, after_meant, after_other, after_value, with_assigned, kept_back, after_opening, all_declared, is_other, flag_misuse, parameter_misuse, with_options, is_late_style, is_meant, formulas_opened, rules_opened}
use Rattle.ladr_settings.specs.declared.lists.OpenList.{OpenList}
use Rattle.ladr_settings.specs.declared.settings.Settings.{Settings}

abbrev InRange : Settings → Type 0
InRange t = AreInRange t.options

-- a choice whose two answers keep them
either_way : (b : Bool) (r q : Result Settings Misuse) → IfOk r InRange → IfOk q InRange → IfOk (if b then r else q) InRange
either_way true r q h k = h
either_way false r q h k = k

options_in_range : (s : Settings) (row : OptionError → Misuse) (made : Result Options OptionError) → ((o : Options) → made ≡ Ok o → AreInRange o) → IfOk (with_options s row made) InRange
options_in_range s row (Ok o) h = h o refl
options_in_range s row (Err e) h = tt

assigned_in_range : (name : List ℕ) (v : Value) (s : Settings) → InRange s → IfOk (with_assigned name v s) InRange
assigned_in_range name (value.Symbol text) s h = options_in_range s parameter_misuse (symbolized name text s.options) (λ o e. symbolized_in_range name text s.options o e h)
assigned_in_range name (value.Number negative n) s h = options_in_range s parameter_misuse (numbered name negative n s.options) (λ o e. numbered_in_range name negative n s.options o e h)

value_in_range : (name : List ℕ) (v : Value) (s : Settings) → InRange s → IfOk (after_value name v s) InRange
value_in_range name v s h = either_way (is_among kept_back name) (Err UnknownParameter) (with_assigned name v s) tt (assigned_in_range name v s h)

opening_in_range : (list : OpenList) (s : Settings) → InRange s → IfOk (after_opening list s) InRange
opening_in_range list s h = either_way (is_other list) (Err UnknownList) (Ok (record s { list = Some list; listed = true })) tt h

meant_in_range : (c : Command) (s : Settings) → InRange s → IfOk (after_meant c s) InRange
meant_in_range (command.Flag on name) s h = either_way (is_late_style name s) (Err TooLate) (with_options s flag_misuse (flagged name on s.options)) tt (options_in_range s flag_misuse (flagged name on s.options) (λ o e. flagged_in_range name on s.options o e h))
meant_in_range (command.Assign name v) s h = value_in_range name v s h
meant_in_range (command.Op p type names) s h =
    let named : Settings = record s { operators = all_declared p type names s.operators } in
    let apart : Result Settings Misuse = if s.listed then Err TooLate else Ok named in
    either_way (nat_lt 0 (length names) && is_unfit_operator p type) (Err UnfitOperator) (if list_any is_unfit_symbol names then Err UnfitSymbol else apart) tt (either_way (list_any is_unfit_symbol names) (Err UnfitSymbol) apart tt (either_way s.listed (Err TooLate) (Ok named) tt h))
meant_in_range (command.FunctionOrder names) s h = either_way (are_apart names) (Ok (record s { function_order = names })) (Err UnfitRule) h tt
meant_in_range (command.PredicateOrder names) s h = h
meant_in_range (command.Formulas name) s h = opening_in_range (formulas_opened name) s h
meant_in_range (command.List name) s h = opening_in_range (rules_opened name) s h
meant_in_range (command.If name) s h = either_way (is_some s.block) (Err UnmatchedIf) (Ok (record s { block = Some name })) tt h
meant_in_range command.EndIf s h = either_way (is_some s.block) (Ok (record s { block = None })) (Err UnmatchedIf) h tt
meant_in_range (command.Interpretation it) s h = either_way (is_good it) (Ok (record s { interpretations = s.interpretations ++ it ∷ [] })) (Err UnfitInterpretation) h tt

other_in_range : (c : Command) (s : Settings) → InRange s → InRange (after_other c s)
other_in_range (command.Flag on name) s h = h
other_in_range (command.Assign name v) s h = h
other_in_range (command.Op p type names) s h = h
other_in_range (command.FunctionOrder names) s h = h
other_in_range (command.PredicateOrder names) s h = h
other_in_range (command.Formulas name) s h = h
other_in_range (command.List name) s h = h
other_in_range (command.If name) s h = h
other_in_range command.EndIf s h = h
other_in_range (command.Interpretation it) s h = h

pub after_in_range : (p : Mode) (c : Command) (s t : Settings) → settings_after p c s ≡ Ok t → AreInRange s.options → AreInRange t.options
after_in_range p c s t e h = IfOk-at_ok InRange e (either_way (is_meant p s) (after_meant c s) (Ok (after_other c s)) (meant_in_range c s h) (other_in_range c s h))
