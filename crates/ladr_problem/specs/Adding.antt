-- What an item makes of what was read so far.
use Rattle.std.specs.Prelude.{◌≡◌, ℕ, nat_lt, Bool, true, false, not, ◌&&◌, if◌then◌else◌, List, [], ◌∷◌, ◌++◌, length, Option, Some, None, MatchOption}
use Rattle.std.specs.List.{list_any}
use Rattle.std.specs.Option.{option_map_or}
use Rattle.std.specs.declared.result.Result.{Result}
use Rattle.std.specs.declared.result.Result.TheVariants.{Ok, Err}
use Rattle.fol_core.specs.Fol.{Fol}
use Rattle.fol_core.specs.Free.{free_vars_of}
use Rattle.fol_core.specs.KboRows.{is_weighed}
use Rattle.fol_core.specs.RawTree.{RawTree}
use Rattle.fol_problem.specs.declared.problem.Role.{Role}
use Rattle.fol_problem.specs.declared.problem.Role.TheVariants.{Assumption, Usable, Demodulator, Goal}
use Rattle.ladr_lex.specs.declared.misuse.Misuse.{Misuse}
use Rattle.ladr_lex.specs.declared.misuse.Misuse.TheVariants.{UnfitAttribute, UnfitHint, UnfitDemodulator, UnfitRule, UnfitNumeral, VariableAmongNames}
use Rattle.ladr_commands.specs.Commands.{commands_of}
use Rattle.ladr_commands.specs.Faults.{IsCommandFault}
use Rattle.ladr_commands.specs.Form.{SaysCommand}
use Rattle.ladr_commands.specs.declared.command.Command.{Command}
use Rattle.ladr_commands.specs.declared.fault.CommandFault.TheVariants as command_fault
use Rattle.ladr_distinct.specs.Different.{distinct_reading}
use Rattle.ladr_distinct.specs.Formula.{distinct_formula}
use Rattle.ladr_distinct.specs.Symbols.{symbols_of_names}
use Rattle.ladr_problem.specs.ListItem.{ListItem, closing, term, names, IsListItem, IsItemFault}
use Rattle.ladr_lex.specs.Misuses.{earlier}
use Rattle.ladr_lex.specs.declared.limits.TheConstants.{MOST_LEVELS, MOST_NAMES, MOST_SYMBOLS}
use Rattle.ladr_lex.specs.Lexeme.{Lexeme}
use Rattle.ladr_rules.specs.Asked.{asked}
use Rattle.ladr_rules.specs.Attributes.{attributed, has_unfit_weight, label_of, hint_weight_of}
use Rattle.fol_core.specs.Weights.{Rule}
use Rattle.ladr_rules.specs.Rules.{rule_in, kbo_rule}
use Rattle.ladr_rules.specs.Shapes.{is_hint, is_demodulator}
use Rattle.ladr_problem.specs.Sofar.{Sofar, Listed}
use Rattle.ladr_problem.specs.declared.refusal.Refusal.{Refusal}
use Rattle.ladr_problem.specs.declared.refusal.Limit.{Limit}
use Rattle.ladr_problem.specs.declared.refusal.Limit.TheVariants as limit
use Rattle.ladr_problem.specs.declared.refusal.Refusal.TheVariants.{Bad, Large, Misused, Memory}
use Rattle.fol_core.specs.SymbolTable.{Symbol}
use Rattle.ladr_formulas.specs.Counting.{all_entered}
use Rattle.ladr_formulas.specs.Formulas.{Made, formula_reading, style_of, names_of_variables, is_free_name, is_too_great}
use Rattle.ladr_reader.specs.Nesting.{nesting}
use Rattle.ladr_reader.specs.Table.{table_of}
use Rattle.ladr_reader.specs.declared.fault.TermFault.TheVariants as term_fault
use Rattle.ladr_formulas.specs.declared.styles.Mode.{Mode}
use Rattle.ladr_formulas.specs.declared.styles.Mode.TheVariants.{Prover, Mace, Tester}
use Rattle.ladr_formulas.specs.declared.styles.Style.{Style}
use Rattle.ladr_settings.specs.Settings.{settings_after, is_meant}
use Rattle.ladr_settings.specs.declared.lists.FormulaList.{FormulaList}
use Rattle.ladr_settings.specs.declared.lists.FormulaList.TheVariants.{Assumptions, Demodulators, Goals, Hints}
use Rattle.ladr_settings.specs.declared.lists.FormulaList.TheVariants as lists
use Rattle.ladr_settings.specs.declared.lists.OpenList.{OpenList}
use Rattle.ladr_settings.specs.declared.lists.OpenList.TheVariants.{Formulas, Weights, KboWeights, Distinct, OtherFormulas, OtherRules}
use Rattle.ladr_settings.specs.declared.settings.Settings.{Settings}

-- what an item is: a command outside lists, inside an item of the list or its end
pub data FileItem : Type 0 where
  command : Command → FileItem
  within : ListItem → FileItem

abbrev pub is_tester : Mode → Bool
is_tester Prover = false
is_tester Mace = false
is_tester Tester = true

-- the item can be read as this, where it stands
abbrev pub IsItemRead : Mode → Sofar → List Lexeme → FileItem → Type 0
IsItemRead m s ts (command c) =
    (s.settings.list ≡ None) × SaysCommand (commands_of (is_tester m)) ts c
IsItemRead m s ts (within i) =
    (list : OpenList) × (s.settings.list ≡ Some list)
    × IsListItem list (table_of s.settings.operators) ts i

-- the item can't be read, and token k of it is bad
abbrev pub IsUnreadable : Mode → Sofar → List Lexeme → ℕ → Type 0
IsUnreadable m s ts k =
    MatchOption s.settings.list
    (IsCommandFault (commands_of (is_tester m)) ts (command_fault.Bad k))
    (λ list. IsItemFault list (table_of s.settings.operators) ts (term_fault.Bad k))

abbrev pub style_in : Mode → Sofar → Style
style_in m s = style_of m s.settings.options.prolog_style_variables

-- a formula without its attributes, as it is read behind what was read so far
abbrev pub formula_made : Mode → Sofar → RawTree → Made Fol
formula_made m s t = formula_reading (style_in m s) s.symbols (attributed t).formula

abbrev pub is_hints : FormulaList → Bool
is_hints Assumptions = false
is_hints lists.Usable = false
is_hints Demodulators = false
is_hints Goals = false
is_hints Hints = true

abbrev pub is_demodulators : FormulaList → Bool
is_demodulators Assumptions = false
is_demodulators lists.Usable = false
is_demodulators Demodulators = true
is_demodulators Goals = false
is_demodulators Hints = false

-- the misuse of the least row, where one more is met
abbrev pub met : Bool → Misuse → Option Misuse → Option Misuse
met test misuse least = if test then Some (earlier misuse least) else least

-- Misuses of a formula's attributes and shape are met besides those of the formula.
abbrev pub least_misuse : FormulaList → Bool → Fol → Option Misuse → Option Misuse
least_misuse list unfit f least =
    met (is_hints list && not (is_hint f)) UnfitHint
    (met (is_demodulators list && not (is_demodulator f)) UnfitDemodulator
    (met unfit UnfitAttribute least))

abbrev pub is_goals : FormulaList → Bool
is_goals Assumptions = false
is_goals lists.Usable = false
is_goals Demodulators = false
is_goals Goals = true
is_goals Hints = false

abbrev is_none : List ℕ → Bool
is_none [] = true
is_none (x ∷ xs) = false

abbrev pub is_closed : Fol → Bool
is_closed f = is_none (free_vars_of f)

-- closed goals alone ask for anything
abbrev pub kept_answer : FormulaList → List ℕ → Fol → List ℕ
kept_answer list places f = if is_goals list && is_closed f then places else []

-- the role of a list's formulas; hints have none
abbrev pub role_of : FormulaList → Option Role
role_of Assumptions = Some Assumption
role_of lists.Usable = Some Usable
role_of Demodulators = Some Demodulator
role_of Goals = Some Goal
role_of Hints = None

-- the formula is added to those of its list
abbrev pub with_listed : FormulaList → Listed → Option ℕ → Sofar → Sofar
with_listed list l w s = record s {
  formulas = option_map_or (λ r. s.formulas ++ (r, l) ∷ []) (role_of list) s.formulas;
  hints = if is_hints list then s.hints ++ (l, w) ∷ [] else s.hints;
}

-- what a term in a list states, as it was read
abbrev pub listed_by : FormulaList → ℕ → RawTree → Made Fol → Listed
listed_by list byte t made = record {
  formula = made.tree;
  names = names_of_variables made.reading.variables;
  label = label_of (attributed t).attributes;
  answer = kept_answer list (asked t) made.tree;
  byte = byte;
}

-- with its symbols
abbrev pub with_formula : FormulaList → ℕ → RawTree → Made Fol → Sofar → Sofar
with_formula list byte t made s =
    with_listed list (listed_by list byte t made) (hint_weight_of (attributed t).attributes)
    (record s { symbols = made.reading.symbols })

-- the formula is misused, or added
abbrev pub after_list : FormulaList → ℕ → Sofar → RawTree → Made Fol → Result Sofar Refusal
after_list list byte s t made =
    option_map_or (λ k. Err (Misused k))
    (least_misuse list (has_unfit_weight (attributed t).attributes) made.tree made.reading.least)
    (Ok (with_formula list byte t made s))

-- Too many symbols, then too large an arity; misuses are looked for in items that are meant alone,
-- and these alone add anything.
abbrev pub after_made : Mode → Option FormulaList → ℕ → Sofar → RawTree → Made Fol →
    Result Sofar Refusal
after_made m list byte s t made =
    if nat_lt MOST_SYMBOLS (length made.reading.symbols) then Err (Large limit.Symbols)
    else (if made.reading.large then Err (Large limit.Arity)
    else (if not (is_meant m s.settings) then Ok s
    else option_map_or (λ l. after_list l byte s t made) list (Ok s)))

abbrev pub after_formula : Mode → Option FormulaList → ℕ → Sofar → RawTree → Result Sofar Refusal
after_formula m list byte s t = after_made m list byte s t (formula_made m s t)

-- Misuses of names that are to differ are met besides those of their formula, which one name isn't
-- in: variables, and numerals that are too great for elements.
abbrev pub with_names_met : Style → List (List ℕ) → Made Fol → Made Fol
with_names_met st ns made =
    record made {
      reading = record made.reading {
        least = met (list_any (is_free_name st) ns) VariableAmongNames
            (met (list_any (is_too_great st) ns) UnfitNumeral made.reading.least);
      };
    }

-- the limit that too many names pass; no formula is made of them
abbrev pub limit_of_names : Style → List Symbol → List (List ℕ) → Limit
limit_of_names st table ns =
    if nat_lt MOST_SYMBOLS (length (all_entered table (symbols_of_names st ns))) then limit.Symbols
    else limit.Distinct

-- names that are to differ: an assumption, of which the formula is read like any other
abbrev pub after_names : Mode → ℕ → Sofar → List (List ℕ) → Result Sofar Refusal
after_names m byte s ns =
    if nat_lt MOST_NAMES (length ns) then Err (Large (limit_of_names (style_in m s) s.symbols ns))
    else after_made m (Some Assumptions) byte s (distinct_formula ns)
    (with_names_met (style_in m s) ns (distinct_reading (style_in m s) s.symbols ns))

abbrev pub with_settings : Sofar → Result Settings Misuse → Result Sofar Refusal
with_settings s (Ok settings) = Ok (record s { settings = settings })
with_settings s (Err k) = Err (Misused k)

-- another shape is misuse
abbrev pub unshaped : Mode → Sofar → Result Sofar Refusal
unshaped m s = if is_meant m s.settings then Err (Misused UnfitRule) else Ok s

-- a rule of weights, of the right shape: its symbols count, as those of formulas do
abbrev pub after_rule : Mode → Sofar → Made Rule → Result Sofar Refusal
after_rule m s made =
    if nat_lt MOST_SYMBOLS (length made.reading.symbols) then Err (Large limit.Symbols)
    else (if made.reading.large then Err (Large limit.Arity)
    else (if not (is_meant m s.settings) then Ok s
    else option_map_or (λ k. Err (Misused k)) made.reading.least
    (Ok (record s { symbols = made.reading.symbols; weights = s.weights ++ made.tree ∷ [] }))))

abbrev pub after_weight : Mode → Sofar → RawTree → Result Sofar Refusal
after_weight m s t =
    option_map_or (after_rule m s) (rule_in (style_in m s) s.symbols t) (unshaped m s)

abbrev pub added_kbo : Sofar → List ℕ × ℕ → Result Sofar Refusal
added_kbo s r =
    if is_weighed r.0 s.kbo_weights then Err (Misused UnfitRule)
    else Ok (record s { kbo_weights = s.kbo_weights ++ r ∷ [] })

-- a KBO weight enters no symbol, and each name has one
abbrev pub after_kbo : Mode → Sofar → RawTree → Result Sofar Refusal
after_kbo m s t =
    if is_meant m s.settings then option_map_or (added_kbo s) (kbo_rule t) (Err (Misused UnfitRule))
    else Ok s

-- a term in the list that is open, which isn't one of names
abbrev pub after_term : Mode → OpenList → ℕ → Sofar → RawTree → Result Sofar Refusal
after_term m Weights byte s t = after_weight m s t
after_term m KboWeights byte s t = after_kbo m s t
after_term m Distinct byte s t = Ok s
after_term m OtherRules byte s t = Ok s
after_term m OtherFormulas byte s t = after_formula m None byte s t
after_term m (Formulas list) byte s t = after_formula m (Some list) byte s t

-- an item whose first byte stands here
abbrev pub after_item : Mode → ℕ → Sofar → List Lexeme → FileItem → Result Sofar Refusal
after_item m byte s ts (command c) = with_settings s (settings_after m c s.settings)
after_item m byte s ts (within closing) =
    Ok (record s { settings = record s.settings { list = None } })
after_item m byte s ts (within (term t)) =
    if nat_lt MOST_LEVELS (nesting ts t) then Err (Large limit.Nesting)
    else option_map_or (λ l. after_term m l byte s t) s.settings.list (Ok s)
after_item m byte s ts (within (names ns)) = after_names m byte s ns

-- The item is refused so: it can't be read, or is read and passes a limit or is misused. Nothing is
-- said of memory.
abbrev pub IsItemRefused : Mode → ℕ → Sofar → List Lexeme → Refusal → Type 0
IsItemRefused m byte s ts (Bad k) = IsUnreadable m s ts k
IsItemRefused m byte s ts (Large what) =
    (i : FileItem) × IsItemRead m s ts i × (after_item m byte s ts i ≡ Err (Large what))
IsItemRefused m byte s ts (Misused k) =
    (i : FileItem) × IsItemRead m s ts i × (after_item m byte s ts i ≡ Err (Misused k))
IsItemRefused m byte s ts Memory = Unit {0}
