-- Commands keep the operators lawful; once a list was opened, they keep the operators and the style of variables.
use Rattle.std.proofs.Common.{◌≡◌, ℕ, Bool, true, false, List, [], ◌∷◌, ◌++◌, Option, Some, None, is_some, Result, Ok, Err, IfOk, not, ◌&&◌, ◌||◌, nat_lt, length, if◌then◌else◌, inl, inr, refl, sym, ap, ◌∙◌, subst, arith}
use Rattle.std.specs.Prelude.{codes, unwrap_or, is_none}
use Rattle.std.specs.List.{list_any}
use Rattle.std.specs.Option.{option_map_or}
use Rattle.std.specs.Str.{bytes_eq}
use Rattle.std.proofs.lemmas.Bool.{false≢true, cases_Bool}
use Rattle.std.proofs.lemmas.Bool.Decides.{nat_tests}
use Rattle.std.proofs.lemmas.Slice.Eq.{bytes_eq-Decides}
use Rattle.fol_core.specs.NamesOnce.{are_apart}
use Rattle.ladr_commands.specs.declared.command.Command.{Command}
use Rattle.ladr_commands.specs.declared.command.Command.TheVariants as command
use Rattle.ladr_commands.specs.declared.command.Value.{Value}
use Rattle.ladr_commands.specs.declared.command.Value.TheVariants as value
use Rattle.ladr_formulas.specs.declared.styles.Mode.{Mode}
use Rattle.ladr_interpretations.specs.Good.{is_good}
use Rattle.ladr_lex.specs.Cuts.{is_plain_symbol}
use Rattle.ladr_lex.specs.Operators.{OperatorRow, is_quantifier_word, is_precedence, has_precedence, are_lawful, is_fixed, operator_with, type_named, unquoted, is_unfit_operator, is_unfit_symbol, declared}
use Rattle.ladr_lex.specs.declared.misuse.Misuse.{Misuse}
use Rattle.ladr_lex.specs.declared.misuse.Misuse.TheVariants.{UnknownParameter, UnknownList, UnfitOperator, UnfitSymbol, TooLate, UnmatchedIf, UnfitRule, UnfitInterpretation}
use Rattle.ladr_lex.specs.declared.operators.SymbolType.{SymbolType}
use Rattle.ladr_lex.specs.declared.operators.SymbolType.TheVariants.{Ordinary, Operates}
use Rattle.ladr_lex.proofs.OperatorLemmas.{lawful_put, fixed_kept}
use Rattle.ladr_options.specs.Options.{with_flag, with_value, allows, flagged, flag_named, is_idle_flag, numbered, with_number, with_stored, stored, symbolized, ordered, order_named, parameter_named, takes_symbols, is_among, idle_parameters}
use Rattle.ladr_options.specs.declared.names.Flag.{Flag}
use Rattle.ladr_options.specs.declared.names.Flag.TheVariants.{Auto, UnitDeletion, BackSubsume, BackDemod, Lnh, BinaryResolution, HyperResolution, UrResolution, Factor, Paramodulation, PrologStyleVariables}
use Rattle.ladr_options.specs.declared.names.Parameter.{Parameter}
use Rattle.ladr_options.specs.declared.names.Parameter.TheVariants.{MaxWeight, SosLimit, MaxGiven, MaxKept, MaxSeconds, MaxMegs, MaxProofs, MaxModels, DemodStepLimit, AgePart, WeightPart, FalsePart, TruePart, PickGivenRatio, DomainSize, StartSize, EndSize, Increment, SelectionOrder, SelectionMeasure, ProofFormat, EvalLimit}
use Rattle.ladr_options.specs.declared.options.OptionError.{OptionError}
use Rattle.ladr_options.specs.declared.options.OptionError.TheVariants.{Unknown, NotAValue}
use Rattle.ladr_options.specs.declared.options.Options.{Options}
use Rattle.ladr_reader.specs.Fixed.{KeepsFixed}
use Rattle.ladr_settings.proofs.Counted.{IsCounted, flagged_counted, numbered_counted, symbolized_counted}
use Rattle.ladr_settings.specs.Following.{Follows}
use Rattle.ladr_settings.specs.Settings.{settings_after, after_meant, after_other, after_value, with_assigned, kept_back, after_operators, after_opening, all_declared, is_other, flag_misuse, parameter_misuse, with_options, is_late_style, is_meant, formulas_opened, rules_opened}
use Rattle.ladr_settings.specs.declared.lists.OpenList.{OpenList}
use Rattle.ladr_settings.specs.declared.settings.Settings.{Settings}

-- answers of tests
left_false : (p q : Bool) → (p || q) ≡ false → p ≡ false
left_false true q h = h
left_false false q h = refl

right_false : (p q : Bool) → (p || q) ≡ false → q ≡ false
right_false true q h = absurd (false≢true (sym h))
right_false false q h = h

first_false : (p q : Bool) → (p && q) ≡ false → q ≡ true → p ≡ false
first_false true q h e = sym e ∙ h
first_false false q h e = refl

second_false : (p q : Bool) → (p && q) ≡ false → p ≡ true → q ≡ false
second_false true q h e = h
second_false false q h e = absurd (false≢true e)

not_false : (b : Bool) → not b ≡ false → b ≡ true
not_false true h = refl
not_false false h = sym h

-- no command but that of its flag changes the style of variables
abbrev style : Options → Bool
style o = o.prolog_style_variables

module _ (s : Options) where
  abbrev KeepsStyle : Options → Type 0
  KeepsStyle t = style t ≡ style s

  -- a choice, whose two answers keep it
  either_way : (b : Bool) (r q : Result Options OptionError) → IfOk r KeepsStyle → IfOk q KeepsStyle → IfOk (if b then r else q) KeepsStyle
  either_way true r q h k = h
  either_way false r q h k = k

  if_there : {T : Type 0} (f : T → Result Options OptionError) (x : Option T) (e : OptionError) → ((y : T) → IfOk (f y) KeepsStyle) → IfOk (option_map_or f x (Err e)) KeepsStyle
  if_there f (Some y) e h = h y
  if_there f None e h = tt

  abbrev Flags : Bool → Option Flag → Type 0
  Flags on o = IfOk (option_map_or (λ flag. Ok (with_flag flag on s)) o (Err Unknown)) KeepsStyle

  either_flag : (on b : Bool) (x y : Option Flag) → Flags on x → Flags on y → Flags on (if b then x else y)
  either_flag on true x y h k = h
  either_flag on false x y h k = k

  other_flag : (name : List ℕ) (on : Bool) → bytes_eq name (codes "prolog_style_variables") ≡ false → Flags on (flag_named name)
  other_flag name on other =
      either_flag on (bytes_eq name (codes "auto")) (Some Auto) _ refl
      (either_flag on (bytes_eq name (codes "unit_deletion")) (Some UnitDeletion) _ refl
      (either_flag on (bytes_eq name (codes "back_subsume")) (Some BackSubsume) _ refl
      (either_flag on (bytes_eq name (codes "back_demod")) (Some BackDemod) _ refl
      (either_flag on (bytes_eq name (codes "lnh")) (Some Lnh) _ refl
      (either_flag on (bytes_eq name (codes "binary_resolution")) (Some BinaryResolution) _ refl
      (either_flag on (bytes_eq name (codes "hyper_resolution")) (Some HyperResolution) _ refl
      (either_flag on (bytes_eq name (codes "ur_resolution")) (Some UrResolution) _ refl
      (either_flag on (bytes_eq name (codes "factor")) (Some Factor) _ refl
      (either_flag on (bytes_eq name (codes "paramodulation")) (Some Paramodulation) _ refl
      (subst (λ (b : Bool). Flags on (if b then Some PrologStyleVariables else None)) (sym other) tt))))))))))

  flagged_style : (name : List ℕ) (on : Bool) → bytes_eq name (codes "prolog_style_variables") ≡ false → IfOk (flagged name on s) KeepsStyle
  flagged_style name on other = either_way (is_idle_flag name) (Ok s) _ refl (other_flag name on other)

  value_style : (p : Parameter) (v : ℕ) → KeepsStyle (with_value p v s)
  value_style MaxWeight v = refl
  value_style SosLimit v = refl
  value_style MaxGiven v = refl
  value_style MaxKept v = refl
  value_style MaxSeconds v = refl
  value_style MaxMegs v = refl
  value_style MaxProofs v = refl
  value_style MaxModels v = refl
  value_style DemodStepLimit v = refl
  value_style AgePart v = refl
  value_style WeightPart v = refl
  value_style FalsePart v = refl
  value_style TruePart v = refl
  value_style PickGivenRatio v = refl
  value_style DomainSize v = refl
  value_style StartSize v = refl
  value_style EndSize v = refl
  value_style Increment v = refl
  value_style SelectionOrder v = refl
  value_style SelectionMeasure v = refl
  value_style ProofFormat v = refl
  value_style EvalLimit v = refl

  number_style : (negative : Bool) (n : ℕ) (p : Parameter) → IfOk (with_number negative n s p) KeepsStyle
  number_style negative n p = if_there (with_stored p s) (stored negative n) NotAValue (λ v. either_way (allows p v) (Ok (with_value p v s)) (Err NotAValue) (value_style p v) tt)

  numbered_style : (name : List ℕ) (negative : Bool) (n : ℕ) → IfOk (numbered name negative n s) KeepsStyle
  numbered_style name negative n =
      either_way (is_among idle_parameters name) (Ok s) _ refl
      (either_way (takes_symbols name) (Err NotAValue) _ tt
      (if_there (with_number negative n s) (parameter_named name) Unknown (number_style negative n)))

  symbolized_style : (name text : List ℕ) → IfOk (symbolized name text s) KeepsStyle
  symbolized_style name text =
      either_way (is_among idle_parameters name) (Ok s) _ refl
      (either_way (bytes_eq name (codes "order")) _ _ (if_there (ordered s) (order_named text) NotAValue (λ o. refl))
      (either_way (bytes_eq name (codes "eq_defs")) _ _ (either_way (bytes_eq text (codes "pass")) (Ok s) (Err NotAValue) refl tt)
      (if_there (λ p. Err NotAValue) (parameter_named name) Unknown (λ p. tt))))

-- a symbol that may be declared leaves the table lawful, and the fixed symbols as they were
word_fixed : (name : List ℕ) → is_fixed name ≡ false → is_quantifier_word name ≡ false
word_fixed name free =
    elim (cases_Bool (bytes_eq (codes "all") name)) [
      | inl y ↦ absurd (false≢true (sym free ∙ subst (λ (n : List ℕ). is_fixed n ≡ true) ((bytes_eq-Decides (codes "all") name).0 y) refl))
      | inr k ↦ elim (cases_Bool (bytes_eq (codes "exists") name)) [
        | inl y ↦ absurd (false≢true (sym free ∙ subst (λ (n : List ℕ). is_fixed n ≡ true) ((bytes_eq-Decides (codes "exists") name).0 y) refl))
        | inr j ↦ rw (k, j) refl
      ]
    ]

module _ (p : ℕ) (type : List ℕ) where
  precedence_of : (t : SymbolType) → is_precedence p ≡ true → has_precedence (operator_with p t) ≡ true
  precedence_of Ordinary h = refl
  precedence_of (Operates kind) h = h

  one_lawful : (rows : List OperatorRow) (symbol : List ℕ) → is_unfit_operator p type ≡ false → is_unfit_symbol symbol ≡ false → are_lawful rows ≡ true → are_lawful (declared p type symbol rows) ≡ true
  one_lawful rows symbol fit free h =
      let name = unquoted symbol in
      let plain = left_false (is_fixed name) (not (is_plain_symbol name)) free in
      let written = not_false (is_plain_symbol name) (right_false (is_fixed name) (not (is_plain_symbol name)) free) in
      let within = not_false (is_precedence p) (left_false (not (is_precedence p)) (is_none (type_named type)) fit) in
      let t = unwrap_or (type_named type) Ordinary in
      lawful_put name (operator_with p t) rows written (word_fixed name plain) (precedence_of t within) h

  all_lawful : (names : List (List ℕ)) (rows : List OperatorRow) → is_unfit_operator p type ≡ false → list_any is_unfit_symbol names ≡ false → are_lawful rows ≡ true → are_lawful (all_declared p type names rows) ≡ true
  all_lawful [] rows fit free h = h
  all_lawful (n ∷ ns) rows fit free h =
      all_lawful ns (declared p type n rows) fit (right_false (is_unfit_symbol n) (list_any is_unfit_symbol ns) free)
      (one_lawful rows n fit (left_false (is_unfit_symbol n) (list_any is_unfit_symbol ns) free) h)

  some_names : (n : List ℕ) (ns : List (List ℕ)) → nat_lt 0 (length (n ∷ ns)) ≡ true
  some_names n ns = grind (arith, nat_tests)

  names_lawful : (names : List (List ℕ)) (rows : List OperatorRow) → (nat_lt 0 (length names) && is_unfit_operator p type) ≡ false → list_any is_unfit_symbol names ≡ false → are_lawful rows ≡ true
      → are_lawful (all_declared p type names rows) ≡ true
  names_lawful [] rows fit free h = h
  names_lawful (n ∷ ns) rows fit free h =
      all_lawful (n ∷ ns) rows (second_false (nat_lt 0 (length (n ∷ ns))) (is_unfit_operator p type) fit (some_names n ns)) free h

  names_fixed : (names : List (List ℕ)) (rows : List OperatorRow) → list_any is_unfit_symbol names ≡ false → KeepsFixed rows → KeepsFixed (all_declared p type names rows)
  names_fixed [] rows free k = k
  names_fixed (n ∷ ns) rows free k =
      let one = left_false (is_unfit_symbol n) (list_any is_unfit_symbol ns) free in
      names_fixed ns (declared p type n rows) (right_false (is_unfit_symbol n) (list_any is_unfit_symbol ns) free)
      (λ name f. fixed_kept rows p type n name one f ∙ k name f)

-- commands stand outside lists
module _ (m : Mode) (a : Settings) (closed : a.list ≡ None) where
  abbrev F : Settings → Type 0
  F b = Follows m a b

  none_open : (b : Settings) → b.list ≡ None → is_meant m b ≡ true → is_some b.list ≡ true → b.listed ≡ true
  none_open b none meant some = absurd (false≢true (sym (ap (λ (l : Option OpenList). is_some l) none) ∙ some))

  choice : (b : Bool) (r q : Result Settings Misuse) → IfOk r F → IfOk q F → IfOk (if b then r else q) F
  choice true r q h k = h
  choice false r q h k = k

  options_follow : (row : OptionError → Misuse) (made : Result Options OptionError) → (a.listed ≡ true → IfOk made (KeepsStyle a.options)) → (IsCounted a.options → IfOk made IsCounted) → IfOk (with_options a row made) F
  options_follow row (Ok o) h count = record { lawful = λ l. l; fixed = λ k. k; operators = λ l. refl; styled = λ l. h l; rises = λ l. l; opened = none_open (record a { options = o }) closed; counted = count }
  options_follow row (Err e) h count = tt

  flag_follows : (on : Bool) (name : List ℕ) → IfOk (if is_late_style name a then Err TooLate else with_options a flag_misuse (flagged name on a.options)) F
  flag_follows on name = by (is_late_style name a) refl
    where
      by : (b : Bool) → is_late_style name a ≡ b → IfOk (if b then Err TooLate else with_options a flag_misuse (flagged name on a.options)) F
      by true e = tt
      by false e = options_follow flag_misuse (flagged name on a.options) (λ l. flagged_style a.options name on (first_false (bytes_eq name (codes "prolog_style_variables")) a.listed e l)) (flagged_counted name on a.options)

  assigned_follows : (name : List ℕ) (v : Value) → IfOk (with_assigned name v a) F
  assigned_follows name (value.Symbol text) = options_follow parameter_misuse (symbolized name text a.options) (λ l. symbolized_style a.options name text) (symbolized_counted name text a.options)
  assigned_follows name (value.Number negative n) = options_follow parameter_misuse (numbered name negative n a.options) (λ l. numbered_style a.options name negative n) (numbered_counted name negative n a.options)

  value_follows : (name : List ℕ) (v : Value) → IfOk (after_value name v a) F
  value_follows name v = choice (is_among kept_back name) (Err UnknownParameter) (with_assigned name v a) tt (assigned_follows name v)

  operators_follow : (p : ℕ) (type : List ℕ) (names : List (List ℕ)) → IfOk (after_operators p type names a) F
  operators_follow p type names = fitted (nat_lt 0 (length names) && is_unfit_operator p type) refl
    where
      named : Settings
      named = record a { operators = all_declared p type names a.operators }

      late : (b : Bool) → a.listed ≡ b → (nat_lt 0 (length names) && is_unfit_operator p type) ≡ false → list_any is_unfit_symbol names ≡ false → IfOk (if b then Err TooLate else Ok named) F
      late true e fit free = tt
      late false e fit free = record {
        lawful = λ h. names_lawful p type names a.operators fit free h;
        fixed = λ k. names_fixed p type names a.operators free k;
        operators = λ l. absurd (false≢true (sym e ∙ l));
        styled = λ l. refl;
        rises = λ l. l;
        opened = none_open named closed;
        counted = λ c. c;
      }

      symbols : (b : Bool) → list_any is_unfit_symbol names ≡ b → (nat_lt 0 (length names) && is_unfit_operator p type) ≡ false
          → IfOk (if b then Err UnfitSymbol else (if a.listed then Err TooLate else Ok named)) F
      symbols true e fit = tt
      symbols false e fit = late a.listed refl fit e

      fitted : (b : Bool) → (nat_lt 0 (length names) && is_unfit_operator p type) ≡ b
          → IfOk (if b then Err UnfitOperator else (if list_any is_unfit_symbol names then Err UnfitSymbol else (if a.listed then Err TooLate else Ok named))) F
      fitted true e = tt
      fitted false e = symbols (list_any is_unfit_symbol names) refl e

  -- the operators and options are as they were, and so is whether a list was opened
  same : (b : Settings) → b.operators ≡ a.operators → b.options ≡ a.options → b.listed ≡ a.listed → b.list ≡ None → F b
  same b operators options listed none = record {
    lawful = λ h. subst (λ (rows : List OperatorRow). are_lawful rows ≡ true) (sym operators) h;
    fixed = λ k. subst KeepsFixed (sym operators) k;
    operators = λ l. operators;
    styled = λ l. ap style options;
    rises = λ l. listed ∙ l;
    opened = none_open b none;
    counted = λ c. subst IsCounted (sym options) c;
  }

  opening_follows : (list : OpenList) → IfOk (after_opening list a) F
  opening_follows list = choice (is_other list) (Err UnknownList) _ tt (record { lawful = λ h. h; fixed = λ k. k; operators = λ l. refl; styled = λ l. refl; rises = λ l. refl; opened = λ meant some. refl; counted = λ c. c })

  meant_follows : (c : Command) → IfOk (after_meant c a) F
  meant_follows (command.Flag on name) = flag_follows on name
  meant_follows (command.Assign name v) = value_follows name v
  meant_follows (command.Op p type names) = operators_follow p type names
  meant_follows (command.FunctionOrder names) = choice (are_apart names) (Ok (record a { function_order = names })) (Err UnfitRule) (same (record a { function_order = names }) refl refl refl closed) tt
  meant_follows (command.PredicateOrder names) = same a refl refl refl closed
  meant_follows (command.Formulas name) = opening_follows (formulas_opened name)
  meant_follows (command.List name) = opening_follows (rules_opened name)
  meant_follows (command.If name) = choice (is_some a.block) (Err UnmatchedIf) (Ok (record a { block = Some name })) tt (same (record a { block = Some name }) refl refl refl closed)
  meant_follows command.EndIf = choice (is_some a.block) (Ok (record a { block = None })) (Err UnmatchedIf) (same (record a { block = None }) refl refl refl closed) tt
  meant_follows (command.Interpretation it) =
      let one : Settings = record a { interpretations = a.interpretations ++ it ∷ [] } in
      choice (is_good it) (Ok one) (Err UnfitInterpretation) (same one refl refl refl closed) tt

  -- a list in a block for another program
  other_opening : (list : OpenList) → is_meant m a ≡ false → F (record a { list = Some list })
  other_opening list other = record { lawful = λ h. h; fixed = λ k. k; operators = λ l. refl; styled = λ l. refl; rises = λ l. l; opened = λ meant some. absurd (false≢true (sym other ∙ meant)); counted = λ c. c }

  other_follows : (c : Command) → is_meant m a ≡ false → F (after_other c a)
  other_follows (command.Flag on name) other = same a refl refl refl closed
  other_follows (command.Assign name v) other = same a refl refl refl closed
  other_follows (command.Op p type names) other = same a refl refl refl closed
  other_follows (command.FunctionOrder names) other = same a refl refl refl closed
  other_follows (command.PredicateOrder names) other = same a refl refl refl closed
  other_follows (command.Formulas name) other = other_opening (formulas_opened name) other
  other_follows (command.List name) other = other_opening (rules_opened name) other
  other_follows (command.If name) other = same a refl refl refl closed
  other_follows command.EndIf other = same (record a { block = None }) refl refl refl closed
  other_follows (command.Interpretation it) other = same a refl refl refl closed

  pub command_follows : (c : Command) → IfOk (settings_after m c a) F
  command_follows c = by (is_meant m a) refl
    where
      by : (b : Bool) → is_meant m a ≡ b → IfOk (if b then after_meant c a else Ok (after_other c a)) F
      by true e = meant_follows c
      by false e = other_follows c e

-- a list that ends
pub closing_follows : (m : Mode) (a : Settings) → Follows m a (record a { list = None })
closing_follows m a = record { lawful = λ h. h; fixed = λ k. k; operators = λ l. refl; styled = λ l. refl; rises = λ l. l; opened = λ meant some. absurd (false≢true some); counted = λ c. c }
