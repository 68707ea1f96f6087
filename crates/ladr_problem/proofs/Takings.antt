-- What an item makes of what was read so far, by what its parts answer.
use Rattle.std.proofs.Common.{◌≡◌, ℕ, suc, true, ◌≤◌, ◌<◌, not, if◌then◌else◌, List, [], ◌∷◌, ◌++◌, length, take, Option, Some, None, refl, sym, ap, ap₂, ◌∙◌, subst, unwrap_or}
use Rattle.std.specs.Prelude.{nat_lt}
use Rattle.std.specs.Option.{option_map, option_map_or}
use Rattle.std.specs.declared.result.Result.{Result}
use Rattle.std.specs.declared.result.Result.TheVariants.{Ok, Err}
use Rattle.std.proofs.lemmas.Bool.{le-ltb, lt-ltb}
use Rattle.fol_core.specs.Fol.{Fol}
use Rattle.fol_core.specs.FormulaView.{fol_of}
use Rattle.fol_core.specs.RawTree.{RawTree}
use Rattle.fol_core.specs.RawView.{raw_of}
use Rattle.fol_core.specs.SymbolTable.{Symbol, KeepsNumbers}
use Rattle.fol_core.specs.Weights.{Rule}
use Rattle.fol_core.specs.declared.raw.Raw.{Raw}
use Rattle.ladr_lex.specs.declared.limits.TheConstants.{MOST_LEVELS, MOST_SYMBOLS}
use Rattle.ladr_lex.specs.declared.misuse.Misuse.{Misuse}
use Rattle.ladr_commands.specs.Commands.{commands_of}
use Rattle.ladr_commands.specs.Faults.{IsCommandFault}
use Rattle.ladr_commands.specs.declared.command.Command.{Command}
use Rattle.ladr_commands.specs.declared.fault.CommandFault.{CommandFault}
use Rattle.ladr_commands.specs.declared.fault.CommandFault.TheVariants as command_fault
use Rattle.ladr_problem.specs.ListItem.{term, names, IsListItem, IsItemFault}
use Rattle.ladr_lex.specs.Lexeme.{Lexeme}
use Rattle.ladr_problem.specs.Adding.{command, within, is_tester, IsItemRead, IsItemRefused, after_item, after_term, after_made, after_formula, after_names, after_list, after_rule, after_weight, unshaped, formula_made, style_in, with_settings, with_listed, kept_answer, least_misuse}
use Rattle.ladr_problem.specs.Reading.{IsNo, IsTaken, after_formula_read, after_rule_read}
use Rattle.ladr_problem.specs.Refusals.{by_command, by_misuse, by_term}
use Rattle.ladr_problem.specs.Sofar.{Sofar, listed_of}
use Rattle.ladr_problem.specs.declared.refusal.Refusal.{Refusal}
use Rattle.ladr_problem.specs.declared.refusal.Limit.TheVariants as limit
use Rattle.ladr_problem.specs.declared.refusal.Refusal.TheVariants.{Bad, Large, Misused, Memory}
use Rattle.ladr_formulas.specs.Formulas.{Made, formula_reading}
use Rattle.ladr_reader.specs.Nesting.{nesting}
use Rattle.ladr_reader.specs.Table.{table_of}
use Rattle.ladr_formulas.specs.Whole.{IsWhole}
use Rattle.ladr_reader.specs.declared.fault.TermFault.{TermFault}
use Rattle.ladr_reader.specs.declared.fault.TermFault.TheVariants as term_fault
use Rattle.ladr_formulas.specs.declared.formulas.FormulaRead.{FormulaRead}
use Rattle.ladr_formulas.specs.declared.styles.Mode.{Mode}
use Rattle.ladr_rules.specs.Asked.{asked}
use Rattle.ladr_rules.specs.Attributes.{attributed, has_unfit_weight, label_of, hint_weight_of}
use Rattle.ladr_rules.specs.RuleSeen.{IsRuleIn}
use Rattle.ladr_rules.specs.Rules.{rule_in}
use Rattle.ladr_rules.specs.declared.attributes.Notes.{Notes}
use Rattle.ladr_rules.specs.declared.rules.RuleRead.{RuleRead}
use Rattle.ladr_settings.specs.Settings.{settings_after, is_meant}
use Rattle.ladr_settings.specs.declared.lists.FormulaList.{FormulaList}
use Rattle.ladr_settings.specs.declared.lists.OpenList.{OpenList}
use Rattle.ladr_settings.specs.declared.settings.SettingsError.{SettingsError}
use Rattle.ladr_settings.specs.declared.settings.SettingsError.TheVariants as misuse

-- a table that kept its numbers begins with the old one
pub take_kept : (old new : List Symbol) → KeepsNumbers old new → take (length old) new ≡ old
take_kept [] new h = refl
take_kept (x ∷ xs) [] h = cc_none (h 0 x refl)
  where
    cc_none : None ≡ Some x → [] ≡ x ∷ xs
    cc_none e = cc
take_kept (x ∷ xs) (y ∷ ys) h = ap₂ (λ z zs. z ∷ zs) (ap (λ o. unwrap_or o x) (h 0 x refl)) (take_kept xs ys (λ n s e. h (suc n) s e))

module _ (m : Mode) (byte : ℕ) (s : Sofar) where
  -- an item that is no command
  pub command_refused : (ts : List Lexeme) → s.settings.list ≡ None → (fault : CommandFault) → IsCommandFault (commands_of (is_tester m)) ts fault → IsItemRefused m byte s ts (by_command fault)
  command_refused ts opened (command_fault.Bad k) h = rw opened h
  command_refused ts opened command_fault.Memory h = tt

  -- a command that is misused
  pub misused : (ts : List Lexeme) (c : Command) → IsItemRead m s ts (command c) → (why : SettingsError) → ((k : Misuse) → why ≡ misuse.Misused k → settings_after m c s.settings ≡ Err k) → IsItemRefused m byte s ts (by_misuse why)
  misused ts c read (misuse.Misused k) h = (command c, read, ap (with_settings s) (h k refl))
  misused ts c read misuse.Memory h = tt

  module _ (l : OpenList) (opened : s.settings.list ≡ Some l) where
    -- a term that is nested too deep, and one that isn't
    deep_term : (ts : List Lexeme) (t : RawTree) → MOST_LEVELS < nesting ts t → after_item m byte s ts (within (term t)) ≡ Err (Large limit.Nesting)
    deep_term ts t h = ap (λ b. if b then Err (Large limit.Nesting) else option_map_or (λ o. after_term m o byte s t) s.settings.list (Ok s)) (lt-ltb MOST_LEVELS (nesting ts t) h)

    shallow_term : (ts : List Lexeme) (t : RawTree) → nesting ts t ≤ MOST_LEVELS → after_item m byte s ts (within (term t)) ≡ after_term m l byte s t
    shallow_term ts t h = ap₂ (λ b o. if b then Err (Large limit.Nesting) else option_map_or (λ p. after_term m p byte s t) o (Ok s)) (le-ltb MOST_LEVELS (nesting ts t) h) opened

    pub term_taken : (ts : List Lexeme) (t : RawTree) (u : Sofar) → IsListItem l (table_of s.settings.operators) ts (term t) → nesting ts t ≤ MOST_LEVELS → after_term m l byte s t ≡ Ok u → IsTaken m byte s ts u
    term_taken ts t u read shallow e = (within (term t), (l, opened, read), shallow_term ts t shallow ∙ e)

    pub term_refused : (ts : List Lexeme) (t : RawTree) → IsListItem l (table_of s.settings.operators) ts (term t) → nesting ts t ≤ MOST_LEVELS
        → (why : Refusal) → IsNo (after_term m l byte s t) why → IsItemRefused m byte s ts why
    term_refused ts t read shallow (Bad k) refuses = absurd refuses
    term_refused ts t read shallow (Large what) refuses = (within (term t), (l, opened, read), shallow_term ts t shallow ∙ refuses)
    term_refused ts t read shallow (Misused k) refuses = (within (term t), (l, opened, read), shallow_term ts t shallow ∙ refuses)
    term_refused ts t read shallow Memory refuses = tt

    pub names_taken : (ts : List Lexeme) (ns : List (List ℕ)) (u : Sofar) → IsListItem l (table_of s.settings.operators) ts (names ns) → after_names m byte s ns ≡ Ok u → IsTaken m byte s ts u
    names_taken ts ns u read e = (within (names ns), (l, opened, read), e)

    pub names_refused : (ts : List Lexeme) (ns : List (List ℕ)) → IsListItem l (table_of s.settings.operators) ts (names ns) → (why : Refusal) → IsNo (after_names m byte s ns) why → IsItemRefused m byte s ts why
    names_refused ts ns read (Bad k) refuses = absurd refuses
    names_refused ts ns read (Large what) refuses = (within (names ns), (l, opened, read), refuses)
    names_refused ts ns read (Misused k) refuses = (within (names ns), (l, opened, read), refuses)
    names_refused ts ns read Memory refuses = tt

    pub item_refused : (ts : List Lexeme) (fault : TermFault) → IsItemFault l (table_of s.settings.operators) ts fault → IsItemRefused m byte s ts (by_term fault)
    item_refused ts (term_fault.Bad k) h = rw opened h
    item_refused ts term_fault.Deep h = (within (term h.0), (l, opened, h.1), deep_term ts h.0 h.2)
    item_refused ts term_fault.Memory h = tt

  -- places that a list keeps of none or of all
  same_answer : (list : Option FormulaList) (answer asks : List ℕ) (before : ℕ) (u : Sofar) (a : Notes) (r : FormulaRead)
      → ((l : FormulaList) → list ≡ Some l → (g : Fol) → kept_answer l answer g ≡ kept_answer l asks g)
      → after_formula_read m list byte before u a answer r ≡ after_formula_read m list byte before u a asks r
  same_answer None answer asks before u a r h = refl
  same_answer (Some l) answer asks before u a r h = ap (λ (places : List ℕ).
      if nat_lt MOST_SYMBOLS (length u.symbols) then Err (Large limit.Symbols)
      else (if r.large then Err (Large limit.Arity)
      else (if not (is_meant m u.settings) then Ok (record u { symbols = take before u.symbols })
      else option_map_or (λ k. Err (Misused k)) (least_misuse l a.misused (fol_of r.formula.shape) r.least)
      (Ok (with_listed l (listed_of r.formula (option_map raw_of a.label) places byte) a.hint_weight u)))))
      (h l refl (fol_of r.formula.shape))

  -- a formula as the code has read it is the one of the item
  pub same_formula : (list : Option FormulaList) (t : RawTree) (f : Raw) (a : Notes) (answer : List ℕ) (r : FormulaRead) (table : List Symbol)
      → raw_of f ≡ (attributed t).formula → option_map raw_of a.label ≡ label_of (attributed t).attributes
      → a.misused ≡ has_unfit_weight (attributed t).attributes → a.hint_weight ≡ hint_weight_of (attributed t).attributes
      → ((l : FormulaList) → list ≡ Some l → (g : Fol) → kept_answer l answer g ≡ kept_answer l (asked t) g)
      → IsWhole (formula_reading (style_in m s) s.symbols (raw_of f)) r table → KeepsNumbers s.symbols table
      → after_formula_read m list byte (length s.symbols) (record s { symbols = table }) a answer r ≡ after_formula m list byte s t
  same_formula list t f a answer r table formula label misused weight asks whole kept =
      let w : IsWhole (formula_made m s t) r table = subst (λ (u : RawTree). IsWhole (formula_reading (style_in m s) s.symbols u) r table) formula whole in
      let old = take_kept s.symbols table kept in
      let read : after_formula_read m list byte (length s.symbols) (record s { symbols = table }) a (asked t) r ≡ after_formula m list byte s t = λ i.
      if nat_lt MOST_SYMBOLS (length (w.symbols i)) then Err (Large limit.Symbols)
      else (if w.large i then Err (Large limit.Arity)
      else (if not (is_meant m s.settings) then Ok (record s { symbols = old i })
      else option_map_or (λ l. option_map_or (λ k. Err (Misused k)) (least_misuse l (misused i) (w.formula i) (w.least i))
      (Ok (with_listed l (record { formula = w.formula i; names = w.named i; label = label i; answer = kept_answer l (asked t) (w.formula i); byte = byte }) (weight i) (record s { symbols = w.symbols i }))))
      list (Ok (record s { symbols = old i })))) in
      same_answer list answer (asked t) (length s.symbols) (record s { symbols = table }) a r asks ∙ read

  -- a formula with too large an arity is refused for its symbols, else for that arity
  pub large_formula : (list : Option FormulaList) (t u : RawTree) (why : Refusal) → u ≡ (attributed t).formula → (formula_reading (style_in m s) s.symbols u).reading.large ≡ true
      → IsNo (if nat_lt MOST_SYMBOLS (length (formula_reading (style_in m s) s.symbols u).reading.symbols) then Err (Large limit.Symbols) else Err (Large limit.Arity)) why → IsNo (after_formula m list byte s t) why
  large_formula list t u why formula large refuses =
      let symbols = (formula_made m s t).reading.symbols in
      let wide : (formula_made m s t).reading.large ≡ true = ap (λ (v : RawTree). (formula_reading (style_in m s) s.symbols v).reading.large) (sym formula) ∙ large in
      let small : Result Sofar Refusal = if nat_lt MOST_SYMBOLS (length symbols) then Err (Large limit.Symbols) else Err (Large limit.Arity) in
      let read : (if nat_lt MOST_SYMBOLS (length (formula_reading (style_in m s) s.symbols u).reading.symbols) then Err (Large limit.Symbols) else Err (Large limit.Arity)) ≡ small =
      ap (λ (v : RawTree). if nat_lt MOST_SYMBOLS (length (formula_reading (style_in m s) s.symbols v).reading.symbols) then Err (Large limit.Symbols) else Err (Large limit.Arity)) formula in
      let same : small ≡ after_formula m list byte s t = λ i.
      if nat_lt MOST_SYMBOLS (length symbols) then Err (Large limit.Symbols)
      else (if sym wide i then Err (Large limit.Arity)
      else (if not (is_meant m s.settings) then Ok s
      else option_map_or (λ l. after_list l byte s t (formula_made m s t)) list (Ok s))) in
      subst (λ (r : Result Sofar Refusal). IsNo r why) (read ∙ same) refuses

  -- a rule of weights as the code has read it is the one of the item
  rule_there : (t : RawTree) (r : RuleRead) (table : List Symbol) (o : Option (Made Rule)) → rule_in (style_in m s) s.symbols t ≡ o → IsRuleIn o (Some r) s.symbols table → KeepsNumbers s.symbols table
      → after_rule_read m (length s.symbols) (record s { symbols = table }) r ≡ after_weight m s t
  rule_there t r table None e is kept = absurd is
  rule_there t r table (Some made) e is kept =
      let old = take_kept s.symbols table kept in
      let same : after_rule_read m (length s.symbols) (record s { symbols = table }) r ≡ after_rule m s made = λ i.
      if nat_lt MOST_SYMBOLS (length (is.symbols i)) then Err (Large limit.Symbols)
      else (if is.large i then Err (Large limit.Arity)
      else (if not (is_meant m s.settings) then Ok (record s { symbols = old i })
      else option_map_or (λ k. Err (Misused k)) (is.least i) (Ok (record s { symbols = is.symbols i; weights = s.weights ++ is.rule i ∷ [] })))) in
      same ∙ ap (λ o. option_map_or (after_rule m s) o (unshaped m s)) (sym e)

  pub same_rule : (t : RawTree) (r : RuleRead) (table : List Symbol) → IsRuleIn (rule_in (style_in m s) s.symbols t) (Some r) s.symbols table → KeepsNumbers s.symbols table
      → after_rule_read m (length s.symbols) (record s { symbols = table }) r ≡ after_weight m s t
  same_rule t r table is kept = rule_there t r table (rule_in (style_in m s) s.symbols t) refl is kept
