-- The interpretations of a file are such as can be written again.
use Rattle.std.proofs.Common.{◌≡◌, ℕ, ◌<◌, ◌^◌, Bool, true, false, not, ◌&&◌, if◌then◌else◌, List, [], ◌∷◌, ◌++◌, length, Option, Some, None, Result, Ok, Err, IfOk, refl, ap, subst, ◌∙◌}
use Rattle.std.specs.Prelude.{nat_lt, is_some, codes}
use Rattle.std.specs.List.{AllByRecursion, list_all, list_any}
use Rattle.std.specs.Option.{option_map, option_map_or}
use Rattle.std.proofs.lemmas.Bool.{and_from, and_parts}
use Rattle.fol_core.specs.Fol.{Fol}
use Rattle.fol_core.specs.KboRows.{is_weighed}
use Rattle.fol_core.specs.NamesOnce.{are_apart}
use Rattle.fol_core.specs.RawTree.{RawTree}
use Rattle.ladr_commands.specs.ByName.{NamedTable, ByName}
use Rattle.ladr_commands.specs.Spelled.{Spells, sets, clears, assigns, declares, orders_functions, orders_predicates, opens_formulas, opens_list, begins_block, ends_block, interprets, SpellsInterpretation, interpretation}
use Rattle.ladr_commands.specs.SpelledParts.{Separated, one, more, Listed, none, some, SpellsName, named, SpellsHead, bare, applied, SpellsEntry, entry, in_parens, in_square, kind_word}
use Rattle.ladr_commands.specs.declared.command.Command.{Command}
use Rattle.ladr_commands.specs.declared.command.Command.TheVariants as command
use Rattle.ladr_commands.specs.declared.command.Value.TheVariants as value
use Rattle.ladr_commands.proofs.Reading.{command_spelled}
use Rattle.ladr_formulas.specs.declared.styles.Mode.{Mode}
use Rattle.ladr_distinct.specs.Different.{distinct_reading}
use Rattle.ladr_distinct.specs.Formula.{distinct_formula}
use Rattle.ladr_formulas.specs.Formulas.{Made}
use Rattle.ladr_interpretations.specs.Good.{is_good, heads_of}
use Rattle.ladr_interpretations.specs.NamedText.{named_text}
use Rattle.ladr_lex.specs.Lexeme.{Lexeme, ordinary, open_paren, close_paren, close_square, comma, full_stop, symbol}
use Rattle.ladr_lex.specs.Cuts.{Piece}
use Rattle.ladr_lex.specs.Operators.{is_unfit_operator, is_unfit_symbol}
use Rattle.ladr_lex.specs.declared.misuse.Misuse.{Misuse}
use Rattle.ladr_lex.specs.declared.misuse.Misuse.TheVariants.{UnknownParameter, UnknownList, UnfitOperator, UnfitSymbol, TooLate, UnmatchedIf, UnfitRule, UnfitInterpretation}
use Rattle.ladr_lex.specs.declared.limits.TheConstants.{MOST_LEVELS, MOST_NAMES, MOST_SYMBOLS}
use Rattle.ladr_models.proofs.Again.{IsRead, reads_as}
use Rattle.ladr_models.specs.ReadsBack.{ReadsAs}
use Rattle.ladr_options.specs.Options.{flagged, is_among, numbered, symbolized}
use Rattle.ladr_options.specs.declared.options.OptionError.{OptionError}
use Rattle.ladr_options.specs.declared.options.Options.{Options}
use Rattle.ladr_problem.specs.Adding.{FileItem, command as commanded, within, is_tester, IsItemRead, after_item, after_term, after_made, after_list, after_rule, after_kbo, added_kbo, unshaped, formula_made, style_in, with_names_met, with_settings, with_formula, least_misuse}
use Rattle.ladr_problem.specs.File as file
use Rattle.ladr_problem.specs.File.{Outcome, Says, problem, unreadable, misused, too_large, File, ends, open_list, open_block, bad, breaks, goes_on, start_at, refused_at}
use Rattle.ladr_problem.specs.Items.{items_of, lexemes}
use Rattle.ladr_problem.specs.ListItem.{closing, term, names}
use Rattle.ladr_problem.specs.Names.{is_name, are_named}
use Rattle.ladr_problem.specs.Sofar.{Sofar, nothing_read}
use Rattle.ladr_problem.specs.declared.refusal.Refusal.{Refusal}
use Rattle.ladr_problem.specs.declared.refusal.Refusal.TheVariants.{Bad, Large, Misused, Memory}
use Rattle.ladr_problem.proofs.Endings.{problem_before}
use Rattle.ladr_problem.proofs.Growing.{AreWritten, AllWritten, items_written, cut_written}
use Rattle.ladr_problem.proofs.Named.{name_of_sort}
use Rattle.ladr_reader.proofs.HasText.{is_written, written_parts, cuts_written}
use Rattle.ladr_reader.specs.Nesting.{nesting}
use Rattle.ladr_rules.specs.Attributes.{attributed, has_unfit_weight}
use Rattle.ladr_rules.specs.Rules.{Sides, rule_made, shaped_sides, kbo_rule}
use Rattle.ladr_settings.specs.Settings.{settings_after, after_meant, after_other, kept_back, all_declared, is_other, flag_misuse, parameter_misuse, with_options, is_late_style, is_meant, formulas_opened, rules_opened}
use Rattle.ladr_settings.specs.declared.lists.FormulaList.{FormulaList}
use Rattle.ladr_settings.specs.declared.lists.FormulaList.TheVariants.{Assumptions}
use Rattle.ladr_settings.specs.declared.lists.OpenList.{OpenList}
use Rattle.ladr_settings.specs.declared.lists.OpenList.TheVariants.{Formulas, Weights, KboWeights, Distinct, OtherFormulas, OtherRules}
use Rattle.ladr_settings.specs.declared.settings.Settings.{Settings}

-- the names of an interpretation that tokens spell
name_written : (ts : List Lexeme) (name : List ℕ) → SpellsName ts name → AreWritten ts → is_name name ≡ true
name_written _ _ (named k text) w = name_of_sort k text (and_parts _ _ w).0

head_written : (ts : List Lexeme) (name : List ℕ) (arity : ℕ) → SpellsHead ts name arity → AreWritten ts → is_name name ≡ true
head_written _ _ _ (bare {ts} {name} h) w = name_written ts name h w
head_written _ _ _ (applied {ts} {us} {name} h places) w = name_written ts name h (written_parts ts (in_parens us) w).0

entry_written : (ts : List Lexeme) (t : NamedTable) → SpellsEntry ts t → AreWritten ts → is_name t.head.name ≡ true
entry_written _ _ (entry {ts} {us} {name} {arity} kind h values) w =
    let inner = and_parts (is_written (kind_word kind)) (list_all is_written (in_parens (ts ++ comma ∷ in_square us))) w in
    head_written ts name arity h (written_parts ts (comma ∷ in_square us) (written_parts (ts ++ comma ∷ in_square us) (close_paren ∷ []) inner.1).0).0

entries_written : (ts : List Lexeme) (es : List NamedTable) → Separated SpellsEntry ts es → AreWritten ts → are_named (heads_of es) ≡ true
entries_written _ _ (one {ts} {x} h) w = and_from _ _ (entry_written ts x h w) refl
entries_written _ _ (more {ts} {us} {x} {xs} h hs) w =
    let parts = written_parts ts (comma ∷ us) w in
    and_from _ _ (entry_written ts x h parts.0) (entries_written us xs hs parts.1)

list_written : (ts : List Lexeme) (es : List NamedTable) → Listed SpellsEntry ts es → AreWritten ts → are_named (heads_of es) ≡ true
list_written _ _ none w = refl
list_written _ _ (some {ts} {xs} hs) w = entries_written ts xs hs (written_parts ts (close_square ∷ []) w).0

spelled_named : (ts : List Lexeme) (it : ByName) → SpellsInterpretation ts it → AreWritten ts → are_named (heads_of it.entries) ≡ true
spelled_named _ _ (interpretation {ts} {us} {vs} {n} {comments} {entries} size notes list) w =
    let word = and_parts (is_written (symbol ordinary (codes "interpretation"))) (list_all is_written (open_paren ∷ ((ts ++ comma ∷ (us ++ comma ∷ vs)) ++ close_paren ∷ full_stop ∷ []))) w in
    let all = written_parts (ts ++ comma ∷ (us ++ comma ∷ vs)) (close_paren ∷ full_stop ∷ []) word.1 in
    list_written vs entries list (written_parts us (comma ∷ vs) (written_parts ts (comma ∷ (us ++ comma ∷ vs)) all.0).1).1

-- so are those of an interpretation that is commanded
abbrev entries_of : Command → List NamedTable
entries_of (command.Interpretation it) = it.entries
entries_of c = []

command_named : (tester : Bool) (ts : List Lexeme) (c : Command) → Spells tester ts c → AreWritten ts → are_named (heads_of (entries_of c)) ≡ true
command_named tester _ _ (sets k h) w = refl
command_named tester _ _ (clears k h) w = refl
command_named tester _ _ (assigns k h v) w = refl
command_named tester _ _ (declares k p h all) w = refl
command_named tester _ _ (orders_functions k h) w = refl
command_named tester _ _ (orders_predicates k h) w = refl
command_named tester _ _ (opens_formulas k h) w = refl
command_named tester _ _ (opens_list k h) w = refl
command_named tester _ _ (begins_block k h) w = refl
command_named tester _ _ (ends_block k) w = refl
command_named tester ts _ (interprets {it = it} e h) w = spelled_named ts it h w

abbrev HasNames : Command → Type 0
HasNames c = are_named (heads_of (entries_of c)) ≡ true

-- the interpretations so far
abbrev pub AreRead : Settings → Type 0
AreRead s = AllByRecursion IsRead s.interpretations

one_read : (its : List ByName) (it : ByName) → AllByRecursion IsRead its → IsRead it → AllByRecursion IsRead (its ++ it ∷ [])
one_read [] it all h = (h, tt)
one_read (i ∷ its) it all h = (all.0, one_read its it all.1 h)

choice : {E : Type 0} {T : Type 0} (P : T → Type 0) (b : Bool) (r q : Result T E) → IfOk r P → IfOk q P → IfOk (if b then r else q) P
choice P true r q h k = h
choice P false r q h k = k

chosen : {A T E : Type 0} (P : T → Type 0) (f : A → Result T E) (o : Option A) (x : Result T E) → ((a : A) → IfOk (f a) P) → IfOk x P → IfOk (option_map_or f o x) P
chosen P f (Some a) x h k = h a
chosen P f None x h k = k

-- a command that is read keeps them so
module _ (s : Settings) (all : AreRead s) where
  options_keep : (row : OptionError → Misuse) (made : Result Options OptionError) → IfOk (with_options s row made) AreRead
  options_keep row (Ok o) = all
  options_keep row (Err e) = tt

  meant_keeps : (c : Command) → HasNames c → IfOk (after_meant c s) AreRead
  meant_keeps (command.Flag on name) h = choice AreRead (is_late_style name s) (Err TooLate) _ tt (options_keep flag_misuse (flagged name on s.options))
  meant_keeps (command.Assign name (value.Symbol text)) h = choice AreRead (is_among kept_back name) (Err UnknownParameter) _ tt (options_keep parameter_misuse (symbolized name text s.options))
  meant_keeps (command.Assign name (value.Number negative n)) h = choice AreRead (is_among kept_back name) (Err UnknownParameter) _ tt (options_keep parameter_misuse (numbered name negative n s.options))
  meant_keeps (command.Op p type ns) h =
      let declared : Settings = record s { operators = all_declared p type ns s.operators } in
      choice AreRead (nat_lt 0 (length ns) && is_unfit_operator p type) (Err UnfitOperator) _ tt
      (choice AreRead (list_any is_unfit_symbol ns) (Err UnfitSymbol) _ tt (choice AreRead s.listed (Err TooLate) (Ok declared) tt all))
  meant_keeps (command.FunctionOrder ns) h = choice AreRead (are_apart ns) _ (Err UnfitRule) all tt
  meant_keeps (command.PredicateOrder ns) h = all
  meant_keeps (command.Formulas name) h = choice AreRead (is_other (formulas_opened name)) (Err UnknownList) _ tt all
  meant_keeps (command.List name) h = choice AreRead (is_other (rules_opened name)) (Err UnknownList) _ tt all
  meant_keeps (command.If name) h = choice AreRead (is_some s.block) (Err UnmatchedIf) _ tt all
  meant_keeps command.EndIf h = choice AreRead (is_some s.block) _ (Err UnmatchedIf) all tt
  meant_keeps (command.Interpretation it) h = by (is_good it) refl
    where
      by : (b : Bool) → is_good it ≡ b → IfOk (if b then Ok (record s { interpretations = s.interpretations ++ it ∷ [] }) else Err UnfitInterpretation) AreRead
      by true e = one_read s.interpretations it all (record { good = e; named = h })
      by false e = tt

  other_keeps : (c : Command) → AreRead (after_other c s)
  other_keeps (command.Flag on name) = all
  other_keeps (command.Assign name v) = all
  other_keeps (command.Op p type ns) = all
  other_keeps (command.FunctionOrder ns) = all
  other_keeps (command.PredicateOrder ns) = all
  other_keeps (command.Formulas name) = all
  other_keeps (command.List name) = all
  other_keeps (command.If name) = all
  other_keeps command.EndIf = all
  other_keeps (command.Interpretation it) = all

  command_keeps : (m : Mode) (c : Command) → HasNames c → IfOk (settings_after m c s) AreRead
  command_keeps m c h = choice AreRead (is_meant m s) (after_meant c s) (Ok (after_other c s)) (meant_keeps c h) (other_keeps c)

abbrev Keeps : Sofar → Type 0
Keeps s = AreRead s.settings

-- so does any item
module _ (m : Mode) (byte : ℕ) (s : Sofar) (all : Keeps s) where
  formula_keeps : (list : Option FormulaList) (t : RawTree) (made : Made Fol) → IfOk (after_made m list byte s t made) Keeps
  formula_keeps list t made =
      choice Keeps (nat_lt MOST_SYMBOLS (length made.reading.symbols)) _ _ tt
      (choice Keeps made.reading.large _ _ tt
      (choice Keeps (not (is_meant m s.settings)) _ _ all
      (chosen Keeps (λ l. after_list l byte s t made) list (Ok s)
      (λ l. chosen Keeps (λ k. Err (Misused k)) (least_misuse l (has_unfit_weight (attributed t).attributes) made.tree made.reading.least) (Ok (with_formula l byte t made s)) (λ k. tt) all)
      all)))

  rule_keeps : (o : Option Sides) → IfOk (option_map_or (after_rule m s) (option_map (rule_made (style_in m s) s.symbols) o) (unshaped m s)) Keeps
  rule_keeps None = choice Keeps (is_meant m s.settings) _ _ tt all
  rule_keeps (Some r) =
      let made = rule_made (style_in m s) s.symbols r in
      choice Keeps (nat_lt MOST_SYMBOLS (length made.reading.symbols)) _ _ tt
      (choice Keeps made.reading.large _ _ tt
      (choice Keeps (not (is_meant m s.settings)) _ _ all (chosen Keeps (λ k. Err (Misused k)) made.reading.least _ (λ k. tt) all)))

  kbo_keeps : (t : RawTree) → IfOk (after_kbo m s t) Keeps
  kbo_keeps t =
      choice Keeps (is_meant m s.settings) _ _
      (chosen Keeps (added_kbo s) (kbo_rule t) (Err (Misused UnfitRule)) (λ r. choice Keeps (is_weighed r.0 s.kbo_weights) _ _ tt all) tt)
      all

  term_keeps : (list : OpenList) (t : RawTree) → IfOk (after_term m list byte s t) Keeps
  term_keeps Weights t = rule_keeps (shaped_sides (style_in m s) t)
  term_keeps KboWeights t = kbo_keeps t
  term_keeps OtherRules t = all
  term_keeps Distinct t = all
  term_keeps OtherFormulas t = formula_keeps None t (formula_made m s t)
  term_keeps (Formulas list) t = formula_keeps (Some list) t (formula_made m s t)

  settings_keep : (r : Result Settings Misuse) → IfOk r AreRead → IfOk (with_settings s r) Keeps
  settings_keep (Ok t) h = h
  settings_keep (Err k) h = tt

  item_keeps : (ts : List Lexeme) (i : FileItem) → AreWritten ts → IsItemRead m s ts i → IfOk (after_item m byte s ts i) Keeps
  item_keeps ts (commanded c) written read = settings_keep (settings_after m c s.settings) (command_keeps s.settings all m c (command_named (is_tester m) ts c (command_spelled (is_tester m) ts c read.1) written))
  item_keeps ts (within closing) written read = all
  item_keeps ts (within (term t)) written read =
      choice Keeps (nat_lt MOST_LEVELS (nesting ts t)) _ _ tt (chosen Keeps (λ l. after_term m l byte s t) s.settings.list (Ok s) (λ l. term_keeps l t) all)
  item_keeps ts (within (names ns)) written read =
      let t = distinct_formula ns in
      choice Keeps (nat_lt MOST_NAMES (length ns)) _ _ tt (formula_keeps (Some Assumptions) t (with_names_met (style_in m s) ns (distinct_reading (style_in m s) s.symbols ns)))

-- and a file
abbrev IfProblem : Outcome → Type 0
IfProblem (problem s) = Keeps s
IfProblem (unreadable byte) = Unit {0}
IfProblem (misused byte row) = Unit {0}
IfProblem (too_large byte what) = Unit {0}

refused_keeps : (byte : ℕ) (why : Refusal) → IfProblem (refused_at byte why)
refused_keeps byte (Bad k) = tt
refused_keeps byte (Large what) = tt
refused_keeps byte (Misused k) = tt
refused_keeps byte Memory = tt

file_keeps : (m : Mode) (end : ℕ) (s : Sofar) (items : List (List Piece)) (o : Outcome) → Keeps s → AllWritten items → File m end s items o → IfProblem o
file_keeps m end s [] _ all written (ends a b) = all
file_keeps m end s [] _ all written (open_list h) = tt
file_keeps m end s [] _ all written (open_block h) = tt
file_keeps m end s (ts ∷ items) _ all written (bad k h) = tt
file_keeps m end s (ts ∷ items) _ all written (breaks i why r e) = refused_keeps _ why
file_keeps m end s (ts ∷ items) o all written (goes_on i t r e f) =
    file_keeps m end t items o (subst (λ (x : Result Sofar Refusal). IfOk x Keeps) e (item_keeps m (start_at end ts 0) s all (lexemes ts) i written.0 r)) written.1 f

kept_of : (m : Mode) (bytes : List ℕ) (o : Outcome) (s : Sofar) → Says m bytes o → o ≡ problem s → Keeps s
kept_of m bytes _ s (file.too_long many) e = absurd cc
kept_of m bytes _ s (file.items {o} tokens inside cut f) e =
    let written : AreWritten (lexemes tokens) = ap (λ (ts : List Lexeme). list_all is_written ts) (cut_written tokens) ∙ cuts_written cut in
    file_keeps m (length bytes) nothing_read (items_of tokens) (problem s) tt (items_written tokens written)
    (subst (λ (p : Outcome). File m (length bytes) nothing_read (items_of tokens) p) (problem_before m (length bytes) o s e) f)

all_back : (its : List ByName) → AllByRecursion IsRead its → AllByRecursion (λ it. (k : ℕ) → k < 2 ^ 64 → ReadsAs (named_text it k) it) its
all_back [] all = tt
all_back (it ∷ its) all = (λ k small. reads_as it k all.0 small, all_back its all.1)

-- the text of each interpretation of a file reads back as it
pub interpretations_back : (m : Mode) (bytes : List ℕ) (s : Sofar) → Says m bytes (problem s) → AllByRecursion (λ it. (k : ℕ) → k < 2 ^ 64 → ReadsAs (named_text it k) it) s.settings.interpretations
interpretations_back m bytes s says = all_back s.settings.interpretations (kept_of m bytes (problem s) s says refl)
