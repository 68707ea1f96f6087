-- What a file says has grown.
use Rattle.std.proofs.Common.{◌≡◌, ℕ, suc, ◌+◌, ◌<◌, ◌≤◌, ◌^◌, Bool, true, false, not, if◌then◌else◌, List, [], ◌∷◌, length, Option, Some, None, Result, Ok, Err, IfOk, refl, sym, ap, subst, ◌∙◌, arith}
use Rattle.std.specs.Prelude.{nat_lt, is_some}
use Rattle.std.specs.List.{AllByRecursion, list_all, list_any}
use Rattle.std.specs.Option.{option_map, option_map_or}
use Rattle.std.proofs.lemmas.Bool.{false≢true, cond_both, and_from, and_parts}
use Rattle.std.proofs.lemmas.Bool.Decides.{nat_tests}
use Rattle.std.proofs.lemmas.List.{length-append}
use Rattle.fol_core.specs.KboRows.{is_weighed}
use Rattle.fol_core.specs.RawTree.{RawTree, depth}
use Rattle.ladr_commands.specs.declared.command.Command.{Command}
use Rattle.fol_core.specs.Fol.{Fol}
use Rattle.ladr_formulas.specs.Formulas.{Made, formula_reading, is_free_name, is_too_great}
use Rattle.ladr_formulas.specs.declared.styles.Mode.{Mode}
use Rattle.ladr_lex.specs.Cuts.{Piece}
use Rattle.ladr_lex.specs.Lexeme.{Lexeme, lexeme, full_stop}
use Rattle.ladr_lex.specs.declared.limits.TheConstants.{MOST_BYTES, MOST_LEVELS, MOST_NAMES, MOST_SYMBOLS}
use Rattle.ladr_lex.specs.declared.misuse.Misuse.{Misuse}
use Rattle.ladr_lex.specs.declared.misuse.Misuse.TheVariants.{UnfitRule, UnfitAttribute, UnfitNumeral, VariableAmongNames}
use Rattle.ladr_options.specs.Ranges.{AreInRange}
use Rattle.ladr_problem.proofs.Endings.{problem_before}
use Rattle.ladr_distinct.proofs.Texts.{distinct_levels, distinct_names, distinct_text, item_names_stand}
use Rattle.ladr_distinct.specs.Different.{distinct_reading}
use Rattle.ladr_distinct.specs.Formula.{distinct_formula}
use Rattle.ladr_problem.proofs.NamesMade.{distinct_whole}
use Rattle.ladr_problem.specs.Adding.{FileItem, command, within, IsItemRead, after_item, after_term, after_formula, after_names, after_list, after_rule, after_kbo, added_kbo, unshaped, formula_made, style_in, with_settings, with_formula, with_names_met, limit_of_names, least_misuse, met}
use Rattle.ladr_problem.specs.File.{Outcome, Says, problem, unreadable, misused, too_large, File, ends, open_list, open_block, bad, breaks, goes_on, start_at, refused_at}
use Rattle.ladr_problem.specs.File as file
use Rattle.ladr_problem.specs.Growth.{Grown, nothing, changes, states, weighs, weighs_name}
use Rattle.ladr_problem.specs.Items.{is_stop_kind, in_first_item, items_of, lexemes}
use Rattle.ladr_problem.specs.ListItem.{closing, term, names}
use Rattle.ladr_problem.specs.Sofar.{Sofar, nothing_read}
use Rattle.ladr_problem.specs.declared.refusal.Refusal.{Refusal}
use Rattle.ladr_problem.specs.declared.refusal.Refusal.TheVariants.{Bad, Large, Misused, Memory}
use Rattle.ladr_reader.proofs.Counts.{cuts_count, reads_count}
use Rattle.ladr_reader.proofs.HasText.{is_written, written_parts, has_text, cuts_written}
use Rattle.ladr_reader.specs.Counts.{names_count}
use Rattle.ladr_reader.specs.Fixed.{KeepsFixed}
use Rattle.ladr_reader.specs.HasText.{CanName, HasText}
use Rattle.ladr_reader.specs.Nesting.{nesting}
use Rattle.ladr_reader.specs.Table.{table_of}
use Rattle.ladr_reader.specs.Worked.{lexemes_in}
use Rattle.ladr_rules.specs.Attributes.{attributed, has_unfit_weight}
use Rattle.ladr_rules.specs.Rules.{Sides, rule_made, shaped_sides, kbo_rule}
use Rattle.ladr_settings.proofs.Following.{command_follows, closing_follows}
use Rattle.ladr_settings.proofs.Ranges.{after_in_range}
use Rattle.ladr_settings.specs.Following.{Follows}
use Rattle.ladr_settings.specs.Settings.{settings_after, is_meant}
use Rattle.ladr_settings.specs.declared.lists.FormulaList.{FormulaList}
use Rattle.ladr_settings.specs.declared.lists.FormulaList.TheVariants.{Assumptions}
use Rattle.ladr_settings.specs.declared.lists.OpenList.{OpenList}
use Rattle.ladr_settings.specs.declared.lists.OpenList.TheVariants.{Formulas, Weights, KboWeights, Distinct, OtherFormulas, OtherRules}
use Rattle.ladr_settings.specs.declared.settings.Settings.{Settings}

-- the tokens of each item are written so, and those of them all are few
abbrev pub AreWritten : List Lexeme → Type 0
AreWritten ts = list_all is_written ts ≡ true

abbrev pub AllWritten : List (List Piece) → Type 0
AllWritten [] = Unit {0}
AllWritten (item ∷ items) = AreWritten (lexemes item) × AllWritten items

pub cut_written : (ps : List Piece) → lexemes ps ≡ lexemes_in ps
cut_written [] = refl
cut_written (p ∷ ps) = ap (λ (ts : List Lexeme). lexeme p.kind p.text ∷ ts) (cut_written ps)

front_written : (p : Piece) (items : List (List Piece)) → AreWritten (lexemes (p ∷ [])) → AllWritten items → AllWritten (in_first_item p items)
front_written p [] h k = (h, tt)
front_written p (item ∷ items) h k = (and_from _ _ (and_parts _ _ h).0 k.0, k.1)

pub items_written : (ps : List Piece) → AreWritten (lexemes ps) → AllWritten (items_of ps)
items_written [] h = tt
items_written (p ∷ ps) h = by (is_stop_kind p.kind) (items_written ps (and_parts _ _ h).1)
  where
    one : AreWritten (lexemes (p ∷ []))
    one = and_from _ _ (and_parts _ _ h).0 refl

    by : (b : Bool) → AllWritten (items_of ps) → AllWritten (if b then (p ∷ []) ∷ items_of ps else in_first_item p (items_of ps))
    by true k = (one, k)
    by false k = front_written p (items_of ps) one k

abbrev total : List (List Piece) → ℕ
total [] = 0
total (item ∷ items) = length item + total items

front_total : (p : Piece) (items : List (List Piece)) → total (in_first_item p items) ≡ suc (total items)
front_total p [] = refl
front_total p (item ∷ items) = omega arith

items_total : (ps : List Piece) → total (items_of ps) ≡ length ps
items_total [] = refl
items_total (p ∷ ps) =
    cond_both (is_stop_kind p.kind) _ _ (λ (items : List (List Piece)). total items ≡ suc (length ps)) (λ e. omega (arith, items_total ps)) (λ e. omega (arith, front_total p (items_of ps), items_total ps))

many_lexemes : (ps : List Piece) → length (lexemes ps) ≡ length ps
many_lexemes [] = refl
many_lexemes (p ∷ ps) = ap suc (many_lexemes ps)

-- the options of what has grown are in range
pub grown_ranged : (m : Mode) (s : Sofar) → Grown m s → AreInRange s.settings.options
grown_ranged m _ nothing = record { start_size = (omega arith, omega arith); end_size = (omega arith, omega arith); increment = (omega arith, omega arith); domain_size = omega arith; max_models = omega arith }
grown_ranged m _ (changes t g f ranged) = ranged
grown_ranged m _ (states {s} list byte t g listed of none) = grown_ranged m s g
grown_ranged m _ (weighs {s} t r g of) = grown_ranged m s g
grown_ranged m _ (weighs_name {s} t r g e once) = grown_ranged m s g

-- how many models are wanted is a number of 32 bits
pub grown_counted : (m : Mode) (s : Sofar) → Grown m s → s.settings.options.max_models < 2 ^ 32
grown_counted m _ nothing = omega arith
grown_counted m _ (changes {s} t g f ranged) = f.counted (grown_counted m s g)
grown_counted m _ (states {s} list byte t g listed of none) = grown_counted m s g
grown_counted m _ (weighs {s} t r g of) = grown_counted m s g
grown_counted m _ (weighs_name {s} t r g e once) = grown_counted m s g

-- a list that is open for the program was opened
pub grown_opened : (m : Mode) (s : Sofar) → Grown m s → is_meant m s.settings ≡ true → is_some s.settings.list ≡ true → s.settings.listed ≡ true
grown_opened m _ nothing meant some = absurd (false≢true some)
grown_opened m _ (changes t g f ranged) meant some = f.opened meant some
grown_opened m _ (states {s} list byte t g listed of none) meant some = listed
grown_opened m _ (weighs {s} t r g of) meant some = grown_opened m s g meant some
grown_opened m _ (weighs_name {s} t r g e once) meant some = grown_opened m s g meant some

-- the fixed symbols are the operators that they are at the start
pub grown_fixed : (m : Mode) (s : Sofar) → Grown m s → KeepsFixed s.settings.operators
grown_fixed m _ nothing = λ name h. refl
grown_fixed m _ (changes {s} t g f ranged) = f.fixed (grown_fixed m s g)
grown_fixed m _ (states {s} list byte t g listed of none) = grown_fixed m s g
grown_fixed m _ (weighs {s} t r g of) = grown_fixed m s g
grown_fixed m _ (weighs_name {s} t r g e once) = grown_fixed m s g

-- a choice, and what is there or isn't
by_test : (Q : Sofar → Type 0) (b : Bool) (x y : Result Sofar Refusal) → (b ≡ true → IfOk x Q) → (b ≡ false → IfOk y Q) → IfOk (if b then x else y) Q
by_test Q true x y h k = h refl
by_test Q false x y h k = k refl

by_option : {A : Type 0} (Q : Sofar → Type 0) (f : A → Result Sofar Refusal) (o : Option A) (x : Result Sofar Refusal) → ((a : A) → o ≡ Some a → IfOk (f a) Q) → (o ≡ None → IfOk x Q) → IfOk (option_map_or f o x) Q
by_option Q f (Some a) x h k = h a refl
by_option Q f None x h k = k refl

is_false : (b : Bool) → not b ≡ false → b ≡ true
is_false true h = refl
is_false false h = sym h

-- the term of an item can be printed, and keeps the limits
record IsItemTerm (s : Sofar) (t : RawTree) : Type 0 where
  text : HasText (table_of s.settings.operators) t
  levels : depth t ≤ MOST_LEVELS
  names : names_count t ≤ MOST_BYTES

module _ (m : Mode) (byte : ℕ) (s : Sofar) (grown : Grown m s) where
  abbrev G : Sofar → Type 0
  G t = Grown m t

  formula_grows : (list : Option FormulaList) (t : RawTree) → is_some s.settings.list ≡ true → IsItemTerm s t → IfOk (after_formula m list byte s t) G
  formula_grows list t some of =
      let made = formula_made m s t in
      by_test G (nat_lt MOST_SYMBOLS (length made.reading.symbols)) _ _ (λ many. tt) (λ few.
      by_test G made.reading.large _ _ (λ large. tt) (λ fits.
      by_test G (not (is_meant m s.settings)) _ _ (λ other. grown) (λ meant.
      by_option G (λ l. after_list l byte s t made) list (Ok s)
      (λ l e. by_option G (λ k. Err (Misused k)) (least_misuse l (has_unfit_weight (attributed t).attributes) made.tree made.reading.least) (Ok (with_formula l byte t made s)) (λ k d. tt)
      (λ none. states {s = s} l byte t grown (grown_opened m s grown (is_false (is_meant m s.settings) meant) some)
      (record { text = of.text; levels = of.levels; names = omega (arith, of.names); fits = fits; few = grind (arith, nat_tests, few) }) none))
      (λ e. grown))))

  unshaped_grows : IfOk (unshaped m s) G
  unshaped_grows = by_test G (is_meant m s.settings) _ _ (λ e. tt) (λ e. grown)

  rule_grows : (t : RawTree) (o : Option Sides) → shaped_sides (style_in m s) t ≡ o → IsItemTerm s t → IfOk (option_map_or (after_rule m s) (option_map (rule_made (style_in m s) s.symbols) o) (unshaped m s)) G
  rule_grows t None e of = unshaped_grows
  rule_grows t (Some r) e of =
      let made = rule_made (style_in m s) s.symbols r in
      by_test G (nat_lt MOST_SYMBOLS (length made.reading.symbols)) _ _ (λ many. tt) (λ few.
      by_test G made.reading.large _ _ (λ large. tt) (λ fits.
      by_test G (not (is_meant m s.settings)) _ _ (λ other. grown) (λ meant.
      by_option G (λ k. Err (Misused k)) made.reading.least _ (λ k d. tt)
      (λ none. weighs {s = s} t r grown (record { text = of.text; shaped = e; clean = none; fits = fits; few = grind (arith, nat_tests, few) })))))

  kbo_grows : (t : RawTree) → IfOk (after_kbo m s t) G
  kbo_grows t =
      by_test G (is_meant m s.settings) _ _
      (λ meant. by_option G (added_kbo s) (kbo_rule t) (Err (Misused UnfitRule)) (λ r e. by_test G (is_weighed r.0 s.kbo_weights) _ _ (λ d. tt) (λ d. weighs_name {s = s} t r grown e d)) (λ e. tt))
      (λ other. grown)

  term_grows : (list : OpenList) (t : RawTree) → is_some s.settings.list ≡ true → IsItemTerm s t → IfOk (after_term m list byte s t) G
  term_grows Weights t some of = rule_grows t (shaped_sides (style_in m s) t) refl of
  term_grows KboWeights t some of = kbo_grows t
  term_grows Distinct t some of = grown
  term_grows OtherRules t some of = grown
  term_grows OtherFormulas t some of = formula_grows None t some of
  term_grows (Formulas list) t some of = formula_grows (Some list) t some of

  names_grow : (ns : List (List ℕ)) → is_some s.settings.list ≡ true → AllByRecursion (λ n. CanName (table_of s.settings.operators) n 0) ns → IfOk (after_names m byte s ns) G
  names_grow ns some named =
      let t = distinct_formula ns in
      let st = style_in m s in
      let read = distinct_reading st s.symbols ns in
      let made = with_names_met st ns read in
      by_test G (nat_lt MOST_NAMES (length ns)) _ _ (λ many. tt) (λ few_names.
      let small : length ns ≤ 200 = grind (arith, nat_tests, few_names) in
      by_test G (nat_lt MOST_SYMBOLS (length made.reading.symbols)) _ _ (λ many. tt) (λ few.
      by_test G made.reading.large _ _ (λ large. tt) (λ fits.
      by_test G (not (is_meant m s.settings)) _ _ (λ other. grown) (λ meant.
      by_option G (λ k. Err (Misused k)) (least_misuse Assumptions (has_unfit_weight (attributed t).attributes) made.tree made.reading.least) (Ok (with_formula Assumptions byte t made s)) (λ k d. tt)
      (λ none.
      let same : formula_made m s t ≡ read = ap (λ (u : RawTree). formula_reading st s.symbols u) (distinct_whole ns) in
      subst (λ (x : Made Fol). Grown m (with_formula Assumptions byte t x s)) same
      (states {s = s} Assumptions byte t grown (grown_opened m s grown (is_false (is_meant m s.settings) meant) some)
      (record {
        text = distinct_text s.settings.operators (grown_fixed m s grown) ns named;
        levels = let l = distinct_levels ns small in omega (arith, l);
        names = distinct_names ns small;
        fits = ap (λ (x : Made Fol). x.reading.large) same ∙ fits;
        few = let l = ap (λ (x : Made Fol). length x.reading.symbols) same in grind (arith, nat_tests, few, l);
      })
      (least_named (has_unfit_weight (attributed t).attributes) (list_any (is_free_name st) ns) (list_any (is_too_great st) ns) (formula_made m s t).reading.least
      (ap (λ (x : Made Fol). met (has_unfit_weight (attributed t).attributes) UnfitAttribute (met (list_any (is_free_name st) ns) VariableAmongNames (met (list_any (is_too_great st) ns) UnfitNumeral x.reading.least))) same ∙ none))))))))
    where
      least_named : (a b c : Bool) (o : Option Misuse) → met a UnfitAttribute (met b VariableAmongNames (met c UnfitNumeral o)) ≡ None → met a UnfitAttribute o ≡ None
      least_named true b c o e = cc
      least_named false true c o e = cc
      least_named false false true o e = cc
      least_named false false false o e = e

  settings_grow : (c : Command) (r : Result Settings Misuse) → settings_after m c s.settings ≡ r → IfOk r (Follows m s.settings) → IfOk (with_settings s r) G
  settings_grow c (Ok t) e f = changes {s = s} t grown f (after_in_range m c s.settings t e (grown_ranged m s grown))
  settings_grow c (Err k) e f = tt

  item_grows : (ts : List Lexeme) (i : FileItem) → AreWritten ts → length ts ≤ MOST_BYTES → IsItemRead m s ts i → IfOk (after_item m byte s ts i) G
  item_grows ts (command c) written few read = settings_grow c (settings_after m c s.settings) refl (command_follows m s.settings read.0 c)
  item_grows ts (within closing) written few read = changes {s = s} (record s.settings { list = None }) grown (closing_follows m s.settings) (grown_ranged m s grown)
  item_grows ts (within (term t)) written few read =
      let item = read.2.2 in
      let own = (written_parts item.tokens (full_stop ∷ []) (subst AreWritten item.stops written)).0 in
      by_test G (nat_lt MOST_LEVELS (nesting ts t)) _ _ (λ deep. tt)
      (λ shallow. by_option G (λ l. after_term m l byte s t) s.settings.list (Ok s)
      (λ l e. term_grows l t (ap is_some read.1) (record {
        text = has_text (table_of s.settings.operators) item.reads own;
        levels = grind (arith, nat_tests, shallow);
        names = omega (arith, few, reads_count _ item.tokens t item.precedence item.reads, ap length item.stops, length-append item.tokens (full_stop ∷ []));
      }))
      (λ e. grown))
  item_grows ts (within (names ns)) written few read = names_grow ns (ap is_some read.1) (item_names_stand (table_of s.settings.operators) ts ns read.2.1 written)

abbrev IfProblem : Mode → Outcome → Type 0
IfProblem m (problem s) = Grown m s
IfProblem m (unreadable byte) = Unit {0}
IfProblem m (misused byte row) = Unit {0}
IfProblem m (too_large byte what) = Unit {0}

refused_grow : (m : Mode) (byte : ℕ) (why : Refusal) → IfProblem m (refused_at byte why)
refused_grow m byte (Bad k) = tt
refused_grow m byte (Large what) = tt
refused_grow m byte (Misused k) = tt
refused_grow m byte Memory = tt

file_grows : (m : Mode) (end : ℕ) (s : Sofar) (items : List (List Piece)) (o : Outcome) → Grown m s → AllWritten items → total items ≤ MOST_BYTES → File m end s items o → IfProblem m o
file_grows m end s [] _ grown written few (ends a b) = grown
file_grows m end s [] _ grown written few (open_list h) = tt
file_grows m end s [] _ grown written few (open_block h) = tt
file_grows m end s (ts ∷ items) _ grown written few (bad k h) = tt
file_grows m end s (ts ∷ items) _ grown written few (breaks i why r e) = refused_grow m _ why
file_grows m end s (ts ∷ items) o grown written few (goes_on i t r e f) =
    file_grows m end t items o
    (subst (λ (x : Result Sofar Refusal). IfOk x (Grown m)) e (item_grows m (start_at end ts 0) s grown (lexemes ts) i written.0 (omega (arith, few, many_lexemes ts)) r)) written.1 (omega (arith, few)) f

grown_of : (m : Mode) (bytes : List ℕ) (o : Outcome) (s : Sofar) → Says m bytes o → o ≡ problem s → Grown m s
grown_of m bytes _ s (file.too_long many) e = absurd cc
grown_of m bytes _ s (file.items {o} tokens inside cut f) e =
    let written : AreWritten (lexemes tokens) = ap (λ (ts : List Lexeme). list_all is_written ts) (cut_written tokens) ∙ cuts_written cut in
    file_grows m (length bytes) nothing_read (items_of tokens) (problem s) nothing (items_written tokens written) (omega (arith, items_total tokens, cuts_count 0 bytes tokens cut, inside))
    (subst (λ (p : Outcome). File m (length bytes) nothing_read (items_of tokens) p) (problem_before m (length bytes) o s e) f)

-- what a file says has grown
pub says_grows : (m : Mode) (bytes : List ℕ) (s : Sofar) → Says m bytes (problem s) → Grown m s
says_grows m bytes s says = grown_of m bytes (problem s) s says refl
