-- Each line of a search for proofs of a file can be a line of a printed proof.
use Rattle.std.proofs.Common.{◌≡◌, ℕ, suc, ◌≤◌, Bool, true, false, if◌then◌else◌, List, [], ◌∷◌, length, map, Some, None, slice_get, refl, sym, ap₂, ◌∙◌, subst}
use Rattle.std.specs.List.{AllByRecursion}
use Rattle.clause_store.specs.Lines.{PlainContent, plain_formula, plain_clause, PlainLine, formula_content, plain_content, plain_line, content_tree, plain_trees, formula_lines, IsUnnoted, AreUnnoted}
use Rattle.derivation.specs.Lines.{ContentTree, LineTree, FirstWord, InputRow, is_goal}
use Rattle.derivation.specs.View.{first_word_of, content_of, lines_of, later_of}
use Rattle.derivation.specs.declared.line.Content.{Content}
use Rattle.derivation.specs.declared.line.Content.TheVariants.{Formula, Clause}
use Rattle.derivation.specs.declared.line.Line.{Line}
use Rattle.derivation.specs.declared.words.First.{First}
use Rattle.derivation.specs.declared.words.First.TheVariants.{Assumption, Goal, Clausify, Deny, Copy, BackRewrite, BackUnitDel, Resolve, Hyper, Ur, Factor, Para, XxRes, Instantiate}
use Rattle.fol_core.specs.Literals.{ClauseTree, equality}
use Rattle.fol_core.specs.Renumbered.{renumbered}
use Rattle.fol_problem.specs.Stated.{Said}
use Rattle.fol_core.specs.SymbolTable.{Symbol}
use Rattle.fol_problem.specs.declared.problem.Input.{Input}
use Rattle.ladr_formulas.specs.Formulas.{style_of, names_of_variables}
use Rattle.ladr_formulas.specs.declared.styles.Mode.TheVariants.{Prover}
use Rattle.ladr_lex.specs.Operators.{OperatorRow}
use Rattle.ladr_print.specs.HasText.{HasText}
use Rattle.ladr_problem.specs.declared.read.FileRead.{FileRead}
use Rattle.ladr_rules.specs.Attributes.{attributed, label_of}
use Rattle.printed_proofs.specs.LineBounds.{IsBoundedContent, IsBoundedLine}
use Rattle.derivation_laws.specs.Signatures.{Signature, RowsAreIn, ContentIsIn, LinesAreIn, PutsIn, LinesPutIn}
use Rattle.search_lines.specs.Shapes.{IsFitFirst, IsFitLine}
use Rattle.printed_proofs.specs.Files.{full_table, may_be_used, IsClauseOfFile, CanPrintFile}
use Rattle.ladr_rules.specs.Asked.{line_asks}
use Rattle.printed_proofs.proofs.Unnoted.{unasked}
use Rattle.proof_lines.specs.Stated.{is_too_deep, line_made, line_misuse}
use Rattle.proof_print.specs.LineTexts.{formula_term}
use Rattle.proof_print.specs.Reread.{row_tables, IsPrintableContent, states_content, IsPrintableLine, ArePrintable}
use Rattle.proof_words.specs.Written.{WrittenFirst, states_formula, written_first, written_of, meant, as_assumption, as_goal, by_clausify, by_deny, by_copy, by_back_rewrite, by_back_unit_del, by_resolve, by_hyper, by_ur, by_factor, by_para, by_xx_res, by_instantiate}
use Rattle.prover_proofs.specs.SearchLines.{clausal_lines, stated_lines, made_plain, lines_at, role_at}
use Rattle.prover_steps.proofs.Lists.{all_append}
use Rattle.prover_steps.specs.Searching.{MadeLine, SearchState, clause_depth}
use Rattle.search_lines.specs.Rows.{IsFitRow, AreFitRows}
use Rattle.accepted_output.proofs.Signatures.{signature_of, numbered_short, clause_in, clause_over, clause_kinds, clause_own}
use Rattle.accepted_output.proofs.Words.{AreFit, words_said}

-- a line of the code says in a derivation what it says as it is written
means : (w : First) → meant (written_first w) ≡ first_word_of w
means Assumption = refl
means Goal = refl
means (Clausify n) = refl
means (Deny n) = refl
means (Copy n) = refl
means (BackRewrite n) = refl
means (BackUnitDel n) = refl
means (Resolve n s) = refl
means (Hyper n ss) = refl
means (Ur n ss) = refl
means (Factor n a b) = refl
means (Para p) = refl
means (XxRes n a) = refl
means (Instantiate n s) = refl

says : (c : Content) → content_tree (plain_content c) ≡ content_of c
says (Formula f label) = refl
says (Clause c) = refl

pub trees_same : (ls : List Line) → plain_trees (map plain_line ls) ≡ lines_of ls
trees_same [] = refl
trees_same (l ∷ ls) =
    ap₂ (λ (x : LineTree) (xs : List LineTree). x ∷ xs)
    (ap₂ (λ (c : ContentTree) (w : FirstWord). tree c w) (says l.content) (means l.just.first)) (trees_same ls)
  where
    tree : ContentTree → FirstWord → LineTree
    tree c w = record { number = l.number; content = c; first = w; later = map later_of l.just.steps.items }

-- whether a content is a formula
abbrev states_plain : PlainContent → Bool
states_plain (plain_formula f names label) = true
states_plain (plain_clause c) = false

states_same : (c : Content) → states_plain (plain_content c) ≡ states_content c
states_same (Formula f label) = refl
states_same (Clause c) = refl

-- a formula of the file, by its place
pub record IsInputOf (xs : List Input) (content : PlainContent) : Type 0 where
  pub place : ℕ
  pub input : Input
  pub at : slice_get xs place ≡ Some input
  pub is : content ≡ formula_content input.formula input.label

abbrev IsFitContent : List Input → PlainContent → Type 0
IsFitContent xs (plain_formula f names label) = IsInputOf xs (plain_formula f names label)
IsFitContent xs (plain_clause c) = (renumbered c ≡ c) × (clause_depth c ≤ 1000)

-- words that are fit and suit the content: a formula of these, or a numbered clause of few levels
pub record IsFitPlain (xs : List Input) (l : PlainLine) : Type 0 where
  pub suits : states_formula l.words.first ≡ states_plain l.content
  pub words : AreFit l.words
  pub content : IsFitContent xs l.content

-- such words put no terms in
first_puts_in : (g : Signature) (w : WrittenFirst) → IsFitFirst w → PutsIn g (meant w)
first_puts_in g as_assumption fit = tt
first_puts_in g as_goal fit = tt
first_puts_in g (by_clausify n) fit = tt
first_puts_in g (by_deny n) fit = tt
first_puts_in g (by_copy n) fit = tt
first_puts_in g (by_back_rewrite n) fit = tt
first_puts_in g (by_back_unit_del n) fit = tt
first_puts_in g (by_resolve n s) fit = tt
first_puts_in g (by_hyper n ss) fit = tt
first_puts_in g (by_ur n ss) fit = tt
first_puts_in g (by_factor n a b) fit = tt
first_puts_in g (by_para n a side m b path) fit = tt
first_puts_in g (by_xx_res n a) fit = tt
first_puts_in g (by_instantiate n es) fit = absurd fit

pub lines_put_in : (xs : List Input) (g : Signature) (ls : List PlainLine) → AllByRecursion (IsFitPlain xs) ls → LinesPutIn g (plain_trees ls)
lines_put_in xs g [] fit = tt
lines_put_in xs g (l ∷ ls) fit = (first_puts_in g l.words.first fit.0.words.first, lines_put_in xs g ls fit.1)

-- so are all lines of a state
module _ (xs : List Input) where
  stating : (b : Bool) → states_formula (if b then as_goal else as_assumption) ≡ true
  stating true = refl
  stating false = refl

  stating_fit : (b : Bool) → AreFit (record { first = if b then as_goal else as_assumption; later = [] })
  stating_fit true = record { first = tt; later = tt; alone = λ e. refl }
  stating_fit false = record { first = tt; later = tt; alone = λ e. refl }

  formulas_fit : (n : ℕ) (is : List Input) → ((k : ℕ) (i : Input) → slice_get is k ≡ Some i → IsInputOf xs (formula_content i.formula i.label)) → AllByRecursion (IsFitPlain xs) (formula_lines n is)
  formulas_fit n [] each = tt
  formulas_fit n (i ∷ is) each = (
    record { suits = stating (is_goal i.role); words = stating_fit (is_goal i.role); content = each 0 i refl },
    formulas_fit (suc n) is (λ k j e. each (suc k) j e),
  )

  clausal : (n : ℕ) (b : Bool) → states_formula (if b then by_deny n else by_clausify n) ≡ false
  clausal n true = refl
  clausal n false = refl

  clausal_fit : (n : ℕ) (b : Bool) → AreFit (record { first = if b then by_deny n else by_clausify n; later = [] })
  clausal_fit n true = record { first = tt; later = tt; alone = λ e. refl }
  clausal_fit n false = record { first = tt; later = tt; alone = λ e. refl }

  clauses_fit : (ss : List Said) (n : ℕ) (rows : List InputRow) → AllByRecursion (λ (r : InputRow). (renumbered r.1 ≡ r.1) × (clause_depth r.1 ≤ 1000)) rows → AllByRecursion (IsFitPlain xs) (clausal_lines ss n rows)
  clauses_fit ss n [] fit = tt
  clauses_fit ss n (r ∷ rows) fit = (
    record { suits = clausal r.0 (is_goal (role_at ss r.0)); words = clausal_fit r.0 (is_goal (role_at ss r.0)); content = fit.0 },
    clauses_fit ss (suc n) rows fit.1,
  )

  made_fit : (ls : List MadeLine) → AllByRecursion IsFitLine ls → AllByRecursion (IsFitPlain xs) (map made_plain ls)
  made_fit [] fit = tt
  made_fit (l ∷ ls) fit = (
    record {
      suits = fit.0.words.of_clause;
      words = record { first = fit.0.words.first; later = fit.0.words.later; alone = fit.0.words.alone };
      content = (fit.0.clause.numbered, fit.0.clause.levels);
    },
    made_fit ls fit.1,
  )

  pub state_fit : (ss : List Said) (rows : List InputRow) (t : SearchState) → AllByRecursion (λ (r : InputRow). (renumbered r.1 ≡ r.1) × (clause_depth r.1 ≤ 1000)) rows → AllByRecursion IsFitLine t.lines
      → AllByRecursion (IsFitPlain xs) (lines_at (stated_lines (formula_lines 1 xs) ss rows) t)
  state_fit ss rows t fit made =
      let formulas = formula_lines 1 xs in
      all_append (IsFitPlain xs) (stated_lines formulas ss rows) (map made_plain t.lines)
      (all_append (IsFitPlain xs) formulas (clausal_lines ss (suc (length formulas)) rows)
      (formulas_fit 1 xs (λ k i e. record { place = k; input = i; at = e; is = refl })) (clauses_fit ss (suc (length formulas)) rows fit)) (made_fit t.lines made)

-- rows that are fit
module _ (f : FileRead) where
  abbrev table : List Symbol
  table = full_table f

  abbrev own : Signature
  own = signature_of (full_table f) (may_be_used f)

  pub rows_shallow : (rows : List InputRow) → AreFitRows f rows → AllByRecursion (λ (r : InputRow). (renumbered r.1 ≡ r.1) × (clause_depth r.1 ≤ 1000)) rows
  rows_shallow [] fit = tt
  rows_shallow (r ∷ rows) fit = ((fit.0.numbered, fit.0.depth), rows_shallow rows fit.1)

  module _ (few : length (full_table f) ≤ equality) where
    pub rows_in : (rows : List InputRow) → AreFitRows f rows → RowsAreIn own rows
    rows_in [] fit = tt
    rows_in (r ∷ rows) fit = (clause_in table (may_be_used f) few r.1 fit.0.over fit.0.kinds (λ s e within. fit.0.uses s e within), rows_in rows fit.1)

    module _ (clauses : List OperatorRow) (can : CanPrintFile f clauses) (fit_lines : (g : FileRead) (c : ClauseTree) → IsFitRow g c → IsClauseOfFile g c) where
      abbrev prolog : Bool
      prolog = f.problem.options.prolog_style_variables

      -- what can be printed of a formula's parts
      abbrev CanPrintPlain : PlainContent → Type 0
      CanPrintPlain (plain_formula g names label) =
          HasText (row_tables f.operators clauses).formulas (formula_term table g names label)
          × (is_too_deep true (formula_term table g names label) ≡ false)
          × (line_misuse (style_of Prover prolog) f.problem.symbols table true (formula_term table g names label) [] ≡ None)
          × (line_asks (formula_term table g names label) ≡ None)
          × ((g ≡ (line_made (style_of Prover prolog) table true (formula_term table g names label)).tree)
          × (names ≡ names_of_variables (line_made (style_of Prover prolog) table true (formula_term table g names label)).reading.variables)
          × (label ≡ label_of (attributed (formula_term table g names label)).attributes))
          × ((line_made (style_of Prover prolog) table true (formula_term table g names label)).reading.symbols ≡ table)
      CanPrintPlain (plain_clause c) = ⊥

      abbrev Printable : Content → Type 0
      Printable c = IsPrintableContent (row_tables f.operators clauses) prolog f.problem.symbols table c

      input_plain : (i : Input) → Printable (Formula i.formula i.label) → CanPrintPlain (formula_content i.formula i.label)
      input_plain i h = (h.0, h.1.shallow, h.1.unmisused, h.1.asks refl, h.1.means, h.1.symbols)

      content_printable : (c : Content) → IsFitContent f.problem.inputs.items (plain_content c) → ContentIsIn own (content_tree (plain_content c)) → IsBoundedContent c → Printable c
      content_printable (Formula g label) fit inside bounds =
          let h = subst CanPrintPlain (sym fit.is) (input_plain fit.input (can.each_formula fit.place fit.input fit.at)) in
          (h.0, record { shallow = h.1; unmisused = h.2; asks = λ e. h.3; means = h.4; symbols = h.5 })
      content_printable (Clause c) fit inside bounds =
          let short = numbered_short c fit.0 bounds in
          can.each_clause c (fit_lines f c (record {
            over = clause_over table (may_be_used f) few c short inside;
            kinds = clause_kinds table (may_be_used f) few c inside;
            uses = λ s e within. clause_own table (may_be_used f) few c inside s e within;
            numbered = fit.0;
            few = bounds;
            depth = fit.1;
          }))

      line_printable : (l : Line) → IsBoundedLine l → IsUnnoted l → IsFitPlain f.problem.inputs.items (plain_line l) → ContentIsIn own (content_tree (plain_content l.content))
          → IsPrintableLine (row_tables f.operators clauses) prolog f.problem.symbols table l
      line_printable l bounds bare fit inside = record {
        number = bounds.number;
        words = words_said (written_of l.just) fit.words bounds.words;
        suits = fit.suits ∙ states_same l.content;
        content = content_printable l.content fit.content inside bounds.variables;
        asks = unasked l.notes bare.0;
        answers = bare.1;
      }

      pub lines_printable : (ls : List Line) → AllByRecursion IsBoundedLine ls → AreUnnoted ls → AllByRecursion (IsFitPlain f.problem.inputs.items) (map plain_line ls) → LinesAreIn own (plain_trees (map plain_line ls))
          → ArePrintable (row_tables f.operators clauses) prolog f.problem.symbols table ls
      lines_printable [] bounds bare fit inside = tt
      lines_printable (l ∷ ls) bounds bare fit inside = (line_printable l bounds.0 bare.0 fit.0 inside.0, lines_printable ls bounds.1 bare.1 fit.1 inside.1)
