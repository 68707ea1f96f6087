-- The lines of what a file asks for are printed as lines that begin with their numbers.
use Rattle.std.proofs.Common.{◌≡◌, ℕ, zero, suc, ◌≤◌, Bool, true, false, ◌==◌, if◌then◌else◌, length, List, [], ◌∷◌, ◌++◌, map, codes, is_some, refl, sym, ap, ◌∙◌, subst, append_assoc, arith}
use Rattle.std.proofs.lemmas.Bool.{and_parts}
use Rattle.std.specs.Fmt.{decimal}
use Rattle.std.specs.List.{AllByRecursion}
use Rattle.clause_store.specs.Ancestors.{AreAncestors}
use Rattle.clause_store.specs.Lines.{PlainContent, plain_formula, plain_clause, PlainLine, stating_line}
use Rattle.clausify.specs.Input.{skolems, all_arities}
use Rattle.clausify.specs.Names.{letter_numbered, next_free, next_name, next_constant, next_function, skolem_symbols, all_entered}
use Rattle.derivation.specs.Lines.{InputRow}
use Rattle.fol_core.specs.Renumbered.{renumbered}
use Rattle.fol_problem.specs.Stated.{Said}
use Rattle.fol_core.specs.SymbolTable.{Symbol, number_of, entered}
use Rattle.fol_problem.specs.declared.problem.Role.{Role}
use Rattle.fol_problem.specs.declared.problem.Role.TheVariants.{Assumption, Usable, Demodulator, Goal}
use Rattle.ladr_formulas.specs.declared.styles.Mode.{Mode}
use Rattle.ladr_formulas.specs.declared.styles.Mode.TheVariants.{Prover}
use Rattle.ladr_lex.specs.ClauseNames.{clause_variable}
use Rattle.ladr_output.proofs.Standing.{unbroken_append, decimal_unbroken, AreGlyphs, decimal_glyphs}
use Rattle.ladr_print.specs.TermText.{name_in}
use Rattle.ladr_problem.specs.File.{Says, problem}
use Rattle.ladr_problem.specs.Names.{is_name, are_named}
use Rattle.ladr_problem.specs.Proper.{IsProper}
use Rattle.ladr_problem.specs.Sofar.{Sofar, Listed, stated_in}
use Rattle.ladr_problem.proofs.Growing.{says_grows}
use Rattle.ladr_prover9.proofs.FileNames.{IsFlatListed, grown_flat}
use Rattle.ladr_intake.proofs.Names.{name_unbroken}
use Rattle.ladr_prover9.proofs.StandingProofs.{first, IsNumbered}
use Rattle.ladr_prover9.proofs.Unbroken.{IsFlat, HasFlatLabel, HasFlatSymbols, text_flat, formula_flat, clause_flat, labelled_flat, words_flat}
use Rattle.ladr_prover9.specs.ProofTexts.{plain_content_text, plain_text, quest_text}
use Rattle.ladr_prover9.specs.Quests.{Quest, listed_content, listed_lines, quest_by, asks, quest_lines}
use Rattle.proof_lines.specs.ContentTokens.{LineTables}
use Rattle.proof_print.specs.LineTexts.{formula_term}
use Rattle.prover_proofs.specs.SearchLines.{clausal_lines, stated_lines, made_plain, lines_at}
use Rattle.prover_setup.specs.SearchInputs.{symbols_in, rows_in}
use Rattle.prover_steps.proofs.Lists.{all_append, all_kept}
use Rattle.prover_steps.specs.Searching.{MadeLine, SearchState}
use Rattle.words_print.specs.WordTokens.{words_text}

-- the symbols with the Skolem symbols
symbols_append : (ss ts : List Symbol) → HasFlatSymbols ss → HasFlatSymbols ts → HasFlatSymbols (ss ++ ts)
symbols_append [] ts h k = k
symbols_append (s ∷ ss) ts h k = (h.0, symbols_append ss ts h.1 k)

entered_flat : (table : List Symbol) (s : Symbol) → HasFlatSymbols table → IsFlat s.name → HasFlatSymbols (entered table s)
entered_flat table s h k = by (is_some (number_of table s.name s.arity))
  where
    by : (b : Bool) → HasFlatSymbols (if b then table else table ++ s ∷ [])
    by true = h
    by false = symbols_append table (s ∷ []) h (k, tt)

all_entered_flat : (table ss : List Symbol) → HasFlatSymbols table → HasFlatSymbols ss → HasFlatSymbols (all_entered table ss)
all_entered_flat table [] h k = h
all_entered_flat table (s ∷ ss) h k = all_entered_flat (entered table s) ss (entered_flat table s h k.0) k.1

numbered_name_flat : (input : List Symbol) (c f arity : ℕ) → IsFlat (next_name input c f arity)
numbered_name_flat input c f arity = by (arity == 0)
  where
    by : (b : Bool) → IsFlat (if b then letter_numbered 99 (next_free input 99 c) else letter_numbered 102 (next_free input 102 f))
    by true = decimal_unbroken (next_free input 99 c)
    by false = decimal_unbroken (next_free input 102 f)

skolems_flat : (input : List Symbol) (c f : ℕ) (arities : List ℕ) → HasFlatSymbols (skolem_symbols input c f arities)
skolems_flat input c f [] = tt
skolems_flat input c f (arity ∷ arities) = (numbered_name_flat input c f arity, skolems_flat input (next_constant input c arity) (next_function input f arity) arities)

table_flat : (ss : List Symbol) → are_named ss ≡ true → HasFlatSymbols ss
table_flat [] h = tt
table_flat (s ∷ ss) h = let parts = and_parts (is_name s.name) (are_named ss) h in (name_unbroken s.name parts.0, table_flat ss parts.1)

-- the names of a formula's variables and of a clause's
name_in_flat : (names : List (List ℕ)) → AllByRecursion IsFlat names → (n : ℕ) → IsFlat (name_in names n)
name_in_flat [] h n = refl
name_in_flat (x ∷ names) h zero = h.0
name_in_flat (x ∷ names) h (suc n) = name_in_flat names h.1 n

clause_name_flat : (prolog : Bool) (n : ℕ) → IsFlat (clause_variable prolog n)
clause_name_flat true zero = refl
clause_name_flat true (suc zero) = refl
clause_name_flat true (suc (suc zero)) = refl
clause_name_flat true (suc (suc (suc zero))) = refl
clause_name_flat true (suc (suc (suc (suc zero)))) = refl
clause_name_flat true (suc (suc (suc (suc (suc n))))) = decimal_unbroken (suc (suc (suc (suc (suc n)))))
clause_name_flat false zero = refl
clause_name_flat false (suc zero) = refl
clause_name_flat false (suc (suc zero)) = refl
clause_name_flat false (suc (suc (suc zero))) = refl
clause_name_flat false (suc (suc (suc (suc zero)))) = refl
clause_name_flat false (suc (suc (suc (suc (suc n))))) = decimal_unbroken (suc (suc (suc (suc (suc n)))))

-- a line whose formula has names within a line
abbrev IsFlatContent : PlainContent → Type 0
IsFlatContent (plain_formula f names label) = AllByRecursion IsFlat names × HasFlatLabel label
IsFlatContent (plain_clause c) = Unit {0}

abbrev IsFlatLine : PlainLine → Type 0
IsFlatLine l = IsFlatContent l.content

module _ (g : LineTables) (table : List Symbol) (symbols : HasFlatSymbols table) (prolog : Bool) where
  content_flat : (c : PlainContent) → IsFlatContent c → IsFlat (plain_content_text g table prolog c)
  content_flat (plain_formula f names label) h = text_flat g.formulas (formula_term table f names label) (labelled_flat label _ h.1 (formula_flat table symbols (name_in names) (name_in_flat names h.0) f))
  content_flat (plain_clause c) h = clause_flat table symbols (clause_variable prolog) (clause_name_flat prolog) g.clauses (renumbered c)

  -- digits or a blank stand first
  opens : (ds rest : List ℕ) → AreGlyphs ds → (32 ≤ first (ds ++ 32 ∷ rest)) × (first (ds ++ 32 ∷ rest) ≤ 57)
  opens [] rest h = (omega arith, omega arith)
  opens (d ∷ ds) rest h = (omega (arith, h.0), h.1)

  line_numbered : (l : PlainLine) → IsFlatLine l → IsNumbered (plain_text g table prolog l)
  line_numbered l h =
      let content = plain_content_text g table prolog l.content in
      let words = words_text l.words in
      let ends : List ℕ = codes ".  " ++ words in
      let line : List ℕ = decimal l.number ++ (codes " " ++ (content ++ ends)) in
      let starts = opens (decimal l.number) (content ++ ends) (decimal_glyphs l.number) in
      record {
        line = line;
        is = sym (append_assoc (decimal l.number) (codes " " ++ (content ++ ends)) (10 ∷ [])
            ∙ ap (λ (u : List ℕ). decimal l.number ++ u) (ap (λ (u : List ℕ). codes " " ++ u) (append_assoc content ends (10 ∷ []) ∙ ap (λ (u : List ℕ). content ++ u) (append_assoc (codes ".  ") words (10 ∷ [])))));
        flat = unbroken_append (decimal l.number) (codes " " ++ (content ++ ends)) (decimal_unbroken l.number)
            (unbroken_append (codes " ") (content ++ ends) refl (unbroken_append content ends (content_flat l.content h) (unbroken_append (codes ".  ") words refl (words_flat l.words))));
        low = starts.0;
        high = starts.1;
      }

  lines_numbered : (ls : List PlainLine) → AllByRecursion IsFlatLine ls → AllByRecursion IsNumbered (map (plain_text g table prolog) ls)
  lines_numbered [] h = tt
  lines_numbered (l ∷ ls) h = (line_numbered l h.0, lines_numbered ls h.1)

-- all lines of a state
stating_flat : (n : ℕ) (r : Role) (l : Listed) → IsFlatListed l → IsFlatLine (stating_line n r (listed_content l))
stating_flat n Assumption l h = (h.names, h.label)
stating_flat n Usable l h = (h.names, h.label)
stating_flat n Demodulator l h = (h.names, h.label)
stating_flat n Goal l h = (h.names, h.label)

listed_flat : (n : ℕ) (fs : List (Role × Listed)) → AllByRecursion (λ f. IsFlatListed f.1) fs → AllByRecursion IsFlatLine (listed_lines n fs)
listed_flat n [] h = tt
listed_flat n (f ∷ fs) h = (stating_flat n f.0 f.1 h.0, listed_flat (suc n) fs h.1)

clausal_flat : (ss : List Said) (n : ℕ) (rows : List InputRow) → AllByRecursion IsFlatLine (clausal_lines ss n rows)
clausal_flat ss n [] = tt
clausal_flat ss n (r ∷ rows) = (tt, clausal_flat ss (suc n) rows)

made_flat : (ls : List MadeLine) → AllByRecursion IsFlatLine (map made_plain ls)
made_flat [] = tt
made_flat (l ∷ ls) = (tt, made_flat ls)

state_flat : (formulas : List PlainLine) (ss : List Said) (rows : List InputRow) (t : SearchState) → AllByRecursion IsFlatLine formulas → AllByRecursion IsFlatLine (lines_at (stated_lines formulas ss rows) t)
state_flat formulas ss rows t h =
    all_append IsFlatLine (stated_lines formulas ss rows) (map made_plain t.lines)
    (all_append IsFlatLine formulas (clausal_lines ss (suc (length formulas)) rows) h (clausal_flat ss (suc (length formulas)) rows)) (made_flat t.lines)

-- the lines of each proof are printed so
abbrev pub AreNumbered : Quest → Type 0
AreNumbered q = (t : SearchState) (n : ℕ) (lines : List PlainLine) → AreAncestors (quest_lines q t) n lines → AllByRecursion IsNumbered (map (quest_text q) lines)

module _ (proper : (m : Mode) (bytes : List ℕ) (s : Sofar) → Says m bytes (problem s) → IsProper (stated_in s) s.settings.options) where
  file_numbered : (bytes : List ℕ) (s : Sofar) → Says Prover bytes (problem s) → AreNumbered (quest_by bytes s)
  file_numbered bytes s says t n lines h =
      let q = quest_by bytes s in
      let own = table_flat s.symbols (proper Prover bytes s says).tellable.named in
      let symbols = all_entered_flat s.symbols (skolems s.symbols (stated_in s).formulas) own (skolems_flat s.symbols 0 0 (all_arities (stated_in s).formulas)) in
      let all = state_flat q.formulas q.search.stated.formulas (rows_in q.search) t (listed_flat 1 s.formulas (grown_flat Prover s (says_grows Prover bytes s says))) in
      lines_numbered q.operators (symbols_in q.search) symbols q.search.options.prolog_style_variables lines
      (subst (AllByRecursion IsFlatLine) (sym h.lines) (all_kept IsFlatLine (λ l. h.among l.number) (quest_lines q t) all))

  pub asked_numbered : (bytes : List ℕ) (q : Quest) → asks bytes q → AreNumbered q
  asked_numbered bytes q h = subst AreNumbered h.2 (file_numbered bytes h.0 h.1)
