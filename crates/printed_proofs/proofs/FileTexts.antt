-- Proofs of a file's problem can be printed.
use Rattle.std.proofs.Common.{◌≡◌, inl, inr, ℕ, ◌<◌, ◌≤◌, Bool, true, false, List, [], length, Option, Some, slice_get, get_or, refl, sym, ap, ◌∙◌, subst, arith}
use Rattle.std.specs.Prelude.{nat_le}
use Rattle.std.specs.List.{All, list_any}
use Rattle.std.proofs.lemmas.Bool.{or_cases}
use Rattle.std.proofs.lemmas.Bool.Decides.{nat_tests}
use Rattle.std.proofs.lemmas.List.{length-append}
use Rattle.std.proofs.lemmas.Option.{slice_get-get_or}
use Rattle.clausify.specs.Behind.{StandBehind, SkolemsStandBehind}
use Rattle.clausify.specs.Input.{is_used, skolems, axioms_in_table}
use Rattle.fol_core.specs.Fol.{Fol}
use Rattle.fol_core.specs.FormulaView.{fol_of}
use Rattle.fol_core.specs.Literals.{equality}
use Rattle.fol_core.specs.RawTree.{RawTree, depth}
use Rattle.fol_core.specs.SkolemAxioms.{SkolemAxiom}
use Rattle.fol_problem.specs.Stated.{Stated, stated_of}
use Rattle.fol_core.specs.SymbolTable.{Symbol, symbol, FindsEach, KeepsNumbers}
use Rattle.fol_problem.specs.declared.problem.Input.{Input}
use Rattle.fol_core.specs.declared.symbols.Kind.TheVariants.{Function}
use Rattle.ladr_formulas.specs.Formulas.{unread, formula_reading, style_of}
use Rattle.ladr_formulas.specs.declared.styles.Mode.TheVariants.{Prover}
use Rattle.ladr_formulas.specs.declared.styles.Style.{Style}
use Rattle.ladr_lex.specs.Operators.{OperatorRow, are_lawful}
use Rattle.ladr_lex.specs.declared.limits.TheConstants.{MOST_LEVELS}
use Rattle.ladr_lex.proofs.ClauseOperators.{frees, keeps_fixed}
use Rattle.ladr_models.specs.Printed.{StatesItself, StateThemselves}
use Rattle.ladr_print.specs.FormulaText.{formula_raw, with_attribute}
use Rattle.ladr_print.specs.TermText.{name_in}
use Rattle.ladr_print.proofs.Stating.{sound_parts}
use Rattle.ladr_print.specs.StatesAs.{KeepsFixed}
use Rattle.ladr_problem.specs.Growth.{Grown}
use Rattle.ladr_problem.specs.Proper.{IsProper}
use Rattle.ladr_problem.specs.Sofar.{Sofar, Listed, stated_in, input_of}
use Rattle.ladr_problem.specs.Whole.{IsOf}
use Rattle.ladr_problem.specs.declared.read.FileRead.{FileRead}
use Rattle.ladr_reader.specs.Table.{table_of}
use Rattle.ladr_rules.specs.Attributes.{attributed}
use Rattle.printed_proofs.specs.Files.{full_table, HasFewSymbols, may_be_used, CanPrintFile}
use Rattle.printed_proofs.specs.Refutations.{CanPrintProofs}
use Rattle.printed_proofs.proofs.Depths.{formula_levels, labelled_levels, kept_label}
use Rattle.printed_proofs.proofs.FileSymbols.{at_input, used_by, stand_behind, keeps_front, skolems_count, skolem_behind, none_stray}
use Rattle.printed_proofs.proofs.Origins.{IsOfTerm, formulas_of_terms}
use Rattle.printed_proofs.proofs.Printing.{same_stated}
use Rattle.proof_lines.specs.Stated.{is_too_deep}
use Rattle.proof_lines.specs.Strays.{is_stray_relation}
use Rattle.proof_print.specs.Formulas.{is_kept_label, IsReadFormula}
use Rattle.proof_print.specs.LineTexts.{formula_term}
use Rattle.proof_print.specs.Names.{AreOfClauses}
use Rattle.proof_print.specs.Rereadable.{IsReadableSymbol, AreReadable}
use Rattle.proof_print.proofs.FormulaShown.{formula_has, formula_reads}
use Rattle.proof_print.proofs.Skolems.{skolem_readable, formula_readable}
use Rattle.derivation_laws.specs.Tables.{AllStandIn}

-- a formula of a term of few levels is printed with as many
shallow_of : (l : Listed) (T : List Symbol) → IsOfTerm l → is_too_deep true (formula_term T l.formula l.names l.label) ≡ false
shallow_of l T o =
    let v = name_in l.names in
    let levels : depth (formula_raw T v l.formula) ≤ depth (attributed o.tree).formula =
    subst (λ (f : Fol). depth (formula_raw T v f) ≤ depth (attributed o.tree).formula) o.formula (formula_levels T v o.style (attributed o.tree).formula [] (unread o.table)) in
    let few : depth (with_attribute l.label (formula_raw T v l.formula)) ≤ MOST_LEVELS =
    subst (λ (a : Option RawTree). depth (with_attribute a (formula_raw T v l.formula)) ≤ MOST_LEVELS) o.label (labelled_levels o.tree (formula_raw T v l.formula) o.short levels) in
    grind (arith, nat_tests, few)

-- so it can be read again from its text
read_of : (rows : List OperatorRow) (prolog : Bool) (symbols T : List Symbol) (l : Listed) → KeepsNumbers symbols T → length T ≤ equality → StatesItself rows (style_of Prover prolog) symbols l → IsOfTerm l
    → IsReadFormula rows prolog T l.formula l.names l.label
read_of rows prolog symbols T l keeps few x o =
    let made = formula_reading (style_of Prover prolog) symbols x.tree in
    record {
      behind = symbols;
      text = _;
      made = made;
      reads = record { tree = x.tree; precedence = x.precedence; reads = x.reads; made = refl };
      tree_is = sym x.states.formula;
      names_are = sym x.states.named;
      among = record { clean = (sound_parts made.reading x.states.faultless).least; kept = subst (λ (t : List Symbol). KeepsNumbers t T) x.states.symbols keeps; few = omega (arith, few) };
      label_is = subst (λ (a : Option RawTree). is_kept_label a ≡ true) o.label (kept_label o.tree);
      shallow = shallow_of l T o;
    }

module _ (themselves : (s : Sofar) → Grown Prover s → StateThemselves Prover s)
    (operators : (s : Sofar) → Grown Prover s → (are_lawful s.settings.operators ≡ true) × KeepsFixed s.settings.operators)
    (proper : (s : Sofar) → Grown Prover s → IsProper (stated_in s) s.settings.options) (stand : SkolemsStandBehind)
    (s : Sofar) (f : FileRead) (clauses : List OperatorRow) (grown : Grown Prover s) (is_of : IsOf s f) (lawful : are_lawful clauses ≡ true)
    (are : AreOfClauses f.problem.options.prolog_style_variables f.operators clauses) (few : HasFewSymbols f) where
  abbrev prolog : Bool
  prolog = f.problem.options.prolog_style_variables

  abbrev st : Style
  st = style_of Prover prolog

  abbrev p : Stated
  p = stated_of f.problem

  abbrev own : List Symbol
  own = f.problem.symbols

  abbrev T : List Symbol
  T = full_table f

  abbrev ss : List Symbol
  ss = skolems p.symbols p.formulas

  abbrev ws : List SkolemAxiom
  ws = axioms_in_table own p

  behind : StandBehind p
  behind = stand p (omega (arith, few)) (omega (arith, few))

  keeps : KeepsNumbers own T
  keeps = subst (KeepsNumbers own) (sym behind.table) (keeps_front own ss)

  fits : length T ≤ equality
  fits = omega (arith, ap length behind.table, length-append own ss, skolems_count (length own) ss ws behind.witnesses, few)

  rows_are : (are_lawful f.operators ≡ true) × KeepsFixed f.operators
  rows_are = subst (λ (rows : List OperatorRow). (are_lawful rows ≡ true) × KeepsFixed rows) (sym is_of.operators) (operators s grown)

  is_proper : IsProper p s.settings.options
  is_proper = subst (λ (q : Stated). IsProper q s.settings.options) (same_stated s f is_of) (proper s grown)

  finds : FindsEach T
  finds = behind.different is_proper.tellable.different

  -- each formula of the file can be read again from its text
  states : All (λ x. StatesItself f.operators st own x.1) s.formulas
  states =
      subst (λ (t : List Symbol). All (λ x. StatesItself f.operators st t x.1) s.formulas) (sym is_of.symbols)
      (subst (λ o. All (λ x. StatesItself f.operators (style_of Prover o.prolog_style_variables) s.symbols x.1) s.formulas) (sym is_of.options)
      (subst (λ (rows : List OperatorRow). All (λ x. StatesItself rows (style_of Prover s.settings.options.prolog_style_variables) s.symbols x.1) s.formulas) (sym is_of.operators) (themselves s grown).formulas))

  formula_read : (k : ℕ) (i : Input) → slice_get f.problem.inputs.items k ≡ Some i → IsReadFormula f.operators prolog T (fol_of i.formula.shape) i.formula.names i.label
  formula_read k i e =
      let x = at_input (λ y. StatesItself f.operators st own y.1) f.problem.inputs.items (subst (All (λ y. StatesItself f.operators st own y.1)) (sym is_of.formulas) states) k i e in
      let o = at_input (λ y. IsOfTerm y.1) f.problem.inputs.items (subst (All (λ y. IsOfTerm y.1)) (sym is_of.formulas) (formulas_of_terms Prover s grown)) k i e in
      read_of f.operators prolog own T (input_of i).1 keeps fits x o

  of_formula : (n : ℕ) → n < length T → is_used p.formulas n ≡ true → IsReadableSymbol (table_of clauses) st T n
  of_formula n h e =
      let u = used_by f.problem.inputs.items n e in
      formula_readable prolog f.operators clauses are T (fol_of u.input.formula.shape) u.input.formula.names u.input.label (formula_read u.place u.input u.at) n h u.uses

  of_skolem : (n : ℕ) → n < length T → nat_le (length own) n ≡ true → IsReadableSymbol (table_of clauses) st T n
  of_skolem n h e =
      let x = get_or T n (symbol [] 0 Function) in
      let at : slice_get T n ≡ Some x = slice_get-get_or T n (symbol [] 0 Function) h in
      let there = subst (λ (t : List Symbol). slice_get t n ≡ Some x) behind.table at in
      let past : length own ≤ n = grind (arith, nat_tests, e) in
      skolem_readable prolog f.operators clauses are T n x at (skolem_behind own ss ws behind.witnesses behind.names n x past there)

  readable : AreReadable (table_of clauses) st T (may_be_used f)
  readable n h e = elim (or_cases (is_used p.formulas n) (nat_le (length own) n) e) [ inl i ↦ of_formula n h i | inr j ↦ of_skolem n h j ]

  can : CanPrintProofs f clauses T
  can = record {
    lawful = rows_are.0;
    of_clauses = are;
    can = record { lawful = lawful; fixed = λ name fixed. keeps_fixed prolog f.operators clauses are name fixed ∙ rows_are.1 name fixed; frees = frees prolog f.operators clauses are; few = fits; finds = finds };
    skolems = record { is_table = record { finds = finds; keeps = keeps }; skolem = subst (λ t. AllStandIn t ss) (sym behind.table) (stand_behind own ss); few = fits };
    no_stray = subst (λ (t : List Symbol). list_any (is_stray_relation own) t ≡ false) (sym behind.table) (none_stray own ss ws behind.witnesses behind.names);
  }

  pub can_print : CanPrintFile f clauses
  can_print = record {
    can = can;
    readable = readable;
    each_clause = λ c h. record { over = h.over; kinds = h.kinds; readable = λ n l e. readable n l (h.uses n e l); numbered = h.numbered; few = h.few; shallow = h.shallow };
    each_formula = λ k i e. let given = formula_read k i e in
        (formula_has f.operators prolog own T rows_are.1 i.formula i.label given, formula_reads f.operators prolog own T rows_are.1 i.formula i.label given);
  }
