-- The clauses of a file's formulas are fit to be lines.
use Rattle.std.proofs.Common.{◌≡◌, ℕ, zero, suc, ◌+◌, ◌≤◌, ◌^◌, Bool, true, List, [], ◌∷◌, length, map, Some, slice_get, refl, sym, ap, subst, arith}
use Rattle.std.specs.Prelude.{nat_le}
use Rattle.std.specs.List.{All, AllByRecursion}
use Rattle.std.proofs.lemmas.Bool.{or_left, or_right}
use Rattle.std.proofs.lemmas.Bool.Decides.{nat_tests}
use Rattle.std.proofs.lemmas.List.{length-append}
use Rattle.clausify.specs.Behind.{StandBehind, SkolemsStandBehind}
use Rattle.clausify.specs.Input.{formulas, is_used, skolems, skolem_numbers, clauses_in_table, axioms_in_table}
use Rattle.clausify.specs.Skolem.{skolem_term}
use Rattle.fol_core.specs.Bound.{uses_symbol}
use Rattle.fol_core.specs.Fol.{Fol}
use Rattle.fol_core.specs.FormulaView.{fol_of}
use Rattle.fol_core.specs.Free.{variables_of}
use Rattle.fol_core.specs.Literals.{Lit, literal, ClauseTree, equality}
use Rattle.fol_core.specs.Occurs.{occurs_in}
use Rattle.fol_core.specs.RawTree.{depth}
use Rattle.fol_core.specs.Renumbered.{clause_variables, by_place, renumbered}
use Rattle.fol_core.specs.Sizes.{depth_of}
use Rattle.fol_core.specs.SkolemAxioms.{SkolemAxiom}
use Rattle.fol_problem.specs.Stated.{Said, Stated, all_said, stated_of}
use Rattle.fol_core.specs.Substitutions.{Substitution, with_term, substitute}
use Rattle.fol_core.specs.SymbolTable.{Symbol, KeepsNumbers}
use Rattle.fol_core.specs.Tree.{Tree}
use Rattle.fol_problem.specs.declared.problem.Input.{Input}
use Rattle.fol_core.specs.declared.symbols.Kind.TheVariants.{Function, Relation}
use Rattle.ladr_formulas.specs.Formulas.{unread, formula_reading, style_of}
use Rattle.ladr_formulas.specs.declared.styles.Mode.TheVariants.{Prover}
use Rattle.ladr_formulas.specs.declared.styles.Style.{Style}
use Rattle.ladr_lex.specs.Operators.{OperatorRow}
use Rattle.ladr_lex.specs.declared.limits.TheConstants.{MOST_LEVELS}
use Rattle.ladr_models.specs.Printed.{StatesItself, StateThemselves}
use Rattle.ladr_print.specs.FormulaText.{formula_raw}
use Rattle.ladr_print.specs.TermText.{name_in}
use Rattle.ladr_print.proofs.Stating.{sound_parts}
use Rattle.ladr_problem.specs.Growth.{Grown}
use Rattle.ladr_problem.specs.Sofar.{Sofar, Listed, input_of}
use Rattle.ladr_problem.specs.Whole.{IsOf}
use Rattle.ladr_problem.specs.declared.read.FileRead.{FileRead}
use Rattle.ladr_rules.specs.Attributes.{attributed}
use Rattle.printed_proofs.specs.Files.{full_table, HasFewSymbols, may_be_used}
use Rattle.printed_proofs.proofs.Depths.{formula_levels, labelled_levels}
use Rattle.printed_proofs.proofs.FileSymbols.{at_input, keeps_front, skolems_count}
use Rattle.printed_proofs.proofs.Origins.{IsOfTerm, formulas_of_terms}
use Rattle.substitutions.proofs.Variants.{numbers_stay}
use Rattle.search_lines.specs.Rows.{IsFitRow, AreFitRows}
use Rattle.search_lines.proofs.Atoms.{Atoms, AllAtoms, atoms_both, rows_atoms}
use Rattle.search_lines.proofs.FileNames.{HasFewNames, many_names, few_names}
use Rattle.search_lines.proofs.Fit.{IsUsed, IsAtom, over, kinds, uses}
use Rattle.search_lines.proofs.Levels.{attributed_levels, depth_of_atoms}
use Rattle.prover_steps.proofs.Lists.{all_so}
use Rattle.search_lines.proofs.Numbers.{place_below, few_variables}
use Rattle.search_lines.proofs.Read.{Stands, formula_is}
use Rattle.search_lines.proofs.Shapes.{IsLow, IsAtomOf, atom_low, AreAll, AreLow, atom_put, with_skolem, depth_put, low_skolem, atoms_with}
use Rattle.search_lines.proofs.Skolems.{IsSkolem, skolems_stand}

-- a symbol of an input's formula is used
used_there : (xs : List Input) (k : ℕ) (i : Input) → slice_get xs k ≡ Some i → (n : ℕ) → uses_symbol n (fol_of i.formula.shape) ≡ true → occurs_in n (formulas (all_said xs)) ≡ true
used_there [] k i e n u = absurd (cc)
used_there (x ∷ xs) zero i e n u =
    let same : i ≡ x = cc in
    or_left (uses_symbol n (fol_of x.formula.shape)) (occurs_in n (formulas (all_said xs))) (subst (λ (y : Input). uses_symbol n (fol_of y.formula.shape) ≡ true) same u)
used_there (x ∷ xs) (suc k) i e n u = or_right (uses_symbol n (fol_of x.formula.shape)) (occurs_in n (formulas (all_said xs))) (used_there xs k i e n u)

-- what holds of each input's formula holds of each that is said
each_said : (P : Fol → Type 0) (xs : List Input) → ((k : ℕ) (i : Input) → slice_get xs k ≡ Some i → P (fol_of i.formula.shape)) → AllByRecursion (λ (s : Said). P s.formula) (all_said xs)
each_said P [] h = tt
each_said P (x ∷ xs) h = (h 0 x refl, each_said P xs (λ k i e. h (suc k) i e))

-- what stays with terms put in stays of a clause
clause_put : (B : Tree → Type 0) (terms : Substitution) → ((t : Tree) → B t → B (substitute terms t)) → (c : ClauseTree) → AllAtoms B c → AllAtoms B (map (λ (l : Lit). literal l.positive (substitute terms l.atom)) c)
clause_put B terms put [] h = tt
clause_put B terms put (l ∷ c) h = (put l.atom h.0, clause_put B terms put c h.1)

module _ (themselves : (s : Sofar) → Grown Prover s → StateThemselves Prover s) (stand : SkolemsStandBehind)
    (s : Sofar) (f : FileRead) (grown : Grown Prover s) (is_of : IsOf s f) (few : HasFewSymbols f) where
  abbrev prolog : Bool
  prolog = f.problem.options.prolog_style_variables

  abbrev st : Style
  st = style_of Prover prolog

  abbrev p : Stated
  p = stated_of f.problem

  abbrev own : List Symbol
  own = f.problem.symbols

  abbrev T : List Symbol
  T = full_table f

  abbrev ss : List Symbol
  ss = skolems p.symbols p.formulas

  abbrev ws : List SkolemAxiom
  ws = axioms_in_table own p

  abbrev used : ℕ → Bool
  used n = may_be_used f n

  abbrev U : ℕ → Type 0
  U n = used n ≡ true

  behind : StandBehind p
  behind = stand p (omega (arith, few)) (omega (arith, few))

  keeps : KeepsNumbers own T
  keeps = subst (KeepsNumbers own) (sym behind.table) (keeps_front own ss)

  fits : length T ≤ equality
  fits = omega (arith, ap length behind.table, length-append own ss, skolems_count (length own) ss ws behind.witnesses, few)

  -- each formula of the file is read from its text behind the table of them all
  states : All (λ x. StatesItself f.operators st own x.1) s.formulas
  states =
      subst (λ (t : List Symbol). All (λ x. StatesItself f.operators st t x.1) s.formulas) (sym is_of.symbols)
      (subst (λ o. All (λ x. StatesItself f.operators (style_of Prover o.prolog_style_variables) s.symbols x.1) s.formulas) (sym is_of.options)
      (subst (λ (rows : List OperatorRow). All (λ x. StatesItself rows (style_of Prover s.settings.options.prolog_style_variables) s.symbols x.1) s.formulas) (sym is_of.operators) (themselves s grown).formulas))

  abbrev IsStanding : Tree → Type 0
  IsStanding t = IsAtomOf (Stands T Function) (Stands T Relation) t

  standing : (l : Listed) → StatesItself f.operators st own l → HasFewNames l → Atoms IsLow IsStanding l.formula
  standing l x names =
      let reading = (formula_reading st own x.tree).reading in
      subst (Atoms IsLow IsStanding) (sym x.states.formula)
      (formula_is prolog T x.tree [] (unread own) (λ name n e. absurd (cc)) (record {
        sound = (sound_parts reading x.states.faultless).least;
        symbols = subst (λ (t : List Symbol). KeepsNumbers t T) x.states.symbols keeps;
        count = omega (arith, names, ap length x.states.named, many_names reading.variables);
      }))

  -- of a term of few levels
  low : (l : Listed) → IsOfTerm l → Atoms (λ x. Unit {0}) (λ (t : Tree). depth_of t ≤ MOST_LEVELS) l.formula
  low l o =
      let v = name_in l.names in
      let levels : depth (formula_raw T v l.formula) ≤ depth (attributed o.tree).formula =
      subst (λ (g : Fol). depth (formula_raw T v g) ≤ depth (attributed o.tree).formula) o.formula (formula_levels T v o.style (attributed o.tree).formula [] (unread o.table))
      in
      attributed_levels T v MOST_LEVELS _ l.formula (labelled_levels o.tree (formula_raw T v l.formula) o.short levels)

  abbrev A : Tree → Type 0
  A t = IsAtom T used t × (depth_of t ≤ MOST_LEVELS)

  abbrev B : Tree → Type 0
  B t = IsAtom T used t × (depth_of t ≤ MOST_LEVELS + 1)

  formula_fit : (k : ℕ) (i : Input) → slice_get f.problem.inputs.items k ≡ Some i → Atoms IsLow A (fol_of i.formula.shape)
  formula_fit k i e =
      let g = fol_of i.formula.shape in
      let x = at_input (λ y. StatesItself f.operators st own y.1) f.problem.inputs.items (subst (All (λ y. StatesItself f.operators st own y.1)) (sym is_of.formulas) states) k i e in
      let o = at_input (λ y. IsOfTerm y.1) f.problem.inputs.items (subst (All (λ y. IsOfTerm y.1)) (sym is_of.formulas) (formulas_of_terms Prover s grown)) k i e in
      let names = at_input (λ y. HasFewNames y.1) f.problem.inputs.items (subst (All (λ y. HasFewNames y.1)) (sym is_of.formulas) (few_names Prover s grown)) k i e in
      atoms_both IsLow (λ x. Unit {0}) (IsAtom T used) (λ (t : Tree). depth_of t ≤ MOST_LEVELS) g
      (atoms_with (Stands T Function) (Stands T Relation) U g (standing (input_of i).1 x names) (λ n u. or_left (is_used p.formulas n) (nat_le (length own) n) (used_there f.problem.inputs.items k i e n u)))
      (low (input_of i).1 o)

  formulas_fit : AllByRecursion (λ (q : Said). Atoms IsLow A q.formula) p.formulas
  formulas_fit = each_said (Atoms IsLow A) f.problem.inputs.items formula_fit

  skolems_fit : AllByRecursion (IsSkolem U T) ws
  skolems_fit =
      subst (λ (t : List Symbol). AllByRecursion (IsSkolem U t) ws) (sym behind.table)
      (skolems_stand U own ss ws behind.witnesses (λ n l. or_right (is_used p.formulas n) (nat_le (length own) n) (grind (arith, nat_tests, l))))

  abbrev Good : Substitution → Type 0
  Good terms = AreAll (IsUsed T used Function) terms × AreLow 1 terms

  put : (terms : Substitution) → Good terms → (t : Tree) → A t → B (substitute terms t)
  put terms g t h = (atom_put (IsUsed T used Function) (IsUsed T used Relation) terms g.0 t h.0, omega (arith, depth_put 1 terms g.1 t, h.1))

  next : (terms : Substitution) (w : SkolemAxiom) → IsSkolem U T w → AllByRecursion IsLow w.variables → Good terms → Good (with_term terms w.variable (skolem_term w.symbol w.variables))
  next terms w h l g = (with_skolem (IsUsed T used Function) terms w.variable w.symbol w.variables h l g.0, low_skolem terms w.variable w.symbol w.variables g.1)

  own_low : (t : Tree) → IsAtom T used t → AllByRecursion IsLow (variables_of t)
  own_low t h = atom_low (IsUsed T used Function) (IsUsed T used Relation) t h

  -- numbered it stays so
  place : (xs : List ℕ) → length xs ≤ 2 ^ 64 → (t : Tree) → B t → B (substitute (by_place xs) t)
  place xs most t h = (
    atom_put (IsUsed T used Function) (IsUsed T used Relation) (by_place xs) (λ x l. place_below xs x (2 ^ 64) most (omega arith)) t h.0,
    omega (arith, depth_put 0 (by_place xs) (λ x. omega arith) t, h.1),
  )

  count : (c : ClauseTree) → AllAtoms B c → length (clause_variables c) ≤ 2 ^ 64
  count c h = few_variables c (all_so (λ (l : Lit). B l.atom) (λ (l : Lit). AllByRecursion IsLow (variables_of l.atom)) (λ l b. own_low l.atom b.0) c h)

  number : (c : ClauseTree) → AllAtoms B c → IsFitRow f (renumbered c)
  number c h =
      let d = renumbered c in
      let all : AllAtoms B d = clause_put B (by_place (clause_variables c)) (place (clause_variables c) (count c h)) c h in
      let atoms : AllAtoms (IsAtom T used) d = all_so (λ (l : Lit). B l.atom) (λ (l : Lit). IsAtom T used l.atom) (λ l b. b.0) d all in
      let levels : AllAtoms (λ (t : Tree). depth_of t ≤ MOST_LEVELS + 1) d = all_so (λ (l : Lit). B l.atom) (λ (l : Lit). depth_of l.atom ≤ MOST_LEVELS + 1) (λ l b. b.1) d all in
      record {
        over = over T used d atoms;
        kinds = kinds T used d atoms;
        uses = λ n e l. uses T used fits n l d atoms e;
        numbered = numbers_stay c;
        few = count d all;
        depth = omega (arith, depth_of_atoms (MOST_LEVELS + 1) d levels);
      }

  pub rows_fit : AreFitRows f (clauses_in_table own p)
  rows_fit =
      rows_atoms IsLow A B (IsSkolem U T) Good put next (λ t h. own_low t h.0) (IsFitRow f) number (λ x l. l, λ x. omega arith) (skolem_numbers own p) 1 0 p.formulas skolems_fit formulas_fit
