-- A printed clause states the clause that it stated before.
use Rattle.std.proofs.Common.{◌≡◌, ℕ, zero, suc, ◌<◌, ◌≤◌, ◌^◌, Bool, true, false, List, [], ◌∷◌, length, map, Option, Some, None, inl, inr, refl, sym, ap, ap₂, ◌∙◌, subst, arith}
use Rattle.std.specs.Prelude.{codes}
use Rattle.std.specs.List.{list_all}
use Rattle.std.specs.Str.{bytes_eq}
use Rattle.std.specs.Char.{is_ascii_digit}
use Rattle.std.specs.Fmt.{decimal}
use Rattle.std.proofs.lemmas.Bool.{cases_lt, and_parts, and_from, cond_both, or_left, or_right, both_ways}
use Rattle.std.proofs.lemmas.Bool.Decides.{nat_tests}
use Rattle.std.proofs.lemmas.Fmt.{digits_decimal}
use Rattle.std.proofs.lemmas.Slice.Eq.{bytes_eq-Decides}
use Rattle.fol_core.specs.Fol.{Fol, verum, falsum, equal, atom, negation, conjunction, disjunction, implication, equivalence, forall, exists}
use Rattle.fol_core.specs.Free.{is_in, joined, variables_of, variables_of_all}
use Rattle.fol_core.specs.Literals.{Lit, ClauseTree, literal, equality}
use Rattle.fol_core.specs.Substitutions.{substitute, substitute_all}
use Rattle.fol_core.specs.RawTree.{RawTree, named, quantified, no_raws, more_raws}
use Rattle.fol_core.specs.Renumbered.{clause_variables, place_in, by_place, renumbered}
use Rattle.fol_core.specs.SymbolTable.{Symbol}
use Rattle.fol_core.specs.Tree.{Tree, var, elem, app, Trees, none, more}
use Rattle.fol_core.proofs.Variables.{is_in_joined, once, once_joined}
use Rattle.ladr_lex.specs.Bytes.{is_ordinary, is_special}
use Rattle.ladr_lex.specs.Lexeme.{ordinary}
use Rattle.ladr_lex.specs.Operators.{OperatorRow, operator_of, are_lawful, if_prefix}
use Rattle.ladr_lex.specs.declared.operators.OperatorKind.TheVariants.{Infix}
use Rattle.fol_core.specs.declared.raw.Quantifier.TheVariants.{All, Exists}
use Rattle.ladr_formulas.specs.Formulas.{Variable, Reading, Made, term_of, named_variable, sentence_as, is_denial, connective_of, by_connective, comparison, formula_in, formula_reading, unread, names_of_variables, IsReadAs}
use Rattle.ladr_formulas.specs.declared.connectives.Connective.{Connective}
use Rattle.ladr_formulas.specs.declared.connectives.Connective.TheVariants.{And, Or, IfThen, ThenIf, IfAndOnlyIf}
use Rattle.ladr_reader.specs.Table.{OperatorTable, table_of}
use Rattle.ladr_formulas.specs.declared.styles.Style.{Style}
use Rattle.ladr_print.specs.ClauseText.{literal_raw, clause_raw, clause_bytes}
use Rattle.ladr_print.specs.FormulaText.{two, denial, formula_raw}
use Rattle.ladr_print.specs.Precedences.{raws_count}
use Rattle.ladr_print.specs.StatesAs.{KeepsFixed}
use Rattle.ladr_formulas.proofs.Behind.{read_behind, term_into}
use Rattle.ladr_print.specs.ReadsAgain.{IsAmong, made_behind, IsClean, ReadsClause, ReadsTerm}
use Rattle.ladr_print.specs.ReadsAs.{ReadsAs}
use Rattle.ladr_print.specs.StatesClause.{literals_in, clause_in, StatesClause, FreesVariables}
use Rattle.ladr_print.specs.TermText.{name_in, Naming, clause_variable, symbol_name, term_raw, terms_raw}
use Rattle.ladr_print.specs.Precedences.{precedence}
use Rattle.ladr_print.specs.RawText.{text_of}
use Rattle.ladr_print.proofs.Disjunctions.{clause_is}
use Rattle.ladr_print.proofs.Letters.{first_variables, first_length}
use Rattle.ladr_print.proofs.Naming.{Reaches, formula_back, term_back}
use Rattle.ladr_print.proofs.Rereading.{turned}
use Rattle.fol_core.specs.SymbolTable.{KeepsNumbers}
use Rattle.ladr_lex.proofs.Numerals.{own}
use Rattle.ladr_print.specs.HasText.{plain, CanName, HasText, HaveTexts}
use Rattle.ladr_print.proofs.Printing.{printed_reads, text_has}
use Rattle.ladr_print.proofs.Renaming.{or_parts, formula_ren, term_ren, term_noted}
use Rattle.ladr_print.proofs.Stating.{turned_has, sound_parts, names_found, brings, named_between, denial_has}
use Rattle.ladr_print.proofs.Upto.{upto, not_in, own_place}

-- each variable of a clause is listed once
clause_once : (c : ClauseTree) → joined [] (clause_variables c) ≡ clause_variables c
clause_once [] = refl
clause_once (l ∷ c) = once_joined (variables_of l.atom) (clause_variables c) (once l.atom)

-- variables that stand at their places stay
mutual
  put_id : (xs : List ℕ) (t : Tree) → ((x : ℕ) → is_in x (variables_of t) ≡ true → place_in xs x ≡ x) → substitute (by_place xs) t ≡ t
  put_id xs (var x) h = ap var (h x (at_first x))
    where
      at_first : (x : ℕ) → is_in x (x ∷ []) ≡ true
      at_first x = grind (arith, nat_tests)
  put_id xs (elem k) h = refl
  put_id xs (app s ts) h = ap (app s) (put_all_id xs ts h)

  put_all_id : (xs : List ℕ) (ts : Trees) → ((x : ℕ) → is_in x (variables_of_all ts) ≡ true → place_in xs x ≡ x) → substitute_all (by_place xs) ts ≡ ts
  put_all_id xs none h = refl
  put_all_id xs (more t ts) h =
      ap₂ more (put_id xs t (λ x e. h x (is_in_joined x (variables_of t) (variables_of_all ts) ∙ or_left _ _ e)))
      (put_all_id xs ts (λ x e. h x (is_in_joined x (variables_of t) (variables_of_all ts) ∙ or_right _ _ e)))

clause_id : (xs : List ℕ) (c : ClauseTree) → ((x : ℕ) → is_in x (clause_variables c) ≡ true → place_in xs x ≡ x) → map (λ l. literal l.positive (substitute (by_place xs) l.atom)) c ≡ c
clause_id xs [] h = refl
clause_id xs (l ∷ c) h =
    ap₂ (λ (m : Lit) (d : ClauseTree). m ∷ d) (ap (literal l.positive) (put_id xs l.atom (λ x e. h x (is_in_joined x (variables_of l.atom) (clause_variables c) ∙ or_left _ _ e))))
    (clause_id xs c (λ x e. h x (is_in_joined x (variables_of l.atom) (clause_variables c) ∙ or_right _ _ e)))

pub below : (n x : ℕ) → is_in x (upto n) ≡ true → x < n
below n x h =
    elim (cases_lt x n) [
      | inl y ↦ y
      | inr k ↦ absurd (both_ways (is_in x (upto n)) (not_in n x k) h)
    ]

pub numbered_already : (c : ClauseTree) (n : ℕ) → clause_variables c ≡ upto n → renumbered c ≡ c
numbered_already c n e = clause_id (clause_variables c) c (λ x h. ap (λ (xs : List ℕ). place_in xs x) e ∙ own_place n x (below n x (ap (is_in x) (sym e) ∙ h)))

-- names of variables may be printed
digit_ordinary : (b : ℕ) → is_ascii_digit b ≡ true → is_ordinary b ≡ true
unfolding is_ordinary
digit_ordinary b h = grind (arith, nat_tests)

all_ordinary : (ds : List ℕ) → list_all is_ascii_digit ds ≡ true → list_all is_ordinary ds ≡ true
all_ordinary [] h = refl
all_ordinary (d ∷ ds) h = let parts = and_parts (is_ascii_digit d) (list_all is_ascii_digit ds) h in and_from _ _ (digit_ordinary d parts.0) (all_ordinary ds parts.1)

module _ (rows : List OperatorRow) (k : KeepsFixed rows) (prolog : Bool) (frees : FreesVariables prolog rows) where
  abbrev g : OperatorTable
  g = table_of rows

  pub variable_named : (n : ℕ) → n < 2 ^ 64 → CanName g (clause_variable prolog n) 0
  unfolding is_ordinary
  variable_named n h = by prolog n h (frees n h)
    where
      by : (q : Bool) (n : ℕ) → n < 2 ^ 64 → if_prefix (operator_of rows (clause_variable q n)) ≡ None → CanName g (clause_variable q n) 0
      by true zero h f = record { sort = ordinary; written = refl; allowed = plain refl f }
      by false zero h f = record { sort = ordinary; written = refl; allowed = plain refl f }
      by true (suc zero) h f = record { sort = ordinary; written = refl; allowed = plain refl f }
      by false (suc zero) h f = record { sort = ordinary; written = refl; allowed = plain refl f }
      by true (suc (suc zero)) h f = record { sort = ordinary; written = refl; allowed = plain refl f }
      by false (suc (suc zero)) h f = record { sort = ordinary; written = refl; allowed = plain refl f }
      by true (suc (suc (suc zero))) h f = record { sort = ordinary; written = refl; allowed = plain refl f }
      by false (suc (suc (suc zero))) h f = record { sort = ordinary; written = refl; allowed = plain refl f }
      by true (suc (suc (suc (suc zero)))) h f = record { sort = ordinary; written = refl; allowed = plain refl f }
      by false (suc (suc (suc (suc zero)))) h f = record { sort = ordinary; written = refl; allowed = plain refl f }
      by true (suc (suc (suc (suc (suc n))))) h f = record { sort = ordinary; written = all_ordinary (decimal (suc (suc (suc (suc (suc n)))))) (digits_decimal own (suc (suc (suc (suc (suc n))))) h); allowed = plain refl f }
      by false (suc (suc (suc (suc (suc n))))) h f = record { sort = ordinary; written = all_ordinary (decimal (suc (suc (suc (suc (suc n)))))) (digits_decimal own (suc (suc (suc (suc (suc n))))) h); allowed = plain refl f }

  module _ (T : List Symbol) (v : Naming) where
    abbrev canon : Naming
    canon = clause_variable prolog

    Few : List ℕ → Type 0
    Few xs = (x : ℕ) → is_in x xs ≡ true → x < 2 ^ 64

    count_same : (ts : Trees) → raws_count (terms_raw T v ts) ≡ raws_count (terms_raw T canon ts)
    count_same none = refl
    count_same (more t ts) = ap suc (count_same ts)

    mutual
      term_has : (t : Tree) → ((x : ℕ) → is_in x (variables_of t) ≡ true → x < 2 ^ 64) → HasText g (term_raw T v t) → HasText g (term_raw T canon t)
      term_has (var x) few p = (variable_named x (few x (at_first x)), tt)
        where
          at_first : (x : ℕ) → is_in x (x ∷ []) ≡ true
          at_first x = grind (arith, nat_tests)
      term_has (elem j) few p = p
      term_has (app s ts) few p = (subst (CanName g (symbol_name T s)) (count_same ts) p.0, terms_has ts few p.1)

      terms_has : (ts : Trees) → ((x : ℕ) → is_in x (variables_of_all ts) ≡ true → x < 2 ^ 64) → HaveTexts g (terms_raw T v ts) → HaveTexts g (terms_raw T canon ts)
      terms_has none few p = tt
      terms_has (more t ts) few p = (
        term_has t (λ x e. few x (is_in_joined x (variables_of t) (variables_of_all ts) ∙ or_left _ _ e)) p.0,
        terms_has ts (λ x e. few x (is_in_joined x (variables_of t) (variables_of_all ts) ∙ or_right _ _ e)) p.1,
      )

    pub equals_named : CanName g (codes "=") 2
    unfolding is_special is_ordinary
    equals_named = named_between rows k (codes "=") (record { precedence = 700; kind = Infix }) refl refl refl refl

    undenied : (t : RawTree) → HasText g (denial t) → HasText g t
    undenied (quantified q x t) p = p.1.0
    undenied (named n no_raws) p = p.1.0
    undenied (named n (more_raws t no_raws)) p = p.1.0
    undenied (named n (more_raws t (more_raws u no_raws))) p = by (bytes_eq n (codes "=")) refl p
      where
        by : (b : Bool) → bytes_eq n (codes "=") ≡ b → HasText g (denial (two n t u)) → HasText g (two n t u)
        by true e q =
            let r : HasText g (two (codes "!=") t u) = rw e at q in
            subst (λ (m : List ℕ). HasText g (two m t u)) (sym ((bytes_eq-Decides n (codes "=")).0 e)) (equals_named, r.1)
        by false e q = let r : HasText g (named (codes "-") (more_raws (two n t u) no_raws)) = rw e at q in r.1.0
    undenied (named n (more_raws t (more_raws u (more_raws w ts)))) p = p.1.0

    literal_has : (l : Lit) → ((x : ℕ) → is_in x (variables_of l.atom) ≡ true → x < 2 ^ 64) → HasText g (literal_raw T v l) → HasText g (literal_raw T canon l)
    literal_has l few p = by l.positive refl p
      where
        by : (b : Bool) → l.positive ≡ b → HasText g (literal_raw T v l) → HasText g (literal_raw T canon l)
        by true e q = rw e (term_has l.atom few (rw e at q))
        by false e q = rw e (denial_has rows (brings rows k) (term_raw T canon l.atom) (term_has l.atom few (undenied (term_raw T v l.atom) (rw e at q))))

    pub clause_has : (c : ClauseTree) → ((x : ℕ) → is_in x (clause_variables c) ≡ true → x < 2 ^ 64) → HasText g (clause_raw T v c) → HasText g (clause_raw T canon c)
    clause_has [] few p = p
    clause_has (l ∷ []) few p = literal_has l (λ x e. few x (is_in_joined x (variables_of l.atom) [] ∙ or_left _ _ e)) p
    clause_has (l ∷ m ∷ ls) few p = (
      p.0,
      (
        literal_has l (λ x e. few x (is_in_joined x (variables_of l.atom) (clause_variables (m ∷ ls)) ∙ or_left _ _ e)) p.1.0,
        (clause_has (m ∷ ls) (λ x e. few x (is_in_joined x (variables_of l.atom) (clause_variables (m ∷ ls)) ∙ or_right _ _ e)) p.1.1.0, tt),
      ),
    )

-- the literals of a formula are printed as it is
module _ (st : Style) (T : List Symbol) (v : Naming) (fewer : length T < 2 ^ 64) where
  denied_raw : (f : Fol) (c : ClauseTree) → literals_in (negation f) ≡ Some c → (literals_in f ≡ literals_in f) → clause_raw T v c ≡ denial (formula_raw T v f)
  denied_raw verum c h e = absurd (cc)
  denied_raw falsum c h e = absurd (cc)
  denied_raw (equal a b) c h e = let d : literal false (app equality (more a (more b none))) ∷ [] ≡ c = cc in ap (clause_raw T v) (sym d)
  denied_raw (atom r ts) c h e = let d : literal false (app r ts) ∷ [] ≡ c = cc in ap (clause_raw T v) (sym d)
  denied_raw (negation f) c h e = absurd (cc)
  denied_raw (conjunction f g) c h e = absurd (cc)
  denied_raw (disjunction f g) c h e = absurd (cc)
  denied_raw (implication f g) c h e = absurd (cc)
  denied_raw (equivalence f g) c h e = absurd (cc)
  denied_raw (forall x f) c h e = absurd (cc)
  denied_raw (exists x f) c h e = absurd (cc)

  literals_raw : (f : Fol) (c : ClauseTree) → literals_in f ≡ Some c → clause_raw T v c ≡ formula_raw T v f
  literals_raw verum c h = absurd (cc)
  literals_raw falsum c h = absurd (cc)
  literals_raw (equal a b) c h = let d : literal true (app equality (more a (more b none))) ∷ [] ≡ c = cc in ap (clause_raw T v) (sym d)
  literals_raw (atom r ts) c h = let d : literal true (app r ts) ∷ [] ≡ c = cc in ap (clause_raw T v) (sym d)
  literals_raw (negation f) c h = denied_raw f c h refl
  literals_raw (conjunction f g) c h = absurd (cc)
  literals_raw (disjunction f g) c h =
      let p = or_parts st T v fewer f g c h in
      ap (clause_raw T v) (sym p.whole) ∙ ap₂ (two (codes "|")) (literals_raw f (p.first ∷ []) p.front) (literals_raw g (p.second ∷ p.others) p.back)
  literals_raw (implication f g) c h = absurd (cc)
  literals_raw (equivalence f g) c h = absurd (cc)
  literals_raw (forall x f) c h = absurd (cc)
  literals_raw (exists x f) c h = absurd (cc)

  -- only `$F` is read as falsum
  abbrev OnlyF : RawTree → Made Fol → Type 0
  OnlyF t m = m.tree ≡ falsum → t ≡ named (codes "$F") no_raws

  falsum_comparison : (name : List ℕ) (t u : RawTree) (s : Reading) → OnlyF (two name t u) (comparison st [] name t u s)
  falsum_comparison name t u s =
      cond_both (bytes_eq name (codes "=")) _ _ (OnlyF (two name t u)) (λ e h. absurd (cc))
      (λ k. cond_both (bytes_eq name (codes "!=")) _ _ (OnlyF (two name t u)) (λ e h. absurd (cc)) (λ j h. absurd (cc)))

  falsum_two : (o : Option Connective) (name : List ℕ) (t u : RawTree) (s : Reading) → OnlyF (two name t u) (by_connective o (λ r. formula_in st [] r t) (λ r. formula_in st [] r u) (comparison st [] name t u) s)
  falsum_two None name t u s h = falsum_comparison name t u s h
  falsum_two (Some And) name t u s h = absurd (cc)
  falsum_two (Some Or) name t u s h = absurd (cc)
  falsum_two (Some IfThen) name t u s h = absurd (cc)
  falsum_two (Some ThenIf) name t u s h = absurd (cc)
  falsum_two (Some IfAndOnlyIf) name t u s h = absurd (cc)

  falsum_sentence : (name : List ℕ) (o : Option ℕ) (s : Reading) → OnlyF (named name no_raws) (sentence_as st [] name o s)
  falsum_sentence name (Some n) s = λ h. absurd (cc)
  falsum_sentence name None s =
      cond_both (bytes_eq name (codes "$T")) _ _ (OnlyF (named name no_raws)) (λ e h. absurd (cc))
      (λ k. cond_both (bytes_eq name (codes "$F")) _ _ (OnlyF (named name no_raws)) (λ e h. ap (λ (l : List ℕ). named l no_raws) ((bytes_eq-Decides name (codes "$F")).0 e)) (λ j h. absurd (cc)))

  falsum_is : (t : RawTree) (s : Reading) → OnlyF t (formula_in st [] s t)
  falsum_is (quantified All x t) s h = absurd (cc)
  falsum_is (quantified Exists x t) s h = absurd (cc)
  falsum_is (named name no_raws) s h = falsum_sentence name (named_variable st [] name s).tree (named_variable st [] name s).reading h
  falsum_is (named name (more_raws t no_raws)) s h =
      cond_both (is_denial name) _ _ (OnlyF (named name (more_raws t no_raws))) (λ e h. absurd (cc)) (λ k h. absurd (cc)) h
  falsum_is (named name (more_raws t (more_raws u no_raws))) s h = falsum_two (connective_of name) name t u s h
  falsum_is (named name (more_raws t (more_raws u (more_raws w ts)))) s h = absurd (cc)

data Cases (f : Fol) (c : ClauseTree) : Type 0 where
  empty : f ≡ falsum → c ≡ [] → Cases f c
  others : literals_in f ≡ Some c → Cases f c

clause_cases : (f : Fol) (c : ClauseTree) → clause_in f ≡ Some c → Cases f c
clause_cases verum c h = others h
clause_cases falsum c h = empty refl (let d : [] ≡ c = cc in sym d)
clause_cases (equal a b) c h = others h
clause_cases (atom r ts) c h = others h
clause_cases (negation f) c h = others h
clause_cases (conjunction f g) c h = others h
clause_cases (disjunction f g) c h = others h
clause_cases (implication f g) c h = others h
clause_cases (equivalence f g) c h = others h
clause_cases (forall x f) c h = others h
clause_cases (exists x f) c h = others h

names_length : (vs : List Variable) → length (names_of_variables vs) ≡ length vs
names_length [] = refl
names_length (x ∷ vs) = ap suc (names_length vs)

-- what is printed for a clause is read with all that was read with it, but for the names of variables
record Again (rows : List OperatorRow) (st : Style) (table T : List Symbol) (c : ClauseTree) (m : Made Fol) : Type 0 where
  tree : RawTree
  precedence : ℕ
  reads : ReadsAs (table_of rows) (clause_bytes (table_of rows) T (clause_variable st.prolog) (renumbered c)) tree precedence
  variables : List Variable
  count : length variables ≡ length m.reading.variables
  made : formula_reading st table tree ≡ record { tree = m.tree; reading = record m.reading { variables = variables } }

module _ (rows : List OperatorRow) (st : Style) (table T : List Symbol) (other : List ℕ) (x : RawTree) (p : ℕ) (c : ClauseTree) (l : are_lawful rows ≡ true) (k : KeepsFixed rows)
    (given : ReadsAs (table_of rows) other x p) (among : IsAmong (formula_reading st table x).reading T) where
  abbrev M : Made Fol
  M = formula_reading st table x

  abbrev canonical : Naming
  canonical = clause_variable st.prolog

  empty_again : M.tree ≡ falsum → c ≡ [] → Again rows st table T c M
  empty_again f e =
      let g = table_of rows in
      let is : x ≡ named (codes "$F") no_raws = falsum_is st T canonical among.few x (unread table) f in
      let may : HasText g (named (codes "$F") no_raws) = subst (HasText g) is (text_has rows given) in
      let text : clause_bytes g T canonical (renumbered c) ≡ text_of g (named (codes "$F") no_raws) = ap (λ (d : ClauseTree). clause_bytes g T canonical (renumbered d)) e ∙ clause_is rows k T canonical [] in
      record {
        tree = named (codes "$F") no_raws;
        precedence = precedence g (named (codes "$F") no_raws);
        reads = subst (λ (b : List ℕ). ReadsAs g b (named (codes "$F") no_raws) (precedence g (named (codes "$F") no_raws))) (sym text) (printed_reads rows (named (codes "$F") no_raws) l may);
        variables = M.reading.variables;
        count = refl;
        made = ap (formula_reading st table) (sym is);
      }

  literals_again : FreesVariables st.prolog rows → length M.reading.variables ≤ 2 ^ 64 → literals_in M.tree ≡ Some c → Again rows st table T c M
  literals_again frees size h =
      let g = table_of rows in
      let v = name_in (names_of_variables M.reading.variables) in
      let reaches : Reaches T v M.reading = record { sound = among.clean; symbols = among.kept; names = λ n y e. names_found M.reading.variables n y e } in
      let n = length M.reading.variables in
      let both = formula_ren st T v among.few x (unread table) c h (reaches, size) in
      let listed : clause_variables c ≡ upto n = sym (clause_once c) ∙ both.1 in
      let same : renumbered c ≡ c = numbered_already c n listed in
      let printed : formula_raw T v M.tree ≡ turned x = formula_back T v among.few st x [] (unread table) (λ name i e. absurd (cc)) reaches in
      let first : HasText g (clause_raw T v c) =
      subst (HasText g) (sym (literals_raw st T v among.few M.tree c h ∙ printed)) (turned_has rows (brings rows k) x (text_has rows given))
      in
      let may : HasText g (clause_raw T canonical c) =
      clause_has rows k st.prolog frees T v c (λ y e. omega (arith, size, below n y (ap (is_in y) (sym listed) ∙ e))) first
      in
      let text : clause_bytes g T canonical (renumbered c) ≡ text_of g (clause_raw T canonical c) = ap (clause_bytes g T canonical) same ∙ clause_is rows k T canonical c in
      record {
        tree = clause_raw T canonical c;
        precedence = precedence g (clause_raw T canonical c);
        reads = subst (λ (b : List ℕ). ReadsAs g b (clause_raw T canonical c) (precedence g (clause_raw T canonical c))) (sym text) (printed_reads rows (clause_raw T canonical c) l may);
        variables = first_variables st.prolog n;
        count = first_length st.prolog n;
        made = both.0;
      }

  clause_again : FreesVariables st.prolog rows → length M.reading.variables ≤ 2 ^ 64 → clause_in M.tree ≡ Some c → Again rows st table T c M
  clause_again frees size h =
      elim (clause_cases M.tree c h) [
        | empty f e ↦ empty_again f e
        | others o ↦ literals_again frees size o
      ]

-- a printed clause is read as the one that it came from, behind the table before it and behind any that has all its symbols
pub clause_both :
    (rows : List OperatorRow) (st : Style) (table : List Symbol) (other : List ℕ) (c : ClauseTree) (after : List Symbol) (n : ℕ) (T : List Symbol) →
    are_lawful rows ≡ true → KeepsFixed rows → FreesVariables st.prolog rows → ReadsClause (table_of rows) st table other c after n → KeepsNumbers after T → length T < 2 ^ 64 → n ≤ 2 ^ 64 →
    ReadsClause (table_of rows) st table (clause_bytes (table_of rows) T (clause_variable st.prolog) (renumbered c)) c after n
    × ReadsClause (table_of rows) st T (clause_bytes (table_of rows) T (clause_variable st.prolog) (renumbered c)) c T n
clause_both rows st table other c after n T l k frees s kept few size =
    let m = formula_reading st table s.tree in
    let among : IsAmong m.reading T = record { clean = s.reading.clean; kept = subst (λ (t : List Symbol). KeepsNumbers t T) (sym s.reading.table) kept; few = few } in
    let a = clause_again rows st table T other s.tree s.precedence c l k s.reads among frees (omega (arith, size, s.reading.count)) s.clause in
    let read : Made Fol = record { tree = m.tree; reading = record m.reading { variables = a.variables } } in
    let clean : IsClean read.reading after n = record { clean = s.reading.clean; table = s.reading.table; count = a.count ∙ s.reading.count } in
    let behind_all : formula_reading st T a.tree ≡ made_behind T read =
    read_behind T st table a.tree (subst (λ (r : Made Fol). KeepsNumbers r.reading.symbols T) (sym a.made) among.kept) ∙ ap (made_behind T) a.made
    in
    let larger : IsClean (made_behind T read).reading T n = record { clean = s.reading.clean; table = refl; count = a.count ∙ s.reading.count } in (
      record {
        tree = a.tree;
        precedence = a.precedence;
        reads = a.reads;
        clause = ap (λ (r : Made Fol). clause_in r.tree) a.made ∙ s.clause;
        reading = subst (λ (r : Made Fol). IsClean r.reading after n) (sym a.made) clean;
      },
      record {
        tree = a.tree;
        precedence = a.precedence;
        reads = a.reads;
        clause = ap (λ (r : Made Fol). clause_in r.tree) behind_all ∙ s.clause;
        reading = subst (λ (r : Made Fol). IsClean r.reading T n) (sym behind_all) larger;
      },
    )

pub clause_back :
    (rows : List OperatorRow) (st : Style) (table : List Symbol) (other : List ℕ) (c : ClauseTree) (after : List Symbol) →
    are_lawful rows ≡ true → KeepsFixed rows → FreesVariables st.prolog rows → (s : StatesClause (table_of rows) st table other c after) → length s.names ≤ 2 ^ 64 →
    StatesClause (table_of rows) st table (clause_bytes (table_of rows) after (clause_variable st.prolog) (renumbered c)) c after
clause_back rows st table other c after l k frees s few =
    let x = s.states in
    let m = formula_reading st table x.tree in
    let parts = sound_parts m.reading x.states.faultless in
    let among : IsAmong m.reading after = record {
      clean = parts.least;
      kept = subst (KeepsNumbers m.reading.symbols) (sym x.states.symbols) (λ n y e. e);
      few = omega (arith, parts.fewer, ap length x.states.symbols);
    } in
    let size : length m.reading.variables ≤ 2 ^ 64 = omega (arith, few, ap length x.states.named, names_length m.reading.variables) in
    let a = clause_again rows st table after other x.tree x.precedence c l k x.reads among frees size (ap clause_in (sym x.states.formula) ∙ s.clause) in
    let read : IsReadAs (record { tree = m.tree; reading = record m.reading { variables = a.variables } }) s.formula (names_of_variables a.variables) after =
    record { faultless = x.states.faultless; formula = x.states.formula; named = refl; symbols = x.states.symbols }
    in
    record {
      formula = s.formula;
      names = names_of_variables a.variables;
      states = record {
        tree = a.tree;
        precedence = a.precedence;
        reads = a.reads;
        states = subst (λ (r : Made Fol). IsReadAs r s.formula (names_of_variables a.variables) after) (sym a.made) read;
      };
      clause = s.clause;
    }

-- a printed term is read as the one that it came from, behind the table before it and behind any that has all its symbols
pub term_both :
    (rows : List OperatorRow) (st : Style) (table : List Symbol) (other : List ℕ) (t : Tree) (after : List Symbol) (n : ℕ) (T : List Symbol) →
    are_lawful rows ≡ true → KeepsFixed rows → FreesVariables st.prolog rows → ReadsTerm (table_of rows) st table other t after n → KeepsNumbers after T → length T < 2 ^ 64 → n ≤ 2 ^ 64 →
    ReadsTerm (table_of rows) st table (text_of (table_of rows) (term_raw T (clause_variable st.prolog) t)) t after n
    × ReadsTerm (table_of rows) st T (text_of (table_of rows) (term_raw T (clause_variable st.prolog) t)) t T n
term_both rows st table other t after n T l k frees s kept few size =
    let g = table_of rows in
    let canon = clause_variable st.prolog in
    let m = term_of st [] (unread table) s.tree in
    let v = name_in (names_of_variables m.reading.variables) in
    let keeps : KeepsNumbers m.reading.symbols T = subst (λ (z : List Symbol). KeepsNumbers z T) (sym s.reading.table) kept in
    let reaches : Reaches T v m.reading = record { sound = s.reading.clean; symbols = keeps; names = λ i y e. names_found m.reading.variables i y e } in
    let small : length m.reading.variables ≤ 2 ^ 64 = omega (arith, size, s.reading.count) in
    let raw = term_raw T canon t in
    let again : term_of st [] (unread table) raw ≡ record { tree = m.tree; reading = record m.reading { variables = first_variables st.prolog (length m.reading.variables) } } =
    ap (λ (u : Tree). term_of st [] (unread table) (term_raw T canon u)) (sym s.term) ∙ term_ren st T v few s.tree (unread table) (reaches, small)
    in
    let listed : variables_of t ≡ upto (length m.reading.variables) =
    sym (once t) ∙ ap (λ (u : Tree). joined [] (variables_of u)) (sym s.term) ∙ term_noted st T v few s.tree (unread table) (reaches, small)
    in
    let first : HasText g (term_raw T v t) =
    subst (HasText g) (sym (ap (term_raw T v) (sym s.term) ∙ term_back T v few st [] (unread table) s.tree (λ name i e. absurd (cc)) reaches)) (text_has rows s.reads)
    in
    let may : HasText g raw = term_has rows k st.prolog frees T v t (λ y e. omega (arith, small, below (length m.reading.variables) y (ap (is_in y) (sym listed) ∙ e))) first in
    let read : Made Tree = record { tree = m.tree; reading = record m.reading { variables = first_variables st.prolog (length m.reading.variables) } } in
    let raws_count : length (first_variables st.prolog (length m.reading.variables)) ≡ n = first_length st.prolog (length m.reading.variables) ∙ s.reading.count in
    let larger : term_of st [] (unread T) raw ≡ made_behind T read =
    term_into T st [] raw (unread table) (subst (λ (r : Made Tree). KeepsNumbers r.reading.symbols T) (sym again) keeps) ∙ ap (made_behind T) again
    in
    let own : IsClean read.reading after n = record { clean = s.reading.clean; table = s.reading.table; count = raws_count } in
    let all : IsClean (made_behind T read).reading T n = record { clean = s.reading.clean; table = refl; count = raws_count } in (
      record {
        tree = raw;
        precedence = precedence g raw;
        reads = printed_reads rows raw l may;
        term = ap (λ (r : Made Tree). r.tree) again ∙ s.term;
        reading = subst (λ (r : Made Tree). IsClean r.reading after n) (sym again) own;
      },
      record {
        tree = raw;
        precedence = precedence g raw;
        reads = printed_reads rows raw l may;
        term = ap (λ (r : Made Tree). r.tree) larger ∙ s.term;
        reading = subst (λ (r : Made Tree). IsClean r.reading T n) (sym larger) all;
      },
    )
