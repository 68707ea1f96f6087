-- A formula that is read binds each variable once, and its symbols are of the table.
use Rattle.std.proofs.Common.{◌≡◌, inl, inr, ℕ, suc, ◌<◌, ◌≤◌, ◌==◌, Bool, true, false, ◌||◌, if◌then◌else◌, IsTrue, List, [], ◌∷◌, ◌++◌, length, Option, Some, None, Result, Ok, Err, refl, sym, ap, ◌∙◌, subst, arith}
use Rattle.std.specs.Prelude.{IfOk, codes}
use Rattle.std.specs.Str.{bytes_eq}
use Rattle.std.proofs.lemmas.Bool.{or_cases, or_from, or_left, or_right, eqb-true, eq-eqb, false≢true, true≢false, false_from_ne_true}
use Rattle.std.proofs.lemmas.List.Folds.{list_any-append}
use Rattle.fol_core.specs.Bound.{binders_of, IsOnce, BindsOnce, has_symbol, uses_symbol, HasSymbolsBelow}
use Rattle.fol_core.specs.Fol.{Fol, verum, falsum, negation}
use Rattle.fol_core.specs.Free.{is_in, joined, without, variables_of, free_vars_of, closed_over}
use Rattle.fol_core.specs.FormulaView.{fol_of}
use Rattle.fol_core.specs.RawTree.{RawTree, named, quantified, RawTrees, no_raws, more_raws}
use Rattle.fol_core.specs.SymbolTable.{Symbol}
use Rattle.fol_core.specs.declared.raw.Quantifier.{Quantifier}
use Rattle.fol_core.specs.declared.raw.Quantifier.TheVariants.{All, Exists}
use Rattle.fol_core.specs.declared.symbols.Kind.TheVariants.{Relation}
use Rattle.fol_core.proofs.Variables.{is_in_joined, is_in_without, free_vars_once}
use Rattle.ladr_lex.specs.declared.misuse.Misuse.TheVariants.{VariableAsFormula, UnfitNumeral}
use Rattle.ladr_formulas.specs.Whole.{IsWhole}
use Rattle.ladr_formulas.specs.declared.formulas.FormulaRead.{FormulaRead}
use Rattle.ladr_formulas.specs.Formulas.{Variable, Reading, Bound, Style, Made, meets, with_variable, with_symbol, is_element, named_variable, arity_of, term_of, terms_of, relation_of, sentence_as, sentence, equation_read, under, bound_by, is_denial, connective_of, joined_by, by_connective, comparison, formula_in, unread, formula_reading}
use Rattle.ladr_formulas.specs.declared.connectives.Connective.{Connective}
use Rattle.ladr_formulas.specs.declared.connectives.Connective.TheVariants.{And, Or, IfThen, ThenIf, IfAndOnlyIf}
use Rattle.ladr_formulas.proofs.OwnVariables.{is_free, is_bound, is_free_last, count_variable, Grows, grows_on, grows_met, grows_variable, grows_symbol, IsKnown, known_still, variable_good}
use Rattle.ladr_formulas.proofs.OwnTerms.{applied_below, term_good, terms_good}

-- numbers that rise, from a on and below b
abbrev pub Rise : ℕ → List ℕ → ℕ → Type 0
Rise a [] b = a ≤ b
Rise a (x ∷ xs) b = (a ≤ x) × Rise (suc x) xs b

rise_on : (a b c : ℕ) (xs ys : List ℕ) → Rise a xs b → Rise b ys c → Rise a (xs ++ ys) c
rise_on a b c [] ys h k = lower ys h k
  where
    lower : (ys : List ℕ) → a ≤ b → Rise b ys c → Rise a ys c
    lower [] i j = omega (arith, i, j)
    lower (y ∷ ys) i j = (omega (arith, i, j.0), j.1)
rise_on a b c (x ∷ xs) ys h k = (h.0, rise_on (suc x) b c xs ys h.1 k)

rise_between : (a b : ℕ) (xs : List ℕ) → Rise a xs b → (x : ℕ) → IsTrue (is_in x xs) → (a ≤ x) × (x < b)
rise_between a b [] h x i = absurd (false≢true i)
rise_between a b (y ∷ ys) h x i = elim (or_cases (x == y) (is_in x ys) i) [
  | inl e ↦ (omega (arith, eqb-true x y e, h.0), omega (arith, eqb-true x y e, rise_whole (suc y) b ys h.1))
  | inr j ↦ (omega (arith, h.0, (rise_between (suc y) b ys h.1 x j).0), (rise_between (suc y) b ys h.1 x j).1)
]
  where
    rise_whole : (a b : ℕ) (xs : List ℕ) → Rise a xs b → a ≤ b
    rise_whole a b [] h = h
    rise_whole a b (x ∷ xs) h = omega (arith, h.0, rise_whole (suc x) b xs h.1)

rise_once : (a b : ℕ) (xs : List ℕ) → Rise a xs b → IsOnce xs
rise_once a b [] h = tt
rise_once a b (x ∷ xs) h = (false_from_ne_true (is_in x xs) (λ i. absurd (omega (arith, (rise_between (suc x) b xs h.1 x i).0))), rise_once (suc x) b xs h.1)

-- What is read goes on from what was read; unless something was misused, its free variables are known; its quantifiers bring
-- variables in their order; its symbols are of the table.
record FormulaGood (scope : List Bound) (s : Reading) (m : Made Fol) : Type 0 where
  pub grows : Grows s m.reading
  pub known : m.reading.least ≡ None → (x : ℕ) → IsTrue (is_in x (free_vars_of m.tree)) → IsKnown m.reading scope x
  pub rise : Rise (length s.variables) (binders_of m.tree) (length m.reading.variables)
  pub brought : (x : ℕ) → IsTrue (is_in x (binders_of m.tree)) → is_free m.reading.variables x ≡ false
  pub below : (n : ℕ) → IsTrue (uses_symbol n m.tree) → n < length m.reading.symbols

relation_good : (st : Style) (scope : List Bound) (name : List ℕ) (ts : RawTrees) (s : Reading) → FormulaGood scope s (relation_of st scope name ts s)
relation_good st scope name ts s =
    let element = meets (is_element st name) UnfitNumeral s in
    let after = with_symbol name (arity_of ts) Relation element in
    let arguments = terms_of st scope after ts in
    let all = terms_good st scope after ts in
    let grown = grows_on s after arguments.reading (grows_on s element after (grows_met (is_element st name) UnfitNumeral s) (grows_symbol name (arity_of ts) Relation element)) all.grows in
    record {
      grows = grown;
      known = all.known;
      rise = grown.count;
      brought = λ x i. absurd (false≢true i);
      below = applied_below name (arity_of ts) Relation element arguments.reading arguments.tree all.grows all.below;
    }

constant_good : (scope : List Bound) (s u : Reading) (f : Fol) → Grows s u → binders_of f ≡ [] → free_vars_of f ≡ [] → ((n : ℕ) → uses_symbol n f ≡ false) → FormulaGood scope s (record { tree = f; reading = u })
constant_good scope s u f g binds free uses = record {
  grows = g;
  known = λ least x i. absurd (false≢true (sym (ap (is_in x) free) ∙ i));
  rise = subst (λ (xs : List ℕ). Rise (length s.variables) xs (length u.variables)) (sym binds) g.count;
  brought = λ x i. absurd (false≢true (sym (ap (is_in x) binds) ∙ i));
  below = λ n i. absurd (false≢true (sym (uses n) ∙ i));
}

later : (scope : List Bound) (s r : Reading) (m : Made Fol) → Grows s r → FormulaGood scope r m → FormulaGood scope s m
later scope s r m g h = record {
  grows = grows_on s r m.reading g h.grows;
  known = h.known;
  rise = rise_on (length s.variables) (length r.variables) (length m.reading.variables) [] (binders_of m.tree) g.count h.rise;
  brought = h.brought;
  below = h.below;
}

sentence_of : (st : Style) (scope : List Bound) (name : List ℕ) (s : Reading) (o : Option ℕ) (r : Reading) → Grows s r → FormulaGood scope s (sentence_as st scope name o r)
sentence_of st scope name s (Some n) r g = constant_good scope s (meets true VariableAsFormula r) verum (grows_on s r (meets true VariableAsFormula r) g (grows_met true VariableAsFormula r)) refl refl (λ n. refl)
sentence_of st scope name s None r g = by (bytes_eq name (codes "$T")) (bytes_eq name (codes "$F"))
  where
    by : (a b : Bool) → FormulaGood scope s (if a then record { tree = verum; reading = r } else (if b then record { tree = falsum; reading = r } else relation_of st scope name no_raws r))
    by true b = constant_good scope s r verum g refl refl (λ n. refl)
    by false true = constant_good scope s r falsum g refl refl (λ n. refl)
    by false false = later scope s r (relation_of st scope name no_raws r) g (relation_good st scope name no_raws r)

sentence_good : (st : Style) (scope : List Bound) (name : List ℕ) (s : Reading) → FormulaGood scope s (sentence st scope name s)
sentence_good st scope name s = sentence_of st scope name s (named_variable st scope name s).tree (named_variable st scope name s).reading (variable_good st scope name s).grows

equation_good : (st : Style) (scope : List Bound) (t u : RawTree) (s : Reading) → FormulaGood scope s (equation_read st scope t u s)
equation_good st scope t u s =
    let left = term_of st scope s t in
    let right = term_of st scope left.reading u in
    let l = term_good st scope s t in
    let r = term_good st scope left.reading u in
    let grown = grows_on s left.reading right.reading l.grows r.grows in
    record {
      grows = grown;
      known = λ least x i. elim (or_cases (is_in x (variables_of left.tree)) (is_in x (variables_of right.tree)) (sym (is_in_joined x (variables_of left.tree) (variables_of right.tree)) ∙ i)) [
        | inl j ↦ known_still left.reading right.reading scope x r.grows (l.known (r.grows.least least) x j)
        | inr j ↦ r.known least x j
      ];
      rise = grown.count;
      brought = λ x i. absurd (false≢true i);
      below = λ n i. elim (or_cases (has_symbol n left.tree) (has_symbol n right.tree) i) [ inl j ↦ omega (arith, l.below n j, r.grows.table) | inr j ↦ r.below n j ];
    }

comparison_good : (st : Style) (scope : List Bound) (name : List ℕ) (t u : RawTree) (s : Reading) → FormulaGood scope s (comparison st scope name t u s)
comparison_good st scope name t u s = by (bytes_eq name (codes "=")) (bytes_eq name (codes "!="))
  where
    equal_good : FormulaGood scope s (equation_read st scope t u s)
    equal_good = equation_good st scope t u s

    by : (a b : Bool) → FormulaGood scope s (if a then equation_read st scope t u s else (if b then under negation (equation_read st scope t u s) else relation_of st scope name (more_raws t (more_raws u no_raws)) s))
    by true b = equal_good
    by false true = record { grows = equal_good.grows; known = equal_good.known; rise = equal_good.rise; brought = equal_good.brought; below = equal_good.below }
    by false false = relation_good st scope name (more_raws t (more_raws u no_raws)) s

-- two formulas, read one behind the other
module _ (scope : List Bound) (s : Reading) (left right : Made Fol) (l : FormulaGood scope s left) (r : FormulaGood scope left.reading right) where
  pair_known : right.reading.least ≡ None → (x : ℕ) → IsTrue (is_in x (joined (free_vars_of left.tree) (free_vars_of right.tree))) → IsKnown right.reading scope x
  pair_known least x i = elim (or_cases (is_in x (free_vars_of left.tree)) (is_in x (free_vars_of right.tree)) (sym (is_in_joined x (free_vars_of left.tree) (free_vars_of right.tree)) ∙ i)) [
    | inl j ↦ known_still left.reading right.reading scope x r.grows (l.known (r.grows.least least) x j)
    | inr j ↦ r.known least x j
  ]

  pair_brought : (x : ℕ) → IsTrue (is_in x (binders_of left.tree ++ binders_of right.tree)) → is_free right.reading.variables x ≡ false
  pair_brought x i = elim (or_cases (is_in x (binders_of left.tree)) (is_in x (binders_of right.tree)) (sym (list_any-append (λ z. x == z) (binders_of left.tree) (binders_of right.tree)) ∙ i)) [
    | inl j ↦ r.grows.flags x (rise_between (length s.variables) (length left.reading.variables) (binders_of left.tree) l.rise x j).1 ∙ l.brought x j
    | inr j ↦ r.brought x j
  ]

  pair_below : (n : ℕ) → IsTrue (uses_symbol n left.tree || uses_symbol n right.tree) → n < length right.reading.symbols
  pair_below n i = elim (or_cases (uses_symbol n left.tree) (uses_symbol n right.tree) i) [ inl j ↦ omega (arith, l.below n j, r.grows.table) | inr j ↦ r.below n j ]

  pair_good : (c : Connective) → FormulaGood scope s (record { tree = joined_by c left.tree right.tree; reading = right.reading })
  pair_good c = by c
    where
      grown : Grows s right.reading
      grown = grows_on s left.reading right.reading l.grows r.grows

      rises : Rise (length s.variables) (binders_of left.tree ++ binders_of right.tree) (length right.reading.variables)
      rises = rise_on (length s.variables) (length left.reading.variables) (length right.reading.variables) (binders_of left.tree) (binders_of right.tree) l.rise r.rise

      by : (c : Connective) → FormulaGood scope s (record { tree = joined_by c left.tree right.tree; reading = right.reading })
      by And = record { grows = grown; known = pair_known; rise = rises; brought = pair_brought; below = pair_below }
      by Or = record { grows = grown; known = pair_known; rise = rises; brought = pair_brought; below = pair_below }
      by IfThen = record { grows = grown; known = pair_known; rise = rises; brought = pair_brought; below = pair_below }
      by ThenIf = record { grows = grown; known = pair_known; rise = rises; brought = pair_brought; below = pair_below }
      by IfAndOnlyIf = record { grows = grown; known = pair_known; rise = rises; brought = pair_brought; below = pair_below }

abbrev AllGood : List Bound → (Reading → Made Fol) → Type 0
AllGood scope f = (r : Reading) → FormulaGood scope r (f r)

connected_good : (scope : List Bound) (o : Option Connective) (f g h : Reading → Made Fol) → AllGood scope f → AllGood scope g → AllGood scope h → AllGood scope (by_connective o f g h)
connected_good scope (Some And) f g h a b c s = pair_good scope s (f s) (g (f s).reading) (a s) (b (f s).reading) And
connected_good scope (Some Or) f g h a b c s = pair_good scope s (f s) (g (f s).reading) (a s) (b (f s).reading) Or
connected_good scope (Some IfThen) f g h a b c s = pair_good scope s (f s) (g (f s).reading) (a s) (b (f s).reading) IfThen
connected_good scope (Some ThenIf) f g h a b c s = pair_good scope s (g s) (f (g s).reading) (b s) (a (g s).reading) ThenIf
connected_good scope (Some IfAndOnlyIf) f g h a b c s = pair_good scope s (f s) (g (f s).reading) (a s) (b (f s).reading) IfAndOnlyIf
connected_good scope None f g h a b c s = c s

denial_good : (st : Style) (scope : List Bound) (name : List ℕ) (t : RawTree) (s : Reading) (b : Bool) (m : Made Fol) → FormulaGood scope s m
    → FormulaGood scope s (if b then under negation m else relation_of st scope name (more_raws t no_raws) s)
denial_good st scope name t s true m g = record { grows = g.grows; known = g.known; rise = g.rise; brought = g.brought; below = g.below }
denial_good st scope name t s false m g = relation_good st scope name (more_raws t no_raws) s

-- under a quantifier, which brings the next variable
quantifier_good : (scope : List Bound) (s : Reading) (name : List ℕ) (q : Quantifier) (m : Made Fol)
    → FormulaGood (record { name = name; number = length s.variables } ∷ scope) (with_variable name false s) m → FormulaGood scope s (under (bound_by q (length s.variables)) m)
quantifier_good scope s name q m g = by q
  where
    n : ℕ
    n = length s.variables

    v : Variable
    v = record { name = name; free = false }

    next : length (s.variables ++ v ∷ []) ≡ suc n
    next = count_variable s.variables v

    grown : Grows s m.reading
    grown = grows_on s (with_variable name false s) m.reading (grows_variable name false s) g.grows

    known : m.reading.least ≡ None → (x : ℕ) → IsTrue (is_in x (without n (free_vars_of m.tree))) → IsKnown m.reading scope x
    known least x i = other (x == n) refl (sym (is_in_without x n (free_vars_of m.tree)) ∙ i)
      where
        other : (b : Bool) → (x == n) ≡ b → (if b then false else is_in x (free_vars_of m.tree)) ≡ true → IsKnown m.reading scope x
        other true e j = absurd (false≢true j)
        other false e j = subst (λ (b : Bool). IsTrue (is_free m.reading.variables x || (b || is_bound x scope))) e (g.known least x j)

    rises : Rise n (n ∷ binders_of m.tree) (length m.reading.variables)
    rises = (omega arith, subst (λ (k : ℕ). Rise k (binders_of m.tree) (length m.reading.variables)) next g.rise)

    brought : (x : ℕ) → IsTrue (x == n || is_in x (binders_of m.tree)) → is_free m.reading.variables x ≡ false
    brought x i = elim (or_cases (x == n) (is_in x (binders_of m.tree)) i) [
      | inl e ↦ subst (λ (k : ℕ). is_free m.reading.variables k ≡ false) (sym (eqb-true x n e)) (g.grows.flags n (omega (arith, next)) ∙ is_free_last s.variables v)
      | inr j ↦ g.brought x j
    ]

    by : (q : Quantifier) → FormulaGood scope s (under (bound_by q n) m)
    by All = record { grows = grown; known = known; rise = rises; brought = brought; below = g.below }
    by Exists = record { grows = grown; known = known; rise = rises; brought = brought; below = g.below }

formula_good : (st : Style) (scope : List Bound) (s : Reading) (t : RawTree) → FormulaGood scope s (formula_in st scope s t)
formula_good st scope s (quantified q x t) =
    quantifier_good scope s x q (formula_in st (record { name = x; number = length s.variables } ∷ scope) (with_variable x false s) t)
    (formula_good st (record { name = x; number = length s.variables } ∷ scope) (with_variable x false s) t)
formula_good st scope s (named name no_raws) = sentence_good st scope name s
formula_good st scope s (named name (more_raws t no_raws)) = denial_good st scope name t s (is_denial name) (formula_in st scope s t) (formula_good st scope s t)
formula_good st scope s (named name (more_raws t (more_raws u no_raws))) =
    connected_good scope (connective_of name) (λ r. formula_in st scope r t) (λ r. formula_in st scope r u) (comparison st scope name t u) (λ r. formula_good st scope r t) (λ r. formula_good st scope r u)
    (comparison_good st scope name t u) s
formula_good st scope s (named name (more_raws t (more_raws u (more_raws v ts)))) = relation_good st scope name (more_raws t (more_raws u (more_raws v ts))) s

-- a table only grows
pub table_grows : (st : Style) (table : List Symbol) (t : RawTree) → length table ≤ length (formula_reading st table t).reading.symbols
table_grows st table t = (formula_good st [] (unread table) t).grows.table

pub symbols_below : (st : Style) (table : List Symbol) (t : RawTree) → HasSymbolsBelow (length (formula_reading st table t).reading.symbols) (formula_reading st table t).tree
symbols_below st table t = (formula_good st [] (unread table) t).below

binders_closed : (xs : List ℕ) (f : Fol) → binders_of (closed_over xs f) ≡ xs ++ binders_of f
binders_closed [] f = refl
binders_closed (x ∷ xs) f = ap (λ (ys : List ℕ). x ∷ ys) (binders_closed xs f)

once_on : (xs ys : List ℕ) → IsOnce xs → IsOnce ys → ((x : ℕ) → IsTrue (is_in x xs) → is_in x ys ≡ false) → IsOnce (xs ++ ys)
once_on [] ys h k apart = k
once_on (x ∷ xs) ys h k apart = (
  list_any-append (λ z. x == z) xs ys ∙ or_from (is_in x xs) (is_in x ys) h.0 (apart x (or_left (x == x) (is_in x xs) (eq-eqb x x refl))),
  once_on xs ys h.1 k (λ y i. apart y (or_right (y == x) (is_in y xs) i)),
)

-- a formula without misuse binds each variable once
pub binds_once : (st : Style) (table : List Symbol) (t : RawTree) → (formula_reading st table t).reading.least ≡ None → BindsOnce (formula_reading st table t).tree
binds_once st table t unmet =
    let m = formula_reading st table t in
    let g = formula_good st [] (unread table) t in
    let apart : (x : ℕ) → IsTrue (is_in x (free_vars_of m.tree)) → is_in x (binders_of m.tree) ≡ false = λ x i. false_from_ne_true (is_in x (binders_of m.tree))
    (λ j. true≢false (sym (free x (g.known unmet x i)) ∙ g.brought x j)) in
    subst IsOnce (sym (binders_closed (free_vars_of m.tree) m.tree)) (once_on (free_vars_of m.tree) (binders_of m.tree) (free_vars_once m.tree) (rise_once 0 (length m.reading.variables) (binders_of m.tree) g.rise) apart)
  where
    free : (x : ℕ) → IsTrue (is_free (formula_reading st table t).reading.variables x || false) → IsTrue (is_free (formula_reading st table t).reading.variables x)
    free x i = elim (or_cases (is_free (formula_reading st table t).reading.variables x) false i) [ inl j ↦ j | inr j ↦ absurd (false≢true j) ]

-- so does each that is read whole
pub whole_once : {E : Type 0} (r : Result FormulaRead E) (st : Style) (table : List Symbol) (t : RawTree) (u : List Symbol) → IfOk r (λ f. IsWhole (formula_reading st table t) f u)
    → IfOk r (λ f. f.least ≡ None → BindsOnce (fol_of f.formula.shape))
whole_once (Ok f) st table t u h = λ unmet. subst BindsOnce (sym h.formula) (binds_once st table t (sym h.least ∙ unmet))
whole_once (Err e) st table t u h = tt

pub whole_below : {E : Type 0} (r : Result FormulaRead E) (st : Style) (table : List Symbol) (t : RawTree) (u : List Symbol) → IfOk r (λ f. IsWhole (formula_reading st table t) f u)
    → IfOk r (λ f. HasSymbolsBelow (length u) (fol_of f.formula.shape))
whole_below (Ok f) st table t u h = λ n i. rw h.symbols (symbols_below st table t n (sym (ap (uses_symbol n) h.formula) ∙ i))
whole_below (Err e) st table t u h = tt
