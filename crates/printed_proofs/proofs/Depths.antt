-- A formula that was read is printed with no more levels than its term had, and with a label of it.
use Rattle.std.proofs.Common.{◌≡◌, ℕ, suc, ◌≤◌, Bool, true, false, List, [], ◌∷◌, length, Option, Some, None, refl, ap, arith}
use Rattle.std.specs.Prelude.{max, if◌then◌else◌, IfSome, codes}
use Rattle.std.specs.Str.{bytes_eq}
use Rattle.std.proofs.lemmas.Bool.{cond_both}
use Rattle.fol_core.specs.Fol.{Fol, conjunction, disjunction, implication, equivalence}
use Rattle.fol_core.specs.RawTree.{RawTree, named, quantified, RawTrees, no_raws, more_raws, depth, depth_of}
use Rattle.fol_core.specs.SymbolTable.{Symbol}
use Rattle.fol_core.specs.Tree.{Tree}
use Rattle.fol_core.specs.declared.raw.Quantifier.{Quantifier}
use Rattle.fol_core.specs.declared.raw.Quantifier.TheVariants.{All, Exists}
use Rattle.fol_core.specs.declared.symbols.Kind.TheVariants.{Function, Relation}
use Rattle.ladr_formulas.specs.Formulas.{Reading, Made, Bound, meets, with_variable, named_variable, with_symbol, arity_of, is_element, is_too_great, constant_as, term_of, terms_of, relation_of, sentence_as, equation_read, bound_by, is_denial, connective_of, connective_read, by_connective, comparison, formula_in}
use Rattle.ladr_formulas.specs.declared.connectives.Connective.{Connective}
use Rattle.ladr_formulas.specs.declared.connectives.Connective.TheVariants.{And, Or, IfThen, ThenIf, IfAndOnlyIf}
use Rattle.ladr_formulas.specs.declared.styles.Style.{Style}
use Rattle.ladr_lex.specs.declared.limits.TheConstants.{MOST_LEVELS}
use Rattle.ladr_lex.specs.declared.misuse.Misuse.TheVariants.{QuantifierInTerm, UnfitNumeral}
use Rattle.ladr_print.specs.FormulaText.{two, denial, formula_raw, with_attribute}
use Rattle.ladr_print.specs.TermText.{Naming, term_raw, terms_raw}
use Rattle.ladr_rules.specs.Attributes.{Attributed, attributed, attributes_in, is_label, label_of}
use Rattle.proof_print.specs.Formulas.{is_kept_label}

denied : (t : RawTree) → depth (denial t) ≤ suc (depth t)
denied (quantified q x t) = omega arith
denied (named n no_raws) = omega arith
denied (named n (more_raws t no_raws)) = omega arith
denied (named n (more_raws t (more_raws u no_raws))) =
    cond_both (bytes_eq n (codes "=")) _ _ (λ (r : RawTree). depth r ≤ suc (depth (two n t u))) (λ e. omega arith) (λ e. omega arith)
denied (named n (more_raws t (more_raws u (more_raws w ts)))) = omega arith

module _ (T : List Symbol) (v : Naming) (st : Style) where
  abbrev term_levels : Made Tree → ℕ
  term_levels m = depth (term_raw T v m.tree)

  constant_levels : (name : List ℕ) (o : Option ℕ) (s : Reading) → term_levels (constant_as st name o s) ≤ 1
  constant_levels name (Some n) s = omega arith
  constant_levels name None s = cond_both (is_element st name) _ _ (λ (m : Made Tree). term_levels m ≤ 1) (λ e. omega arith) (λ e. omega arith)

  mutual
    terms_levels : (scope : List Bound) (s : Reading) (ts : RawTrees) → depth_of (terms_raw T v (terms_of st scope s ts).tree) ≤ depth_of ts
    terms_levels scope s no_raws = omega arith
    terms_levels scope s (more_raws t ts) =
        let first = term_of st scope s t in
        omega (arith, levels scope s t, terms_levels scope first.reading ts)

    levels : (scope : List Bound) (s : Reading) (t : RawTree) → term_levels (term_of st scope s t) ≤ depth t
    levels scope s (quantified q x t) =
        omega (arith, levels (record { name = x; number = length s.variables } ∷ scope) (with_variable x false (meets true QuantifierInTerm s)) t)
    levels scope s (named name no_raws) =
        constant_levels name (named_variable st scope name s).tree (named_variable st scope name s).reading
    levels scope s (named name (more_raws t ts)) =
        let after = with_symbol name (suc (arity_of ts)) Function (meets (is_too_great st name) UnfitNumeral s) in
        omega (arith, terms_levels scope after (more_raws t ts))

  -- formulas
  abbrev Within : ℕ → Made Fol → Type 0
  Within n m = depth (formula_raw T v m.tree) ≤ n

  relation_levels : (scope : List Bound) (name : List ℕ) (ts : RawTrees) (s : Reading) → Within (suc (depth_of ts)) (relation_of st scope name ts s)
  relation_levels scope name ts s =
      let after = with_symbol name (arity_of ts) Relation (meets (is_element st name) UnfitNumeral s) in
      omega (arith, terms_levels scope after ts)

  sentence_levels : (scope : List Bound) (name : List ℕ) (o : Option ℕ) (s : Reading) → Within 1 (sentence_as st scope name o s)
  sentence_levels scope name (Some n) s = omega arith
  sentence_levels scope name None s =
      cond_both (bytes_eq name (codes "$T")) _ _ (Within 1) (λ e. omega arith)
      (λ j. cond_both (bytes_eq name (codes "$F")) _ _ (Within 1) (λ e. omega arith) (λ k. relation_levels scope name no_raws s))

  equation_levels : (scope : List Bound) (t u : RawTree) (s : Reading) → Within (suc (max (depth t) (depth u))) (equation_read st scope t u s)
  equation_levels scope t u s =
      let left = term_of st scope s t in
      omega (arith, levels scope s t, levels scope left.reading u)

  inequation_levels : (scope : List Bound) (t u : RawTree) (s : Reading) → depth (denial (formula_raw T v (equation_read st scope t u s).tree)) ≤ suc (max (depth t) (depth u))
  inequation_levels scope t u s =
      let left = term_of st scope s t in
      omega (arith, levels scope s t, levels scope left.reading u)

  comparison_levels : (scope : List Bound) (name : List ℕ) (t u : RawTree) (s : Reading) → Within (suc (max (depth t) (depth u))) (comparison st scope name t u s)
  comparison_levels scope name t u s =
      cond_both (bytes_eq name (codes "=")) _ _ (Within (suc (max (depth t) (depth u)))) (λ e. equation_levels scope t u s)
      (λ j. cond_both (bytes_eq name (codes "!=")) _ _ (Within (suc (max (depth t) (depth u)))) (λ e. inequation_levels scope t u s)
      (λ k. omega (arith, relation_levels scope name (more_raws t (more_raws u no_raws)) s)))

  joined_levels : (join : Fol → Fol → Fol) (word : List ℕ) → ((a b : Fol) → formula_raw T v (join a b) ≡ two word (formula_raw T v a) (formula_raw T v b)) → (p q : Reading → Made Fol) (n m : ℕ)
      → ((s : Reading) → Within n (p s)) → ((s : Reading) → Within m (q s)) → (s : Reading) → Within (suc (max n m)) (connective_read join p q s)
  joined_levels join word is p q n m h k s =
      omega (arith, ap depth (is (p s).tree (q (p s).reading).tree), h s, k (p s).reading)

  connective_levels : (o : Option Connective) (p q c : Reading → Made Fol) (n m : ℕ) → ((s : Reading) → Within n (p s)) → ((s : Reading) → Within m (q s)) → ((s : Reading) → Within (suc (max n m)) (c s))
      → (s : Reading) → Within (suc (max n m)) (by_connective o p q c s)
  connective_levels None p q c n m h k l s = l s
  connective_levels (Some And) p q c n m h k l s = joined_levels conjunction (codes "&") (λ a b. refl) p q n m h k s
  connective_levels (Some Or) p q c n m h k l s = joined_levels disjunction (codes "|") (λ a b. refl) p q n m h k s
  connective_levels (Some IfThen) p q c n m h k l s = joined_levels implication (codes "->") (λ a b. refl) p q n m h k s
  connective_levels (Some ThenIf) p q c n m h k l s = omega (arith, joined_levels implication (codes "->") (λ a b. refl) q p m n k h s)
  connective_levels (Some IfAndOnlyIf) p q c n m h k l s = joined_levels equivalence (codes "<->") (λ a b. refl) p q n m h k s

  bound_levels : (q : Quantifier) (n k : ℕ) (f : Fol) → depth (formula_raw T v f) ≤ k → depth (formula_raw T v (bound_by q n f)) ≤ suc k
  bound_levels All n k f h = omega (arith, h)
  bound_levels Exists n k f h = omega (arith, h)

  pub formula_levels : (t : RawTree) (scope : List Bound) (s : Reading) → Within (depth t) (formula_in st scope s t)
  formula_levels (quantified q x t) scope s =
      bound_levels q (length s.variables) (depth t) _ (formula_levels t (record { name = x; number = length s.variables } ∷ scope) (with_variable x false s))
  formula_levels (named name no_raws) scope s = sentence_levels scope name (named_variable st scope name s).tree (named_variable st scope name s).reading
  formula_levels (named name (more_raws t no_raws)) scope s =
      cond_both (is_denial name) _ _ (Within (suc (max (depth t) 0))) (λ e. omega (arith, denied (formula_raw T v (formula_in st scope s t).tree), formula_levels t scope s)) (λ k. relation_levels scope name (more_raws t no_raws) s)
  formula_levels (named name (more_raws t (more_raws u no_raws))) scope s =
      let all = connective_levels (connective_of name) (λ r. formula_in st scope r t) (λ r. formula_in st scope r u) (comparison st scope name t u) (depth t) (depth u)
      (λ z. formula_levels t scope z) (λ z. formula_levels u scope z) (λ z. comparison_levels scope name t u z) s in
      omega (arith, all)
  formula_levels (named name (more_raws t (more_raws u (more_raws w ts)))) scope s = relation_levels scope name (more_raws t (more_raws u (more_raws w ts))) s

-- the label that is kept is one, and stands among the attributes
label_kept : (ts : List RawTree) → is_kept_label (label_of ts) ≡ true
label_kept [] = refl
label_kept (t ∷ ts) = by (is_label t) refl (label_kept ts)
  where
    by : (b : Bool) → is_label t ≡ b → is_kept_label (label_of ts) ≡ true → is_kept_label (if b then Some t else label_of ts) ≡ true
    by true e later = e
    by false e later = later

abbrev AllWithin : ℕ → List RawTree → Type 0
AllWithin n [] = Unit {0}
AllWithin n (t ∷ ts) = (depth t ≤ n) × AllWithin n ts

wider : (n m : ℕ) (ts : List RawTree) → n ≤ m → AllWithin n ts → AllWithin m ts
wider n m [] h k = tt
wider n m (t ∷ ts) h k = (omega (arith, h, k.0), wider n m ts h k.1)

attributes_levels : (t : RawTree) → AllWithin (depth t) (attributes_in t)
attributes_levels (quantified q x t) = (omega arith, tt)
attributes_levels (named s no_raws) = (omega arith, tt)
attributes_levels (named s (more_raws t no_raws)) = (omega arith, tt)
attributes_levels (named s (more_raws t (more_raws u no_raws))) =
    cond_both (bytes_eq s (codes "#")) _ _ (AllWithin (depth (two s t u)))
    (λ e. (omega arith, wider (depth u) (depth (two s t u)) (attributes_in u) (omega arith) (attributes_levels u))) (λ e. (omega arith, tt))
attributes_levels (named s (more_raws t (more_raws u (more_raws w ts)))) = (omega arith, tt)

label_levels : (n : ℕ) (ts : List RawTree) → AllWithin n ts → IfSome (label_of ts) (λ l. depth l ≤ n)
label_levels n [] h = tt
label_levels n (t ∷ ts) h = cond_both (is_label t) _ _ (λ (o : Option RawTree). IfSome o (λ l. depth l ≤ n)) (λ e. h.0) (λ e. label_levels n ts h.1)

with_label : (o : Option RawTree) (t : RawTree) (n m : ℕ) → depth t ≤ n → IfSome o (λ l. depth l ≤ m) → suc (max n m) ≤ MOST_LEVELS → depth (with_attribute o t) ≤ MOST_LEVELS
with_label None t n m h k l = omega (arith, h, l)
with_label (Some u) t n m h k l = omega (arith, h, k, l)

-- a formula of such a term is printed with its label in at most as many levels
pub labelled_levels : (t u : RawTree) → depth t ≤ MOST_LEVELS → depth u ≤ depth (attributed t).formula → depth (with_attribute (label_of (attributed t).attributes) u) ≤ MOST_LEVELS
labelled_levels (quantified q x t) u h k = omega (arith, h, k)
labelled_levels (named s no_raws) u h k = omega (arith, h, k)
labelled_levels (named s (more_raws t no_raws)) u h k = omega (arith, h, k)
labelled_levels (named s (more_raws t (more_raws w no_raws))) u h i =
    cond_both (bytes_eq s (codes "#")) (record { formula = t; attributes = attributes_in w }) (record { formula = two s t w; attributes = [] })
    (λ (a : Attributed). depth u ≤ depth a.formula → depth (with_attribute (label_of a.attributes) u) ≤ MOST_LEVELS)
    (λ e k. with_label (label_of (attributes_in w)) u (depth t) (depth w) k (label_levels (depth w) (attributes_in w) (attributes_levels w)) (omega (arith, h)))
    (λ e k. omega (arith, h, k)) i
labelled_levels (named s (more_raws t (more_raws w (more_raws x ts)))) u h k = omega (arith, h, k)

pub kept_label : (t : RawTree) → is_kept_label (label_of (attributed t).attributes) ≡ true
kept_label t = label_kept (attributed t).attributes
