-- What goals ask for may be asked of them.
use Rattle.std.proofs.Common.{◌≡◌, ℕ, suc, ◌≤◌, ◌<◌, ◌+◌, Bool, true, false, ◌&&◌, List, [], ◌∷◌, ◌++◌, map, length, Option, Some, None, if◌then◌else◌, refl, sym, ap, subst, arith}
use Rattle.std.specs.List.{AllByRecursion}
use Rattle.std.specs.Option.{option_and_then, option_map_or}
use Rattle.std.specs.Str.{bytes_eq}
use Rattle.std.specs.Prelude.{codes}
use Rattle.std.proofs.lemmas.Bool.{and_parts}
use Rattle.std.proofs.lemmas.List.{length_push}
use Rattle.std.proofs.lemmas.List.Elements.{recursion_from_All}
use Rattle.fol_core.specs.Bound.{IsOnce}
use Rattle.fol_core.specs.Fol.{Fol}
use Rattle.fol_core.specs.Free as numbers
use Rattle.fol_core.specs.Free.{free_vars_of}
use Rattle.fol_core.specs.NamesOnce.{is_in}
use Rattle.fol_core.specs.RawTree.{RawTree, RawTrees, named, quantified, no_raws, more_raws}
use Rattle.fol_core.specs.declared.raw.Quantifier.TheVariants as quantifier
use Rattle.fol_core.proofs.KboLemmas.{place_within}
use Rattle.fol_core.proofs.Variables.{noted_once}
use Rattle.fol_problem.specs.Asks.{prefix_of, IsLiveOr, AreLive}
use Rattle.fol_problem.specs.declared.problem.Input.{Input}
use Rattle.fol_problem.specs.declared.problem.Role.{Role}
use Rattle.fol_core.specs.SymbolTable.{Symbol}
use Rattle.ladr_formulas.specs.Formulas.{Bound, Reading, formula_in, formula_reading, unread, with_variable}
use Rattle.ladr_formulas.specs.declared.styles.Mode.{Mode}
use Rattle.ladr_formulas.specs.declared.styles.Style.{Style}
use Rattle.ladr_lex.specs.Operators.{OperatorRow}
use Rattle.ladr_rules.specs.Asked.{asked, asked_among, asked_by, asked_of, front_of, new_place, place_of, places_behind, unless_among}
use Rattle.ladr_rules.specs.Attributes.{attributed}
use Rattle.ladr_settings.specs.declared.lists.FormulaList.{FormulaList}
use Rattle.ladr_problem.specs.Adding.{is_closed, is_goals, kept_answer, style_in}
use Rattle.ladr_problem.specs.Growth.{Grown}
use Rattle.ladr_problem.specs.Sofar.{Sofar, Listed, input_of}
use Rattle.ladr_problem.proofs.History.{IsStated, stated_each}

-- no more names in front than quantifiers
front_within : (st : Style) (scope : List Bound) (s : Reading) (names : List (List ℕ)) (t : RawTree) (front : List (List ℕ)) → front_of names t ≡ Some front
    → length front ≤ length names + length (prefix_of (formula_in st scope s t).tree)
front_within st scope s names (named w ts) front e = let same : names ≡ front = cc in let l = ap length same in omega (arith, l)
front_within st scope s names (quantified quantifier.All x t) front e = let same : names ≡ front = cc in let l = ap length same in omega (arith, l)
front_within st scope s names (quantified quantifier.Exists x t) front e =
    by (is_in x names) e (front_within st (record { name = x; number = length s.variables } ∷ scope) (with_variable x false s) (names ++ x ∷ []) t front)
  where
    inner : Fol
    inner = (formula_in st (record { name = x; number = length s.variables } ∷ scope) (with_variable x false s) t).tree

    by : (b : Bool) → (if b then None else front_of (names ++ x ∷ []) t) ≡ Some front
        → (front_of (names ++ x ∷ []) t ≡ Some front → length front ≤ length (names ++ x ∷ []) + length (prefix_of inner)) → length front ≤ length names + suc (length (prefix_of inner))
    by true h rest = cc
    by false h rest = let r = rest h in omega (arith, r, length_push names x)

-- different places below a number
pub record AreGood (n : ℕ) (places : List ℕ) : Type 0 where
  pub within : AllByRecursion (λ k. k < n) places
  pub once : IsOnce places

all_more : (P : ℕ → Type 0) (xs : List ℕ) (x : ℕ) → AllByRecursion P xs → P x → AllByRecursion P (xs ++ x ∷ [])
all_more P [] x h p = (p, tt)
all_more P (y ∷ ys) x h p = (h.0, all_more P ys x h.1 p)

place_below : (front : List (List ℕ)) (t : RawTree) (k : ℕ) → place_of front t ≡ Some k → k < length front
place_below front (named w no_raws) k e = place_within w front k e
place_below front (named w (more_raws t ts)) k e = cc
place_below front (quantified q x t) k e = cc

good_next : (front : List (List ℕ)) (places : List ℕ) (t : RawTree) (k : ℕ) → AreGood (length front) places → new_place front places t ≡ Some k → AreGood (length front) (places ++ k ∷ [])
good_next front places t k g e = by (place_of front t) refl e
  where
    new : (j : ℕ) (b : Bool) → numbers.is_in j places ≡ b → place_of front t ≡ Some j → (if b then None else Some j) ≡ Some k → AreGood (length front) (places ++ k ∷ [])
    new j true out at h = cc
    new j false out at h =
        let same : j ≡ k = cc in
        subst (λ i. AreGood (length front) (places ++ i ∷ [])) same (record { within = all_more (λ i. i < length front) places j g.within (place_below front t j at); once = noted_once places j g.once out })

    by : (o : Option ℕ) → place_of front t ≡ o → option_and_then (unless_among places) o ≡ Some k → AreGood (length front) (places ++ k ∷ [])
    by None at h = cc
    by (Some j) at h = new j (numbers.is_in j places) refl at h

good_behind : (front : List (List ℕ)) (places : List ℕ) (ts : RawTrees) (found : List ℕ) → AreGood (length front) places → places_behind front places ts ≡ Some found → AreGood (length front) found
good_behind front places no_raws found g e = let same : places ≡ found = cc in subst (AreGood (length front)) same g
good_behind front places (more_raws t ts) found g e = by (new_place front places t) refl e (λ ps h. good_behind front ps ts found h)
  where
    by : (o : Option ℕ) → new_place front places t ≡ o → option_and_then (λ k. places_behind front (places ++ k ∷ []) ts) o ≡ Some found
        → ((ps : List ℕ) → AreGood (length front) ps → places_behind front ps ts ≡ Some found → AreGood (length front) found) → AreGood (length front) found
    by None at h rest = cc
    by (Some k) at h rest = rest (places ++ k ∷ []) (good_next front places t k g at) h

good_none : (n : ℕ) → AreGood n []
good_none n = record { within = tt; once = tt }

good_by : (front : List (List ℕ)) (t : RawTree) (found : List ℕ) → asked_by front t ≡ Some found → AreGood (length front) found
good_by front (named s no_raws) found e = cc
good_by front (named s (more_raws t ts)) found e = by (bytes_eq s (codes "answer")) e
  where
    by : (b : Bool) → (if b then places_behind front [] (more_raws t ts) else None) ≡ Some found → AreGood (length front) found
    by true h = good_behind front [] (more_raws t ts) found (good_none (length front)) h
    by false h = cc
good_by front (quantified q x t) found e = cc

good_of : (front : List (List ℕ)) (ts : List RawTree) → AreGood (length front) (asked_of front ts)
good_of front [] = good_none (length front)
good_of front (t ∷ ts) = by (asked_by front t) refl (good_of front ts)
  where
    by : (o : Option (List ℕ)) → asked_by front t ≡ o → AreGood (length front) (asked_of front ts) → AreGood (length front) (option_map_or (λ places. places) o (asked_of front ts))
    by None e rest = rest
    by (Some found) e rest = good_by front t found e

all_below : (m n : ℕ) (xs : List ℕ) → m ≤ n → AllByRecursion (λ k. k < m) xs → AllByRecursion (λ k. k < n) xs
all_below m n [] le h = tt
all_below m n (x ∷ xs) le h = let l = h.0 in (omega (arith, l, le), all_below m n xs le h.1)

good_asked : (st : Style) (before : List Symbol) (t : RawTree) → AreGood (length (prefix_of (formula_reading st before (attributed t).formula).tree)) (asked t)
good_asked st before t = by (front_of [] (attributed t).formula) refl
  where
    by : (o : Option (List (List ℕ))) → front_of [] (attributed t).formula ≡ o → AreGood (length (prefix_of (formula_reading st before (attributed t).formula).tree)) (asked_among (attributed t).attributes o)
    by None e = good_none _
    by (Some front) e =
        let le = front_within st [] (unread before) [] (attributed t).formula front e in
        let g = good_of front (attributed t).attributes in
        record { within = all_below (length front) _ (asked_of front (attributed t).attributes) (omega (arith, le)) g.within; once = g.once }

no_free : (xs : List ℕ) → (f : Fol) → free_vars_of f ≡ xs → is_closed f ≡ true → free_vars_of f ≡ []
no_free [] f e h = e
no_free (x ∷ xs) f e h = absurd (let no : is_closed f ≡ false = rw e refl in cc)

live_good : (f : Fol) (places : List ℕ) → free_vars_of f ≡ [] → AreGood (length (prefix_of f)) places → IsLiveOr f places
live_good f [] closed g = tt
live_good f (k ∷ ks) closed g = record { closed = closed; some = omega arith; within = g.within; different = g.once }

live_kept : (list : FormulaList) (f : Fol) (places : List ℕ) → AreGood (length (prefix_of f)) places → IsLiveOr f (kept_answer list places f)
live_kept list f places g = by (is_goals list && is_closed f) refl
  where
    by : (b : Bool) → (is_goals list && is_closed f) ≡ b → IsLiveOr f (if b then places else [])
    by true e = live_good f places (no_free (free_vars_of f) f refl (and_parts (is_goals list) (is_closed f) e).1) g
    by false e = tt

live_stated : (rows : List OperatorRow) (st : Style) (table : List Symbol) (role : Option Role) (l : Listed) → IsStated rows st table role l → IsLiveOr l.formula l.answer
live_stated rows st table role l x =
    subst (λ (k : Listed). IsLiveOr k.formula k.answer) x.is (live_kept x.list (formula_reading st x.before (attributed x.tree).formula).tree (asked x.tree) (good_asked st x.before x.tree))

live_inputs : (is : List Input) → AllByRecursion (λ f. IsLiveOr f.1.formula f.1.answer) (map input_of is) → AreLive is
live_inputs [] h = tt
live_inputs (i ∷ is) h = (h.0, live_inputs is h.1)

-- what has grown asks for what may be asked
pub are_live : (m : Mode) (s : Sofar) → Grown m s → (is : List Input) → map input_of is ≡ s.formulas → AreLive is
are_live m s g is same =
    live_inputs is (subst (AllByRecursion (λ f. IsLiveOr f.1.formula f.1.answer)) (sym same)
    (recursion_from_All _ s.formulas (λ i d lt. live_stated s.settings.operators (style_in m s) s.symbols (Some _) _ (stated_each m s g i d lt))))
