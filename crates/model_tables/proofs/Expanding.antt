-- What an expansion keeps, and that it picks witnesses.
use Rattle.std.proofs.Common.{◌≡◌, inl, inr, ℕ, zero, suc, ◌+◌, ◌≤◌, ◌==◌, ◌||◌, Bool, true, false, if◌then◌else◌, IsTrue, List, [], ◌∷◌, map, slice_index, refl, sym, ap, ap₂, ◌∙◌, subst, arith}
use Rattle.std.specs.Prelude.{nat_le}
use Rattle.std.proofs.lemmas.Bool.{or_left, or_right, eqb-true, eq-eqb, cases_Bool, false≢true, true≢false}
use Rattle.std.proofs.lemmas.Bool.Decides.{nat_tests}
use Rattle.std.proofs.lemmas.List.{length-map}
use Rattle.fol_core.specs.Bound.{has_symbol, have_symbol, uses_symbol}
use Rattle.fol_core.specs.Fol.{Fol, verum, falsum, equal, atom, negation, conjunction, disjunction, implication, equivalence, forall, exists}
use Rattle.fol_core.specs.Free.{is_in, free_vars_of, closure_of, closed_over}
use Rattle.fol_core.specs.Meaning.{Meaning}
use Rattle.fol_problem.specs.Stated.{Said, IsAsRoled, IsCountermodel, AreNewTo}
use Rattle.fol_core.specs.Tree.{Tree, var, elem, app, Trees, none, more}
use Rattle.fol_core.specs.Truth.{Assignment, with_var, value_of, values_of, Holds}
use Rattle.fol_core.specs.SkolemAxioms.{SkolemAxiom, PicksWitness, PicksWitnesses, AreNotIn, IsApart, IsClosedBody, AreInOrder}
use Rattle.fol_problem.specs.declared.problem.Role.{Role}
use Rattle.fol_problem.specs.declared.problem.Role.TheVariants.{Assumption, Usable, Demodulator, Goal}
use Rattle.fol_core.specs.declared.symbols.Kind.TheVariants.{Function}
use Rattle.fol_core.proofs.TruthLemmas.{free_decide}
use Rattle.model_tables.specs.Expansion.{assigned, IsWitness, IsLeastWitness, with_row, with_values, IsExpansion}
use Rattle.model_tables.specs.Size.{AllBelow}
use Rattle.model_tables.specs.Tables.{Listing, Finite, listing, row_of, place_from, element, meaning_of}

-- two interpretations with the same elements, in which each symbol of a formula means the same
module _ (m n : Meaning) (within : m.within ≡ n.within) where
  abbrev SameAt : ℕ → Type 0
  SameAt s = (m.function s ≡ n.function s) × (m.relation s ≡ n.relation s)

  mutual
    same_value : (t : Tree) → ((s : ℕ) → IsTrue (has_symbol s t) → SameAt s) → (e : Assignment) → value_of m e t ≡ value_of n e t
    same_value (var x) same e = refl
    same_value (elem k) same e = refl
    same_value (app f ts) same e = ap₂ (λ (g : List ℕ → ℕ) (vs : List ℕ). g vs) (same f (or_left (f == f) (have_symbol f ts) (eq-eqb f f refl))).0 (same_values ts (λ s i. same s (or_right (s == f) (have_symbol s ts) i)) e)

    same_values : (ts : Trees) → ((s : ℕ) → IsTrue (have_symbol s ts) → SameAt s) → (e : Assignment) → values_of m e ts ≡ values_of n e ts
    same_values none same e = refl
    same_values (more t ts) same e = ap₂ (λ v vs. v ∷ vs) (same_value t (λ s i. same s (or_left (has_symbol s t) (have_symbol s ts) i)) e) (same_values ts (λ s i. same s (or_right (has_symbol s t) (have_symbol s ts) i)) e)

  same_truth : (f : Fol) → ((s : ℕ) → IsTrue (uses_symbol s f) → SameAt s) → (e : Assignment) → Holds m e f ≡ Holds n e f
  same_truth verum same e = refl
  same_truth falsum same e = refl
  same_truth (equal s t) same e =
      let l = same_value s (λ r i. same r (or_left (has_symbol r s) (has_symbol r t) i)) e in
      let r = same_value t (λ r i. same r (or_right (has_symbol r s) (has_symbol r t) i)) e in
      λ i. l i ≡ r i
  same_truth (atom r ts) same e =
      let l = (same r (or_left (r == r) (have_symbol r ts) (eq-eqb r r refl))).1 in
      let vs = same_values ts (λ s i. same s (or_right (s == r) (have_symbol s ts) i)) e in
      λ i. IsTrue (l i (vs i))
  same_truth (negation f) same e = let h = same_truth f same e in λ i. ¬ h i
  same_truth (conjunction f g) same e =
      let l = same_truth f (λ s i. same s (or_left (uses_symbol s f) (uses_symbol s g) i)) e in
      let r = same_truth g (λ s i. same s (or_right (uses_symbol s f) (uses_symbol s g) i)) e in
      λ i. l i × r i
  same_truth (disjunction f g) same e =
      let l = same_truth f (λ s i. same s (or_left (uses_symbol s f) (uses_symbol s g) i)) e in
      let r = same_truth g (λ s i. same s (or_right (uses_symbol s f) (uses_symbol s g) i)) e in
      λ i. ¬ (¬ l i × ¬ r i)
  same_truth (implication f g) same e =
      let l = same_truth f (λ s i. same s (or_left (uses_symbol s f) (uses_symbol s g) i)) e in
      let r = same_truth g (λ s i. same s (or_right (uses_symbol s f) (uses_symbol s g) i)) e in
      λ i. l i → r i
  same_truth (equivalence f g) same e =
      let l = same_truth f (λ s i. same s (or_left (uses_symbol s f) (uses_symbol s g) i)) e in
      let r = same_truth g (λ s i. same s (or_right (uses_symbol s f) (uses_symbol s g) i)) e in
      λ i. (l i → r i) × (r i → l i)
  same_truth (forall x f) same e = let h = λ (k : ℕ). same_truth f same (with_var e x k) in λ i. (k : ℕ) → IsTrue (within i k) → h k i
  same_truth (exists x f) same e = let h = λ (k : ℕ). same_truth f same (with_var e x k) in λ i. ¬ ((k : ℕ) → IsTrue (within i k) → ¬ h k i)

-- what the symbol with such a row means
abbrev function_of : ℕ → List ℕ → List ℕ → ℕ
function_of top row xs = let v = slice_index row (place_from (top + 1) 0 xs) in if nat_le v top then v else 0

abbrev relation_of : ℕ → List ℕ → List ℕ → Bool
relation_of top row xs = slice_index row (place_from (top + 1) 0 xs) == 1

-- tables in which the symbols of a formula have the same rows
pub same_rows : (t u : Finite) (f : Fol) → u.top ≡ t.top → ((s : ℕ) → IsTrue (uses_symbol s f) → row_of u s ≡ row_of t s) → (e : Assignment) → Holds (meaning_of u) e f ≡ Holds (meaning_of t) e f
same_rows t u f top rows e = same_truth (meaning_of u) (meaning_of t) (ap (λ (k : ℕ). λ (x : ℕ). nat_le x k) top) f
    (λ s i. (λ j. function_of (top j) (rows s i j), λ j. relation_of (top j) (rows s i j))) e

-- a row that is put in, and the others
pub row_own : (rs : List Listing) (top s : ℕ) (l : Listing) → row_of (record { top = top; rows = with_row rs s l }) s ≡ l.values
row_own [] top zero l = refl
row_own [] top (suc s) l = row_own [] top s l
row_own (r ∷ rs) top zero l = refl
row_own (r ∷ rs) top (suc s) l = row_own rs top s l

row_other : (rs : List Listing) (top s k : ℕ) (l : Listing) → (s ≡ k → ⊥) → row_of (record { top = top; rows = with_row rs s l }) k ≡ row_of (record { top = top; rows = rs }) k
row_other [] top zero zero l apart = absurd (apart refl)
row_other [] top zero (suc k) l apart = refl
row_other [] top (suc s) zero l apart = refl
row_other [] top (suc s) (suc k) l apart = row_other [] top s k l (λ e. apart (ap suc e))
row_other (r ∷ rs) top zero zero l apart = absurd (apart refl)
row_other (r ∷ rs) top zero (suc k) l apart = refl
row_other (r ∷ rs) top (suc s) zero l apart = refl
row_other (r ∷ rs) top (suc s) (suc k) l apart = row_other rs top s k l (λ e. apart (ap suc e))

-- an expansion has the same elements, and the rows of other symbols
pub same_top : (ws : List SkolemAxiom) (t u : Finite) → IsExpansion t ws u → u.top ≡ t.top
same_top [] t u h = ap (λ (v : Finite). v.top) h
same_top (w ∷ ws) t u h = same_top ws (with_values t w.symbol h.0) u h.1.1

pub kept_row : (ws : List SkolemAxiom) (t u : Finite) → IsExpansion t ws u → (s : ℕ) → IsApart s ws → row_of u s ≡ row_of t s
kept_row [] t u h s apart = ap (λ (v : Finite). row_of v s) h
kept_row (w ∷ ws) t u h s apart =
    kept_row ws (with_values t w.symbol h.0) u h.1.1 s apart.1
    ∙ row_other t.rows t.top w.symbol s (listing Function h.0) (λ e. true≢false (sym (eq-eqb w.symbol s e) ∙ apart.0))

-- a symbol of a formula that has none of theirs is apart from them
pub used_apart : (ws : List SkolemAxiom) (f : Fol) → AreNotIn ws f → (s : ℕ) → IsTrue (uses_symbol s f) → IsApart s ws
used_apart [] f h s i = tt
used_apart (w ∷ ws) f h s i = (
  elim (cases_Bool (w.symbol == s)) [
    | inl e ↦ absurd (true≢false (sym i ∙ subst (λ (k : ℕ). uses_symbol k f ≡ false) (eqb-true w.symbol s e) h.0))
    | inr e ↦ e
  ],
  used_apart ws f h.1 s i,
)

pub kept_truth : (ws : List SkolemAxiom) (t u : Finite) → IsExpansion t ws u → (e : Assignment) (f : Fol) → AreNotIn ws f → Holds (meaning_of u) e f ≡ Holds (meaning_of t) e f
kept_truth ws t u h e f new = same_rows t u f (same_top ws t u h) (λ s i. kept_row ws t u h s (used_apart ws f new s i)) e

uses_closed : (s : ℕ) (xs : List ℕ) (f : Fol) → uses_symbol s (closed_over xs f) ≡ uses_symbol s f
uses_closed s [] f = refl
uses_closed s (x ∷ xs) f = uses_closed s xs f

closure_new : (ws : List SkolemAxiom) (f : Fol) → AreNotIn ws f → AreNotIn ws (closure_of f)
closure_new [] f h = tt
closure_new (w ∷ ws) f h = (uses_closed w.symbol (free_vars_of f) f ∙ h.0, closure_new ws f h.1)

kept_role : (ws : List SkolemAxiom) (t u : Finite) → IsExpansion t ws u → (role : Role) (f : Fol) → AreNotIn ws f → IsAsRoled (meaning_of u) role f ≡ IsAsRoled (meaning_of t) role f
kept_role ws t u h Assumption f new = kept_truth ws t u h (λ x. 0) (closure_of f) (closure_new ws f new)
kept_role ws t u h Usable f new = kept_truth ws t u h (λ x. 0) (closure_of f) (closure_new ws f new)
kept_role ws t u h Demodulator f new = kept_truth ws t u h (λ x. 0) (closure_of f) (closure_new ws f new)
kept_role ws t u h Goal f new = let same = kept_truth ws t u h (λ x. 0) (closure_of f) (closure_new ws f new) in λ i. ¬ same i

pub kept_countermodel : (ws : List SkolemAxiom) (t u : Finite) → IsExpansion t ws u → (ss : List Said) → AreNewTo ss ws → IsCountermodel (meaning_of u) ss ≡ IsCountermodel (meaning_of t) ss
kept_countermodel ws t u h [] new = refl
kept_countermodel ws t u h (s ∷ ss) new =
    let role = kept_role ws t u h s.role s.formula new.0 in
    let rest = kept_countermodel ws t u h ss new.1 in
    λ i. role i × rest i

-- the elements of variables are what an assignment gives them
pub assigned_own : (e : Assignment) (xs : List ℕ) (y : ℕ) → IsTrue (is_in y xs) → assigned xs (map e xs) y ≡ e y
assigned_own e [] y i = absurd (false≢true i)
assigned_own e (x ∷ xs) y i = by (y == x) refl i (assigned_own e xs y)
  where
    by : (b : Bool) → (y == x) ≡ b → IsTrue (b || is_in y xs) → (IsTrue (is_in y xs) → assigned xs (map e xs) y ≡ e y) → (if b then e x else assigned xs (map e xs) y) ≡ e y
    by true h i rest = ap e (sym (eqb-true y x h))
    by false h i rest = rest i

all_below : (top : ℕ) (e : Assignment) (xs : List ℕ) → ((x : ℕ) → IsTrue (nat_le (e x) top)) → AllBelow (top + 1) (map e xs)
all_below top e [] h = tt
all_below top e (x ∷ xs) h = (let i = h x in grind (arith, nat_tests), all_below top e xs h)

element_itself : (t : Finite) (v : ℕ) → v ≤ t.top → element t v ≡ v
element_itself t v h = grind (arith, nat_tests)

pub within_below : (top n : ℕ) → IsTrue (nat_le n top) → n ≤ top
within_below top n h = grind (arith, nat_tests)

-- assignments that agree on a witness's variables agree on its body
pub same_witness : (t : Finite) (w : SkolemAxiom) → IsClosedBody w → (d e : Assignment) → ((x : ℕ) → IsTrue (is_in x w.variables) → d x ≡ e x) → (n : ℕ) → IsWitness t d w n → IsWitness t e w n
same_witness t w closed d e same n h = (free_decide (meaning_of t) (with_var d w.variable n) (with_var e w.variable n) w.body (λ x i. by (x == w.variable) x (closed.1 x i))).0 h
  where
    by : (b : Bool) (x : ℕ) → IsTrue (b || is_in x w.variables) → (if b then n else d x) ≡ (if b then n else e x)
    by true x i = refl
    by false x i = same x i

-- the least witness is a witness, where there is one
picked : (t : Finite) (e : Assignment) (w : SkolemAxiom) (v n : ℕ) → IsLeastWitness t e w v → n ≤ t.top → IsWitness t e w n → (v ≤ t.top) × IsWitness t e w v
picked t e w v n (inl h) le is = (h.0, h.1)
picked t e w v n (inr h) le is = absurd (h.1 n le is)

pub expansion_picks : (ws : List SkolemAxiom) (t u : Finite) → AreInOrder ws → IsExpansion t ws u → PicksWitnesses (meaning_of u) ws
expansion_picks [] t u order h = tt
expansion_picks (w ∷ ws) t u order h = (picks, expansion_picks ws (with_values t w.symbol h.0) u order.3 h.1.1)
  where
    top : u.top ≡ t.top
    top = same_top (w ∷ ws) t u h

    row : row_of u w.symbol ≡ h.0
    row = kept_row ws (with_values t w.symbol h.0) u h.1.1 w.symbol order.2 ∙ row_own t.rows t.top w.symbol (listing Function h.0)

    body : (e : Assignment) → Holds (meaning_of u) e w.body ≡ Holds (meaning_of t) e w.body
    body e = kept_truth (w ∷ ws) t u h e w.body order.1

    picks : PicksWitness (meaning_of u) w
    picks e within n i holds =
        let ns = map e w.variables in
        let d = assigned w.variables ns in
        let same : (x : ℕ) → IsTrue (is_in x w.variables) → d x ≡ e x = assigned_own e w.variables in
        let v = slice_index h.0 (place_from (t.top + 1) 0 ns) in
        let below = all_below u.top e w.variables within in
        let least = h.1.0.1 ns (length-map w.variables e) (subst (λ (k : ℕ). AllBelow (k + 1) ns) top below) in
        let there = same_witness t w order.0 e d (λ x i. sym (same x i)) n (subst (λ (T : Type 0). T) (body (with_var e w.variable n)) holds) in
        let found = picked t d w v n least (subst (λ (k : ℕ). n ≤ k) top (within_below u.top n i)) there in
        let at : (meaning_of u).function w.symbol ns ≡ v = (λ j. function_of (top j) (row j) ns) ∙ element_itself t v found.0 in
        subst (λ (T : Type 0). T) (sym (body (with_var e w.variable ((meaning_of u).function w.symbol ns))))
        (subst (λ (k : ℕ). IsWitness t e w k) (sym at) (same_witness t w order.0 d e same v found.1))
