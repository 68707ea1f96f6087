-- The first rule that fits, among what is left.
use Rattle.std.proofs.Common.{◌≡◌, ℕ, ◌+◌, ◌*◌, ◌<◌, ◌≤◌, ◌==◌, Bool, true, false, if◌then◌else◌, List, [], map, drop, get_or, length, Option, Some, None, refl, sym, ap, ap₂, ◌∙◌}
use Rattle.std.specs.Option.{option_map_or}
use Rattle.std.proofs.lemmas.List.{drop_all}
use Rattle.std.proofs.lemmas.Option.{none-some}
use Rattle.fol_core.specs.Tree.{Tree, app, Trees}
use Rattle.fol_core.specs.Weights.{WeightTree, number, of_variable, plus, times}
use Rattle.fol_core.specs.WeightView.{weight_of}
use Rattle.substitutions.specs.Bindings.{Binding}
use Rattle.unifiers.specs.Matching.{bound_term, matched, matched_all}
use Rattle.weights.specs.Parts.{parts_of, parts_weights, stands_among, listed_weight, standing_weight}
use Rattle.weights.specs.Rows.{weight_row}
use Rattle.weights.specs.Weighing.{WeightRow, pattern_of, weight_within, term_weight}
use Rattle.weights.specs.WeighingLaws.{weight_under, variable_weight, first_weight}
use Rattle.weights.specs.declared.patterns.PatternWeight.{PatternWeight}
use Rattle.weights.proofs.Items.{next}
use Rattle.weights.proofs.Listed.{listed, bound_stands}

-- a pattern weighs as much where its variables do
under_same : (f g : ℕ → ℕ) → ((x : ℕ) → f x ≡ g x) → (w : WeightTree) → weight_under f w ≡ weight_under g w
under_same f g h (number n) = refl
under_same f g h (of_variable x) = h x
under_same f g h (plus v w) = ap₂ (λ a b. weight_within (a + b)) (under_same f g h v) (under_same f g h w)
under_same f g h (times v w) = ap₂ (λ a b. weight_within (a * b)) (under_same f g h v) (under_same f g h w)

-- where a pattern fits, a variable that is bound to a term weighs what that does
variable_is : (rs : List WeightRow) (ts : Trees) (bs : List Binding) → ((x : ℕ) (u : Tree) → bound_term bs x ≡ Some u → stands_among (parts_of ts) u ≡ true)
    → (x : ℕ) → variable_weight rs bs x ≡ standing_weight (parts_weights rs ts) bs ts x
variable_is rs ts bs stands x = by (bound_term bs x) (stands x)
  where
    by : (o : Option Tree) → ((u : Tree) → o ≡ Some u → stands_among (parts_of ts) u ≡ true) → option_map_or (term_weight rs) o 1 ≡ option_map_or (listed_weight (parts_weights rs ts) ts) o 1
    by None e = refl
    by (Some u) e = sym (listed (term_weight rs) (parts_of ts) u (e u refl))

all_stand : (p : WeightRow) (f : ℕ) (ts : Trees) (bs : List Binding) → matched (pattern_of p) (app f ts) [] ≡ Some bs → (x : ℕ) (u : Tree) → bound_term bs x ≡ Some u → stands_among (parts_of ts) u ≡ true
all_stand p f ts bs e x u h = by (p.head == f) e
  where
    by : (b : Bool) → (if b then matched_all p.arguments ts [] else None) ≡ Some bs → stands_among (parts_of ts) u ≡ true
    by true d = bound_stands p.arguments ts bs x u d h
    by false d = absurd (none-some bs d)

module _ (rs : List WeightRow) (ps : List PatternWeight) (i : ℕ) (p : PatternWeight) (f : ℕ) (ts : Trees) (h : i < length ps) (is : p ≡ get_or ps i p) where
  step : (o : Option (List Binding)) → matched (pattern_of (weight_row p)) (app f ts) [] ≡ o
      → first_weight rs (map weight_row (drop i ps)) (app f ts)
      ≡ option_map_or (λ bs. Some (weight_under (variable_weight rs bs) (weight_of p.weight.now))) o (first_weight rs (map weight_row (drop (i + 1) ps)) (app f ts))
  step o e =
      ap (λ qs. first_weight rs (map weight_row qs) (app f ts)) (next ps i p h is)
      ∙ ap (λ m. option_map_or (λ bs. Some (weight_under (variable_weight rs bs) (weight_of p.weight.now))) m (first_weight rs (map weight_row (drop (i + 1) ps)) (app f ts))) e

  pub rule_fits : (ks : List ℕ) (bs : List Binding) (n : ℕ) → ks ≡ parts_weights rs ts → matched (pattern_of (weight_row p)) (app f ts) [] ≡ Some bs
      → n ≡ weight_under (standing_weight ks bs ts) (weight_of p.weight.now)
      → first_weight rs (map weight_row (drop i ps)) (app f ts) ≡ Some n
  rule_fits ks bs n known e weighs =
      step (Some bs) e
      ∙ ap (λ m. Some m) (under_same (variable_weight rs bs) (standing_weight (parts_weights rs ts) bs ts) (variable_is rs ts bs (all_stand (weight_row p) f ts bs e)) (weight_of p.weight.now)
      ∙ ap (λ ls. weight_under (standing_weight ls bs ts) (weight_of p.weight.now)) (sym known) ∙ sym weighs)

  pub rule_fails : matched (pattern_of (weight_row p)) (app f ts) [] ≡ None
      → first_weight rs (map weight_row (drop i ps)) (app f ts) ≡ first_weight rs (map weight_row (drop (i + 1) ps)) (app f ts)
  rule_fails e = step None e

pub no_rule : (rs : List WeightRow) (ps : List PatternWeight) (i : ℕ) (t : Tree) → length ps ≤ i → first_weight rs (map weight_row (drop i ps)) t ≡ None
no_rule rs ps i t h = ap (λ qs. first_weight rs (map weight_row qs) t) (drop_all i ps h)
