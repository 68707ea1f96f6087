-- Terms among others with their weights.
use Rattle.std.proofs.Common.{◌≡◌, inl, inr, ℕ, ◌+◌, ◌*◌, ◌==◌, Bool, true, false, if◌then◌else◌, List, [], ◌∷◌, ◌++◌, Option, None, Some, unwrap_or, refl, sym, ap, ap₂, ◌∙◌, subst}
use Rattle.std.proofs.lemmas.Bool.{false≢true}
use Rattle.std.proofs.lemmas.Option.{none-some, same_Some}
use Rattle.std.specs.Option.{option_map_or, option_and_then}
use Rattle.fol_core.specs.Tree.{Tree, var, elem, app, Trees, none, more}
use Rattle.fol_core.specs.Weights.{WeightTree, number, of_variable, plus, times}
use Rattle.substitutions.specs.Bindings.{Binding}
use Rattle.unifiers.specs.Matching.{bound_term, bound_to, matched, matched_all, same_tree}
use Rattle.unifiers.proofs.MatchesFound.{tree_same, same_itself}
use Rattle.weights.specs.Weighing.{WeightRow, pattern_of, Weighed, weight_within, weight_among, pattern_weight, weight_by_rule, weight_of_all, application_weight, weighed_tree, weighed_trees, term_weight}
use Rattle.weights.specs.Known.{IsWeighed, AreWeights, IsWeighedThrough, AreWeighedThrough}
use Rattle.weights.specs.WeighingLaws.{weight_under, variable_weight, first_weight, sum_of_weights, WeightsFollow}

both_right : (rs : List WeightRow) (ks ls : Weighed) → AreWeights rs ks → AreWeights rs ls → AreWeights rs (ks ++ ls)
both_right rs [] ls a b = b
both_right rs (k ∷ ks) ls a b = (a.0, both_right rs ks ls a.1 b)

pub first_is : (k : Tree × ℕ) (ks : Weighed) → weight_among (k ∷ ks) k.0 ≡ k.1
first_is k ks = ap (λ b. if b then k.1 else weight_among ks k.0) (same_itself k.0)

mutual
  right : (rs : List WeightRow) (t : Tree) → AreWeights rs (weighed_tree rs t)
  right rs (var x) = (sym (first_is (var x, 1) []), tt)
  right rs (elem k) = (sym (first_is (elem k, 1) []), tt)
  right rs (app f ts) = (sym (first_is (app f ts, application_weight rs (weighed_trees rs ts) f ts) (weighed_trees rs ts)), all_right rs ts)

  all_right : (rs : List WeightRow) (ts : Trees) → AreWeights rs (weighed_trees rs ts)
  all_right rs none = tt
  all_right rs (more t ts) = both_right rs (weighed_tree rs t) (weighed_trees rs ts) (right rs t) (all_right rs ts)

-- what is among them has its weight
among : (rs : List WeightRow) (ks : Weighed) (t : Tree) → AreWeights rs ks → IsWeighed ks t → weight_among ks t ≡ term_weight rs t
among rs [] t ok has = absurd has
among rs (k ∷ ks) t ok has = go (among rs ks t ok.1) (same_tree k.0 t) refl has
  where
    go : (IsWeighed ks t → weight_among ks t ≡ term_weight rs t) → (b : Bool) → same_tree k.0 t ≡ b → IsWeighed (k ∷ ks) t → weight_among (k ∷ ks) t ≡ term_weight rs t
    go by true e h = ap (λ c. if c then k.1 else weight_among ks t) e ∙ ok.0 ∙ ap (term_weight rs) (tree_same k.0 t e)
    go by false e (inl is) = absurd (false≢true (sym e ∙ subst (λ u. same_tree k.0 u ≡ true) is (same_itself k.0)))
    go by false e (inr rest) = ap (λ c. if c then k.1 else weight_among ks t) e ∙ by rest

has_left : (ks ls : Weighed) (t : Tree) → IsWeighed ks t → IsWeighed (ks ++ ls) t
has_left [] ls t h = absurd h
has_left (k ∷ ks) ls t (inl is) = inl is
has_left (k ∷ ks) ls t (inr h) = inr (has_left ks ls t h)

has_right : (ks ls : Weighed) (t : Tree) → IsWeighed ls t → IsWeighed (ks ++ ls) t
has_right [] ls t h = h
has_right (k ∷ ks) ls t h = inr (has_right ks ls t h)

itself : (ks : Weighed) (t : Tree) → IsWeighedThrough ks t → IsWeighed ks t
itself ks (var x) h = h
itself ks (elem k) h = h
itself ks (app f ts) h = h.0

mutual
  wider : (ks ls : Weighed) → ((u : Tree) → IsWeighed ks u → IsWeighed ls u) → (t : Tree) → IsWeighedThrough ks t → IsWeighedThrough ls t
  wider ks ls to (var x) h = to (var x) h
  wider ks ls to (elem k) h = to (elem k) h
  wider ks ls to (app f ts) h = (to (app f ts) h.0, wider_all ks ls to ts h.1)

  wider_all : (ks ls : Weighed) → ((u : Tree) → IsWeighed ks u → IsWeighed ls u) → (ts : Trees) → AreWeighedThrough ks ts → AreWeighedThrough ls ts
  wider_all ks ls to none h = tt
  wider_all ks ls to (more t ts) h = (wider ks ls to t h.0, wider_all ks ls to ts h.1)

mutual
  contains : (rs : List WeightRow) (t : Tree) → IsWeighedThrough (weighed_tree rs t) t
  contains rs (var x) = inl refl
  contains rs (elem k) = inl refl
  contains rs (app f ts) = (inl refl, wider_all (weighed_trees rs ts) (weighed_tree rs (app f ts)) (λ u h. inr h) ts (contains_all rs ts))

  contains_all : (rs : List WeightRow) (ts : Trees) → AreWeighedThrough (weighed_trees rs ts) ts
  contains_all rs none = tt
  contains_all rs (more t ts) =
      (wider (weighed_tree rs t) (weighed_trees rs (more t ts)) (λ u h. has_left (weighed_tree rs t) (weighed_trees rs ts) u h) t (contains rs t), wider_all (weighed_trees rs ts) (weighed_trees rs (more t ts)) (λ u h. has_right (weighed_tree rs t) (weighed_trees rs ts) u h) ts (contains_all rs ts))

-- terms that variables are bound to are among them
abbrev AreBoundIn : Weighed → List Binding → Type 0
AreBoundIn ks [] = Unit {0}
AreBoundIn ks (b ∷ bs) = IsWeighed ks b.1 × AreBoundIn ks bs

bound_more : (ks : Weighed) (bs : List Binding) (x : ℕ) (t : Tree) → AreBoundIn ks bs → IsWeighed ks t → AreBoundIn ks (bs ++ (x, t) ∷ [])
bound_more ks [] x t h there = (there, tt)
bound_more ks (b ∷ bs) x t h there = (h.0, bound_more ks bs x t h.1 there)

bound_after : (ks : Weighed) (o : Option Tree) (x : ℕ) (t : Tree) (bs cs : List Binding) → AreBoundIn ks bs → IsWeighed ks t → bound_to o x t bs ≡ Some cs → AreBoundIn ks cs
bound_after ks None x t bs cs h there is = subst (AreBoundIn ks) (same_Some _ _ is) (bound_more ks bs x t h there)
bound_after ks (Some u) x t bs cs h there is = go (same_tree u t) is
  where
    go : (b : Bool) → (if b then Some bs else None) ≡ Some cs → AreBoundIn ks cs
    go true e = subst (AreBoundIn ks) (same_Some _ _ e) h
    go false e = absurd (none-some cs e)

mutual
  matched_in : (ks : Weighed) (s t : Tree) (bs cs : List Binding) → AreBoundIn ks bs → IsWeighedThrough ks t → matched s t bs ≡ Some cs → AreBoundIn ks cs
  matched_in ks (var x) t bs cs h there is = bound_after ks (bound_term bs x) x t bs cs h (itself ks t there) is
  matched_in ks (elem k) (var y) bs cs h there is = absurd (none-some cs is)
  matched_in ks (elem k) (elem n) bs cs h there is = go (k == n) is
    where
      go : (b : Bool) → (if b then Some bs else None) ≡ Some cs → AreBoundIn ks cs
      go true e = subst (AreBoundIn ks) (same_Some _ _ e) h
      go false e = absurd (none-some cs e)
  matched_in ks (elem k) (app g ts) bs cs h there is = absurd (none-some cs is)
  matched_in ks (app f ss) (var y) bs cs h there is = absurd (none-some cs is)
  matched_in ks (app f ss) (elem n) bs cs h there is = absurd (none-some cs is)
  matched_in ks (app f ss) (app g ts) bs cs h there is = go (λ e. matched_all_in ks ss ts bs cs h there.1 e) (f == g) is
    where
      go : (matched_all ss ts bs ≡ Some cs → AreBoundIn ks cs) → (b : Bool) → (if b then matched_all ss ts bs else None) ≡ Some cs → AreBoundIn ks cs
      go by true e = by e
      go by false e = absurd (none-some cs e)

  matched_all_in : (ks : Weighed) (ss ts : Trees) (bs cs : List Binding) → AreBoundIn ks bs → AreWeighedThrough ks ts → matched_all ss ts bs ≡ Some cs → AreBoundIn ks cs
  matched_all_in ks none none bs cs h there is = subst (AreBoundIn ks) (same_Some _ _ is) h
  matched_all_in ks none (more t ts) bs cs h there is = absurd (none-some cs is)
  matched_all_in ks (more s ss) none bs cs h there is = absurd (none-some cs is)
  matched_all_in ks (more s ss) (more t ts) bs cs h there is = go (λ ds e f. matched_all_in ks ss ts ds cs (matched_in ks s t bs ds h there.0 e) there.1 f) (matched s t bs) refl is
    where
      go : ((ds : List Binding) → matched s t bs ≡ Some ds → matched_all ss ts ds ≡ Some cs → AreBoundIn ks cs) → (o : Option (List Binding)) → matched s t bs ≡ o → option_and_then (λ ds. matched_all ss ts ds) o ≡ Some cs → AreBoundIn ks cs
      go by None e f = absurd (none-some cs f)
      go by (Some ds) e f = by ds e f

bound_is : (rs : List WeightRow) (ks : Weighed) (bs : List Binding) (x : ℕ) → AreWeights rs ks → AreBoundIn ks bs → option_map_or (weight_among ks) (bound_term bs x) 1 ≡ variable_weight rs bs x
bound_is rs ks [] x ok h = refl
bound_is rs ks (b ∷ bs) x ok h = go (bound_is rs ks bs x ok h.1) (x == b.0)
  where
    go : option_map_or (weight_among ks) (bound_term bs x) 1 ≡ variable_weight rs bs x → (c : Bool) → option_map_or (weight_among ks) (if c then Some b.1 else bound_term bs x) 1 ≡ option_map_or (term_weight rs) (if c then Some b.1 else bound_term bs x) 1
    go by true = among rs ks b.1 ok h.0
    go by false = by

pattern_is : (rs : List WeightRow) (ks : Weighed) (bs : List Binding) (w : WeightTree) → AreWeights rs ks → AreBoundIn ks bs → pattern_weight ks bs w ≡ weight_under (variable_weight rs bs) w
pattern_is rs ks bs (number n) ok h = refl
pattern_is rs ks bs (of_variable x) ok h = bound_is rs ks bs x ok h
pattern_is rs ks bs (plus v w) ok h = ap₂ (λ a b. weight_within (a + b)) (pattern_is rs ks bs v ok h) (pattern_is rs ks bs w ok h)
pattern_is rs ks bs (times v w) ok h = ap₂ (λ a b. weight_within (a * b)) (pattern_is rs ks bs v ok h) (pattern_is rs ks bs w ok h)

rule_is : (rs ps : List WeightRow) (ks : Weighed) (f : ℕ) (ts : Trees) → AreWeights rs ks → AreWeighedThrough ks ts → weight_by_rule ps ks (app f ts) ≡ first_weight rs ps (app f ts)
rule_is rs [] ks f ts ok there = refl
rule_is rs (p ∷ ps) ks f ts ok there = go (rule_is rs ps ks f ts ok there) (matched (pattern_of p) (app f ts) []) refl
  where
    bound : (bs : List Binding) → matched (pattern_of p) (app f ts) [] ≡ Some bs → AreBoundIn ks bs
    bound bs e = heads (p.head == f) e
      where
        heads : (b : Bool) → (if b then matched_all p.arguments ts [] else None) ≡ Some bs → AreBoundIn ks bs
        heads true e = matched_all_in ks p.arguments ts [] bs tt there e
        heads false e = absurd (none-some bs e)

    go : weight_by_rule ps ks (app f ts) ≡ first_weight rs ps (app f ts) → (o : Option (List Binding)) → matched (pattern_of p) (app f ts) [] ≡ o
        → option_map_or (λ bs. Some (pattern_weight ks bs p.weight)) o (weight_by_rule ps ks (app f ts)) ≡ option_map_or (λ bs. Some (weight_under (variable_weight rs bs) p.weight)) o (first_weight rs ps (app f ts))
    go by None e = by
    go by (Some bs) e = ap (λ n. Some n) (pattern_is rs ks bs p.weight ok (bound bs e))

sum_is : (rs : List WeightRow) (ks : Weighed) (ts : Trees) → AreWeights rs ks → AreWeighedThrough ks ts → weight_of_all ks ts ≡ sum_of_weights rs ts
sum_is rs ks none ok there = refl
sum_is rs ks (more t ts) ok there = ap₂ (λ a b. a + b) (among rs ks t ok (itself ks t there.0)) (sum_is rs ks ts ok there.1)

pub weights_follow : WeightsFollow
weights_follow rs f ts =
    let ks = weighed_trees rs ts in
    first_is (app f ts, application_weight rs ks f ts) ks
    ∙ ap₂ (λ o n. unwrap_or o (weight_within (1 + n))) (rule_is rs rs ks f ts (all_right rs ts) (contains_all rs ts)) (sum_is rs ks ts (all_right rs ts) (contains_all rs ts))
