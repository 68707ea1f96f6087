-- Terms that are sought fit.
use Rattle.std.proofs.Common.{◌≡◌, ℕ, Bool, true, false, IsTrue, refl, sym, ap, ap₂, ◌∙◌}
use Rattle.fol_core.specs.Substitutions.{Substitution, substitute, substitute_all}
use Rattle.fol_core.specs.Tree.{Tree, var, elem, app, Trees, none, more}
use Rattle.discrim_tree.specs.Fitting.{Fits, FitAll}
use Rattle.discrim_tree.specs.Seeking.{fits_below, fits_above, passes}
use Rattle.discrim_tree.specs.declared.sought.Sought.{Sought}
use Rattle.discrim_tree.specs.declared.sought.Sought.TheVariants.{Generalizations, Instances, Unifiable}
use Rattle.discrim_tree.proofs.Terms.{instances_are_made, unifiers_are_of_two}

mutual
  pub unchanged : (t : Tree) → substitute var t ≡ t
  unchanged (var x) = refl
  unchanged (elem k) = refl
  unchanged (app f ts) = ap (app f) (all_unchanged ts)

  all_unchanged : (ts : Trees) → substitute_all var ts ≡ ts
  all_unchanged none = refl
  all_unchanged (more t ts) = ap₂ more (unchanged t) (all_unchanged ts)

holds : (b : Bool) → (b ≡ false → ⊥) → IsTrue b
holds true h = refl
holds false h = absurd (h refl)

no_element : (x k : ℕ) → var x ≡ elem k → ⊥
no_element x k e = cc

no_application : (x f : ℕ) (ts : Trees) → var x ≡ app f ts → ⊥
no_application x f ts e = cc

apart : (k f : ℕ) (ts : Trees) → elem k ≡ app f ts → ⊥
apart k f ts e = cc

same_element : (k n : ℕ) → elem k ≡ elem n → k ≡ n
same_element k n e = cc

same_head : (f g : ℕ) (ss ts : Trees) → app f ss ≡ app g ts → f ≡ g
same_head f g ss ts e = cc

same_rest : (f g : ℕ) (ss ts : Trees) → app f ss ≡ app g ts → ss ≡ ts
same_rest f g ss ts e = cc

none_more : (t : Tree) (ts : Trees) → none ≡ more t ts → ⊥
none_more t ts e = cc

same_first : (s t : Tree) (ss ts : Trees) → more s ss ≡ more t ts → s ≡ t
same_first s t ss ts e = cc

same_others : (s t : Tree) (ss ts : Trees) → more s ss ≡ more t ts → ss ≡ ts
same_others s t ss ts e = cc

-- terms that substitutions make the same fit, where one that makes no other terms of variables counts as none
module _ (below above : Bool) (u v : Substitution) (low : below ≡ false → (x : ℕ) → (y : ℕ) × (u x ≡ var y)) (high : above ≡ false → (x : ℕ) → (y : ℕ) × (v x ≡ var y)) where
  mutual
    fit : (s t : Tree) → substitute u s ≡ substitute v t → Fits below above s t
    fit (var x) (var y) e = tt
    fit (var x) (elem n) e = holds below (λ f. no_element (low f x).0 n (sym (low f x).1 ∙ e))
    fit (var x) (app g ts) e = holds below (λ f. no_application (low f x).0 g (substitute_all v ts) (sym (low f x).1 ∙ e))
    fit (elem k) (var y) e = holds above (λ f. no_element (high f y).0 k (sym (high f y).1 ∙ sym e))
    fit (elem k) (elem n) e = same_element k n e
    fit (elem k) (app g ts) e = absurd (apart k g (substitute_all v ts) e)
    fit (app f ss) (var y) e = holds above (λ h. no_application (high h y).0 f (substitute_all u ss) (sym (high h y).1 ∙ sym e))
    fit (app f ss) (elem n) e = absurd (apart n f (substitute_all u ss) (sym e))
    fit (app f ss) (app g ts) e = (same_head f g (substitute_all u ss) (substitute_all v ts) e, fit_all ss ts (same_rest f g (substitute_all u ss) (substitute_all v ts) e))

    fit_all : (ss ts : Trees) → substitute_all u ss ≡ substitute_all v ts → FitAll below above ss ts
    fit_all none none e = tt
    fit_all none (more t ts) e = absurd (none_more (substitute v t) (substitute_all v ts) e)
    fit_all (more s ss) none e = absurd (none_more (substitute u s) (substitute_all u ss) (sym e))
    fit_all (more s ss) (more t ts) e = (
      fit s t (same_first (substitute u s) (substitute v t) (substitute_all u ss) (substitute_all v ts) e),
      fit_all ss ts (same_others (substitute u s) (substitute v t) (substitute_all u ss) (substitute_all v ts) e),
    )

yes : true ≡ false → ⊥
yes e = cc

pub fitted : (k : Sought) (s t : Tree) → IsTrue (passes k t s) → Fits (fits_below k) (fits_above k) s t
fitted Generalizations s t h =
    let made = (instances_are_made s t).0 h in
    fit true false made.0 var (λ f. absurd (yes f)) (λ f x. (x, refl)) s t (made.1 ∙ sym (unchanged t))
fitted Instances s t h =
    let made = (instances_are_made t s).0 h in
    fit false true var made.0 (λ f x. (x, refl)) (λ f. absurd (yes f)) s t (unchanged s ∙ sym made.1)
fitted Unifiable s t h =
    let made = (unifiers_are_of_two s t).0 h in
    fit true true made.0 made.1 (λ f. absurd (yes f)) (λ f. absurd (yes f)) s t made.2
