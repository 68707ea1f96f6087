-- What no rule fits in, none of fewer rules fits in.
use Rattle.std.proofs.Common.{◌≡◌, ℕ, suc, ◌==◌, Bool, true, false, not, if◌then◌else◌, List, [], ◌∷◌, Option, Some, None, filter, refl, sym, ap, ap₂, ◌∙◌, subst}
use Rattle.std.specs.Option.{option_map, option_map_or}
use Rattle.clause_index.proofs.Removals.{but_for}
use Rattle.clause_index.specs.Normal.{HaveNoStep}
use Rattle.fol_core.specs.Tree.{Tree, var, elem, app, Trees, none, more}
use Rattle.prover_steps.specs.Clashing.{Held}
use Rattle.prover_steps.specs.Rewriting.{RewriteStep, first_of, rewritten_by, step_at_top, widened, in_argument, first_step, step_in}

no_first : {X : Type 0} (o p : Option X) → first_of o p ≡ None → o ≡ None
no_first None p e = refl
no_first (Some x) p e = cc

no_second : {X : Type 0} (o p : Option X) → first_of o p ≡ None → p ≡ None
no_second None p e = e
no_second (Some x) p e = cc

not_mapped : {X Y : Type 0} (f : X → Y) (o : Option X) → option_map f o ≡ None → o ≡ None
not_mapped f None e = refl
not_mapped f (Some x) e = cc

abbrev top_by : Held → Option Tree → Option (RewriteStep Tree) → Option (RewriteStep Tree)
top_by r o p = option_map_or (λ u. Some (record { rule = r.number; path = []; result = u })) o p

fewer_at_top : (test : Held → Bool) (rs : List Held) (t : Tree) → step_at_top rs t ≡ None → step_at_top (filter test rs) t ≡ None
fewer_at_top test [] t e = refl
fewer_at_top test (r ∷ rs) t e = by (test r) (rewritten_by r t) refl (λ h. fewer_at_top test rs t h) e
  where
    by : (b : Bool) (o : Option Tree) → rewritten_by r t ≡ o → (step_at_top rs t ≡ None → step_at_top (filter test rs) t ≡ None) → top_by r o (step_at_top rs t) ≡ None → step_at_top (if b then r ∷ filter test rs else filter test rs) t ≡ None
    by b (Some u) is rest e = cc
    by true None is rest e = ap (λ o. top_by r o (step_at_top (filter test rs) t)) is ∙ rest e
    by false None is rest e = rest e

mutual
  fewer_step : (test : Held → Bool) (rs : List Held) (t : Tree) → first_step rs t ≡ None → first_step (filter test rs) t ≡ None
  fewer_step test rs (var x) e = refl
  fewer_step test rs (elem k) e = refl
  fewer_step test rs (app f ts) e =
      let inside : option_map (widened (app f)) (step_in rs 1 ts) ≡ None = no_first (option_map (widened (app f)) (step_in rs 1 ts)) (step_at_top rs (app f ts)) e in
      let top : step_at_top rs (app f ts) ≡ None = no_second (option_map (widened (app f)) (step_in rs 1 ts)) (step_at_top rs (app f ts)) e in
      ap₂ first_of (ap (option_map (widened (app f))) (fewer_step_in test rs 1 ts (not_mapped (widened (app f)) (step_in rs 1 ts) inside))) (fewer_at_top test rs (app f ts) top)

  fewer_step_in : (test : Held → Bool) (rs : List Held) (k : ℕ) (ts : Trees) → step_in rs k ts ≡ None → step_in (filter test rs) k ts ≡ None
  fewer_step_in test rs k none e = refl
  fewer_step_in test rs k (more t ts) e =
      let here : option_map (in_argument k ts) (first_step rs t) ≡ None = no_first (option_map (in_argument k ts) (first_step rs t)) (option_map (widened (more t)) (step_in rs (suc k) ts)) e in
      let later : option_map (widened (more t)) (step_in rs (suc k) ts) ≡ None = no_second (option_map (in_argument k ts) (first_step rs t)) (option_map (widened (more t)) (step_in rs (suc k) ts)) e in
      ap₂ first_of (ap (option_map (in_argument k ts)) (fewer_step test rs t (not_mapped (in_argument k ts) (first_step rs t) here)))
      (ap (option_map (widened (more t))) (fewer_step_in test rs (suc k) ts (not_mapped (widened (more t)) (step_in rs (suc k) ts) later)))

none_fewer : (test : Held → Bool) (rs : List Held) (ts : List Tree) → HaveNoStep rs ts → HaveNoStep (filter test rs) ts
none_fewer test rs [] all = tt
none_fewer test rs (t ∷ ts) all = (fewer_step test rs t all.0, none_fewer test rs ts all.1)

-- one rule is taken out
pub normal_without : (n : ℕ) (rs now : List Held) (ts : List Tree) → HaveNoStep rs ts → now ≡ but_for n rs → HaveNoStep now ts
normal_without n rs now ts all is = subst (λ qs. HaveNoStep qs ts) (sym is) (none_fewer (λ h. not (h.number == n)) rs ts all)
