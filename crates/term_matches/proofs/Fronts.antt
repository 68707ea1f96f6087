-- What is found where a variable is bound, or isn't.
use Rattle.std.proofs.Common.{◌≡◌, ℕ, ◌↔◌, ◌==◌, Bool, true, false, if◌then◌else◌, IsTrue, List, [], ◌∷◌, ◌++◌, Option, Some, None, unwrap_or, refl, sym, ap, ◌∙◌, append_assoc, append-nil}
use Rattle.fol_core.specs.Tree.{Tree, var, elem}
use Rattle.substitutions.specs.Bindings.{Binding, by_bindings}
use Rattle.term_matches.specs.Matched.{StandInFront, MatchesOnto}
use Rattle.term_matches.proofs.MatchSteps.{bound_same, bound_other}
use Rattle.unifiers.specs.Matching.{bound_term, bound_to, matched}

front_itself : (bs : List Binding) → StandInFront bs bs
front_itself bs = ([], sym (append-nil bs))

pub front_more : (bs cs ds : List Binding) → StandInFront bs cs → StandInFront cs ds → StandInFront bs ds
front_more bs cs ds f g = (f.0 ++ g.0, g.1 ∙ ap (λ es. es ++ g.0) f.1 ∙ append_assoc bs f.0 g.0)

pub bind_same : (found : Bool) (bs : List Binding) (x : ℕ) (t u : Tree) → bound_term bs x ≡ Some u → IsTrue found ↔ (u ≡ t) → MatchesOnto found (bound_to (bound_term bs x) x t bs) bs bs
bind_same true bs x t u is same = record { is = bound_same bs x t u is (same.0 refl); front = front_itself bs }
bind_same false bs x t u is same = record { is = bound_other bs x t u is (λ e. let h = same.1 e in cc); front = front_itself bs }

pub same_elements : (found : Bool) (bs : List Binding) (k n : ℕ) → found ≡ (k == n) → MatchesOnto found (matched (elem k) (elem n) bs) bs bs
same_elements found bs k n e = by found (k == n) e
  where
    by : (b c : Bool) → b ≡ c → MatchesOnto b (if c then Some bs else None) bs bs
    by true true e = record { is = refl; front = front_itself bs }
    by false false e = record { is = refl; front = front_itself bs }
    by true false e = cc
    by false true e = cc

pub bind_new : (bs cs : List Binding) (x : ℕ) (t : Tree) → bound_term bs x ≡ None → cs ≡ bs ++ (x, t) ∷ [] → MatchesOnto true (bound_to (bound_term bs x) x t bs) bs cs
bind_new bs cs x t is e = record { is = ap (λ o. bound_to o x t bs) is ∙ ap Some (sym e); front = ((x, t) ∷ [], e) }

-- a variable stands for the term that is given for it, or for itself
pub bound_is : (bs : List Binding) (x : ℕ) (o : Option Tree) → bound_term bs x ≡ o → by_bindings bs x ≡ unwrap_or o (var x)
bound_is bs x o e = first bs ∙ ap (λ p. unwrap_or p (var x)) e
  where
    first : (cs : List Binding) → by_bindings cs x ≡ unwrap_or (bound_term cs x) (var x)
    first [] = refl
    first (c ∷ cs) = by (x == c.0) (first cs)
      where
        by : (b : Bool) → by_bindings cs x ≡ unwrap_or (bound_term cs x) (var x) → (if b then c.1 else by_bindings cs x) ≡ unwrap_or (if b then Some c.1 else bound_term cs x) (var x)
        by true rest = refl
        by false rest = rest
