-- Rules and units tried one after the other.
use Rattle.std.proofs.Common.{◌≡◌, ℕ, ◌+◌, ◌<◌, ◌≤◌, Bool, true, false, ◌||◌, if◌then◌else◌, is_some, length, List, [], Option, Some, None, get_or, drop, refl, ap, ◌∙◌}
use Rattle.std.proofs.lemmas.List.{drop_all}
use Rattle.std.specs.Borrow.{Bor}
use Rattle.std.specs.Option.{option_map}
use Rattle.held_clauses.proofs.Items.{drop_item}
use Rattle.fol_core.specs.Literals.{Lit}
use Rattle.fol_core.specs.Substitutions.{substitute}
use Rattle.fol_core.specs.TermView.{tree_of, tree_list}
use Rattle.fol_core.specs.Tree.{Tree, trees_of}
use Rattle.fol_core.specs.declared.term.Term.{Term}
use Rattle.held_clauses.specs.Holding.{HeldClause, lent}
use Rattle.prover_steps.specs.Clashing.{Held}
use Rattle.prover_steps.specs.Rewriting.{rewritten_by}
use Rattle.prover_steps.specs.Shortening.{denies, first_denying}
use Rattle.prover_steps.specs.Subsuming.{fits_in, fits_in_some}
use Rattle.derivation.specs.Equations.{left_of, right_of}
use Rattle.derivation.specs.Places.{atom_at}
use Rattle.substitutions.specs.Bindings.{Binding, by_bindings}
use Rattle.unifiers.specs.Matching.{matched}

-- whether a rule fits in the terms from a place on
abbrev pub fits_from : Held → List Term → ℕ → Bool
fits_from r ts i = fits_in_some r (trees_of (tree_list (drop i ts)))

fits_step : (r : Held) (ts : List Term) (i : ℕ) (t : Term) → i < length ts → t ≡ get_or ts i t → fits_from r ts i ≡ (fits_in r (tree_of t) || fits_from r ts (i + 1))
fits_step r ts i t h is = ap (λ us. fits_in_some r (trees_of (tree_list us))) (drop_item ts i t h is)

pub fits_here : (r : Held) (ts : List Term) (i : ℕ) (t : Term) → i < length ts → t ≡ get_or ts i t → fits_in r (tree_of t) ≡ true → fits_from r ts i ≡ true
fits_here r ts i t h is e = fits_step r ts i t h is ∙ ap (λ b. b || fits_from r ts (i + 1)) e

pub fits_behind : (r : Held) (ts : List Term) (i : ℕ) (t : Term) → i < length ts → t ≡ get_or ts i t → fits_in r (tree_of t) ≡ false → fits_from r ts i ≡ fits_from r ts (i + 1)
fits_behind r ts i t h is e = fits_step r ts i t h is ∙ ap (λ b. b || fits_from r ts (i + 1)) e

pub fits_end : (r : Held) (ts : List Term) (i : ℕ) → length ts ≤ i → fits_from r ts i ≡ false
fits_end r ts i h = ap (λ us. fits_in_some r (trees_of (tree_list us))) (drop_all i ts h)

-- the first unit from one on that denies a literal
abbrev pub denying_from : List (Bor HeldClause) → Lit → ℕ → Option ℕ
denying_from us l i = first_denying (lent (drop i us)) l

denying_step : (us : List (Bor HeldClause)) (l : Lit) (i : ℕ) (u : Bor HeldClause) → i < length us → u ≡ get_or us i u → denying_from us l i ≡ (if denies u.now l then Some u.now.number else denying_from us l (i + 1))
denying_step us l i u h is = ap (λ vs. first_denying (lent vs) l) (drop_item us i u h is)

pub denying_here : (us : List (Bor HeldClause)) (l : Lit) (i : ℕ) (u : Bor HeldClause) → i < length us → u ≡ get_or us i u → denies u.now l ≡ true → denying_from us l i ≡ Some u.now.number
denying_here us l i u h is e = denying_step us l i u h is ∙ ap (λ b. if b then Some u.now.number else denying_from us l (i + 1)) e

pub denying_behind : (us : List (Bor HeldClause)) (l : Lit) (i : ℕ) (u : Bor HeldClause) → i < length us → u ≡ get_or us i u → denies u.now l ≡ false → denying_from us l i ≡ denying_from us l (i + 1)
denying_behind us l i u h is e = denying_step us l i u h is ∙ ap (λ b. if b then Some u.now.number else denying_from us l (i + 1)) e

pub denying_end : (us : List (Bor HeldClause)) (l : Lit) (i : ℕ) → length us ≤ i → denying_from us l i ≡ None
denying_end us l i h = ap (λ vs. first_denying (lent vs) l) (drop_all i us h)

-- a rule rewrites a term that is an instance of its left side
pub rewrites_instance : (r : Held) (t : Tree) → is_some (rewritten_by r t) ≡ is_some (matched (left_of (atom_at r.clause 0)) t [])
rewrites_instance r t = by (matched (left_of (atom_at r.clause 0)) t [])
  where
    by : (o : Option (List Binding)) → is_some (option_map (λ bs. substitute (by_bindings bs) (right_of (atom_at r.clause 0))) o) ≡ is_some o
    by None = refl
    by (Some bs) = refl
