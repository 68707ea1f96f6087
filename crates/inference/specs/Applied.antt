-- What a rule takes of clauses, with nothing of it built.
use Rattle.std.specs.Prelude.{ℕ, ◌≡◌, IsTrue, false, List, length}
use Rattle.derivation.specs.Rule.{InferenceRule, UnifiesFamily}
use Rattle.fol_core.specs.Literals.{ClauseTree}
use Rattle.inference.specs.Judged.{IsConclusion}
use Rattle.inference.specs.Left.{LeftTree, Leaves, all_left, left_clause}
use Rattle.inference.specs.declared.applied.Applied.{Applied}
use Rattle.inference.specs.declared.applied.Applied.TheVariants as applied
use Rattle.inference.specs.declared.applied.Premises.{Premises}
use Rattle.inference.specs.declared.rules.Judged.{Judged}
use Rattle.inference.specs.declared.rules.Judged.TheVariants.{Unfit, Apart}
use Rattle.substitutions.specs.Apart.{Own, apart_of}
use Rattle.substitutions.specs.Bindings.{Binding, by_bindings}
use Rattle.term_unifiers.specs.Renamed.{own_among, left_sides, right_sides}
use Rattle.unifiers.specs.Unifier.{IsMostGeneral}

-- the rule fits; the unifier is most general for the pairs of the clauses renamed apart, and what is
-- left is what the rule leaves
pub record ArePremises (r : InferenceRule) (cs : List ClauseTree) (p : Premises) : Type 0 where
  pub fits : IsTrue (r.fits cs)
  pub many : p.many ≡ length cs
  pub general : IsMostGeneral (by_bindings p.unifier) (left_sides (r.pairs (apart_of cs)))
      (right_sides (r.pairs (apart_of cs)))
  pub leaves : Leaves r cs (all_left p.left.items)

-- a rule: it doesn't fit, nothing unifies, or what it takes
abbrev pub AppliedAs : InferenceRule → List ClauseTree → Applied → Type 0
AppliedAs r cs applied.Unfit = r.fits cs ≡ false
AppliedAs r cs applied.Apart = IsTrue (r.fits cs) × ((own : Own) → ¬ UnifiesFamily r cs own)
AppliedAs r cs (applied.To p) = ArePremises r cs p

-- this unifier of so many clauses, with these literals left
pub record AreWith (bs : List Binding) (n : ℕ) (ls : List LeftTree) (p : Premises) : Type 0 where
  pub unifier : p.unifier ≡ bs
  pub many : p.many ≡ n
  pub left : all_left p.left.items ≡ ls

-- what comes of it, when it is measured
abbrev pub IsMeasuredAs : Applied → Judged → Type 0
IsMeasuredAs applied.Unfit j = j ≡ Unfit
IsMeasuredAs applied.Apart j = j ≡ Apart
IsMeasuredAs (applied.To p) j =
    IsConclusion (left_clause (own_among p.many (by_bindings p.unifier)) (all_left p.left.items)) j
