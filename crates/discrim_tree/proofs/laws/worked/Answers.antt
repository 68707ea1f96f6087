use Rattle.std.proofs.Common.{◌≡◌, ◌==◌, ◌∙◌, Bool, true, false, ℕ, sym, ap, refl, Option, Some, None}
use Rattle.fol_core.specs.Tree.{Tree, var, elem, app, none, more}
use Rattle.discrim_tree.proofs.Placing.{clash}
use Rattle.discrim_tree.proofs.laws.worked.Goals as goal

abbrev begins_with_a : Option Tree → Bool
begins_with_a None = false
begins_with_a (Some (var x)) = false
begins_with_a (Some (elem k)) = false
begins_with_a (Some (app f ts)) = f == 0

pub returns-clause-alike : goal.returns-clause-alike
returns-clause-alike c = (
  (record { part = app 0 none; first = refl; second = refl }, tt),
  λ h. absurd (clash (ap begins_with_a (h.0.first ∙ sym h.0.second))),
)
