use Rattle.std.proofs.Common.{◌≡◌, ◌∙◌, ap, subst, slice_get, List, IfOk}
use Rattle.fol_core.specs.TermView.{tree_of}
use Rattle.discrim_tree.specs.Entries.{Indexed, numbers_found}
use Rattle.discrim_tree.specs.Terms.{has_instance}
use Rattle.discrim_tree.specs.View.{all_indexed}
use Rattle.discrim_tree.proofs.index.Index.first_generalization.Goals as goal

pub returns-clause-found : goal.returns-clause-found
returns-clause-found c =
    subst (λ (es : List Indexed). IfOk c.first.result (λ found. found ≡ slice_get (numbers_found (λ s. has_instance s (tree_of c.args.t.now)) es) 0))
    (ap all_indexed c.deref.ensures.value ∙ c.self.view_is) c.first.ensures.first
