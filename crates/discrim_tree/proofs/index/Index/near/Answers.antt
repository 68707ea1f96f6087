use Rattle.std.proofs.Common.{ℕ, ◌∙◌, ap, subst, List, IfOk}
use Rattle.std.specs.List.{Contains}
use Rattle.fol_core.specs.TermView.{tree_of}
use Rattle.discrim_tree.specs.Entries.{Indexed, numbers_found}
use Rattle.discrim_tree.specs.Seeking.{passes}
use Rattle.discrim_tree.specs.View.{all_indexed}
use Rattle.discrim_tree.proofs.index.Index.near.Goals as goal

pub returns-clause-whole : goal.returns-clause-whole
returns-clause-whole c =
    subst (λ (es : List Indexed). IfOk c.near.result (λ near. (n : ℕ) → Contains (numbers_found (λ s. passes c.args.sought.now (tree_of c.args.t.now) s) es) n → Contains near.items n))
    (ap all_indexed c.deref.ensures.value ∙ c.self.view_is) c.near.ensures.whole
