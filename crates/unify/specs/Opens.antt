-- Nodes whose arguments have to be the same.
use Rattle.std.specs.Prelude.{ℕ, suc, ◌≡◌, Bool, true, false, List, [], length, map}
use Rattle.fol_core.specs.Substitutions.{Substitution, substitute}
use Rattle.fol_core.specs.Tree.{Tree, app, trees_of}
use Rattle.term_bank.specs.Bank.{tree_at}
use Rattle.term_bank.specs.Cells.{AreNumbersBelow, numbers}
use Rattle.term_bank.specs.declared.id.TermId.{TermId}
use Rattle.unify.specs.Bindings.{Meets}
use Rattle.unify.specs.Spots.{In}
use Rattle.unify.specs.Steps.{Leaving, WorkStands, WorksAt}
use Rattle.unify.specs.declared.spot.Link.{Link}
use Rattle.unify.specs.declared.spot.Spot.{Spot}
use Rattle.unify.specs.declared.spot.Workspace.{Workspace}

abbrev pub one_higher : ℕ → ℕ
one_higher n = suc n

pub record IsLinkOf (bank : List Tree) (w : Workspace) (link : Link) : Type 0 where
  pub works : WorkStands bank w
  pub there : In link w.links.items

-- the arguments of linked nodes with one head
pub record AreOpen (bank : List Tree) (w : Workspace) (link : Link)
    (ks js : List TermId) : Type 0 where
  pub works : WorkStands bank w
  pub there : In link w.links.items
  pub head : ℕ
  pub left : tree_at bank link.from.term.0 ≡ app head (trees_of (map (λ k. tree_at bank k.0) ks))
  pub right : tree_at bank link.to.term.0 ≡ app head (trees_of (map (λ k. tree_at bank k.0) js))
  pub left_in : AreNumbersBelow (length bank) (numbers ks)
  pub right_in : AreNumbersBelow (length bank) (numbers js)
  pub even : length ks ≡ length js

-- nothing is linked at the beginning
pub record CanUnite (bank : List Tree) (w : Workspace) (s t : Spot) : Type 0 where
  pub works : WorksAt bank w s t
  pub unlinked : w.links.items ≡ []

-- what meets the new bindings makes the terms the same, and what meets the old ones and does so
-- meets the new ones
pub record AreMade (bank : List Tree) (old new : Workspace) (s t : Tree) : Type 0 where
  pub works : WorkStands bank new
  pub equal : (u : Substitution) → Meets u bank new.bound.items → substitute u s ≡ substitute u t
  pub every : (u : Substitution) → Leaving u bank old.kept.items → Meets u bank old.bound.items
      → substitute u s ≡ substitute u t → Meets u bank new.bound.items

abbrev pub IsMadeSame : List Tree → Workspace → Workspace → Tree → Tree → Bool → Type 0
IsMadeSame bank old new s t true = AreMade bank old new s t
IsMadeSame bank old new s t false =
    (u : Substitution) → Leaving u bank old.kept.items → Meets u bank old.bound.items
    → ¬ (substitute u s ≡ substitute u t)
