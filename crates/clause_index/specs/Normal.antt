-- Terms in normal form.
use Rattle.std.specs.Prelude.{◌≡◌, List, None}
use Rattle.std.specs.List.{AllByRecursion}
use Rattle.fol_core.specs.Tree.{Tree}
use Rattle.prover_steps.specs.Clashing.{Held}
use Rattle.prover_steps.specs.Rewriting.{first_step}
use Rattle.clause_index.specs.Entries.{AreIndexed}
use Rattle.discrim_tree.specs.Entries.{Indexed}

-- no rule fits in the terms
abbrev pub HaveNoStep : List Held → List Tree → Type 0
HaveNoStep rules terms = AllByRecursion (λ t. first_step rules t ≡ None) terms

-- rules with an index of their left sides and terms in normal form
pub record AreRules (rules : List Held) (lefts : List Indexed) (known : List Tree) : Type 0 where
  pub indexed : AreIndexed rules lefts
  pub normal : HaveNoStep rules known
