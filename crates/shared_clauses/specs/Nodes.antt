-- Terms of a bank by what stands below them.
use Rattle.std.specs.Prelude.{ℕ, ◌<◌, ◌≡◌, List, length, map}
use Rattle.derivation.specs.Sides.{AreSides}
use Rattle.fol_core.specs.Tree.{Tree, Trees, app, trees_of}
use Rattle.term_bank.specs.Bank.{tree_at}
use Rattle.term_bank.specs.Cells.{AreNumbersBelow, numbers}
use Rattle.term_bank.specs.declared.id.TermId.{TermId}

-- a term is an equation, and these are its sides
pub record AreNodeSides (bank : List Tree) (n l r : ℕ) : Type 0 where
  pub sides : AreSides (tree_at bank n) (tree_at bank l) (tree_at bank r)
  pub left : l < length bank
  pub right : r < length bank

-- a term is no application of a symbol
abbrev pub IsNoApplication : ℕ → Tree → Type 0
IsNoApplication f t = (ts : Trees) → ¬ (app f ts ≡ t)

-- it is one, with these arguments
pub record HasArguments (bank : List Tree) (n f : ℕ) (ks : List TermId) : Type 0 where
  pub tree : app f (trees_of (map (λ k. tree_at bank k.0) ks)) ≡ tree_at bank n
  pub within : AreNumbersBelow (length bank) (numbers ks)
