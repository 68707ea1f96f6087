-- What the cells of a bank stand for.
use Rattle.std.specs.Prelude.{ℕ, ◌<◌, ◌≡◌, List, [], ◌∷◌, ◌++◌, length, map}
use Rattle.fol_core.specs.Sizes.{size_of, depth_of, saturated}
use Rattle.fol_core.specs.Tree.{Tree, var, elem, app, trees_of}
use Rattle.term_bank.specs.Bank.{tree_at}
use Rattle.term_bank.specs.declared.cell.TermCell.{TermCell}
use Rattle.term_bank.specs.declared.cell.TermCell.TheVariants.{Variable, Element, Application}
use Rattle.term_bank.specs.declared.cell.Measures.{Measures}
use Rattle.term_bank.specs.declared.id.TermId.{TermId}

-- each of the numbers is below this one
abbrev pub AreNumbersBelow : ℕ → List ℕ → Type 0
AreNumbersBelow n [] = Unit {0}
AreNumbersBelow n (k ∷ ks) = (k < n) × AreNumbersBelow n ks

-- the numbers of terms
abbrev pub numbers : List TermId → List ℕ
numbers ks = map (λ k. k.0) ks

-- the arguments are among the first so many terms
abbrev pub ArgumentsAreIn : ℕ → TermCell → Type 0
ArgumentsAreIn n (Variable x) = Unit {0}
ArgumentsAreIn n (Element k) = Unit {0}
ArgumentsAreIn n (Application f ks) = AreNumbersBelow n (numbers ks.items)

-- the term of a cell, by the terms of its arguments
abbrev pub tree_in : List Tree → TermCell → Tree
tree_in bank (Variable x) = var x
tree_in bank (Element k) = elem k
tree_in bank (Application f ks) = app f (trees_of (map (λ k. tree_at bank k.0) ks.items))

-- what is kept of a term's size and levels
pub record IsMeasured (t : Tree) (m : Measures) : Type 0 where
  pub sized : m.size ≡ saturated (size_of t)
  pub deep : m.depth ≡ depth_of t

-- the terms so far, and those of cells behind them
abbrev pub trees_built : List Tree → List (TermCell × Measures) → List Tree
trees_built bank [] = bank
trees_built bank (c ∷ cs) = trees_built (bank ++ tree_in bank c.0 ∷ []) cs

-- no number of the bank has this term
abbrev pub IsNewTerm : List Tree → Tree → Type 0
IsNewTerm bank t = (n : ℕ) → n < length bank → tree_at bank n ≡ t → ⊥

-- a cell behind the terms so far: its arguments are there, its term isn't, and it is measured
pub record IsCell (bank : List Tree) (c : TermCell × Measures) : Type 0 where
  pub arguments : ArgumentsAreIn (length bank) c.0
  pub is_new : IsNewTerm bank (tree_in bank c.0)
  pub measured : IsMeasured (tree_in bank c.0) c.1

abbrev pub AreCells : List Tree → List (TermCell × Measures) → Type 0
AreCells bank [] = Unit {0}
AreCells bank (c ∷ cs) = IsCell bank c × AreCells (bank ++ tree_in bank c.0 ∷ []) cs

-- the cell that stands for a number's term
pub record IsStored (bank : List Tree) (n : ℕ) (c : TermCell × Measures) : Type 0 where
  pub tree : tree_at bank n ≡ tree_in bank c.0
  pub arguments : ArgumentsAreIn n c.0
  pub measured : IsMeasured (tree_at bank n) c.1
