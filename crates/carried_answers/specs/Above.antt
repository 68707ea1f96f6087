-- Numbers above the variables of the first terms of a bank.
use Rattle.std.specs.Prelude.{ℕ, ◌<◌, ◌≡◌, List, length}
use Rattle.std.specs.List.{slice_index_or}
use Rattle.answers.specs.AnswerTrees.{above_all}
use Rattle.fol_core.specs.Free.{variables_of}
use Rattle.fol_core.specs.Tree.{Tree}
use Rattle.term_bank.specs.Bank.{tree_at}

abbrev pub AreAbove : List Tree → List ℕ → Type 0
AreAbove bank ns =
    (i : ℕ) → i < length ns → slice_index_or ns i 0 ≡ above_all (variables_of (tree_at bank i))

-- those of all its terms
pub record AreAllAbove (bank : List Tree) (ns : List ℕ) : Type 0 where
  pub as_many : length ns ≡ length bank
  pub above : AreAbove bank ns
