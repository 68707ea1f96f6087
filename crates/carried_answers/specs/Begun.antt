-- What a rule leaves of its parents with their answers.
use Rattle.std.specs.Prelude.{ℕ, suc, ◌≡◌, List, [], ◌∷◌, ◌++◌, length}
use Rattle.answered_lines.specs.Steps.{together}
use Rattle.answers.specs.AnswerTrees.{Answer, each_once}
use Rattle.answers.specs.Packed.{packed}
use Rattle.fol_core.specs.Literals.{ClauseTree}
use Rattle.inference.specs.Left.{LeftTree, all_whole, left_clause}
use Rattle.substitutions.specs.Apart.{Own}
use Rattle.substitutions.specs.Instances.{AreVariants}

-- all literals of clauses, of parents from this number on
abbrev pub each_whole : ℕ → List ClauseTree → List LeftTree
each_whole k [] = []
each_whole k (c ∷ cs) = all_whole k c ++ each_whole (suc k) cs

-- what is left and behind it the answers, each once, but for the numbers of variables
pub record IsBegun (own : Own) (ls : List LeftTree) (answers : List (List Answer))
    (whole : ClauseTree) (behind : ℕ) : Type 0 where
  pub clause : ClauseTree
  pub all : List Answer
  pub variant : AreVariants (clause ++ packed all)
      (left_clause own ls ++ packed (together own answers))
  pub as_many : length clause ≡ length ls
  pub whole_is : whole ≡ clause ++ packed (each_once all)
  pub behind_is : behind ≡ length (each_once all)
