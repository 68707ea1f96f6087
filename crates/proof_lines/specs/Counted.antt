-- The terms of several answers one behind the other, and cut apart again.
use Rattle.std.specs.Prelude.{List, [], ◌∷◌, length, take, drop}
use Rattle.answers.specs.AnswerTrees.{Answer, answer}
use Rattle.fol_core.specs.Tree.{Tree, trees_of}
use Rattle.proof_lines.specs.declared.answered.RawAnswer.{RawAnswer}
use Rattle.proof_lines.specs.declared.counted.Counted.{Counted}

-- the number of an answer's goal, and how many terms it has
abbrev pub counted_of : RawAnswer → Counted
counted_of a = record { goal = a.goal; count = length a.terms }

-- the answers whose terms these are
abbrev pub cut : List Counted → List Tree → List Answer
cut [] ts = []
cut (c ∷ cs) ts = answer c.goal (trees_of (take c.count ts)) ∷ cut cs (drop c.count ts)
