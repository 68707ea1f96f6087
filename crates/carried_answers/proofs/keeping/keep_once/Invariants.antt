-- The answers so far stand each once.
use Rattle.std.proofs.Common.{◌≡◌, ◌-◌, ◌++◌, List, length}
use Rattle.answers.specs.AnswerTrees.{Answer}
use Rattle.answers.specs.Packed.{packed}
use Rattle.carried_answers.specs.Among.{Keeping}
use Rattle.carried_answers.proofs.keeping.keep_once.Given as goal
use Rattle.fol_core.specs.Literals.{ClauseTree}

abbrev pub invariant-on : goal.invariant-on
invariant-on l = (c : ClauseTree) (us : List Answer) → l.fn.whole ≡ c ++ packed us → l.first ≡ length c → Keeping c us l.whole l.place

abbrev pub decreases-on : goal.decreases-on
decreases-on l = length l.whole - l.place
