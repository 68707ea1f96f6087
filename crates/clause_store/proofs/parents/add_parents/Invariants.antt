-- The first words.
use Rattle.std.proofs.Common.{◌≡◌, ◌++◌, take}
use Rattle.derivation.specs.View.{first_word_of}
use Rattle.clause_store.specs.Ancestors.{first_parents}
use Rattle.clause_store.specs.Parents.{steps_parents}
use Rattle.clause_store.proofs.parents.add_parents.Given as goal

abbrev pub invariant-loop-later : goal.invariant-loop-later
invariant-loop-later l = l.numbers.items ≡ l.fn.numbers.items ++ (first_parents (first_word_of l.just.first) ++ steps_parents (take l.later-index l.later-items))
