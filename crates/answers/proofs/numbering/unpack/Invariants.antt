-- The answers so far are those of the first literals.
use Rattle.std.proofs.Common.{◌≡◌, map}
use Rattle.fol_core.specs.ClauseView.{literal_of}
use Rattle.answers.specs.AnswerView.{answers_of}
use Rattle.answers.specs.Packed.{unpacked}
use Rattle.answers.proofs.numbering.unpack.Given as goal

abbrev pub invariant-loop-literal : goal.invariant-loop-literal
invariant-loop-literal l = answers_of l.answers.items ≡ unpacked (map literal_of l.yielded)
