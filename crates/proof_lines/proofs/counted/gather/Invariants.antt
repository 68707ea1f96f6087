-- The terms so far stand behind the others, and each answer has its count.
use Rattle.std.proofs.Common.{◌≡◌, ◌++◌, map}
use Rattle.std.specs.List.{flat_map}
use Rattle.fol_core.specs.RawView.{raw_list}
use Rattle.proof_lines.specs.Counted.{counted_of}
use Rattle.proof_lines.specs.declared.answered.RawAnswer.{RawAnswer}
use Rattle.proof_lines.proofs.counted.gather.Given as goal

abbrev pub invariant-loop-answer : goal.invariant-loop-answer
invariant-loop-answer l =
    (l.counts.items ≡ map counted_of l.yielded)
    × (raw_list l.behind.items ≡ raw_list l.fn.behind.items ++ flat_map (λ (a : RawAnswer). a.terms) l.yielded)
