-- the answer for the rest is that for all
use Rattle.std.proofs.Common.{◌≡◌, drop}
use Rattle.fol_core.specs.RawView.{raw_list}
use Rattle.proof_lines.specs.Literals.{are_shallow}
use Rattle.proof_lines.proofs.literals.are_shallow.Given as goal

abbrev pub invariant-loop-literal : goal.invariant-loop-literal
invariant-loop-literal l = are_shallow (raw_list (drop l.literal-index l.literals)) ≡ are_shallow (raw_list l.literals)
