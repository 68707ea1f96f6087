-- the answer for the rest is that for all
use Rattle.std.proofs.Common.{◌≡◌, drop}
use Rattle.std.specs.List.{list_all}
use Rattle.fol_core.specs.RawView.{raw_list}
use Rattle.proof_lines.specs.Literals.{reads_as_literal}
use Rattle.proof_lines.proofs.literals.are_literals.Given as goal

abbrev pub invariant-loop-literal : goal.invariant-loop-literal
invariant-loop-literal l = list_all reads_as_literal (raw_list (drop l.literal-index l.literals)) ≡ list_all reads_as_literal (raw_list l.literals)
