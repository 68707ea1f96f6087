use Rattle.std.proofs.Common.{subst}
use Rattle.search_lines.proofs.Search.{next_fit, after_fit, start_fit}
use Rattle.search_lines.proofs.laws.lines_are_fit.Goals as goal
use Rattle.search_lines.specs.Shapes.{IsFitState}
use Rattle.prover_steps.specs.Starting.{start_state}

pub returns : goal.returns
returns _ = record {
  start = start_fit;
  next = next_fit;
  reached = λ st s t fit reaches. subst IsFitState reaches.1 (after_fit st reaches.0 s fit);
  lines =
      λ st ss rows t reaches.
      (subst IsFitState reaches.1 (after_fit st reaches.0 (start_state ss rows) (start_fit ss rows))).lines;
}
