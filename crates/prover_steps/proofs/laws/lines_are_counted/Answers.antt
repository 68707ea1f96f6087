use Rattle.std.proofs.Common.{suc, ◌+◌, length, subst}
use Rattle.prover_steps.specs.LineNumbers.{CountsLinesFrom}
use Rattle.prover_steps.specs.Starting.{start_state}
use Rattle.prover_steps.proofs.Counted.{line_counts, meets_counts, works_make_none, processed_counts, next_counts, start_counts, after_counts}
use Rattle.prover_steps.proofs.laws.lines_are_counted.Goals as goal

pub returns : goal.returns
returns c = record {
  line = line_counts;
  meeting = meets_counts;
  working = works_make_none;
  processing = processed_counts;
  next = next_counts;
  reached =
      λ st ss rows t reaches.
      subst (λ u. CountsLinesFrom (suc (length ss + length rows)) u) reaches.1
      (after_counts (suc (length ss + length rows)) st reaches.0 (start_state ss rows) (start_counts ss rows));
}
