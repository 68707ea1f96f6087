-- One part behind the other.
use Rattle.std.proofs.Common.{◌++◌, ◌∙◌, ap, append_assoc, List, ℕ}
use Rattle.ladr_prover9.proofs.lines.closing_lines.Goals as goal
use Rattle.ladr_prover9.specs.Lines.{counters_line, proved_or_failed, cause_line}
use Rattle.prover.specs.Provers.{state_at}

pub returns : goal.returns
returns c =
    let t = state_at c.args.prover.now in
    let front = c.in_ok-verdict.ensures ∙ ap (λ (l : List ℕ). l ++ proved_or_failed t) (c.in_ok-out.ensures t c.counters.ensures) in
    c.in_ok-cause.ensures ∙ ap (λ (l : List ℕ). l ++ cause_line c.args.end) front ∙ append_assoc (counters_line t) (proved_or_failed t) (cause_line c.args.end)
