-- As many as there are of each kind.
use Rattle.std.proofs.Common.{arith}
use Rattle.prover_proofs.proofs.Placed.{all_count}
use Rattle.prover_proofs.proofs.lines.SearchLines.count.Goals as goal

pub returns : goal.returns
returns c =
    let s = c.args.self.now in
    omega (arith, all_count s.inputs.now s.clauses.now s.made.now, c.in_ok-stated.ensures, c.in_ok-count.ensures)
