-- As many as the code has.
use Rattle.std.proofs.Common.{◌≡◌, List, ap, length, arith}
use Rattle.std.proofs.lemmas.List.{length-map}
use Rattle.given_clause.specs.States.{found_of}
use Rattle.given_clause.specs.declared.state.FoundProof.{FoundProof}
use Rattle.ladr_prover9.proofs.searching.proofs_are_counted.Goals as goal
use Rattle.prover.specs.Provers.{proofs_had}

pub returns : goal.returns
returns c =
    let many : length c.proofs-proofs.result.now ≡ length (proofs_had c.args.prover.now) = ap (λ (ps : List FoundProof). length ps) c.proofs-proofs.ensures in
    omega (arith, many, length-map (proofs_had c.args.prover.now) found_of, c.few_proofs.ensures)
