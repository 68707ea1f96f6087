-- The lines that the last one rests on.
use Rattle.std.proofs.Common.{List, map, subst}
use Rattle.clause_store.specs.Ancestors.{AreAncestors}
use Rattle.clause_store.specs.Lines.{PlainLine, plain_line}
use Rattle.ladr_prover9.proofs.ProofTexts.{lines_are}
use Rattle.ladr_prover9.proofs.printing.proof_behind.Goals as goal
use Rattle.prover.specs.Provers.{lines_had}

pub returns-clause-lines : goal.returns-clause-lines
returns-clause-lines c =
    let asking = c.args.asking.now in
    subst (λ (ls : List PlainLine). AreAncestors ls c.args.line (map plain_line c.in_ok-proof.proof.lines.items))
    (lines_are _ asking.problem.now.inputs.items _ asking.clauses.items _ _ (lines_had c.args.prover.now) c.as_slice.ensures.value c.as_slice-2.ensures.value c.requires.asked.clauses c.lines.ensures c.requires.counted.numbered)
    c.in_ok-proof.ensures.lines
