-- Not as many on both sides.
use Rattle.std.proofs.Common.{IsTrue, false, arith}
use Rattle.term_unifiers.proofs.Unified.{entered_uneven}
use Rattle.term_unifiers.proofs.unifying.have_unifier.Goals as goal

no_falsehood : IsTrue false → ⊥
no_falsehood e = cc

pub returns-then-len : goal.returns-then-len
returns-then-len c =
    let never = entered_uneven c.args.nodes (λ e. c.if-len.true (omega (arith, e, c.len.ensures, c.len-2.ensures, c.args.nodes.work.lefts.ok.0, c.args.nodes.work.rights.ok.0))) in
    (λ e. absurd (no_falsehood e), λ made. absurd (never made.0 made.1))
