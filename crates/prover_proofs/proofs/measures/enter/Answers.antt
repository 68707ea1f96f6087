-- The first line of a number has its level.
use Rattle.std.proofs.Common.{sym, ◌∙◌}
use Rattle.prover_proofs.proofs.Known.{known_before, entered}
use Rattle.prover_proofs.proofs.measures.enter.Goals as goal

pub returns-then-contains_key : goal.returns-then-contains_key
returns-then-contains_key c = λ ks h.
    known_before c.args.levels.now c.args.number c.args.level ks (sym c.contains_key.ensures ∙ c.if-contains_key.true) h

pub returns : goal.returns
returns c = λ ks h.
    entered c.args.levels.now c.insert.new.self c.args.number c.args.level ks (sym c.contains_key.ensures ∙ c.if-contains_key.false)
    (c.in_ok-insert.ensures.updates.0) h
