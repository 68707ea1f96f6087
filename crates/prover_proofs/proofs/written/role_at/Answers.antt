-- The role of a number's formula.
use Rattle.prover_proofs.proofs.Roles.{role_none, role_past, role_there}
use Rattle.prover_proofs.proofs.written.role_at.Goals as goal

pub returns-then-number-eq0 : goal.returns-then-number-eq0
returns-then-number-eq0 c = role_none _ _ c.if-number-eq0.true

pub returns-in-Some : goal.returns-in-Some
returns-in-Some c = role_there _ _ _ c.if-number-eq0.false c.in-Some.ensures.lookup.0 c.in-Some.ensures.lookup.1

pub returns-in-None : goal.returns-in-None
returns-in-None c = role_past _ _ c.if-number-eq0.false c.in-None.ensures.lookup.0
