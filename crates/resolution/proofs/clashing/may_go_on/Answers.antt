-- Nothing unifies what is taken so far, and something is.
use Rattle.std.specs.Borrow.{Bor}
use Rattle.std.proofs.Common.{◌<◌, List, length, subst, arith}
use Rattle.std.proofs.lemmas.Grind.{common_steps}
use Rattle.fol_core.specs.Literals.{ClauseTree}
use Rattle.derivation.specs.declared.words.Satellite.{Satellite}
use Rattle.inference.specs.Lent.{lent_clauses}
use Rattle.resolution.specs.Ways.{IsStuck}
use Rattle.resolution.proofs.Clashes.{NeverUnified, is_stuck}
use Rattle.resolution.proofs.clashing.may_go_on.Goals as goal

pub returns : goal.returns
returns c = λ no.
    let taken = c.args.taken.now in
    let some : 0 < length taken.satellites.items = grind (arith, common_steps, c.is_empty.ensures, c.if-is_empty.false) in
    subst (λ (bs : List (Bor ClauseTree)). IsStuck taken.satellites.items (lent_clauses bs)) c.as_slice-2.ensures.value
    (is_stuck taken.satellites.items (lent_clauses c.as_slice-2.result.now) some
    (subst (λ (ss : List Satellite). NeverUnified ss (lent_clauses c.as_slice-2.result.now)) c.as_slice.ensures.value (c.in_ok-can.ensures.no no)))
