-- The literal is there.
use Rattle.std.proofs.Common.{IsTrue, ◌<◌, length, sym, subst}
use Rattle.derivation.specs.Places.{has_place}
use Rattle.shared_clauses.proofs.FollowSteps.{place_there}
use Rattle.shared_clauses.proofs.following.SharedClauseUnderway.is_repeated.Goals as goal

pub is_repeated-requires-clause-place : goal.is_repeated-requires-clause-place
is_repeated-requires-clause-place c = subst (λ l. c.args.place < length l) (sym c.as_slice.ensures.value) (place_there c.self.inside.bank c.self.inside.literals.items c.args.place (subst (λ d. IsTrue (has_place d c.args.place)) (sym c.self.view_is) c.requires))
