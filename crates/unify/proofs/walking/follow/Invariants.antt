-- What is left to follow.
use Rattle.std.proofs.Common.{◌≡◌, drop}
use Rattle.unify.specs.Steps.{linked}
use Rattle.unify.proofs.walking.follow.Given as goal

abbrev pub invariant-loop-link : goal.invariant-loop-link
invariant-loop-link l = linked (drop l.link-index l.links.items) l.spot ≡ linked l.links.items l.fn.spot
