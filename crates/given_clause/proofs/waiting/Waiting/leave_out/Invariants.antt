-- The first of them are taken out, with their notes.
use Rattle.std.proofs.Common.{◌≡◌, take}
use Rattle.given_clause.specs.Noted.{StayNoted}
use Rattle.prover_steps.specs.Searching.{Setting, held_without}
use Rattle.given_clause.proofs.waiting.Waiting.leave_out.Given as goal

abbrev pub invariant-loop-held : goal.invariant-loop-held
invariant-loop-held l = (l.self.held ≡ held_without (take l.held-index l.gone) l.fn.self.held) × ((st : Setting) → StayNoted st l.fn.self l.self)
