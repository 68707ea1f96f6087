-- The first of them are taken out.
use Rattle.std.proofs.Common.{◌≡◌, take}
use Rattle.prover_steps.specs.Searching.{held_without}
use Rattle.clause_index.proofs.rules.RewriteRules.leave_out.Given as goal

abbrev pub invariant-loop-held : goal.invariant-loop-held
invariant-loop-held l = l.self ≡ held_without (take l.held-index l.gone) l.fn.self
