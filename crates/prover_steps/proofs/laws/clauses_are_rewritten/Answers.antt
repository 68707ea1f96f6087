use Rattle.prover_steps.proofs.Chains.{leads_to}
use Rattle.prover_steps.proofs.Rewrites.{rewriting_leads}
use Rattle.prover_steps.proofs.laws.clauses_are_rewritten.Goals as goal

pub returns : goal.returns
returns c = λ ls too_large rules k d have. leads_to ls c.clauses_are_decided.ensures.numbers _ d _ (rewriting_leads c.matches_are_found.ensures.make ls rules have too_large k d)
