-- What was read is searched, in the time that the word or the options set.
use Rattle.std.proofs.Common.{◌∙◌, ap, refl, ℕ, Option}
use Rattle.std.specs.Option.{option_or}
use Rattle.ladr_prover9.proofs.Telling.{told_for}
use Rattle.ladr_prover9.proofs.commanding.prove.Goals as goal
use Rattle.ladr_prover9.specs.Quests.{quest_in}

pub returns : goal.returns
returns g c =
    let q = quest_in c.args.input.now c.args.read in
    told_for q q c.or-seconds.result _ (g.C.Clock.times c.prove_problem.new.clock) _ _ c.prove_problem.result refl
    (◌∙◌ {b = option_or c.args.max_seconds c.seconds_of.result} c.or-seconds.ensures (ap (λ (s : Option ℕ). option_or c.args.max_seconds s) c.seconds_of.ensures)) c.prove_problem.ensures
