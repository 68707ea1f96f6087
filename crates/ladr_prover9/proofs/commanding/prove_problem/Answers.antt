-- A problem is searched, unless a formula has too many clauses.
use Rattle.std.proofs.Common.{refl, sym, subst}
use Rattle.ladr_prover9.proofs.Telling.{nothing, too_many, told_for}
use Rattle.ladr_prover9.proofs.commanding.prove_problem.Goals as goal
use Rattle.ladr_prover9.specs.Askings.{quest_of, IsSoundQuest}
use Rattle.ladr_prover9.specs.Quests.{quest_with}

pub prove_asked-requires-clause-sound : goal.prove_asked-requires-clause-sound
prove_asked-requires-clause-sound g c = subst IsSoundQuest (sym c.in-Ok.ensures.quest) c.requires.sound

pub returns-in-Ok : goal.returns-in-Ok
returns-in-Ok g c =
    told_for (quest_of c.in-Ok.asking) (quest_with c.args.input.now c.args.problem.now c.args.operators) c.args.seconds c.args.seconds (g.C.Clock.times c.prove_asked.new.clock) _ _ c.prove_asked.result c.in-Ok.ensures.quest refl c.prove_asked.ensures

pub returns-in-Err-ClauseLimit : goal.returns-in-Err-ClauseLimit
returns-in-Err-ClauseLimit g c =
    too_many (quest_with c.args.input.now c.args.problem.now c.args.operators) c.args.seconds (g.C.Clock.times c.args.clock.now) _ _ _ c.over_limit.result (c.in-Err-ClauseLimit.ensures.limit _ (cc)) c.requires.unread c.over_limit.ensures

pub returns-in-Err-Memory : goal.returns-in-Err-Memory
returns-in-Err-Memory g c = nothing (quest_with c.args.input.now c.args.problem.now c.args.operators) c.args.seconds (g.C.Clock.times c.args.clock.now) _ c.requires.unread
