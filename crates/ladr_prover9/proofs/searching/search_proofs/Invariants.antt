-- The prover may go on, each proof that it found is printed, and it finds no more than may be.
use Rattle.std.proofs.Common.{◌≡◌, ◌-◌, ◌+◌, max, length}
use Rattle.ladr_prover9.proofs.Seeking.{IsSearchedTo}
use Rattle.ladr_prover9.proofs.searching.search_proofs.Given as goal
use Rattle.ladr_prover9.specs.Askings.{quest_of}
use Rattle.ladr_prover9.specs.Counting.{IsFirstProof}
use Rattle.ladr_prover9.specs.Quests.{quest_lines}
use Rattle.prover.specs.Provers.{setting_at, state_at, watch_of, IsGoing, MayGoOn}
use Rattle.prover_setup.specs.SearchInputs.{setting_in}

abbrev pub invariant-loop-answer : goal.invariant-loop-answer
invariant-loop-answer g l = record {
  searched : IsSearchedTo (quest_of l.asking) (watch_of l.fn.prover).seconds (watch_of l.prover) (g.C.Clock.times l.clock) (state_at l.prover) (g.K.Sink.outflow l.fn.sink) (g.K.Sink.outflow l.sink);
  setting : setting_at l.prover ≡ setting_in (quest_of l.asking).search;
  going : IsGoing l.prover;
  goes : MayGoOn l.prover (g.C.Clock.times l.clock);
  first : IsFirstProof (quest_lines (quest_of l.asking) (state_at l.prover)) (state_at l.prover).proofs l.first.length l.first.level;
}

abbrev pub decreases-loop-answer : goal.decreases-loop-answer
decreases-loop-answer g l = (1 + max 1 (setting_in (quest_of l.asking).search).options.max_proofs) - length (state_at l.prover).proofs
