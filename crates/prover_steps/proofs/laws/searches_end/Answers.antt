use Rattle.prover_steps.proofs.Ends.{giving_falls, queue_falls, processing_adds, search_ends}
use Rattle.prover_steps.proofs.laws.searches_end.Goals as goal

pub returns : goal.returns
returns c = record {
  giving = giving_falls;
  queue = queue_falls;
  processing = processing_adds;
  ends = search_ends;
}
