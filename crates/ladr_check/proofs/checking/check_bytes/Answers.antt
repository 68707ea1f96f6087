use Rattle.std.proofs.Common.{refl}
use Rattle.ladr_check.proofs.Offering.{read_well_formed, read_table, read_relations}
use Rattle.ladr_check.specs.Offered.{offered_by}
use Rattle.proof_text.specs.Refused.{memory}
use Rattle.ladr_check.proofs.checking.check_bytes.Goals as goal

pub judge_proofs-requires-clause-well_formed : goal.judge_proofs-requires-clause-well_formed
judge_proofs-requires-clause-well_formed c = read_well_formed (λ m bytes s h. c.problems_are_proper.ensures m s (c.problems_grow.ensures m bytes s h)) _ c.in_ok-read.read c.in_ok-read.ensures.read

pub judge_proofs-requires-clause-table : goal.judge_proofs-requires-clause-table
judge_proofs-requires-clause-table c = read_table (λ m bytes s h. c.problems_are_proper.ensures m s (c.problems_grow.ensures m bytes s h)) _ c.in_ok-read.read c.in_ok-read.ensures.read

pub judge_proofs-requires-clause-no_relation : goal.judge_proofs-requires-clause-no_relation
judge_proofs-requires-clause-no_relation c = read_relations (λ m bytes s h. c.problems_are_proper.ensures m s (c.problems_grow.ensures m bytes s h)) _ c.in_ok-read.read c.in_ok-read.ensures.read c.own_table.ensures

pub returns-in-Ok-clause-end : goal.returns-in-Ok-clause-end
returns-in-Ok-clause-end c = (offered_by c.in_ok-read.read, (c.in_ok-read.read, c.in_ok-read.ensures.read, refl), (c.in-Ok.over.accepted, c.in-Ok.ensures))

pub returns-in-Err-clause-refused : goal.returns-in-Err-clause-refused
returns-in-Err-clause-refused c = memory
