use Rattle.ladr_check.proofs.OneRefusal.{refused_alone}
use Rattle.ladr_check.proofs.laws.refusals_are_alone.Goals as goal

pub returns : goal.returns
returns c = refused_alone c.one_outcome.ensures c.one_line.ensures c.bad_tokens_are_bad.ensures c.one_fault.ensures
