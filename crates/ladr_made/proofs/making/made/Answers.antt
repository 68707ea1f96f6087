use Rattle.ladr_made.proofs.Summing.{made_told}
use Rattle.ladr_made.proofs.making.made.Goals as goal

pub returns : goal.returns
returns g c = made_told c.args.n _ _ c.made_summary.result c.ending.result c.made_summary.ensures c.ending.ensures.printed c.ending.ensures.lacking
