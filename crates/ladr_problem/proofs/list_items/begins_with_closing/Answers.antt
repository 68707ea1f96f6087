use Rattle.ladr_problem.proofs.EndLemmas.{too_short}
use Rattle.ladr_problem.proofs.list_items.begins_with_closing.Goals as goal

pub returns-in_default : goal.returns-in_default
returns-in_default c = too_short c.args.tokens.now c.in_default.len_below
