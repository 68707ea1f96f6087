use Rattle.ladr_print.proofs.Derived as derived
use Rattle.ladr_print.proofs.laws.clauses_have_texts.Goals as goal

pub returns : goal.returns
returns c = derived.clauses_have_texts
