use Rattle.ladr_problem.proofs.CutLemmas.{lexemes_pieces}
use Rattle.ladr_problem.proofs.item_laws.same_tokens.Goals as goal

pub returns : goal.returns
returns c = lexemes_pieces
