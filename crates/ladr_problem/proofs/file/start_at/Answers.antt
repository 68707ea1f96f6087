use Rattle.std.proofs.Common.{sym, ◌∙◌}
use Rattle.std.proofs.lemmas.Bool.{ltb-true, ltb-false}
use Rattle.ladr_problem.proofs.Starts.{start_there, start_past}
use Rattle.ladr_problem.proofs.file.start_at.Goals as goal

pub returns-in-Some : goal.returns-in-Some
returns-in-Some c = c.start.ensures ∙ start_there c.args.end c.args.tokens.now c.args.k c.in-Some.token.now (ltb-true _ _ (sym c.in-Some.ensures.lookup.0)) c.in-Some.ensures.lookup.1

pub returns-in-None : goal.returns-in-None
returns-in-None c = start_past c.args.end c.args.tokens.now c.args.k (ltb-false _ _ (sym c.in-None.ensures.lookup.0))
