use Rattle.std.proofs.Common.{sym, ◌∙◌, arith}
use Rattle.subsume.proofs.Ways.{from_nothing}
use Rattle.subsume.proofs.Pretests.{must_fit, must_match}
use Rattle.subsume.proofs.subsuming.subsumes.Goals as goal

pub returns-then-len-clause-subsumes : goal.returns-then-len-clause-subsumes
returns-then-len-clause-subsumes c = sym (must_fit c.matches_are_found.ensures.make c.args.clause.now c.args.other.now (omega (arith, c.len.ensures, c.len-2.ensures, c.if-len.true)))

pub returns-then-not-all_match_some-clause-subsumes : goal.returns-then-not-all_match_some-clause-subsumes
returns-then-not-all_match_some-clause-subsumes c =
    sym (must_match c.matches_are_found.ensures.make c.matches_are_found.ensures.found c.args.clause.now c.args.other.now (sym c.all_match_some.ensures.matches ∙ c.if-not-all_match_some.true))

pub returns-clause-subsumes : goal.returns-clause-subsumes
returns-clause-subsumes c =
    c.completes.ensures.completes
    ∙ from_nothing c.as_slice.result.now c.as_slice-2.result.now c.undo.new.self.bindings c.clear.new.self.items c.args.clause.now c.args.other.now c.as_slice.ensures.literals c.as_slice-2.ensures.literals c.undo.ensures.bindings c.clear.ensures.items
