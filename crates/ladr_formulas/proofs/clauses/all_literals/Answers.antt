use Rattle.std.proofs.Common.{◌∙◌}
use Rattle.fol_core.specs.RawView.{raw_of, raw_list}
use Rattle.ladr_formulas.proofs.ClauseLemmas.{literals_next, literals_over}
use Rattle.ladr_formulas.proofs.TermLemmas.{kept_both}
use Rattle.ladr_formulas.proofs.clauses.all_literals.Goals as goal

pub loop-literal-preserved : goal.loop-literal-preserved
loop-literal-preserved c = record {
  clause = literals_next c.args.style c.args.reader.now.scope _ _ _ c.loop-literal.clause c.in_ok-clause.clause _ (raw_of c.in-Some.literal) c.loop-literal.waiting c.next.new.self c.in-Some.ensures c.loop-literal.invariant.scope c.in_ok-shape.ensures.read c.in_ok-clause.ensures ∙ c.loop-literal.invariant.clause;
  scope = c.in_ok-shape.ensures.scope ∙ c.loop-literal.invariant.scope;
  kept = kept_both _ _ _ c.loop-literal.invariant.kept c.in_ok-shape.ensures.kept;
}

pub returns-clause-clause : goal.returns-clause-clause
returns-clause-clause c = (literals_over c.args.style c.args.reader.now.scope _ _ c.loop-literal.clause c.loop-literal.waiting c.of-waiting.result (raw_list c.args.literals.items) c.in_default.ensures c.of-waiting.ensures c.loop-literal.invariant.clause).0

pub returns-clause-reading : goal.returns-clause-reading
returns-clause-reading c = (literals_over c.args.style c.args.reader.now.scope _ _ c.loop-literal.clause c.loop-literal.waiting c.of-waiting.result (raw_list c.args.literals.items) c.in_default.ensures c.of-waiting.ensures c.loop-literal.invariant.clause).1
