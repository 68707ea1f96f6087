use Rattle.std.proofs.Common.{◌≡◌, Option, subst, arith}
use Rattle.std.specs.Prelude.{IfOk}
use Rattle.fol_core.specs.Literals.{ClauseTree}
use Rattle.fol_core.specs.RawView.{raw_list}
use Rattle.ladr_formulas.proofs.ClauseLemmas.{not_one, raws_length}
use Rattle.ladr_formulas.proofs.clauses.clause.Goals as goal

pub returns-then-len-ne1-clause-clause : goal.returns-then-len-ne1-clause-clause
returns-then-len-ne1-clause-clause c =
    subst (λ (o : Option ClauseTree). IfOk c.all_literals.result (λ d. d ≡ o))
    (not_one c.args.style c.args.reader.now.scope c.args.reader.now.reading (raw_list c.args.literals.items) (λ e. c.if-len-ne1.true (omega (arith, e, raws_length c.args.literals.items, c.len.ensures, c.args.literals.ok.0))))
    c.all_literals.ensures.clause
