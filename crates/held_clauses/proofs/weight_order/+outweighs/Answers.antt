-- The first terms that differ decide.
use Rattle.std.proofs.Common.{◌∙◌, sym}
use Rattle.std.proofs.lemmas.Bool.{false≢true}
use Rattle.term_order.specs.Precedences.{stands_above, weight_at}
use Rattle.held_clauses.proofs.Weights.{first_other, first_same}
use Rattle.held_clauses.proofs.weight_order.+outweighs.Goals as goal

pub first_outweighs-returns-then-same : goal.first_outweighs-returns-then-same
first_outweighs-returns-then-same t c =
    c.first_outweighs.ensures
    ∙ first_same (stands_above c.args.precedence.now.rows.items) (weight_at c.args.precedence.now.rows.items) c.args.ss.now c.args.ts.now c.in-Some.us.now c.in-Some-split_first.vs.now c.in-Some.s.now c.in-Some-split_first.t.now
    c.in-Some.ensures.cases.0 c.in-Some-split_first.ensures.cases.0 (c.same.ensures.0 c.if-same.true)

pub first_outweighs-returns-else-same : goal.first_outweighs-returns-else-same
first_outweighs-returns-else-same t c =
    c.outweighs.ensures
    ∙ first_other (stands_above c.args.precedence.now.rows.items) (weight_at c.args.precedence.now.rows.items) c.args.ss.now c.args.ts.now c.in-Some.us.now c.in-Some-split_first.vs.now c.in-Some.s.now c.in-Some-split_first.t.now
    c.in-Some.ensures.cases.0 c.in-Some-split_first.ensures.cases.0 (λ e. false≢true (sym c.if-same.false ∙ c.same.ensures.1 e))
