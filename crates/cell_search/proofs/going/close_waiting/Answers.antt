use Rattle.std.proofs.Common.{Bool, List, sym, ap, ◌∙◌, subst}
use Rattle.mace_cells.specs.declared.trail.TrailEntry.{TrailEntry}
use Rattle.plain_search.specs.Coming.{closed_behind}
use Rattle.cell_search.specs.Losses.{decided_in}
use Rattle.cell_search.specs.Phases.{IsWaiting}
use Rattle.cell_search.proofs.going.close_waiting.Goals as goal

pub returns-then-begun-clause-behind : goal.returns-then-begun-clause-behind
returns-then-begun-clause-behind c = λ ready waits.
    let h = subst (λ (b : Bool). IsWaiting c.args.setup.now c.args.trail.now b c.args.head) c.if-begun.true waits in
    sym h.2 ∙ c.close.ensures.closes ready.ways h.0 h.1

pub returns-then-begun-clause-well : goal.returns-then-begun-clause-well
returns-then-begun-clause-well c = λ cells waits done.
    let h = subst (λ (b : Bool). IsWaiting c.args.setup.now c.args.trail.now b c.args.head) c.if-begun.true waits in
    (c.close.ensures.goes cells h.0).1 done

pub returns-else-begun-clause-behind : goal.returns-else-begun-clause-behind
returns-else-begun-clause-behind c = λ ready waits.
    let h = subst (λ (b : Bool). IsWaiting c.args.setup.now c.args.trail.now b c.args.head) c.if-begun.false waits in
    ap (λ (es : List TrailEntry). closed_behind c.args.setup.now (decided_in c.args.setup.now es)) h.0 ∙ c.close_first.ensures.closes ready.ways ready.whole ready.each h.0 h.1

pub returns-else-begun-clause-well : goal.returns-else-begun-clause-well
returns-else-begun-clause-well c = λ cells waits done.
    let h = subst (λ (b : Bool). IsWaiting c.args.setup.now c.args.trail.now b c.args.head) c.if-begun.false waits in
    c.close_first.ensures.well cells h.1 done
