use Rattle.std.proofs.Common.{◌≡◌, ℕ, ◌+◌, ◌*◌, ◌^◌, ◌<◌, ◌≤◌, Bool, List, get_or, length, map, take, sym, ap, ◌∙◌, subst, arith}
use Rattle.std.specs.Prelude.{count_by}
use Rattle.std.proofs.lemmas.List.{take_all}
use Rattle.fol_core.specs.Literals.{ClauseTree}
use Rattle.mace_ground.specs.Instances.{assigned_by, ground_literals, variables_in}
use Rattle.model_tables.specs.declared.limits.TheConstants.{MOST_CELLS}
use Rattle.plain_search.specs.Closing.{Ground, instances_of}
use Rattle.cell_search.proofs.Counted.{all_few, occurrences_seen, power_few, row_few, row_fits, rows_more}
use Rattle.cell_search.specs.Counted.{counts_seen}
use Rattle.cell_search.specs.Full.{HaveVariables}
use Rattle.cell_search.proofs.occurrences.count.Goals as goal

pub count_clause-requires-clause-variables : goal.count_clause-requires-clause-variables
count_clause-requires-clause-variables c =
    let rows = c.clauses-clause-items.result.now in
    let all : HaveVariables (map (λ r. r.1) rows) (length c.args.env.now) = subst (λ (cs : List ClauseTree). HaveVariables cs (length c.args.env.now)) (sym c.clauses-clause-items.ensures) c.requires.variables in
    let few = row_fits (length c.args.env.now) rows c.loop-clause.clause-index c.loop-clause-item.result all c.loop-clause-test.true c.loop-clause-item.is in
    let same = c.loop-clause.invariant.variables in
    omega (arith, few, same)

pub count_clause-requires-clause-bound : goal.count_clause-requires-clause-bound
count_clause-requires-clause-bound c =
    let w = c.args.setup.now in
    let rows = c.clauses-clause-items.result.now in
    let few : ground_literals w.size (map (λ r. r.1) rows) ≤ MOST_CELLS = subst (λ (cs : List ClauseTree). ground_literals w.size cs ≤ MOST_CELLS) (sym c.clauses-clause-items.ensures) c.literals_are_few.ensures in
    let row = row_few w.size rows c.loop-clause.clause-index c.loop-clause-item.result c.loop-clause-test.true c.loop-clause-item.is in
    power_few w.size MOST_CELLS c.loop-clause-item.result.1 (omega arith) (omega (arith, few, row))

pub count_clause-requires-clause-few : goal.count_clause-requires-clause-few
count_clause-requires-clause-few c = λ k less.
    let w = c.args.setup.now in
    let es = c.args.trail.now.entries in
    let rows = c.clauses-clause-items.result.now in
    let inv = c.loop-clause.invariant in
    let many = inv.many in
    let f : Ground → Bool = (λ g. counts_seen w es (assigned_by g.elements) g.clause k) in
    let few : ground_literals w.size (map (λ r. r.1) rows) ≤ MOST_CELLS = subst (λ (cs : List ClauseTree). ground_literals w.size cs ≤ MOST_CELLS) (sym c.clauses-clause-items.ensures) c.literals_are_few.ensures in
    let row = row_few w.size rows c.loop-clause.clause-index c.loop-clause-item.result c.loop-clause-test.true c.loop-clause-item.is in
    let counts = inv.counts k (omega (arith, less, many)) in
    let below = all_few w.size f (λ g e. ap (λ (d : ClauseTree). counts_seen w es (assigned_by g.elements) d k) e) (map (λ r. r.1) (take c.loop-clause.clause-index rows)) in
    omega (arith, few, row, counts, below)

pub loop-clause-preserved : goal.loop-clause-preserved
loop-clause-preserved c =
    let w = c.args.setup.now in
    let es = c.args.trail.now.entries in
    let rows = c.clauses-clause-items.result.now in
    let inv = c.loop-clause.invariant in
    record {
      env = c.count_clause.ensures.env;
      variables = c.count_clause.ensures.variables ∙ inv.variables;
      many = c.count_clause.ensures.many ∙ inv.many;
      counts = λ k less.
          let many = inv.many in
          let here = c.count_clause.ensures.added k (omega (arith, less, many)) in
          let before = inv.counts k less in
          let more = rows_more w.size (λ g. counts_seen w es (assigned_by g.elements) g.clause k) rows c.loop-clause.clause-index c.loop-clause-item.result c.loop-clause-test.true c.loop-clause-item.is in
          omega (arith, here, before, more);
    }

pub returns-clause-counts : goal.returns-clause-counts
returns-clause-counts c = λ k less.
    let w = c.args.setup.now in
    let t = c.args.trail.now in
    let rows = c.clauses-clause-items.result.now in
    let many = c.requires.many in
    let whole : take c.loop-clause.clause-index rows ≡ rows = take_all c.loop-clause.clause-index rows (omega (arith, c.loop-clause-test.false)) in
    c.loop-clause.invariant.counts k (omega (arith, less, many))
    ∙ ap (λ (cs : List ClauseTree). count_by (λ g. counts_seen w t.entries (assigned_by g.elements) g.clause k) (instances_of w.size cs)) (ap (λ rs. map (λ r. r.1) rs) whole ∙ c.clauses-clause-items.ensures)
    ∙ sym (occurrences_seen w t c.requires.cells c.requires.well k less)
