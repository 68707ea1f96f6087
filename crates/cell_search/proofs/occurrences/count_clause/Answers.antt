use Rattle.std.proofs.Common.{◌≡◌, ℕ, ◌+◌, ◌-◌, ◌^◌, ◌<◌, ◌≤◌, min, Bool, List, cond, get_or, length, map, take, sym, ap, ap₂, ◌∙◌, subst, arith}
use Rattle.std.specs.Prelude.{count_by}
use Rattle.std.specs.List.{range_with_len}
use Rattle.fol_core.specs.ClauseView.{literal_of}
use Rattle.fol_core.specs.Literals.{ClauseTree}
use Rattle.mace_ground.specs.Cells.{digits}
use Rattle.mace_ground.specs.Instances.{assigned_by, variables_in}
use Rattle.model_tables.specs.Size.{AllBelow}
use Rattle.model_tables.specs.Tables.{place_from}
use Rattle.plain_search.specs.Closing.{Ground, ground}
use Rattle.cell_search.proofs.Counted.{count_few, count_more, elements_are}
use Rattle.cell_search.specs.Counted.{counts_seen}
use Rattle.cell_search.proofs.occurrences.count_clause.Goals as goal

pub count_instance-requires-clause-few : goal.count_instance-requires-clause-few
count_instance-requires-clause-few c = λ k less.
    let w = c.args.setup.now in
    let es = c.args.trail.now.entries in
    let inv = c.loop-number.invariant in
    let many = inv.many in
    let inside : k < length c.args.scores.now = omega (arith, less, many) in
    let added = inv.added k inside in
    let old = c.requires.few k inside in
    let passed = count_few (λ g. counts_seen w es (assigned_by g.elements) g.clause k) (λ j. ground c.args.clause.now (digits w.size (variables_in c.args.clause.now) j)) c.loop-number.number in
    let bound = c.requires.bound in
    let power = c.power-many.ensures in
    let size = c.size.ensures.size in
    let variables = c.variables_in-variables.ensures.many in
    let all : c.power-many.result ≡ min (w.size ^ variables_in c.args.clause.now) (2 ^ 128 - 1) = power ∙ ap₂ (λ (a b : ℕ). min (a ^ b) (2 ^ 128 - 1)) size variables in
    let most : c.loop-number.number ≤ w.size ^ variables_in c.args.clause.now = omega (arith, c.loop-number-test.true, all) in
    omega (arith, added, old, passed, bound, most)

pub loop-number-preserved : goal.loop-number-preserved
loop-number-preserved c =
    let w = c.args.setup.now in
    let es = c.args.trail.now.entries in
    let clause = c.args.clause.now in
    let inv = c.loop-number.invariant in
    let number = c.loop-number.number in
    let put = c.put_elements.ensures in
    let env = c.put_elements.new.env in
    let v = c.variables_in-variables.result in
    let size = c.size-in-loop-number.ensures.size in
    let below : AllBelow w.size env = subst (λ (n : ℕ). AllBelow n env) size put.below in
    let place : place_from w.size 0 (take v env) ≡ number = subst (λ (n : ℕ). place_from n 0 (take v env) ≡ number) size put.place in
    let same : v ≡ variables_in clause = c.variables_in-variables.ensures.many in
    let long : length env ≡ length c.args.env.now = put.many ∙ inv.variables in
    let fits : v ≤ length env = (let few = c.requires.variables in omega (arith, few, same, long)) in
    let elements : digits w.size (variables_in clause) number ≡ take v env = elements_are w.size v number env clause same fits below place in
    record {
      env = below;
      variables = long;
      many = c.count_instance.ensures.many ∙ inv.many;
      added = λ k less.
          let many = inv.many in
          let f : Ground → Bool = (λ g. counts_seen w es (assigned_by g.elements) g.clause k) in
          let g : ℕ → Ground = (λ j. ground clause (digits w.size (variables_in clause) j)) in
          let here = c.count_instance.ensures.added k (omega (arith, less, many)) in
          let before = inv.added k less in
          let more = count_more f g number in
          let bit : ◌≡◌ {A = ℕ} (cond (counts_seen w es (assigned_by (take v env)) (map literal_of c.as_slice-literals.result.now) k) 1 0) (cond (f (g number)) 1 0) =
          ap₂ (λ (xs : List ℕ) (d : ClauseTree). cond (counts_seen w es (assigned_by xs) d k) 1 0) (sym elements) c.as_slice-literals.ensures.literals in
          omega (arith, here, before, more, bit);
    }
