use Rattle.std.proofs.Common.{◌≡◌, ℕ, ◌+◌, ◌*◌, ◌<◌, ◌≤◌, Bool, true, not, is_none, List, [], ◌∷◌, ◌++◌, length, Some, None, sym, ap, ◌∙◌, subst, arith}
use Rattle.std.specs.Prelude.{count_by, sum_by}
use Rattle.mace_cells.specs.Trails.{Partial, is_struck_off}
use Rattle.mace_cells.specs.World.{cell_of, many_cells}
use Rattle.mace_ground.specs.Cells.{Cell}
use Rattle.model_tables.specs.Size.{AllBelow, bound_of}
use Rattle.plain_search.specs.Lefts.{ValuesLeft}
use Rattle.plain_search.specs.Trying.{assigned, tried_table}
use Rattle.cell_search.proofs.Following.{left_blank}
use Rattle.cell_search.proofs.Trials.{assigned_more, left_more, left_same, none_more, some_more}
use Rattle.cell_search.specs.Trials.{come_of}
use Rattle.cell_search.specs.Viewing.{left_in, uncrossed}
use Rattle.cell_search.proofs.trying.trials.Goals.{then-not-is_crossed+in-Some, then-not-is_crossed+in-None, else-not-is_crossed}
use Rattle.cell_search.proofs.trying.trials.Goals as goal

pub loop-value-preserved : goal.loop-value-preserved
loop-value-preserved c =
    let w = c.args.setup.now in
    let t = c.args.trail.now in
    let k = c.args.cell in
    let v = c.loop-value.value in
    let inv = c.loop-value.invariant in
    let p : ValuesLeft = left_in w t in
    let here : Cell = cell_of w k in
    let f : ℕ → Bool = (λ x. not (is_struck_off (k * t.stride + x) t.crossings)) in
    let sums : List ℕ → ℕ = (λ vs. sum_by (λ u. assigned w p here (tried_table w p here u)) vs) in
    let counts : List ℕ → ℕ = (λ vs. count_by (λ u. is_none (tried_table w p here u)) vs) in
    let test : is_struck_off (k * t.stride + v) t.crossings ≡ c.is_crossed.result = sym (subst (λ (q : Partial). c.is_crossed.result ≡ is_struck_off (k * q.stride + v) q.crossings) inv.same c.is_crossed.ensures) in
    let next : (v + 1) * many_cells w ≡ v * many_cells w + many_cells w = grind arith in
    elim c.if-not-is_crossed.branch [
      | then-not-is_crossed+in-Some x ↦
          let left : uncrossed t k (v + 1) ≡ uncrossed t k v ++ v ∷ [] = left_more f v (ap not (test ∙ x.if-not-is_crossed.true)) in
          let come : Some x.in-Some.others ≡ come_of w p here v = subst (λ (q : Partial). Some x.in-Some.others ≡ come_of w (left_in w q) here v) inv.same x.in-Some.ensures.come in
          let few = x.in-Some.ensures.few in
          record {
            same = x.trail-is ∙ x.in-Some.ensures.same ∙ inv.same;
            env = subst (AllBelow w.size) (sym x.env-is) x.in-Some.ensures.env;
            many = ap (λ (xs : List ℕ). length xs) x.env-is ∙ x.in-Some.ensures.many ∙ inv.many;
            assigned = x.assigned-is ∙ ap (λ (n : ℕ). n + x.in-Some.others) inv.assigned ∙ sym (assigned_more w p here (uncrossed t k v) v x.in-Some.others come) ∙ sym (ap sums left);
            contradicted = x.contradicted-is ∙ inv.contradicted ∙ sym (some_more w p here (uncrossed t k v) v x.in-Some.others come) ∙ sym (ap counts left);
            few = omega (arith, x.assigned-is, inv.few, few, next);
            less = omega (arith, x.contradicted-is, inv.less);
          }
      | then-not-is_crossed+in-None x ↦
          let left : uncrossed t k (v + 1) ≡ uncrossed t k v ++ v ∷ [] = left_more f v (ap not (test ∙ x.if-not-is_crossed.true)) in
          let come : None ≡ come_of w p here v = subst (λ (q : Partial). None ≡ come_of w (left_in w q) here v) inv.same x.in-None.ensures.come in
          let more = none_more w p here (uncrossed t k v) v come in
          record {
            same = x.trail-is ∙ x.in-None.ensures.same ∙ inv.same;
            env = subst (AllBelow w.size) (sym x.env-is) x.in-None.ensures.env;
            many = ap (λ (xs : List ℕ). length xs) x.env-is ∙ x.in-None.ensures.many ∙ inv.many;
            assigned = x.assigned-is ∙ inv.assigned ∙ sym more.0 ∙ sym (ap sums left);
            contradicted = x.contradicted-is ∙ ap (λ (n : ℕ). n + 1) inv.contradicted ∙ sym more.1 ∙ sym (ap counts left);
            few = omega (arith, x.assigned-is, inv.few, next);
            less = omega (arith, x.contradicted-is, inv.less);
          }
      | else-not-is_crossed x ↦
          let left : uncrossed t k (v + 1) ≡ uncrossed t k v = left_same f v (ap not (test ∙ x.if-not-is_crossed.false)) in
          record {
            same = x.trail-is ∙ inv.same;
            env = subst (AllBelow w.size) (sym x.env-is) inv.env;
            many = ap (λ (xs : List ℕ). length xs) x.env-is ∙ inv.many;
            assigned = x.assigned-is ∙ inv.assigned ∙ sym (ap sums left);
            contradicted = x.contradicted-is ∙ inv.contradicted ∙ sym (ap counts left);
            few = omega (arith, x.assigned-is, inv.few, next);
            less = omega (arith, x.contradicted-is, inv.less);
          }
    ]

pub returns-clause-assigned : goal.returns-clause-assigned
returns-clause-assigned c =
    let w = c.args.setup.now in
    let t = c.args.trail.now in
    let k = c.args.cell in
    let end : c.loop-value.value ≡ bound_of w.size (cell_of w k).kind = omega (arith, c.loop-value-test.false, c.loop-value.auto.value-end, c.bound-value-end.ensures.bound) in
    c.loop-value.invariant.assigned
    ∙ ap (λ (vs : List ℕ). sum_by (λ u. assigned w (left_in w t) (cell_of w k) (tried_table w (left_in w t) (cell_of w k) u)) vs) (ap (uncrossed t k) end ∙ sym (left_blank w t c.requires.cells k c.requires.cell c.requires.blank))

pub returns-clause-contradicted : goal.returns-clause-contradicted
returns-clause-contradicted c =
    let w = c.args.setup.now in
    let t = c.args.trail.now in
    let k = c.args.cell in
    let end : c.loop-value.value ≡ bound_of w.size (cell_of w k).kind = omega (arith, c.loop-value-test.false, c.loop-value.auto.value-end, c.bound-value-end.ensures.bound) in
    c.loop-value.invariant.contradicted
    ∙ ap (λ (vs : List ℕ). count_by (λ u. is_none (tried_table w (left_in w t) (cell_of w k) u)) vs) (ap (uncrossed t k) end ∙ sym (left_blank w t c.requires.cells k c.requires.cell c.requires.blank))
