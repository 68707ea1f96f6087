use Rattle.std.proofs.Common.{◌≡◌, ◌+◌, ◌<◌, ◌≤◌, ℕ, None, Some, length, sym, ap, ap₂, subst, ◌∙◌, arith}
use Rattle.std.proofs.lemmas.List.{get_or_default}
use Rattle.cell_ranks.proofs.Placing.{few_below}
use Rattle.cell_ranks.proofs.Ranking.{none_yet, foremost}
use Rattle.cell_ranks.specs.Layouts.{many_below}
use Rattle.cell_ranks.specs.Ranks.{Ranked, IsFree, IsForemost, rank_index}
use Rattle.cell_ranks.specs.Tournaments.{winner_from}
use Rattle.cell_ranks.proofs.ranks.Ranks.first.Goals as goal

pub first_of-requires-clause-end : goal.first_of-requires-clause-end
first_of-requires-clause-end c =
    let a = c.self.inside in
    let i = c.loop-index.index in
    let layout = c.self.invariant.layout in
    let end = c.index.ensures ∙ get_or_default a.starts.items (i + 1) c.index.result.now 0 (omega (arith, c.loop-index-test.true, layout.indexed)) ∙ layout.started (i + 1) (omega (arith, c.loop-index-test.true)) in
    omega (arith, end, few_below (i + 1) a.indices.items, c.len-places.ensures, a.indices.ok)

pub returns-in-Some : goal.returns-in-Some
returns-in-Some c =
    let a = c.self.inside in
    let h = c.self.invariant in
    let i = c.loop-index.index in
    let end : c.index.result.now ≡ many_below (i + 1) a.indices.items = c.index.ensures ∙ get_or_default a.starts.items (i + 1) c.index.result.now 0 (omega (arith, c.loop-index-test.true, h.layout.indexed)) ∙ h.layout.started (i + 1) (omega (arith, c.loop-index-test.true)) in
    let places : c.len-places.result ≡ length a.indices.items = omega (arith, c.len-places.ensures, a.indices.ok) in
    let wins : winner_from a.scores.items a.nodes.items (length a.indices.items) c.index.result.now ≡ Some c.in-Some.cell =
    sym (c.in-Some.ensures ∙ ap₂ (λ ss ns. winner_from ss ns c.len-places.result c.index.result.now) c.deref-in-loop-index.ensures.value c.deref.ensures.value ∙ ap (λ (n : ℕ). winner_from a.scores.items a.nodes.items n c.index.result.now) places) in
    let none = subst (λ (r : Ranked). (j : ℕ) → c.args.to < i → IsFree r j → i ≤ rank_index r j) (sym c.self.view_is) c.loop-index.invariant.none in
    subst (λ (r : Ranked). IsForemost r c.args.to c.in-Some.cell) c.self.view_is
    (foremost a.indices.items a.free.items a.scores.items a.nodes.items h.many h.leaves c.args.to i c.index.result.now c.in-Some.cell c.loop-index.invariant.from end none wins (omega (arith, end, few_below (i + 1) a.indices.items)))

pub loop-index-preserved : goal.loop-index-preserved
loop-index-preserved c =
    let a = c.self.inside in
    let h = c.self.invariant in
    let i = c.loop-index.index in
    let end : c.index.result.now ≡ many_below (i + 1) a.indices.items = c.index.ensures ∙ get_or_default a.starts.items (i + 1) c.index.result.now 0 (omega (arith, c.loop-index-test.true, h.layout.indexed)) ∙ h.layout.started (i + 1) (omega (arith, c.loop-index-test.true)) in
    let places : c.len-places.result ≡ length a.indices.items = omega (arith, c.len-places.ensures, a.indices.ok) in
    let none : winner_from a.scores.items a.nodes.items (length a.indices.items) c.index.result.now ≡ None =
    sym (sym c.in_default.is ∙ c.first_of.ensures ∙ ap₂ (λ ss ns. winner_from ss ns c.len-places.result c.index.result.now) c.deref-in-loop-index.ensures.value c.deref.ensures.value ∙ ap (λ (n : ℕ). winner_from a.scores.items a.nodes.items n c.index.result.now) places) in
    let yet = none_yet a.indices.items a.free.items a.scores.items a.nodes.items h.many h.leaves i c.index.result.now end none in
    record {
      from = omega (arith, c.loop-index.invariant.from);
      none = λ j later free. subst (λ (r : Ranked). (j : ℕ) → IsFree r j → i + 1 ≤ rank_index r j) c.self.view_is yet j free;
    }

pub returns : goal.returns
returns c = λ k free.
    let all = c.loop-index.invariant.none k (omega (arith, c.loop-index-test.false, c.ranges.to.fits)) free in
    let byte = subst (λ (r : Ranked). rank_index r k < 256) c.self.view_is (c.self.invariant.bytes k) in
    omega (arith, all, byte, c.loop-index-test.false)
