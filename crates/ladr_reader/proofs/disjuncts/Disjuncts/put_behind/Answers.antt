use Rattle.std.proofs.Common.{◌≡◌, ℕ, List, Option, Some, true, ap, ◌∙◌, sym, min, max, ◌+◌}
use Rattle.fol_core.specs.RawTree.{RawTree}
use Rattle.fol_core.specs.RawView.{raw_of}
use Rattle.ladr_reader.specs.Capped.{is_one_argument}
use Rattle.ladr_reader.specs.DisjunctView.{in_order, levels_of}
use Rattle.ladr_reader.proofs.Disjunctions.{popped_levels}
use Rattle.ladr_reader.proofs.disjuncts.Disjuncts.put_behind.Goals as goal

pub invariant_of-self-in-Some-pop : goal.invariant_of-self-in-Some-pop
invariant_of-self-in-Some-pop c = λ x h.
    let one : is_one_argument (Some c.in-Some.trees) ≡ true = ap (λ (o : Option (List RawTree)). is_one_argument o) (sym c.in-Some.is ∙ c.first.view_is) ∙ c.requires in
    let levels : c.saturating_add-self-inside.result ≡ min (max c.self.inside.levels c.first.inside.levels + 1) 4294967295 =
    c.saturating_add-self-inside.ensures ∙ ap (λ (n : ℕ). min (n + 1) 4294967295) (c.max.ensures ∙ ap (max c.self.inside.levels) c.from.ensures) in
    levels
    ∙ popped_levels c.self.inside.before (raw_of x) c.self.inside.levels c.first.inside.levels c.in-Some.trees c.into_items.result.items c.pop.new.self.items c.in-Some-pop.tree
    (c.self.invariant x h) one (c.first.invariant c.in-Some.trees c.in-Some.is) c.into_items.ensures c.in-Some-pop.ensures.items
    ∙ ap (λ (ts : List RawTree). levels_of (in_order ts (raw_of x))) (sym c.in_ok-push-in-Some-pop.ensures.ok)
