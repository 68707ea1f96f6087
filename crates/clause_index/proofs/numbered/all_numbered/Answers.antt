use Rattle.std.proofs.Common.{◌==◌, ap₂, ◌∙◌}
use Rattle.std.specs.List.{filter_map}
use Rattle.clause_index.specs.Places.{with_number}
use Rattle.clause_index.proofs.Numbers.{all_found, increasing_rises, same_some}
use Rattle.clause_index.proofs.numbered.all_numbered.Goals as goal

pub returns : goal.returns
returns c =
    c.in_ok-found.ensures
    ∙ ap₂ (λ ns hs. filter_map (λ n. with_number n hs) ns) c.as_slice.ensures.value c.as_slice-2.ensures.clauses
    ∙ all_found _ c.args.numbers.items c.args.set.now (increasing_rises _ c.put_in_order.ensures.rise) c.as_slice-2.ensures.rising
    (λ h. same_some (λ n. h.number == n) _ _ (λ x. c.put_in_order.ensures.others x) (λ x. c.put_in_order.ensures.kept x))
