use Rattle.std.proofs.Common.{◌∙◌, ◌+◌, ◌&&◌, ℕ, Bool, List, sym, ap}
use Rattle.std.specs.List.{list_all}
use Rattle.fol_core.specs.Free.{is_in}
use Rattle.ladr_rules.proofs.Variables.{variables_from, all_next}
use Rattle.ladr_rules.proofs.shapes.+are_found.Goals as goal

abbrev is_of : List ℕ → ℕ → Bool
is_of xs x = is_in x xs

pub returns-then-not-are_found : goal.returns-then-not-are_found
returns-then-not-are_found t c =
    let terms = c.deref-part-items.result.now in
    let p = is_of c.args.found.now.keys in
    sym (sym c.loop-part.invariant ∙ all_next p terms c.loop-part.part-index c.part-item.result c.loop-part-test.true c.part-item.is
    ∙ ap (λ (b : Bool). b && list_all p (variables_from terms (c.loop-part.part-index + 1))) (sym c.are_found.ensures ∙ c.if-not-are_found.true))

pub loop-part-preserved : goal.loop-part-preserved
loop-part-preserved t c =
    let terms = c.deref-part-items.result.now in
    let p = is_of c.args.found.now.keys in
    sym (all_next p terms c.loop-part.part-index c.part-item.result c.loop-part-test.true c.part-item.is
    ∙ ap (λ (b : Bool). b && list_all p (variables_from terms (c.loop-part.part-index + 1))) (sym c.are_found.ensures ∙ c.if-not-are_found.false)) ∙ c.loop-part.invariant
