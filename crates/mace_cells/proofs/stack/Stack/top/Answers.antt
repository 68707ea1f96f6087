use Rattle.std.proofs.Common.{◌≡◌, ◌-◌, List, length, reverse, take, sym, ap, ◌∙◌, Some, slice_get}
use Rattle.mace_cells.specs.Stacked.{Stacked}
use Rattle.mace_cells.proofs.Stacks.{got}
use Rattle.mace_cells.proofs.stack.Stack.top.Goals as goal

pub returns-in-Some : goal.returns-in-Some
returns-in-Some g c =
    let xs = c.self.inside.items.items in
    let found : slice_get xs (length xs - 1) ≡ Some c.in-Some.item.now = sym (c.in-Some.ensures.value ∙ ap (λ (ys : List g.row.T.Denot). slice_get ys (length ys - 1)) c.deref.ensures.value) in
    (reverse (take (length xs - 1) xs), sym (ap (λ (s : Stacked g.row.T.Denot). s.list) c.self.view_is) ∙ got xs c.in-Some.item.now found)
