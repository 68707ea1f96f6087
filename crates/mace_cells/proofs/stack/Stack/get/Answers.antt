use Rattle.std.proofs.Common.{suc, ◌≡◌, ◌<◌, ◌∷◌, ◌++◌, length, reverse, take, drop, sym, ap, ◌∙◌, subst, arith}
use Rattle.std.proofs.lemmas.List.{length-reverse, length-take}
use Rattle.mace_cells.specs.Stacked.{Stacked}
use Rattle.mace_cells.proofs.Stacks.{one_of}
use Rattle.mace_cells.proofs.stack.Stack.get.Goals as goal

pub returns : goal.returns
returns g c =
    let xs = c.self.inside.items.items in
    let at = c.args.at in
    let asked : at < length (reverse xs) = subst (λ (s : Stacked g.row.T.Denot). at < length s.list) (sym c.self.view_is) c.requires in
    let all = length-reverse xs in
    let there : at < length xs = omega (arith, all, asked) in
    let back : length (reverse (take at xs)) ≡ length (take at xs) = length-reverse (take at xs) in
    let many = length-take at xs in (
      reverse (drop (suc at) xs),
      (
        reverse (take at xs),
        sym (ap (λ (s : Stacked g.row.T.Denot). s.list) c.self.view_is) ∙ one_of xs at c.index.result.now there
            ∙ ap (λ (x : g.row.T.Denot). reverse (drop (suc at) xs) ++ x ∷ reverse (take at xs)) (sym c.index.ensures),
        omega (arith, back, many, there),
      ),
    )
