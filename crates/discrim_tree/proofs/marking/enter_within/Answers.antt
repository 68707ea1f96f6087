use Rattle.std.proofs.Common.{◌∙◌, subst, OnOk}
use Rattle.discrim_tree.specs.Marking.{EntersWithin}
use Rattle.discrim_tree.proofs.marking.enter_within.Goals as goal

pub returns-then-listed-le-FEW-clause-enters : goal.returns-then-listed-le-FEW-clause-enters
returns-then-listed-le-FEW-clause-enters c =
    subst (λ bs. OnOk c.enter_branches.result (EntersWithin bs c.args.marks.now c.enter_branches.new.waiting.items)) (c.as_slice-listed.ensures ∙ c.branches-branches.ensures.all)
    c.enter_branches.ensures.enters
