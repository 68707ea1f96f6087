use Rattle.std.proofs.Common.{◌∙◌, inl, inr, ap, sym, subst}
use Rattle.std.specs.Option.{option_copied}
use Rattle.discrim_tree.specs.Nodes.{IsIn}
use Rattle.discrim_tree.proofs.NodeSteps.{held_by, held_there}
use Rattle.discrim_tree.proofs.Ordered.{in_either, in_left, in_right}
use Rattle.discrim_tree.proofs.nodes.Nodes.add_numbers.Goals as goal

pub returns-in_ok-extend_from_slice-in-Some-clause-kept : goal.returns-in_ok-extend_from_slice-in-Some-clause-kept
returns-in_ok-extend_from_slice-in-Some-clause-kept c = λ n h. subst (IsIn n) (sym c.in_ok-extend_from_slice-in-Some.ensures.items) (in_left n c.args.numbers.now.items c.numbers.result.now h)

pub returns-in_ok-extend_from_slice-in-Some-clause-added : goal.returns-in_ok-extend_from_slice-in-Some-clause-added
returns-in_ok-extend_from_slice-in-Some-clause-added c = λ n h.
    subst (IsIn n) (sym c.in_ok-extend_from_slice-in-Some.ensures.items)
    (in_right n c.args.numbers.now.items c.numbers.result.now (subst (IsIn n) (sym c.numbers.ensures)
    (held_by c.args.self.now.items c.args.at n c.in-Some.node.now (sym c.get.ensures ∙ ap option_copied c.in-Some.is) h)))

pub returns-in_ok-extend_from_slice-in-Some-clause-only : goal.returns-in_ok-extend_from_slice-in-Some-clause-only
returns-in_ok-extend_from_slice-in-Some-clause-only c = λ n h. elim (in_either n c.args.numbers.now.items c.numbers.result.now (subst (IsIn n) c.in_ok-extend_from_slice-in-Some.ensures.items h)) [
  | inl old ↦ inl old
  | inr came ↦ inr (held_there c.args.self.now.items c.args.at n c.in-Some.node.now (sym c.get.ensures ∙ ap option_copied c.in-Some.is) (subst (IsIn n) c.numbers.ensures came))
]
