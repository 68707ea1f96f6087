-- All literals of the parent.
use Rattle.std.proofs.Common.{◌∙◌, ◌++◌, refl, ap}
use Rattle.inference.specs.Left.{all_left, all_whole}
use Rattle.inference.proofs.applying.keep_whole.Goals as goal

pub returns : goal.returns
returns c = record {
  unifier = refl;
  many = refl;
  left = c.in_ok-leave_all.ensures ∙ ap (λ d. all_left c.in_ok-left.left.items ++ all_whole 0 d) c.as_slice.ensures.literals ∙ ap (λ l. all_left l ++ all_whole 0 c.args.parent.now) c.in_ok-left.ensures.items;
}
