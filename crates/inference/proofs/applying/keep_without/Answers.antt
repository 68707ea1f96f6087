-- All literals of the parent but for one.
use Rattle.std.proofs.Common.{◌∙◌, ◌++◌, ◌==◌, refl, ap}
use Rattle.derivation.specs.Places.{others}
use Rattle.inference.specs.Left.{all_left, all_whole}
use Rattle.inference.proofs.applying.keep_without.Goals as goal

pub returns : goal.returns
returns c = record {
  unifier = refl;
  many = refl;
  left = c.in_ok-leave_others.ensures ∙ ap (λ l. all_left l ++ all_whole 0 (others (λ k. k == c.args.place) c.args.parent.now)) c.in_ok-left.ensures.items;
}
