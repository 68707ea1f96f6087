use Rattle.std.proofs.Common.{◌∙◌, inl, inr, sym, ap, subst, get_or, arith}
use Rattle.std.proofs.lemmas.Bool.{cases_eq}
use Rattle.std.proofs.lemmas.Option.{get_or_from_slice_get, slice_get-get_or, slice_get_within}
use Rattle.discrim_tree.specs.Nodes.{Holds, IsIn}
use Rattle.discrim_tree.proofs.nodes.Nodes.numbers_at.Goals as goal

pub loop-at-init : goal.loop-at-init
loop-at-init c = record {
  all = λ n i at lt is h. absurd (omega (arith, lt));
  only = λ n h. absurd (subst (IsIn n) c.clear.ensures.items h);
}

pub loop-at-preserved : goal.loop-at-preserved
loop-at-preserved c =
    let so = c.loop-at.invariant in
    let walk = c.args.walk.now in
    let more = c.in_ok-add_numbers.ensures in
    record {
      all = λ n i at lt is h. elim (cases_eq i c.loop-at.at-index) [
        | inl s ↦ more.added n (subst (λ a. Holds c.args.self.now.items a n) (sym (get_or_from_slice_get walk i at 0 is) ∙ ap (λ j. get_or walk j 0) s) h)
        | inr s ↦ more.kept n (so.all n i at (omega (arith, lt, s)) is h)
      ];
      only = λ n h. elim (more.only n h) [
        | inl old ↦ so.only n old
        | inr here ↦ (c.loop-at.at-index, get_or walk c.loop-at.at-index 0, slice_get-get_or walk c.loop-at.at-index 0 c.loop-at-test.true, here)
      ];
    }

pub returns-clause-all : goal.returns-clause-all
returns-clause-all c = λ n h. c.loop-at.invariant.all n h.0 h.1 (omega (arith, slice_get_within c.args.walk.now h.0 h.1 h.2, c.loop-at-test.false)) h.2 h.3
