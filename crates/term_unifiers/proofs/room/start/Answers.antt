-- All marks say that nothing was looked at.
use Rattle.std.proofs.Common.{◌≡◌, ap, length, refl, arith, inl, inr}
use Rattle.std.proofs.lemmas.Bool.{cases_lt}
use Rattle.std.proofs.lemmas.List.{get_or_past}
use Rattle.term_unifiers.specs.declared.walk.Mark.TheVariants.{New}
use Rattle.term_unifiers.proofs.Rooms.{few_marks}
use Rattle.term_unifiers.proofs.room.start.Goals as goal

pub returns : goal.returns
returns c =
    let few = few_marks c.resize.new.self.items in
    let all : length c.resize.new.self.items ≡ c.args.count = omega (arith, c.in_ok-resize.ensures.len, c.resize.new.self.ok.0) in
    let no_marks = c.in_ok-marks.ensures.len in
    let no_order : length c.in_ok-order.order.items ≡ 0 = ap length c.in_ok-order.ensures.items in
    let no_frames : length c.in_ok-frames.frames.items ≡ 0 = ap length c.in_ok-frames.ensures.items in
    record {
      marks = λ n. elim (cases_lt n c.args.count) [
        | inl l ↦ c.in_ok-resize.ensures.by_index.1 n New refl (omega (arith, no_marks)) l
        | inr g ↦ get_or_past c.resize.new.self.items n New (omega (arith, g, all))
      ];
      as_many = all;
      order = c.in_ok-order.ensures.items;
      frames = c.in_ok-frames.ensures.items;
      places = record {
        order = omega (arith, few, all, no_order, no_frames, c.in_ok-order.ensures.exact);
        frames = omega (arith, few, all, no_order, no_frames, c.in_ok-frames.ensures.exact);
      };
    }
