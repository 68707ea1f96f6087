use Rattle.std.proofs.Common.{◌∙◌, ◌-◌, sym, arith}
use Rattle.packed_terms.specs.Building.{from_top}
use Rattle.packed_terms.specs.Codes.{heads_of}
use Rattle.packed_terms.proofs.Building.{head_built, head_missing}
use Rattle.packed_terms.proofs.unpacking.built.Goals as goal

pub loop-left-preserved : goal.loop-left-preserved
loop-left-preserved c =
    head_built (heads_of c.args.form.now) c.loop-left.left (c.loop-left.left - 1) c.in-Some.head (from_top c.loop-left.stack.items) (from_top c.put_head.new.stack.items)
    (omega arith) c.loop-left.invariant (sym c.head.ensures ∙ c.in-Some.is) c.in_ok-put_head-in-Some.ensures

pub loop-left-preserved-in-None : goal.loop-left-preserved-in-None
loop-left-preserved-in-None c =
    head_missing (heads_of c.args.form.now) c.loop-left.left (c.loop-left.left - 1) (from_top c.loop-left.stack.items)
    (omega arith) c.loop-left.invariant (sym c.head.ensures ∙ c.in-None.is)
