use Rattle.std.proofs.Common.{◌/◌, arith, subst}
use Rattle.std.specs.Prelude.{◌≡◌, IfOk}
use Rattle.fol_core.specs.RawTree.{RawTree}
use Rattle.fol_core.specs.RawView.{raw_of}
use Rattle.ladr_distinct.proofs.Halves.{joined_parts}
use Rattle.ladr_distinct.proofs.formula.+halved.Goals as goal

pub returns : goal.returns
returns t c =
    subst (λ (x : RawTree). IfOk c.between.result (λ raw. raw_of raw ≡ x))
    (joined_parts c.args.parts.items c.split_off.new.self.items c.in_ok-behind.behind.items (c.len-half.result / 2) _ _ (omega (arith, c.len.ensures, c.args.parts.ok.0)) (omega (arith, c.len-half.ensures, c.args.parts.ok.0)) c.in_ok-behind.ensures.items c.in_ok-behind.ensures.tail c.in_ok-first.ensures c.in_ok-second.ensures)
    c.between.ensures
