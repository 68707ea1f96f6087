use Rattle.std.proofs.Common.{arith, subst}
use Rattle.std.proofs.lemmas.Bool.{false≢true}
use Rattle.std.specs.Prelude.{◌≡◌, IfOk}
use Rattle.fol_core.specs.RawTree.{RawTree}
use Rattle.fol_core.specs.RawView.{raw_of}
use Rattle.ladr_distinct.proofs.Halves.{one_part, no_part}
use Rattle.ladr_distinct.proofs.formula.undivided.Goals as goal

pub returns-in-Some : goal.returns-in-Some
returns-in-Some c = one_part c.args.parts.items c.pop.new.self.items c.in-Some.part c.in-Some.ensures.items c.requires

pub returns : goal.returns
returns c =
    subst (λ (x : RawTree). IfOk c.alone.result (λ raw. raw_of raw ≡ x))
    (no_part c.args.parts.items (λ h. false≢true (c.in-None.ensures.variant.1 (omega (arith, h, c.args.parts.ok.0)))))
    c.alone.ensures
