use Rattle.std.proofs.Common.{inl, inr, refl, lit<, lit≤}
use Rattle.std.specs.Prelude.{codes}
use Rattle.proof_text.specs.Blocks.{outside, closed, still_open}
use Rattle.printed_proofs.specs.Worked.{end}
use Rattle.printed_proofs.proofs.laws.worked.Goals as goal

pub returns-clause-frame : goal.returns-clause-frame
returns-clause-frame _ = record { line = codes "% Input 3"; tells = refl; split = refl }

pub returns-clause-no_frame : goal.returns-clause-no_frame
returns-clause-no_frame _ = (refl, refl, refl, refl, inl (lit≤ tt, refl), inr (lit< tt, refl, λ e. cc))

pub returns-clause-blocks : goal.returns-clause-blocks
returns-clause-blocks _ = (outside refl (closed end refl refl refl (still_open refl refl)), refl)
