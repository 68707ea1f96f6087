-- What is left of so few symbols has room for those that are put in.
use Rattle.std.proofs.Common.{ap}
use Rattle.std.proofs.lemmas.Bool.{leb-true}
use Rattle.fol_core.specs.Substitutions.{substitute}
use Rattle.fol_core.specs.TermView.{tree_of}
use Rattle.substitutions.specs.Bindings.{by_bindings}
use Rattle.inference.proofs.SizeSteps.{stays_small}
use Rattle.inference.proofs.sizing.is_small_at_once.Goals as goal

pub returns-in-Some : goal.returns-in-Some
returns-in-Some c = λ a path small.
    stays_small c.args.clause.now (substitute (by_bindings c.args.found.now.bindings) (tree_of c.args.right.now)) c.in-Some.left c.measure.result.size a path c.in-Some.ensures (ap (λ m. m.size) c.measure.ensures) (leb-true c.measure.result.size c.in-Some.left small)
