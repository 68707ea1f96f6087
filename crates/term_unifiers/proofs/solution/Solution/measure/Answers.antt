-- What is found is seen as bindings.
use Rattle.std.proofs.Common.{◌∙◌, List, ap}
use Rattle.clause_limits.specs.Sizes.{measured}
use Rattle.fol_core.specs.Substitutions.{substitute}
use Rattle.fol_core.specs.TermView.{tree_of}
use Rattle.substitutions.specs.Bindings.{Binding, by_bindings}
use Rattle.term_unifiers.specs.Renamed.{own_among}
use Rattle.term_unifiers.proofs.solution.Solution.measure.Goals as goal

pub returns : goal.returns
returns c =
    c.measure_among.ensures ∙ ap (λ (bs : List Binding). measured (substitute (own_among c.args.many (by_bindings bs) c.args.parent) (tree_of c.args.term.now))) c.self.view_is
