-- The first literals are made.
use Rattle.std.proofs.Common.{◌≡◌, map, take}
use Rattle.fol_core.specs.ClauseView.{literal_of}
use Rattle.fol_core.specs.Literals.{literal}
use Rattle.fol_core.specs.Substitutions.{substitute}
use Rattle.fol_core.specs.Renumbered.{by_place}
use Rattle.fol_core.proofs.numbering.placed_clause.Given as goal

abbrev pub invariant-loop-literal : goal.invariant-loop-literal
invariant-loop-literal l = l.made ≡ map (λ x. literal x.positive (substitute (by_place l.variables.keys) x.atom)) (map literal_of (take l.literal-index l.literal-items))
