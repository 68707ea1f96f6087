-- The first terms are made.
use Rattle.std.proofs.Common.{◌≡◌, map, take}
use Rattle.fol_core.specs.Substitutions.{substitute}
use Rattle.fol_core.specs.TermView.{tree_of}
use Rattle.substitutions.specs.Bindings.{by_bindings}
use Rattle.answers.proofs.answer.apply_all.Given as goal

abbrev pub invariant-loop-term : goal.invariant-loop-term
invariant-loop-term l = l.made ≡ map (λ t. substitute (by_bindings l.subst) (tree_of t)) (take l.term-index l.terms)
