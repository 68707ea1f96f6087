-- The terms made are the first ones with terms put in.
use Rattle.std.proofs.Common.{◌≡◌, take, map}
use Rattle.fol_core.specs.TermView.{tree_of}
use Rattle.fol_core.specs.Substitutions.{substitute}
use Rattle.clausify.specs.View.{put_by}
use Rattle.clausify.proofs.substitution.substitute_all.Given as goal

abbrev pub invariant-loop-term : goal.invariant-loop-term
invariant-loop-term l = l.made ≡ map (λ t. substitute (put_by l.rows) (tree_of t)) (take l.term-index l.term-items)
