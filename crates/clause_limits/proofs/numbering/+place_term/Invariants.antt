-- The first arguments are changed, and the others are as they were.
use Rattle.std.proofs.Common.{ℕ, ◌≡◌, ◌≤◌, ◌++◌, length, map, take, drop, get_or}
use Rattle.fol_core.specs.Renumbered.{by_place}
use Rattle.fol_core.specs.Substitutions.{substitute}
use Rattle.fol_core.specs.TermView.{tree_of, tree_list}
use Rattle.fol_core.specs.declared.term.Term.{Term}
use Rattle.clause_limits.proofs.numbering.+place_term.Given as goal

abbrev pub decreases-place_term : goal.decreases-place_term
decreases-place_term l = goal.size-place_term l

abbrev pub invariant-loop-i : goal.invariant-loop-i
invariant-loop-i l =
    record {
      changed : tree_list l.terms-inside.items.items ≡ map (λ t. substitute (by_place l.variables) (tree_of t)) (take l.i l.initial.terms-inside.items.items) ++ tree_list (drop l.i l.initial.terms-inside.items.items);
      long : length l.terms-inside.items.items ≡ length l.initial.terms-inside.items.items;
      unvisited : (k : ℕ) (d : Term) → l.i ≤ k → get_or l.terms-inside.items.items k d ≡ get_or l.initial.terms-inside.items.items k d;
    }
