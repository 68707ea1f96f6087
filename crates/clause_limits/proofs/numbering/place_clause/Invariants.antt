-- The first literals are changed, and the others are as they were.
use Rattle.std.proofs.Common.{ℕ, ◌≡◌, ◌≤◌, ◌++◌, length, map, take, drop, get_or}
use Rattle.fol_core.specs.ClauseView.{literal_of}
use Rattle.fol_core.specs.Literals.{literal}
use Rattle.fol_core.specs.Renumbered.{by_place}
use Rattle.fol_core.specs.Substitutions.{substitute}
use Rattle.fol_core.specs.TermView.{tree_of}
use Rattle.fol_core.specs.declared.clause.Literal.{Literal}
use Rattle.clause_limits.proofs.numbering.place_clause.Given as goal

abbrev pub invariant-loop-i : goal.invariant-loop-i
invariant-loop-i l =
    record {
      changed : map literal_of l.clause-inside.literals.items ≡ map (λ k. literal k.positive (substitute (by_place l.variables) (tree_of k.atom))) (take l.i l.initial.clause-inside.literals.items) ++ map literal_of (drop l.i l.initial.clause-inside.literals.items);
      long : length l.clause-inside.literals.items ≡ length l.initial.clause-inside.literals.items;
      unvisited : (k : ℕ) (d : Literal) → l.i ≤ k → get_or l.clause-inside.literals.items k d ≡ get_or l.initial.clause-inside.literals.items k d;
    }
