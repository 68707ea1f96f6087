-- What a rule leaves of its parents, and what it is in their instances.
use Rattle.std.specs.Prelude.{ℕ, zero, suc, ◌≡◌, ◌+◌, ◌-◌, ◌==◌, if◌then◌else◌, ◌∷◌, [], List, Option, None, Some, map}
use Rattle.std.specs.List.{sum_by}
use Rattle.std.specs.Option.{option_map, option_map_or}
use Rattle.derivation.specs.Rule.{InferenceRule}
use Rattle.fol_core.specs.ClauseView.{literal_of}
use Rattle.fol_core.specs.Literals.{Lit, literal, ClauseTree}
use Rattle.fol_core.specs.Sizes.{size_of}
use Rattle.fol_core.specs.Substitutions.{Substitution, substitute, substitute_all}
use Rattle.fol_core.specs.TermView.{tree_of}
use Rattle.fol_core.specs.Tree.{Tree, var, elem, app, Trees, none, more}
use Rattle.inference.specs.declared.left.Change.{Change}
use Rattle.inference.specs.declared.left.Left.{Left}
use Rattle.substitutions.specs.Apart.{Own, instances}

-- a term of a parent that stands at a path, in place of the one there
pub record ChangeTree : Type 0 where
  pub path : List ℕ
  pub parent : ℕ
  pub term : Tree

-- a literal of a parent, by its place, perhaps with another term in it
pub record LeftTree : Type 0 where
  pub parent : ℕ
  pub literal : Lit
  pub change : Option ChangeTree

abbrev mutual
  -- an instance of a term with another one at a path of the term: where the path isn't there, the
  -- instance
  pub changed : Substitution → Tree → List ℕ → Tree → Tree
  changed s t [] new = new
  changed s (var x) (k ∷ path) new = s x
  changed s (elem n) (k ∷ path) new = elem n
  changed s (app f ts) (k ∷ path) new = app f (changed_all s ts k path new)

  pub changed_all : Substitution → Trees → ℕ → List ℕ → Tree → Trees
  changed_all s none k path new = none
  changed_all s (more t ts) k path new =
      if k == 1
      then more (changed s t path new) (substitute_all s ts)
      else more (substitute s t) (changed_all s ts (k - 1) path new)

-- a parent's term with that of a change at its path, in instances of the parents
abbrev pub with_change : Own → ℕ → Tree → ChangeTree → Tree
with_change own k t c = changed (own k) t c.path (substitute (own c.parent) c.term)

abbrev pub left_atom : Own → LeftTree → Option ChangeTree → Tree
left_atom own l None = substitute (own l.parent) l.literal.atom
left_atom own l (Some c) = with_change own l.parent l.literal.atom c

-- what is left, in instances of the parents
abbrev pub left_literal : Own → LeftTree → Lit
left_literal own l = literal l.literal.positive (left_atom own l l.change)

abbrev pub left_clause : Own → List LeftTree → ClauseTree
left_clause own ls = map (left_literal own) ls

-- a rule leaves just these of clauses, whatever their instances
abbrev pub Leaves : InferenceRule → List ClauseTree → List LeftTree → Type 0
Leaves r cs ls = (own : Own) → left_clause own ls ≡ r.rest (instances own cs)

-- literals of a parent as they are
abbrev pub all_whole : ℕ → ClauseTree → List LeftTree
all_whole k c = map (λ l. record { parent = k; literal = l; change = None }) c

-- those of a clause, the one at a place with another term in it
abbrev pub changed_left : ℕ → ClauseTree → ℕ → ChangeTree → List LeftTree
changed_left k [] a change = []
changed_left k (l ∷ c) zero change =
    record { parent = k; literal = l; change = Some change } ∷ all_whole k c
changed_left k (l ∷ c) (suc a) change =
    record { parent = k; literal = l; change = None } ∷ changed_left k c a change

-- symbols and variables of what is lent
abbrev pub symbols_lent : List LeftTree → ℕ
symbols_lent ls =
    sum_by (λ l. size_of l.literal.atom + option_map_or (λ c. size_of c.term) l.change 0) ls

-- what the code has of it
abbrev pub change_tree : Change → ChangeTree
change_tree c = record { path = c.path.now; parent = c.parent; term = tree_of c.term.now }

abbrev pub left_tree : Left → LeftTree
left_tree l = record {
  parent = l.parent;
  literal = literal_of l.literal.now;
  change = option_map change_tree l.change;
}

abbrev pub all_left : List Left → List LeftTree
all_left ls = map left_tree ls
