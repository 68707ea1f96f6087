-- Terms in which each occurrence of a variable is a variable of its own.
use Rattle.std.specs.Prelude.{ℕ, ◌≡◌, ◌+◌, Bool, List, [], ◌∷◌}
use Rattle.fol_core.specs.Tree.{Tree, var, elem, app, Trees, none, more}
use Rattle.fol_core.specs.TermView.{tree_of}
use Rattle.term_matches.specs.Occurrences.{occurrences}
use Rattle.discrim_tree.specs.Places.{repeated, IsNarrow}
use Rattle.discrim_tree.specs.Seeking.{passes}
use Rattle.discrim_tree.specs.declared.entry.IndexEntry.{IndexEntry}
use Rattle.discrim_tree.specs.declared.once.Told.{Told}
use Rattle.discrim_tree.specs.declared.once.Told.TheVariants.{Whole, Repeats}
use Rattle.discrim_tree.specs.declared.sought.Sought.{Sought}

-- variables from a number on, in the order of their occurrences
abbrev mutual
  pub linear : ℕ → Tree → Tree
  linear n (var x) = var n
  linear n (elem k) = elem k
  linear n (app f ts) = app f (all_linear n ts)

  pub all_linear : ℕ → Trees → Trees
  all_linear n none = none
  all_linear n (more t ts) = more (linear n t) (all_linear (n + occurrences t) ts)

-- whether an entry's term is sought with a term, if each occurrence of a variable is a variable of
-- its own
abbrev pub passes_linear : Sought → Tree → Tree → Bool
passes_linear sought t s = passes sought (linear 0 t) (linear 0 s)

-- what is told of a term's variables is so, or the term is told
abbrev pub IsTold : Tree → Told → Type 0
IsTold t (Whole s) = tree_of s.value ≡ t
IsTold t (Repeats rs) = (rs.items ≡ repeated t) × IsNarrow t

-- what is told of each entry is so
abbrev pub AreTold : List IndexEntry → Type 0
AreTold [] = Unit {0}
AreTold (e ∷ es) = IsTold e.tree e.told × AreTold es
