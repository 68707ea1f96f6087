-- Terms that are instances of others, and terms that unify.
use Rattle.std.specs.Prelude.{ℕ, Bool, [], is_some}
use Rattle.fol_core.specs.Substitutions.{substitute}
use Rattle.fol_core.specs.Tree.{Tree, Trees, none, more}
use Rattle.substitutions.specs.Apart.{interleaved}
use Rattle.unifiers.specs.Matching.{matched}
use Rattle.unifiers.specs.Unifier.{unifier_of}

-- whether the second term is an instance of the first: a variable that stands in it twice has one
-- term
abbrev pub has_instance : Tree → Tree → Bool
has_instance general special = is_some (matched general special [])

-- a term with its variables renamed, by its place among two
abbrev pub apart_as : ℕ → Tree → Trees
apart_as place t = more (substitute (interleaved 2 place) t) none

-- whether two terms, with variables of their own each, have a unifier
abbrev pub can_unify : Tree → Tree → Bool
can_unify s t = is_some (unifier_of (apart_as 0 s) (apart_as 1 t))
