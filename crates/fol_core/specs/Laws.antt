-- What holds in every interpretation.
use Rattle.std.specs.Prelude.{ℕ, ◌≡◌, ◌↔◌, IsTrue}
use Rattle.fol_core.specs.Tree.{Tree, var, elem, app, Trees, none, more}
use Rattle.fol_core.specs.Fol.{Fol}
use Rattle.fol_core.specs.Free.{is_in, free_vars_of, closure_of}
use Rattle.fol_core.specs.Meaning.{Meaning}
use Rattle.fol_core.specs.Truth.{Assignment, IsWithin, value_of, Holds}

-- what isn't false is true
abbrev pub TruthIsStable : Meaning → Type 0
TruthIsStable m = (e : Assignment) (f : Fol) → ¬ ¬ Holds m e f → Holds m e f

-- assignments that agree on the free variables of a formula agree on its truth
abbrev pub FreeVariablesDecide : Meaning → Type 0
FreeVariablesDecide m =
    (d e : Assignment) (f : Fol) → ((x : ℕ) → IsTrue (is_in x (free_vars_of f)) → d x ≡ e x) →
    Holds m d f ↔ Holds m e f

-- the closure of a formula is true, under any assignment, exactly where the formula is true
-- whatever elements its variables have
abbrev pub ClosureIsGeneral : Meaning → Type 0
ClosureIsGeneral m =
    (e : Assignment) (f : Fol) → Holds m e (closure_of f)
    ↔ ((d : Assignment) → IsWithin m d → Holds m d f)

abbrev mutual
  -- each element that the term names is within
  pub NamesElements : Meaning → Tree → Type 0
  NamesElements m (var x) = Unit {0}
  NamesElements m (elem k) = IsTrue (m.within k)
  NamesElements m (app f ts) = AllNameElements m ts

  pub AllNameElements : Meaning → Trees → Type 0
  AllNameElements m none = Unit {0}
  AllNameElements m (more t ts) = NamesElements m t × AllNameElements m ts

-- the value of a term is within, where its variables' elements and those that it names are
abbrev pub ValuesAreWithin : Meaning → Type 0
ValuesAreWithin m =
    (e : Assignment) (t : Tree) → IsWithin m e → NamesElements m t →
    IsTrue (m.within (value_of m e t))
