-- What holds of substitutions, paths and numberings.
use Rattle.std.specs.Prelude.{ℕ, ◌≡◌, ◌↔◌, IsTrue, List, Some}
use Rattle.fol_core.specs.Literals.{ClauseTree, is_true_clause, IsTrueClause}
use Rattle.fol_core.specs.Meaning.{Meaning}
use Rattle.fol_core.specs.Renumbered.{renumbered}
use Rattle.fol_core.specs.Substitutions.{Substitution, substitute}
use Rattle.fol_core.specs.Tree.{Tree}
use Rattle.fol_core.specs.Truth.{Assignment, value_of}
use Rattle.substitutions.specs.Atoms.{AreAtoms}
use Rattle.substitutions.specs.Instances.{substitute_clause, followed, valued, AreVariants}
use Rattle.substitutions.specs.Occurring.{has_variable}
use Rattle.substitutions.specs.Paths.{subterm_at, replaced}

-- the value of an instance is the term's under the changed assignment
abbrev pub InstancesHaveValues : Meaning → Type 0
InstancesHaveValues m =
    (e : Assignment) (s : Substitution) (t : Tree) →
    value_of m e (substitute s t) ≡ value_of m (valued m e s) t

-- and an instance of a clause is true where the clause is under that
abbrev pub InstancesHaveTruth : Meaning → Type 0
InstancesHaveTruth m =
    (e : Assignment) (s : Substitution) (c : ClauseTree) → AreAtoms c →
    is_true_clause m e (substitute_clause s c) ≡ is_true_clause m (valued m e s) c

-- a term keeps its value where a subterm gets another of its value
abbrev pub ReplacingKeepsValues : Meaning → Type 0
ReplacingKeepsValues m =
    (e : Assignment) (t old new : Tree) (path : List ℕ) → subterm_at t path ≡ Some old
    → value_of m e new ≡ value_of m e old → value_of m e (replaced t path new) ≡ value_of m e t

-- a clause says the same with its variables numbered anew
abbrev pub NumberingKeepsTruth : Meaning → Type 0
NumberingKeepsTruth m = (c : ClauseTree) → IsTrueClause m (renumbered c) ↔ IsTrueClause m c

-- one substitution after the other
abbrev pub SubstitutionsCompose : Type 0
SubstitutionsCompose =
    (s u : Substitution) (t : Tree) → substitute u (substitute s t) ≡ substitute (followed s u) t

-- substitutions make the same of a term exactly where they agree on its variables
abbrev pub VariablesDecide : Type 0
VariablesDecide =
    (s u : Substitution) (t : Tree) → ((x : ℕ) → IsTrue (has_variable x t) → s x ≡ u x)
    ↔ (substitute s t ≡ substitute u t)

-- a numbered clause is numbered
abbrev pub NumbersStay : Type 0
NumbersStay = (c : ClauseTree) → renumbered (renumbered c) ≡ renumbered c

-- clauses that are instances of each other are variants
abbrev pub MutualInstancesAreVariants : Type 0
MutualInstancesAreVariants =
    (c d : ClauseTree) (s u : Substitution) → d ≡ substitute_clause s c → c ≡ substitute_clause u d
    → AreVariants c d
