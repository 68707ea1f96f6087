-- What a call that makes clauses does.
use Rattle.std.specs.Prelude.{ℕ, ◌≡◌, ◌+◌, length, take, List, [], ◌∷◌, ◌++◌, map, slice_index}
use Rattle.fol_core.specs.EntryView.{skolem_axiom_of}
use Rattle.fol_core.specs.Fol.{Fol}
use Rattle.fol_core.specs.Literals.{ClauseTree}
use Rattle.clausify.specs.Clausal.{clauses_in}
use Rattle.fol_core.specs.SkolemAxioms.{SkolemAxiom}
use Rattle.fol_core.specs.Substitutions.{with_term}
use Rattle.clausify.specs.Skolem.{somes, skolem_axioms, skolem_term}
use Rattle.clausify.specs.View.{substitution_kept}
use Rattle.clausify.specs.declared.clausal.Work.{Work}

-- the clauses of a negation normal form where work begins
abbrev pub clauses_at : List ℕ → Work → Fol → List ClauseTree
clauses_at symbols work f =
    clauses_in symbols (length work.entries.items) work.scope.items
    (substitution_kept work.terms.items) f

-- and its witnesses
abbrev pub axioms_at : List ℕ → Work → Fol → List SkolemAxiom
axioms_at symbols work f =
    skolem_axioms symbols (length work.entries.items) work.scope.items
    (substitution_kept work.terms.items) f

-- its witnesses are noted, and scope and terms are as before
abbrev pub Works : List ℕ → Work → Work → Fol → Type 0
Works symbols old new f =
    (map skolem_axiom_of new.entries.items ≡ map skolem_axiom_of old.entries.items
    ++ axioms_at symbols old f)
    × (length new.entries.items ≡ length old.entries.items + somes f)
    × (new.scope.items ≡ old.scope.items)
    × (new.terms.items ≡ old.terms.items)

-- the next symbol where work stands
abbrev pub symbol_at : List ℕ → Work → ℕ
symbol_at symbols work = slice_index symbols (length work.entries.items)

-- its witness for a variable in a body
abbrev pub axiom_at : List ℕ → Work → ℕ → Fol → SkolemAxiom
axiom_at symbols work x body =
    record {
      symbol = symbol_at symbols work;
      variables = work.scope.items;
      variable = x;
      body = body;
    }

-- a Skolem symbol is noted, and its term given for the variable, in front of whose body work stood
abbrev pub BeginsWork : List ℕ → Work → Work → ℕ → Fol → Type 0
BeginsWork symbols old new x body =
    (map skolem_axiom_of new.entries.items
    ≡ map skolem_axiom_of old.entries.items ++ axiom_at symbols old x body ∷ [])
    × (length new.entries.items ≡ length old.entries.items + 1)
    × (new.scope.items ≡ old.scope.items)
    × (take (length old.terms.items) new.terms.items ≡ old.terms.items)
    × (length new.terms.items ≡ length old.terms.items + 1)
    × (substitution_kept new.terms.items ≡ with_term (substitution_kept old.terms.items) x
    (skolem_term (symbol_at symbols old) old.scope.items))

-- what the work in front of one form gives is what the work in front of another gives
abbrev pub LeadsWork : List ℕ → Work → Work → Fol → Fol → Type 0
LeadsWork symbols old new f g =
    (clauses_at symbols old f ≡ clauses_at symbols new g)
    × (map skolem_axiom_of old.entries.items
    ++ axioms_at symbols old f ≡ map skolem_axiom_of new.entries.items ++ axioms_at symbols new g)
    × (length old.entries.items + somes f ≡ length new.entries.items + somes g)

-- the witnesses of a form are noted
abbrev pub Notes : List ℕ → Work → Work → Fol → Type 0
Notes symbols old new f =
    (map skolem_axiom_of new.entries.items ≡ map skolem_axiom_of old.entries.items
    ++ axioms_at symbols old f)
    × (length new.entries.items ≡ length old.entries.items + somes f)
