-- What files with formulas say, for examples.
use Rattle.std.specs.Prelude.{ℕ, [], ◌∷◌, None, Some, true, codes}
use Rattle.fol_core.specs.Fol.{Fol, equal, atom}
use Rattle.fol_core.specs.SymbolTable.{symbol}
use Rattle.fol_core.specs.Tree.{Tree, var, app, none, more}
use Rattle.fol_problem.specs.declared.problem.Role.TheVariants.{Assumption, Goal}
use Rattle.fol_core.specs.declared.symbols.Kind.TheVariants.{Function, Relation}
use Rattle.ladr_problem.specs.Sofar.{Sofar, Listed, nothing_read}
use Rattle.ladr_reader.specs.Worked.{constant, unary}
use Rattle.ladr_formulas.specs.WorkedFormulas.{function}
use Rattle.ladr_settings.specs.Settings.{at_start}

-- the relation with a number, of one term
abbrev pub relation : ℕ → Tree → Fol
relation n t = atom n (more t none)

-- a formula without variables and without a label, whose item begins at a byte
abbrev pub plain : ℕ → Fol → Listed
plain byte f = record { formula = f; names = []; label = None; answer = []; byte = byte }

-- lists were read, with nothing in them
abbrev pub lists_read : Sofar
lists_read = record nothing_read { settings = record at_start { listed = true } }

-- p(a) with label(b), and the goal q(x)
abbrev pub labelled_and_goal : Sofar
labelled_and_goal = record lists_read {
  symbols =
      symbol (codes "p") 1 Relation ∷ symbol (codes "a") 0 Function ∷ symbol (codes "q") 1 Relation
      ∷ [];
  formulas = (
    Assumption,
    record (plain 15 (relation 0 (app 1 none)))
        { label = Some (unary "label" (constant "b")) },
  )
      ∷ (Goal, record (plain 62 (relation 2 (var 0))) { names = codes "x" ∷ [] })
      ∷ [];
}

-- f(a) = b
abbrev pub one_equation : Sofar
one_equation = record lists_read {
  symbols =
      symbol (codes "f") 1 Function ∷ symbol (codes "a") 0 Function ∷ symbol (codes "b") 0 Function
      ∷ [];
  formulas = (Assumption, plain 68 (equal (function 0 (app 1 none)) (app 2 none))) ∷ [];
}

-- f = 2 and g = 3, weights for KBO
abbrev pub weighed : Sofar
weighed = record lists_read { kbo_weights = (codes "f", 2) ∷ (codes "g", 3) ∷ [] }
