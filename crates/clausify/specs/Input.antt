-- The clauses of what a file states.
use Rattle.std.specs.Prelude.{ℕ, zero, suc, ◌+◌, Bool, true, false, nat_lt, if◌then◌else◌, length, List, [], ◌∷◌, ◌++◌, map, Option, Some, None}
use Rattle.fol_core.specs.Tree.{var}
use Rattle.fol_core.specs.Fol.{Fol}
use Rattle.fol_core.specs.Free.{closure_of}
use Rattle.fol_core.specs.Literals.{ClauseTree}
use Rattle.fol_core.specs.Occurs.{occurs_in, size_needed}
use Rattle.fol_problem.specs.Stated.{Said, Stated}
use Rattle.fol_core.specs.SymbolTable.{Symbol}
use Rattle.fol_core.specs.SkolemAxioms.{SkolemAxiom}
use Rattle.fol_problem.specs.declared.problem.Role.{Role}
use Rattle.fol_problem.specs.declared.problem.Role.TheVariants.{Assumption, Usable, Demodulator, Goal}
use Rattle.fol_core.specs.Renumbered.{renumbered}
use Rattle.clausify.specs.Clausal.{clauses_in}
use Rattle.clausify.specs.Forms.{nnf_of, clause_count}
use Rattle.clausify.specs.Names.{skolem_symbols, all_entered, entered_numbers}
use Rattle.clausify.specs.Skolem.{somes, arities, skolem_axioms}
use Rattle.clausify.specs.declared.limit.TheConstants.{MOST_CLAUSES}

-- whether a formula is taken as it stands; a goal's denial is taken
abbrev pub is_taken : Role → Bool
is_taken Assumption = true
is_taken Usable = true
is_taken Demodulator = true
is_taken Goal = false

-- the negation normal form of the closure, or of its denial
abbrev pub form : Said → Fol
form s = nnf_of (is_taken s.role) (closure_of s.formula)

-- the forms of what is said
abbrev pub forms : List Said → List Fol
forms ss = map form ss

-- how many arguments each Skolem symbol has
abbrev pub arities_in : List Fol → List ℕ
arities_in [] = []
arities_in (f ∷ fs) = arities 0 f ++ arities_in fs

abbrev pub all_arities : List Said → List ℕ
all_arities ss = arities_in (forms ss)

-- the Skolem symbols of what is said in the words of a table
abbrev pub skolems : List Symbol → List Said → List Symbol
skolems input ss = skolem_symbols input 0 0 (all_arities ss)

-- a clause with the number of its formula
abbrev pub ClauseRow : Type 0
ClauseRow = ℕ × ClauseTree

-- the clauses of forms, of which the first is that of formula n and its first Skolem symbol stands
-- at place k
abbrev pub rows_in : List ℕ → ℕ → ℕ → List Fol → List ClauseRow
rows_in symbols n k [] = []
rows_in symbols n k (f ∷ fs) =
    map (λ c. (n, renumbered c)) (clauses_in symbols k [] var f)
    ++ rows_in symbols (n + 1) (k + somes f) fs

abbrev pub rows_from : List ℕ → ℕ → ℕ → List Said → List ClauseRow
rows_from symbols n k ss = rows_in symbols n k (forms ss)

-- and their witnesses
abbrev pub axioms_in : List ℕ → ℕ → List Fol → List SkolemAxiom
axioms_in symbols k [] = []
axioms_in symbols k (f ∷ fs) =
    skolem_axioms symbols k [] var f ++ axioms_in symbols (k + somes f) fs

abbrev pub axioms_from : List ℕ → ℕ → List Said → List SkolemAxiom
axioms_from symbols k ss = axioms_in symbols k (forms ss)

abbrev pub all_rows : List ℕ → List Said → List ClauseRow
all_rows symbols ss = rows_from symbols 1 0 ss

abbrev pub all_skolem_axioms : List ℕ → List Said → List SkolemAxiom
all_skolem_axioms symbols ss = axioms_from symbols 0 ss

-- the number of the first formula, from n on, that gives more clauses than a formula may
abbrev pub first_over : ℕ → List Said → Option ℕ
first_over n [] = None
first_over n (s ∷ ss) =
    if nat_lt MOST_CLAUSES (clause_count (form s)) then Some n else first_over (n + 1) ss

-- the formulas, whatever their roles
abbrev pub formulas : List Said → List Fol
formulas ss = map (λ s. s.formula) ss

-- whether one of the formulas has the symbol
abbrev pub is_used : List Said → ℕ → Bool
is_used ss n = occurs_in n (formulas ss)

-- the numbers from n on that pass a test, so many of them being tried
abbrev pub numbers_passing : (ℕ → Bool) → ℕ → ℕ → List ℕ
numbers_passing test n zero = []
numbers_passing test n (suc left) =
    if test n then n ∷ numbers_passing test (n + 1) left else numbers_passing test (n + 1) left

-- the numbers of the table's symbols that the formulas have
abbrev pub used_symbols : List Symbol → List Said → List ℕ
used_symbols table ss = numbers_passing (is_used ss) 0 (length table)

-- the number before, if there is one
abbrev pub before : ℕ → Option ℕ
before zero = None
before (suc n) = Some n

-- the greatest element that the formulas name
abbrev pub numeral_of : List Said → Option ℕ
numeral_of ss = before (size_needed (formulas ss))

-- the numbers of the Skolem symbols as they are entered into a table, and the table then
abbrev pub skolem_numbers : List Symbol → Stated → List ℕ
skolem_numbers table p = entered_numbers table (skolems p.symbols p.formulas)

abbrev pub with_skolems : List Symbol → Stated → List Symbol
with_skolems table p = all_entered table (skolems p.symbols p.formulas)

-- the clauses and the witnesses, with the numbers of that table
abbrev pub clauses_in_table : List Symbol → Stated → List ClauseRow
clauses_in_table table p = all_rows (skolem_numbers table p) p.formulas

abbrev pub axioms_in_table : List Symbol → Stated → List SkolemAxiom
axioms_in_table table p = all_skolem_axioms (skolem_numbers table p) p.formulas
