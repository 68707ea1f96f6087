-- Tables worked out.
use Rattle.std.specs.Prelude.{ℕ, ◌==◌, if◌then◌else◌, List, [], ◌∷◌, ◌++◌, codes}
use Rattle.fol_core.specs.Fol.{equal, atom, negation, conjunction, forall, exists}
use Rattle.fol_problem.specs.Stated.{Stated, said, stated}
use Rattle.fol_core.specs.SymbolTable.{Symbol, symbol}
use Rattle.fol_core.specs.Tree.{Tree, var, elem, app, none, more}
use Rattle.fol_core.specs.SkolemAxioms.{SkolemAxiom}
use Rattle.fol_problem.specs.declared.problem.Role.TheVariants.{Assumption, Goal}
use Rattle.fol_core.specs.declared.symbols.Kind.TheVariants.{Function, Relation}
use Rattle.model_tables.specs.Tables.{Listing, Finite, listing}

abbrev pub constant : ℕ → Tree
constant s = app s none

-- `a != b` and the goal `p(a)`, with a symbol `h` between that stands in neither
abbrev pub apart : Stated
apart =
    stated (symbol (codes "a") 0 Function ∷ symbol (codes "b") 0 Function
    ∷ symbol (codes "h") 2 Function ∷ symbol (codes "p") 1 Relation ∷ [])
    (said Assumption (negation (equal (constant 0) (constant 1)))
    ∷ said Goal (atom 3 (more (constant 0) none)) ∷ [])

-- three elements: `a` and `b` have these values, and `p` holds of the third element alone
abbrev pub tables : ℕ → ℕ → Finite
tables a b =
    record {
      top = 2;
      rows = listing Function (a ∷ []) ∷ listing Function (b ∷ []) ∷ listing Function []
          ∷ listing Relation (0 ∷ 0 ∷ 1 ∷ []) ∷ [];
    }

-- the first two elements change their names
abbrev pub exchange : ℕ → ℕ
exchange x = if x == 0 then 1 else (if x == 1 then 0 else x)

abbrev pub tables_text : List ℕ
tables_text =
    codes "interpretation(3, [number = 7,seconds = 0], [\n    function(a, [0]),\n    function(b, [1]),\n    relation(p(_), [0,0,1])\n]).\n"

-- one operation
abbrev pub group_symbols : List Symbol
group_symbols = symbol (codes "*") 2 Function ∷ []

abbrev pub group : Finite
group = record { top = 1; rows = listing Function (0 ∷ 1 ∷ 1 ∷ 0 ∷ []) ∷ [] }

abbrev pub group_text : List ℕ
group_text =
    codes "interpretation(2, [number = 1,seconds = 0], [\n    function(*(_,_), [0,1,1,0])\n]).\n"

-- "some x equals all y" is made true by the one element that there is
abbrev pub single : SkolemAxiom
single =
    record { symbol = 0; variables = []; variable = 0; body = forall 1 (equal (var 0) (var 1)) }

abbrev pub one : List Listing → Finite
one rows = record { top = 0; rows = rows }

-- "for each x some y is another element"
abbrev pub other : ℕ → SkolemAxiom
other s =
    record { symbol = s; variables = 0 ∷ []; variable = 1; body = negation (equal (var 1) (var 0)) }

-- "for some y and z, the symbol 0 at x is y, y isn't z, and z is element 1"
abbrev pub chain : ℕ → SkolemAxiom
chain s = record {
  symbol = s;
  variables = [];
  variable = 0;
  body =
      exists 1 (exists 2
      (conjunction (equal (app 0 (more (var 0) none)) (var 1))
      (conjunction (negation (equal (var 1) (var 2))) (equal (var 2) (elem 1)))));
}

-- "p holds of some y", that, and "some y isn't itself"
abbrev pub seekers : List SkolemAxiom
seekers =
    record { symbol = 4; variables = []; variable = 1; body = atom 3 (more (var 1) none) }
    ∷ other 5
    ∷ record { symbol = 6; variables = []; variable = 1; body = negation (equal (var 1) (var 1)) }
    ∷ []

abbrev pub found : List Listing
found =
    listing Function (2 ∷ []) ∷ listing Function (1 ∷ 0 ∷ 0 ∷ []) ∷ listing Function (0 ∷ []) ∷ []

abbrev pub expanded : Finite
expanded = record { top = 2; rows = (tables 0 1).rows ++ found }
