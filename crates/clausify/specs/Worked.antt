-- Formulas worked out.
use Rattle.std.specs.Prelude.{ℕ, ◌≡◌, zero, suc, Bool, true, false, List, [], ◌∷◌, Some, None, codes}
use Rattle.fol_core.specs.Tree.{Tree, var, elem, app, Trees, none, more}
use Rattle.fol_core.specs.Fol.{Fol, verum, falsum, equal, atom, negation, conjunction, disjunction, implication, equivalence, forall, exists}
use Rattle.fol_core.specs.Literals.{literal, ClauseTree, equality}
use Rattle.fol_problem.specs.Stated.{Said, said}
use Rattle.fol_core.specs.SymbolTable.{symbol}
use Rattle.fol_problem.specs.declared.problem.Role.TheVariants.{Assumption, Goal}
use Rattle.fol_core.specs.declared.symbols.Kind.TheVariants.{Function, Relation}
use Rattle.clausify.specs.Clausal.{clauses_in}
use Rattle.clausify.specs.Forms.{nnf_of}
use Rattle.clausify.specs.Input.{all_rows, all_skolem_axioms, skolems, first_over, used_symbols, numeral_of}

-- relation 0 of one thing, and of nothing
abbrev p : Tree → Fol
p t = atom 0 (more t none)

abbrev plain : ℕ → Fol
plain r = atom r none

-- its literal
abbrev has : Bool → Tree → ClauseTree
has positive t = literal positive (app 0 (more t none)) ∷ []

abbrev constant : ℕ → Tree
constant s = app s none

-- "A if and only if B" gives two clauses, and so does its denial
abbrev pub WorkedIff : Type 0
WorkedIff =
    (nnf_of true (equivalence (plain 0) (plain 1))
    ≡ conjunction (disjunction (negation (plain 0)) (plain 1))
    (disjunction (negation (plain 1)) (plain 0)))
    × (nnf_of false (equivalence (plain 0) (plain 1))
    ≡ conjunction (disjunction (plain 0) (plain 1))
    (disjunction (negation (plain 0)) (negation (plain 1))))

-- exists x all y x = y, where the Skolem symbol has number 7
abbrev single : List Said
single = said Assumption (exists 0 (forall 1 (equal (var 0) (var 1)))) ∷ []

abbrev pub WorkedSingle : Type 0
WorkedSingle =
    (skolems [] single ≡ symbol (codes "c1") 0 Function ∷ [])
    × (all_rows (7 ∷ []) single
    ≡ (1, literal true (app equality (more (constant 7) (more (var 0) none))) ∷ []) ∷ [])
    × (all_skolem_axioms (7 ∷ []) single
    ≡ record { symbol = 7; variables = []; variable = 0; body = forall 1 (equal (var 0) (var 1)) }
    ∷ [])

-- the goal exists x (p(x) -> all y p(y)), with f1 under number 7: its denial is p(x) and not
-- p(f1(x))
abbrev drinker : List Said
drinker = said Goal (exists 0 (implication (p (var 0)) (forall 1 (p (var 1))))) ∷ []

abbrev pub WorkedGoal : Type 0
WorkedGoal =
    (skolems [] drinker ≡ symbol (codes "f1") 1 Function ∷ [])
    × (all_rows (7 ∷ []) drinker ≡ (1, has true (var 0))
    ∷ (1, has false (app 7 (more (var 0) none))) ∷ [])

-- a goal's free variable: not p(c1), not p(c3), where the input has a c2
abbrev two_goals : List Said
two_goals = said Goal (p (var 0)) ∷ said Goal (p (var 0)) ∷ []

abbrev pub WorkedNames : Type 0
WorkedNames =
    (skolems (symbol (codes "p") 1 Relation ∷ symbol (codes "c2") 3 Function ∷ []) two_goals
    ≡ symbol (codes "c1") 0 Function ∷ symbol (codes "c3") 0 Function ∷ [])
    × (all_rows (7 ∷ 8 ∷ []) two_goals ≡ (1, has false (constant 7)) ∷ (2, has false (constant 8))
    ∷ [])

-- all x exists y all z exists w r(x,y,z,w): the second Skolem term has x and z, and the first
-- stands in its body
abbrev relation : Tree → Tree → Tree → Tree → Trees
relation s t u v = more s (more t (more u (more v none)))

abbrev nested : List Said
nested =
    said Assumption
    (forall 0 (exists 1 (forall 2 (exists 3 (atom 0 (relation (var 0) (var 1) (var 2) (var 3)))))))
    ∷ []

abbrev first : Tree
first = app 7 (more (var 0) none)

abbrev second : Tree → Tree
second z = app 8 (more (var 0) (more z none))

abbrev pub WorkedNested : Type 0
WorkedNested =
    (all_rows (7 ∷ 8 ∷ []) nested
    ≡ (1, literal true (app 0 (relation (var 0) first (var 1) (second (var 1)))) ∷ []) ∷ [])
    × (all_skolem_axioms (7 ∷ 8 ∷ []) nested
    ≡ record {
      symbol = 7;
      variables = 0 ∷ [];
      variable = 1;
      body = forall 2 (exists 3 (atom 0 (relation (var 0) (var 1) (var 2) (var 3))));
    }
    ∷ record {
      symbol = 8;
      variables = 0 ∷ 2 ∷ [];
      variable = 3;
      body = atom 0 (relation (var 0) first (var 2) (var 3));
    } ∷ [])

-- "true" drops a clause, "false" is left out of one, and a doubled literal stays
abbrev pub WorkedConstants : Type 0
WorkedConstants =
    (clauses_in [] 0 [] var (disjunction verum (plain 0)) ≡ [])
    × (clauses_in [] 0 [] var (disjunction falsum (disjunction (plain 0) (plain 0)))
    ≡ (literal true (constant 0) ∷ literal true (constant 0) ∷ []) ∷ [])
    × (clauses_in [] 0 [] var (negation verum) ≡ [] ∷ [])
    × (clauses_in [] 0 [] var
    (disjunction (conjunction (plain 0) (plain 1)) (conjunction (plain 2) (plain 3)))
    ≡ (literal true (constant 0) ∷ literal true (constant 2) ∷ [])
    ∷ (literal true (constant 0) ∷ literal true (constant 3) ∷ [])
    ∷ (literal true (constant 1) ∷ literal true (constant 2) ∷ [])
    ∷ (literal true (constant 1) ∷ literal true (constant 3) ∷ []) ∷ [])

-- "or" of so many parts "0 and 1", and one more
abbrev alternatives : ℕ → Fol
alternatives zero = conjunction (plain 0) (plain 1)
alternatives (suc n) = disjunction (conjunction (plain 0) (plain 1)) (alternatives n)

-- fourteen parts give 16,384 clauses, and fifteen too many
abbrev pub WorkedLimit : Type 0
WorkedLimit =
    (first_over 1 (said Assumption (alternatives 13) ∷ []) ≡ None)
    × (first_over 1 (said Goal (plain 0) ∷ said Assumption (alternatives 14) ∷ []) ≡ Some 2)

-- the symbols by number, and the greatest numeral, of f(0) = 2 & p(0) in a table of five symbols
abbrev pub WorkedSymbols : Type 0
WorkedSymbols =
    let ss = said Assumption
    (conjunction (equal (app 3 (more (elem 0) none)) (elem 2)) (p (elem 0))) ∷ [] in
    let s = symbol [] 0 Function in
    (used_symbols (s ∷ s ∷ s ∷ s ∷ s ∷ []) ss ≡ 0 ∷ 3 ∷ [])
    × (numeral_of ss ≡ Some 2)
