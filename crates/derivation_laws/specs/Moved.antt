-- Terms, clauses, formulas and lines of a proof with other numbers of their symbols.
use Rattle.std.specs.Prelude.{◌≡◌, ℕ, List, map}
use Rattle.derivation.specs.Lines.{FirstWord, assumed, wanted, clausified, denied, copied, resolved, factored, paramodulated, xx_resolved, instantiated, ContentTree, formula, clause, LineTree, InputRow, IsRefutation}
use Rattle.fol_core.specs.Fol.{Fol, verum, falsum, equal, atom, negation, conjunction, disjunction, implication, equivalence, forall, exists}
use Rattle.fol_core.specs.Literals.{Lit, ClauseTree, literal, equality}
use Rattle.fol_problem.specs.Stated.{Said, said}
use Rattle.fol_core.specs.Tree.{Tree, var, elem, app, Trees, none, more}
use Rattle.substitutions.specs.Bindings.{Binding}

-- a new number for each symbol
abbrev pub Moving : Type 0
Moving = ℕ → ℕ

abbrev mutual
  pub moved_term : Moving → Tree → Tree
  moved_term to (var x) = var x
  moved_term to (elem k) = elem k
  moved_term to (app s ts) = app (to s) (moved_terms to ts)

  pub moved_terms : Moving → Trees → Trees
  moved_terms to none = none
  moved_terms to (more t ts) = more (moved_term to t) (moved_terms to ts)

abbrev pub moved_literal : Moving → Lit → Lit
moved_literal to l = literal l.positive (moved_term to l.atom)

abbrev pub moved_clause : Moving → ClauseTree → ClauseTree
moved_clause to c = map (moved_literal to) c

abbrev pub moved_formula : Moving → Fol → Fol
moved_formula to verum = verum
moved_formula to falsum = falsum
moved_formula to (equal s t) = equal (moved_term to s) (moved_term to t)
moved_formula to (atom r ts) = atom (to r) (moved_terms to ts)
moved_formula to (negation f) = negation (moved_formula to f)
moved_formula to (conjunction f g) = conjunction (moved_formula to f) (moved_formula to g)
moved_formula to (disjunction f g) = disjunction (moved_formula to f) (moved_formula to g)
moved_formula to (implication f g) = implication (moved_formula to f) (moved_formula to g)
moved_formula to (equivalence f g) = equivalence (moved_formula to f) (moved_formula to g)
moved_formula to (forall x f) = forall x (moved_formula to f)
moved_formula to (exists x f) = exists x (moved_formula to f)

abbrev pub moved_content : Moving → ContentTree → ContentTree
moved_content to (formula f) = formula (moved_formula to f)
moved_content to (clause c) = clause (moved_clause to c)

-- terms for variables, and the first word that puts them in; the others have no symbols
abbrev pub moved_bindings : Moving → List Binding → List Binding
moved_bindings to es = map (λ e. (e.0, moved_term to e.1)) es

abbrev pub moved_first : Moving → FirstWord → FirstWord
moved_first to assumed = assumed
moved_first to wanted = wanted
moved_first to (clausified n) = clausified n
moved_first to (denied n) = denied n
moved_first to (copied n) = copied n
moved_first to (resolved n ss) = resolved n ss
moved_first to (factored n a b) = factored n a b
moved_first to (paramodulated n a side m b path) = paramodulated n a side m b path
moved_first to (xx_resolved n a) = xx_resolved n a
moved_first to (instantiated n es) = instantiated n (moved_bindings to es)

abbrev pub moved_line : Moving → LineTree → LineTree
moved_line to l =
    record l { content = moved_content to l.content; first = moved_first to l.first }

abbrev pub moved_lines : Moving → List LineTree → List LineTree
moved_lines to ls = map (moved_line to) ls

-- what is said, and its clauses
abbrev pub moved_said : Moving → List Said → List Said
moved_said to ss = map (λ s. said s.role (moved_formula to s.formula)) ss

abbrev pub moved_rows : Moving → List InputRow → List InputRow
moved_rows to rows = map (λ r. (r.0, moved_clause to r.1)) rows

-- numbers are exchanged, each with its own way back, and equality keeps its own
pub record IsExchange (to back : Moving) : Type 0 where
  pub there : (n : ℕ) → back (to n) ≡ n
  pub again : (n : ℕ) → to (back n) ≡ n
  pub equality_stays : to equality ≡ equality

-- a refutation stays one when symbols exchange their numbers in it, and in what it refutes
abbrev pub RefutationIsMoved : Type 0
RefutationIsMoved =
    (to back : Moving) (ss : List Said) (rows : List InputRow) (ls : List LineTree)
    → IsExchange to back → IsRefutation ss rows ls
    → IsRefutation (moved_said to ss) (moved_rows to rows) (moved_lines to ls)
