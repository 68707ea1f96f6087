-- The elements and symbols that clauses may have, and the lines of derivations.
use Rattle.std.specs.Prelude.{ℕ, ◌≡◌, Bool, IsTrue, List, length}
use Rattle.std.specs.List.{AllByRecursion}
use Rattle.derivation.specs.Lines.{FirstWord, assumed, wanted, clausified, denied, copied, resolved, factored, paramodulated, xx_resolved, instantiated, ContentTree, formula, clause, LineTree, InputRow, IsDerivation}
use Rattle.fol_core.specs.Literals.{ClauseTree}
use Rattle.fol_problem.specs.Stated.{Said}
use Rattle.fol_core.specs.Tree.{Tree, var, elem, app, Trees, none, more, list_of}

-- which elements may be named, and which symbols with so many arguments stand in terms and in atoms
pub record Signature : Type 0 where
  pub elements : ℕ → Bool
  pub functions : ℕ → ℕ → Bool
  pub relations : ℕ → ℕ → Bool

abbrev pub argument_count : Trees → ℕ
argument_count ts = length (list_of ts)

abbrev mutual
  -- a term has these elements and functions alone; each variable is in every signature
  pub IsTermIn : Signature → Tree → Type 0
  IsTermIn g (var x) = Unit {0}
  IsTermIn g (elem k) = IsTrue (g.elements k)
  IsTermIn g (app f ts) = IsTrue (g.functions f (argument_count ts)) × AreTermsIn g ts

  pub AreTermsIn : Signature → Trees → Type 0
  AreTermsIn g none = Unit {0}
  AreTermsIn g (more t ts) = IsTermIn g t × AreTermsIn g ts

-- an atom has such a relation and such terms; a variable is one where relations and functions agree
abbrev pub IsAtomIn : Signature → Tree → Type 0
IsAtomIn g (var x) = (f n : ℕ) → g.functions f n ≡ g.relations f n
IsAtomIn g (elem k) = IsTrue (g.elements k)
IsAtomIn g (app r ts) = IsTrue (g.relations r (argument_count ts)) × AreTermsIn g ts

abbrev pub IsClauseIn : Signature → ClauseTree → Type 0
IsClauseIn g c = AllByRecursion (λ l. IsAtomIn g l.atom) c

abbrev pub RowsAreIn : Signature → List InputRow → Type 0
RowsAreIn g rows = AllByRecursion (λ r. IsClauseIn g r.1) rows

abbrev pub ContentIsIn : Signature → ContentTree → Type 0
ContentIsIn g (formula f) = Unit {0}
ContentIsIn g (clause c) = IsClauseIn g c

abbrev pub LinesAreIn : Signature → List LineTree → Type 0
LinesAreIn g ls = AllByRecursion (λ l. ContentIsIn g l.content) ls

-- the terms that a first word puts in are in the signature
abbrev pub PutsIn : Signature → FirstWord → Type 0
PutsIn g assumed = Unit {0}
PutsIn g wanted = Unit {0}
PutsIn g (clausified n) = Unit {0}
PutsIn g (denied n) = Unit {0}
PutsIn g (copied n) = Unit {0}
PutsIn g (resolved n ss) = Unit {0}
PutsIn g (factored n a b) = Unit {0}
PutsIn g (paramodulated n a side m b path) = Unit {0}
PutsIn g (xx_resolved n a) = Unit {0}
PutsIn g (instantiated n es) = AllByRecursion (λ e. IsTermIn g e.1) es

abbrev pub LinesPutIn : Signature → List LineTree → Type 0
LinesPutIn g ls = AllByRecursion (λ l. PutsIn g l.first) ls

-- The clauses of a derivation's lines are in each signature that its input clauses are in, and the
-- terms that its lines put in.
abbrev pub LinesStayIn : Type 0
LinesStayIn =
    (g : Signature) (ss : List Said) (rows : List InputRow) (ls : List LineTree) →
    RowsAreIn g rows → LinesPutIn g ls → IsDerivation ss rows ls → LinesAreIn g ls
