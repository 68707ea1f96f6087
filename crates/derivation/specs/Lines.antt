-- Derivations and refutations.
use Rattle.std.specs.Prelude.{ℕ, ◌≡◌, ◌<◌, Bool, true, false, ◌==◌, ◌-◌, if◌then◌else◌, IsTrue, ◌⊎◌, List, [], ◌∷◌, ◌++◌, map, Option, Some, None}
use Rattle.std.specs.Option.{option_and_then, option_map_or}
use Rattle.fol_core.specs.Fol.{Fol}
use Rattle.fol_core.specs.Literals.{ClauseTree}
use Rattle.fol_core.specs.Renumbered.{renumbered}
use Rattle.fol_problem.specs.Stated.{Said}
use Rattle.fol_problem.specs.declared.problem.Role.{Role}
use Rattle.fol_problem.specs.declared.problem.Role.TheVariants.{Assumption, Usable, Demodulator, Goal}
use Rattle.substitutions.specs.Bindings.{Binding, by_bindings}
use Rattle.substitutions.specs.Instances.{substitute_clause}
use Rattle.derivation.specs.declared.words.Satellite.{Satellite}
use Rattle.derivation.specs.Later.{LaterWord, later_parents, later_fits, Leads}
use Rattle.derivation.specs.Rule.{InferenceRule, Concludes}
use Rattle.derivation.specs.Words.{copy_rule, clash_rule, factor_rule, xx_rule, para_rule}

-- the first word of a line, with the numbers of the lines that it takes, and with literals, a side
-- and a path
pub data FirstWord : Type 0 where
  assumed : FirstWord
  wanted : FirstWord
  clausified : ℕ → FirstWord
  denied : ℕ → FirstWord
  copied : ℕ → FirstWord
  resolved : ℕ → List Satellite → FirstWord
  factored : ℕ → ℕ → ℕ → FirstWord
  paramodulated : ℕ → ℕ → ℕ → ℕ → ℕ → List ℕ → FirstWord
  xx_resolved : ℕ → ℕ → FirstWord
  instantiated : ℕ → List Binding → FirstWord

-- the lines that a rule takes, and the rule
pub record Inference : Type 0 where
  pub parents : List ℕ
  pub rule : InferenceRule

abbrev pub inference : List ℕ → InferenceRule → Inference
inference parents rule = record { parents = parents; rule = rule }

abbrev pub copy_inference : ℕ → Inference
copy_inference n = inference (n ∷ []) copy_rule

abbrev pub clash_inference : ℕ → List Satellite → Inference
clash_inference n ss =
    inference (n ∷ map (λ s. s.clause) ss) (clash_rule (map (λ s. (s.place, s.literal)) ss))

abbrev pub factor_inference : ℕ → ℕ → ℕ → Inference
factor_inference n a b = inference (n ∷ []) (factor_rule a b)

abbrev pub para_inference : ℕ → ℕ → ℕ → ℕ → ℕ → List ℕ → Inference
para_inference n a side m b path = inference (n ∷ m ∷ []) (para_rule a side b path)

abbrev pub xx_inference : ℕ → ℕ → Inference
xx_inference n a = inference (n ∷ []) (xx_rule a)

-- the rule of a first word; the four that name formulas and input clauses have none, and no rule
-- has just the instance that is asked for
abbrev pub inference_of : FirstWord → Option Inference
inference_of assumed = None
inference_of wanted = None
inference_of (clausified n) = None
inference_of (denied n) = None
inference_of (copied n) = Some (copy_inference n)
inference_of (resolved n ss) = Some (clash_inference n ss)
inference_of (factored n a b) = Some (factor_inference n a b)
inference_of (paramodulated n a side m b path) = Some (para_inference n a side m b path)
inference_of (xx_resolved n a) = Some (xx_inference n a)
inference_of (instantiated n es) = None

-- a line's formula or clause
pub data ContentTree : Type 0 where
  formula : Fol → ContentTree
  clause : ClauseTree → ContentTree

pub record LineTree : Type 0 where
  pub number : ℕ
  pub content : ContentTree
  pub first : FirstWord
  pub later : List LaterWord

-- the line of a number
abbrev pub line_at : List LineTree → ℕ → Option LineTree
line_at [] n = None
line_at (l ∷ ls) n = if l.number == n then Some l else line_at ls n

abbrev pub content_clause : ContentTree → Option ClauseTree
content_clause (formula f) = None
content_clause (clause c) = Some c

-- the clause of the line of a number
abbrev pub clause_at : List LineTree → ℕ → Option ClauseTree
clause_at ls n = option_and_then (λ l. content_clause l.content) (line_at ls n)

abbrev pub is_empty_clause : ContentTree → Bool
is_empty_clause (formula f) = false
is_empty_clause (clause []) = true
is_empty_clause (clause (l ∷ c)) = false

-- the clauses of the lines of some numbers
abbrev pub AreClauses : List LineTree → List ℕ → List ClauseTree → Type 0
AreClauses ls [] [] = Unit {0}
AreClauses ls (n ∷ ns) (c ∷ cs) = (clause_at ls n ≡ Some c) × AreClauses ls ns cs
AreClauses ls ns cs = ⊥

-- a line's content is a clause, but for the numbers of its variables
abbrev pub IsClause : ContentTree → ClauseTree → Type 0
IsClause (formula f) d = ⊥
IsClause (clause c) d = renumbered c ≡ renumbered d

-- from a clause the words, in turn, lead to a line's content
abbrev pub After : List LineTree → List LaterWord → ClauseTree → ContentTree → Type 0
After ls [] d content = IsClause content d
After ls (w ∷ ws) d content =
    (ps : List ClauseTree) × (b : ClauseTree) × AreClauses ls (later_parents w) ps
    × IsTrue (later_fits w d ps) × Leads w d ps b × After ls ws b content

-- so does a rule with the words behind it
abbrev pub IsInferred : List LineTree → Inference → List LaterWord → ContentTree → Type 0
IsInferred ls i ws content =
    (ps : List ClauseTree) × (d : ClauseTree) × AreClauses ls i.parents ps × IsTrue (i.rule.fits ps)
    × Concludes i.rule ps d × After ls ws d content

-- so does an instance of a clause, with terms put in for variables at once
abbrev pub instance_of : List Binding → ClauseTree → ClauseTree
instance_of es c = renumbered (substitute_clause (by_bindings es) c)

abbrev pub IsInstance : List LineTree → ℕ → List Binding → List LaterWord → ContentTree → Type 0
IsInstance ls n es ws content =
    (c : ClauseTree) × (clause_at ls n ≡ Some c) × After ls ws (instance_of es c) content

abbrev pub is_goal : Role → Bool
is_goal Assumption = false
is_goal Usable = false
is_goal Demodulator = false
is_goal Goal = true

-- one of the goals, or one of the other formulas
abbrev pub IsSaid : Bool → Fol → Said → Type 0
IsSaid goal f s = (is_goal s.role ≡ goal) × (s.formula ≡ f)

abbrev pub IsAmongSaid : Bool → Fol → List Said → Type 0
IsAmongSaid goal f [] = ⊥
IsAmongSaid goal f (s ∷ ss) = IsSaid goal f s ⊎ IsAmongSaid goal f ss

abbrev pub IsStated : Bool → ContentTree → List Said → Type 0
IsStated goal (formula f) ss = IsAmongSaid goal f ss
IsStated goal (clause c) ss = ⊥

-- a clause with the number of its formula, counted from 1
abbrev pub InputRow : Type 0
InputRow = ℕ × ClauseTree

abbrev pub said_at : List Said → ℕ → Option Said
said_at [] n = None
said_at (s ∷ ss) n = if n == 1 then Some s else said_at ss (n - 1)

-- the row is one of such a formula, and has the clause
abbrev pub IsRowOf : Bool → Fol → List Said → ContentTree → InputRow → Type 0
IsRowOf goal f ss content r =
    (s : Said) × (said_at ss r.0 ≡ Some s) × IsSaid goal f s × IsClause content r.1

-- the content is a clause of such a formula
abbrev pub IsInput : Bool → Fol → List Said → ContentTree → List InputRow → Type 0
IsInput goal f ss content [] = ⊥
IsInput goal f ss content (r ∷ rows) = IsRowOf goal f ss content r ⊎ IsInput goal f ss content rows

-- the line of a number has the formula, as a goal or as another one
abbrev pub IsFormulaAt : List LineTree → ℕ → Bool → Fol → Type 0
IsFormulaAt ls n goal f =
    (l : LineTree) × (line_at ls n ≡ Some l) × (l.content ≡ formula f)
    × (l.first ≡ (if goal then wanted else assumed))

abbrev pub IsInputOf : List Said → List InputRow → List LineTree → Bool → ℕ → ContentTree → Type 0
IsInputOf ss rows ls goal n content =
    (f : Fol) × IsFormulaAt ls n goal f × IsInput goal f ss content rows

-- whether a content is a formula
abbrev pub is_formula : ContentTree → Bool
is_formula (formula f) = true
is_formula (clause c) = false

abbrev pub is_formula_at : List LineTree → ℕ → Bool
is_formula_at ls n = option_map_or (λ l. is_formula l.content) (line_at ls n) false

-- A line behind earlier ones: a formula of the problem, a clause of one that is such a line, or
-- what its words make of earlier clauses. The words that name formulas and their clauses have no
-- others behind them.
abbrev pub IsLine : List Said → List InputRow → List LineTree → FirstWord → List LaterWord →
    ContentTree → Type 0
IsLine ss rows ls assumed ws content = IsStated false content ss × (ws ≡ [])
IsLine ss rows ls wanted ws content = IsStated true content ss × (ws ≡ [])
IsLine ss rows ls (clausified n) ws content = IsInputOf ss rows ls false n content × (ws ≡ [])
IsLine ss rows ls (denied n) ws content = IsInputOf ss rows ls true n content × (ws ≡ [])
IsLine ss rows ls (copied n) ws content = IsInferred ls (copy_inference n) ws content
IsLine ss rows ls (resolved n k) ws content = IsInferred ls (clash_inference n k) ws content
IsLine ss rows ls (factored n a b) ws content = IsInferred ls (factor_inference n a b) ws content
IsLine ss rows ls (paramodulated n a side m b path) ws content =
    IsInferred ls (para_inference n a side m b path) ws content
IsLine ss rows ls (xx_resolved n a) ws content = IsInferred ls (xx_inference n a) ws content
IsLine ss rows ls (instantiated n es) ws content = IsInstance ls n es ws content

-- the number is above the last one
abbrev pub IsAbove : Option ℕ → ℕ → Type 0
IsAbove None n = Unit {0}
IsAbove (Some m) n = m < n

-- lines behind earlier ones, of which the last has this number
abbrev pub AreLines : List Said → List InputRow → List LineTree → Option ℕ → List LineTree → Type 0
AreLines ss rows earlier last [] = Unit {0}
AreLines ss rows earlier last (l ∷ ls) =
    IsAbove last l.number × IsLine ss rows earlier l.first l.later l.content
    × AreLines ss rows (earlier ++ l ∷ []) (Some l.number) ls

-- a derivation from what is said, with the clauses of its formulas
abbrev pub IsDerivation : List Said → List InputRow → List LineTree → Type 0
IsDerivation ss rows ls = AreLines ss rows [] None ls

-- whether the last line is the empty clause
abbrev pub ends_empty : List LineTree → Bool
ends_empty [] = false
ends_empty (l ∷ []) = is_empty_clause l.content
ends_empty (l ∷ k ∷ ls) = ends_empty (k ∷ ls)

-- a derivation of the empty clause
abbrev pub IsRefutation : List Said → List InputRow → List LineTree → Type 0
IsRefutation ss rows ls = IsDerivation ss rows ls × IsTrue (ends_empty ls)
