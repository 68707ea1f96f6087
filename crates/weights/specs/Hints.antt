-- Hints, and what clauses weigh that match them.
use Rattle.std.specs.Prelude.{ℕ, Bool, true, false, if◌then◌else◌, List, [], ◌∷◌, ◌++◌, Option, None, Some, is_some, unwrap_or, slice_get, ◌+◌}
use Rattle.std.specs.Option.{option_and_then, option_map}
use Rattle.fol_core.specs.Fol.{Fol, equal, atom, negation, disjunction}
use Rattle.fol_core.specs.Literals.{literal, ClauseTree}
use Rattle.fol_core.specs.Tree.{app}
use Rattle.derivation.specs.Equations.{equation}
use Rattle.prover_steps.specs.Subsuming.{subsumes}
use Rattle.weights.specs.Weighing.{WeightRow, atoms_weight}

-- a clause, and what those weigh that match it, if it says so
pub record HintRow : Type 0 where
  pub clause : ClauseTree
  pub weight : Option ℕ

-- a clause matches a hint that it subsumes: the first one counts
abbrev pub first_hint : List HintRow → ClauseTree → Option HintRow
first_hint [] c = None
first_hint (h ∷ hs) c = if subsumes c h.clause then Some h else first_hint hs c

-- and its place, from 0
abbrev pub hint_place : List HintRow → ClauseTree → Option ℕ
hint_place [] c = None
hint_place (h ∷ hs) c =
    if subsumes c h.clause then Some 0 else option_map (λ n. n + 1) (hint_place hs c)

-- the weight that the hint at a place gives
abbrev pub weight_at : List HintRow → Option ℕ → Option ℕ
weight_at hs o = option_and_then (λ n. option_and_then (λ h. h.weight) (slice_get hs n)) o

abbrev pub is_hinted : List HintRow → ClauseTree → Bool
is_hinted hs c = is_some (first_hint hs c)

abbrev pub weight_by_hint : List HintRow → ClauseTree → Option ℕ
weight_by_hint hs c = option_and_then (λ h. h.weight) (first_hint hs c)

-- what a clause weighs: what its hint says, if that says something, else what its atoms weigh
abbrev pub clause_weight : List WeightRow → List HintRow → ClauseTree → ℕ
clause_weight rs hs c = unwrap_or (weight_by_hint hs c) (atoms_weight rs c)

-- the literals of a hint's formula: a formula without literals has none
abbrev pub atom_literals : Bool → Fol → ClauseTree
atom_literals sign (equal s t) = literal sign (equation s t) ∷ []
atom_literals sign (atom r ts) = literal sign (app r ts) ∷ []
atom_literals sign f = []

abbrev pub hint_clause : Fol → ClauseTree
hint_clause (disjunction f g) = hint_clause f ++ hint_clause g
hint_clause (negation f) = atom_literals false f
hint_clause f = atom_literals true f
