-- The rules of the first words of a line: each by its premises over its conclusion.
use Rattle.std.specs.Prelude.{ℕ, Bool, true, false, not, ◌==◌, ◌&&◌, ◌||◌, if◌then◌else◌, List, [], ◌∷◌, ◌++◌, map}
use Rattle.fol_core.specs.Free.{is_in}
use Rattle.fol_core.specs.Literals.{ClauseTree}
use Rattle.fol_core.specs.Tree.{Tree}
use Rattle.substitutions.specs.Paths.{replaced}
use Rattle.derivation.specs.Equations.{is_equation, left_of, right_of, below, is_no_variable, term_below}
use Rattle.derivation.specs.Places.{has_literal, has_place, atom_at, others, with_atom, are_alike, are_opposite}
use Rattle.derivation.specs.Rule.{InferenceRule}

-- the clause of a single parent
abbrev pub only_of : List ClauseTree → ClauseTree
only_of (c ∷ []) = c
only_of cs = []

abbrev pub is_one_clause : List ClauseTree → Bool
is_one_clause (c ∷ []) = true
is_one_clause cs = false

-- of two
abbrev pub first_of_two : List ClauseTree → ClauseTree
first_of_two (c ∷ d ∷ []) = c
first_of_two cs = []

abbrev pub second_of_two : List ClauseTree → ClauseTree
second_of_two (c ∷ d ∷ []) = d
second_of_two cs = []

abbrev pub are_two : List ClauseTree → Bool
are_two (c ∷ d ∷ []) = true
are_two cs = false

-- C / C
abbrev pub copy_rule : InferenceRule
copy_rule = record { fits = is_one_clause; pairs = λ cs. []; rest = only_of }

-- a place of the nucleus, and one of its satellite
abbrev pub Clash : Type 0
Clash = ℕ × ℕ

-- the places of the nucleus, which are all different, are opposite to those of the satellites, in
-- turn
abbrev pub clashes_fit : ClauseTree → List Clash → List ClauseTree → Bool
clashes_fit c [] [] = true
clashes_fit c (k ∷ ks) (d ∷ ds) =
    are_opposite c k.0 d k.1 && (not (is_in k.0 (map (λ n. n.0) ks)) && clashes_fit c ks ds)
clashes_fit c ks ds = false

abbrev pub clash_pairs : ClauseTree → List Clash → List ClauseTree → List (Tree × Tree)
clash_pairs c (k ∷ ks) (d ∷ ds) = (atom_at c k.0, atom_at d k.1) ∷ clash_pairs c ks ds
clash_pairs c ks ds = []

abbrev pub satellite_rests : List Clash → List ClauseTree → ClauseTree
satellite_rests (k ∷ ks) (d ∷ ds) = others (λ n. n == k.1) d ++ satellite_rests ks ds
satellite_rests ks ds = []

-- the nucleus and its satellites, of which there is one at least
abbrev pub clash_fits : List Clash → List ClauseTree → Bool
clash_fits ks (c ∷ d ∷ ds) = clashes_fit c ks (d ∷ ds)
clash_fits ks cs = false

abbrev pub all_clash_pairs : List Clash → List ClauseTree → List (Tree × Tree)
all_clash_pairs ks [] = []
all_clash_pairs ks (c ∷ ds) = clash_pairs c ks ds

abbrev pub clash_rest : List Clash → List ClauseTree → ClauseTree
clash_rest ks [] = []
clash_rest ks (c ∷ ds) = others (λ n. is_in n (map (λ k. k.0) ks)) c ++ satellite_rests ks ds

-- A1 | .. | An | C, -A1 | C1, .., -An | Cn / C | C1 | .. | Cn
abbrev pub clash_rule : List Clash → InferenceRule
clash_rule ks = record { fits = clash_fits ks; pairs = all_clash_pairs ks; rest = clash_rest ks }

-- A | A | C / A | C, where the second is left out
abbrev pub factor_rule : ℕ → ℕ → InferenceRule
factor_rule a b = record {
  fits = λ cs. is_one_clause cs && (not (a == b) && are_alike (only_of cs) a (only_of cs) b);
  pairs = λ cs. (atom_at (only_of cs) a, atom_at (only_of cs) b) ∷ [];
  rest = λ cs. others (λ k. k == b) (only_of cs);
}

-- t != t | C / C
abbrev pub xx_rule : ℕ → InferenceRule
xx_rule a = record {
  fits =
      λ cs. is_one_clause cs
      && (has_literal false (only_of cs) a && is_equation (atom_at (only_of cs) a));
  pairs = λ cs. (left_of (atom_at (only_of cs) a), right_of (atom_at (only_of cs) a)) ∷ [];
  rest = λ cs. others (λ k. k == a) (only_of cs);
}

-- a side of an equation by its number, and the other one
abbrev pub side_of : ℕ → Tree → Tree
side_of side t = if side == 1 then left_of t else right_of t

abbrev pub other_side_of : ℕ → Tree → Tree
other_side_of side t = if side == 1 then right_of t else left_of t

abbrev pub para_fits : ℕ → ℕ → ℕ → List ℕ → ClauseTree → ClauseTree → Bool
para_fits a side b path c d =
    has_literal true c a
    && (is_equation (atom_at c a)
    && ((side == 1 || side == 2) && (has_place d b && is_no_variable (below (atom_at d b) path))))

abbrev pub para_rest : ℕ → ℕ → ℕ → List ℕ → ClauseTree → ClauseTree → ClauseTree
para_rest a side b path c d =
    with_atom d b (replaced (atom_at d b) path (other_side_of side (atom_at c a)))
    ++ others (λ k. k == a) c

-- s = t | C, L[s] | D / L[t] | D | C
abbrev pub para_rule : ℕ → ℕ → ℕ → List ℕ → InferenceRule
para_rule a side b path = record {
  fits = λ cs. are_two cs && para_fits a side b path (first_of_two cs) (second_of_two cs);
  pairs =
      λ cs. (
        side_of side (atom_at (first_of_two cs) a),
        term_below (atom_at (second_of_two cs) b)
            path,
      ) ∷ [];
  rest = λ cs. para_rest a side b path (first_of_two cs) (second_of_two cs);
}
