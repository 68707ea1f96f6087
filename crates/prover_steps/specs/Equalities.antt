-- The steps of paramodulation that a given clause takes part in, in their order.
use Rattle.std.specs.Prelude.{ℕ, suc, Bool, true, false, not, ◌==◌, ◌&&◌, ◌||◌, if◌then◌else◌, List, [], ◌∷◌, ◌++◌, map, filter, flat_map}
use Rattle.fol_core.specs.Tree.{Tree, var, elem, app, Trees, none, more}
use Rattle.derivation.specs.Equations.{is_equation, left_of, right_of}
use Rattle.derivation.specs.Places.{atom_at}
use Rattle.derivation.specs.Words.{side_of}
use Rattle.proof_words.specs.Written.{by_para, by_xx_res}
use Rattle.prover_steps.specs.Clashing.{Held, is_same_held, places_of}
use Rattle.prover_steps.specs.Concluded.{Conclusion, inferred}

abbrev mutual
  -- the places of a term, itself first, then those of its arguments from the left
  pub paths_of : Tree → List (List ℕ)
  paths_of (var x) = [] ∷ []
  paths_of (elem k) = [] ∷ []
  paths_of (app f ts) = [] ∷ paths_from 1 ts

  -- those of arguments, the first of which has this number
  pub paths_from : ℕ → Trees → List (List ℕ)
  paths_from k none = []
  paths_from k (more t ts) = map (λ path. k ∷ path) (paths_of t) ++ paths_from (suc k) ts

-- those below an atom
abbrev pub paths_below : Tree → List (List ℕ)
paths_below (var x) = []
paths_below (elem k) = []
paths_below (app f ts) = paths_from 1 ts

abbrev pub is_bare_variable : Tree → Bool
is_bare_variable (var x) = true
is_bare_variable (elem k) = false
is_bare_variable (app f ts) = false

-- An order of terms: whether the first is greater.
module _ (greater : Tree → Tree → Bool) where
  -- an equation whose left side is greater
  abbrev pub is_oriented : Tree → Bool
  is_oriented atom = is_equation atom && greater (left_of atom) (right_of atom)

  -- the places at which a term of an atom may be replaced: of an oriented equation those in its
  -- left side
  abbrev pub into_paths : Tree → List (List ℕ)
  into_paths atom =
      if is_oriented atom then map (λ path. 1 ∷ path) (paths_of (left_of atom))
      else paths_below atom

  -- the sides of an equation that may replace: no variable, and of an oriented one the left
  abbrev pub from_sides : Tree → List ℕ
  from_sides atom =
      filter
      (λ side. not (is_bare_variable (side_of side atom) || (side == 2 && is_oriented atom)))
      (1 ∷ 2 ∷ [])

  -- Paramodulation from one clause into another: by the equation, its side, the literal and the
  -- place.
  abbrev pub paramodulants_into : Held → Held → List Conclusion
  paramodulants_into c d =
      flat_map
      (λ a. flat_map
      (λ side. flat_map
      (λ b. flat_map
      (λ path. inferred (by_para c.number a side d.number b path) (c.clause ∷ d.clause ∷ []))
      (into_paths (atom_at d.clause b)))
      (places_of d.clause))
      (from_sides (atom_at c.clause a)))
      (places_of c.clause)

  -- a given clause and another one: from it, then into it
  abbrev pub paramodulants_with : Held → Held → List Conclusion
  paramodulants_with g d =
      paramodulants_into g d ++ (if is_same_held g d then [] else paramodulants_into d g)

  abbrev pub paramodulants_of : List Held → Held → List Conclusion
  paramodulants_of held g = flat_map (paramodulants_with g) held

-- resolution of the given clause's inequations with reflexivity
abbrev pub reflexive_resolvents_of : Held → List Conclusion
reflexive_resolvents_of g =
    flat_map (λ a. inferred (by_xx_res g.number a) (g.clause ∷ [])) (places_of g.clause)
