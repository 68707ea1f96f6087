-- Clauses that subsume others.
use Rattle.std.specs.Prelude.{ℕ, Bool, true, false, ◌==◌, ◌||◌, if◌then◌else◌, List, [], ◌∷◌, Option, None, is_some, slice_get}
use Rattle.std.specs.List.{list_any}
use Rattle.std.specs.Option.{option_map_or}
use Rattle.fol_core.specs.Literals.{Lit, ClauseTree}
use Rattle.fol_core.specs.Tree.{Tree, var, elem, app, Trees, none, more}
use Rattle.substitutions.specs.Bindings.{Binding}
use Rattle.unifiers.specs.Matching.{matched}
use Rattle.derivation.specs.Places.{same_sign, others}
use Rattle.prover_steps.specs.Clashing.{Held, places_of}
use Rattle.prover_steps.specs.Rewriting.{rewritten_by}

-- the bindings that also make of one literal another, of its sign
abbrev pub matched_literal : Lit → Lit → List Binding → Option (List Binding)
matched_literal l k bs = if same_sign l.positive k.positive then matched l.atom k.atom bs else None

-- the literal at a place
abbrev pub literal_matches : Lit → ClauseTree → ℕ → List Binding → Option (List Binding)
literal_matches l d a bs = option_map_or (λ k. matched_literal l k bs) (slice_get d a) None

-- With bindings for some variables of its own, a clause has its literals, by one substitution,
-- among those of another, each at a place of its own.
abbrev pub subsumes_with : List Binding → ClauseTree → ClauseTree → Bool
subsumes_with bs [] d = true
subsumes_with bs (l ∷ c) d =
    list_any
    (λ a. option_map_or (λ more. subsumes_with more c (others (λ k. k == a) d))
    (literal_matches l d a bs) false)
    (places_of d)

-- one substitution takes the literals of the first clause to different literals of the second
abbrev pub subsumes : ClauseTree → ClauseTree → Bool
subsumes c d = subsumes_with [] c d

-- whether a rule fits a term of a clause
abbrev mutual
  pub fits_in : Held → Tree → Bool
  fits_in r (var x) = false
  fits_in r (elem k) = false
  fits_in r (app f ts) = is_some (rewritten_by r (app f ts)) || fits_in_some r ts

  pub fits_in_some : Held → Trees → Bool
  fits_in_some r none = false
  fits_in_some r (more t ts) = fits_in r t || fits_in_some r ts

abbrev pub fits_below : Held → Tree → Bool
fits_below r (var x) = false
fits_below r (elem k) = false
fits_below r (app f ts) = fits_in_some r ts

abbrev pub rewrites_clause : Held → ClauseTree → Bool
rewrites_clause r c = list_any (λ l. fits_below r l.atom) c
