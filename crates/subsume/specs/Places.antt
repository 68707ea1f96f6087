-- The literals of a clause matched to those of another one at places.
use Rattle.std.specs.Prelude.{ℕ, ◌≡◌, ◌+◌, ◌≤◌, Bool, true, false, not, ◌==◌, ◌&&◌, List, [], ◌∷◌, ◌++◌, Option, None, Some, length, drop, replicate, slice_get, map, vec_len, vec_capacity}
use Rattle.std.specs.Global.{Vec}
use Rattle.std.specs.List.{list_any, slice_set}
use Rattle.std.specs.Option.{option_map_or}
use Rattle.fol_core.specs.ClauseView.{literal_of}
use Rattle.fol_core.specs.Literals.{Lit, ClauseTree}
use Rattle.fol_core.specs.declared.clause.Literal.{Literal}
use Rattle.prover_steps.specs.Subsuming.{matched_literal, subsumes_with}
use Rattle.substitutions.specs.Bindings.{Binding}
use Rattle.subsume.specs.Unused.{unused}
use Rattle.subsume.specs.Variables.{standing}
use Rattle.term_matches.specs.Room.{Matching}

abbrev pub literals_of : List Literal → ClauseTree
literals_of ls = map literal_of ls

-- the bindings that also make of one literal another, where there are both
abbrev pub matched_at : List Binding → Option Lit → Option Lit → Option (List Binding)
matched_at bs (Some l) (Some k) = matched_literal l k bs
matched_at bs o p = None

-- whether a place is one of some
abbrev pub is_taken : List ℕ → ℕ → Bool
is_taken ps a = list_any (λ p. p == a) ps

-- the places that are taken, marked
abbrev pub marks : List Bool → List ℕ → List Bool
marks us [] = us
marks us (p ∷ ps) = marks (slice_set us p true) ps

abbrev pub marked : ClauseTree → List ℕ → List Bool
marked d ps = marks (replicate (length d) false) ps

-- Where the first literals of a clause are matched to those at the places, with these bindings, the
-- others can be matched to literals at other places.
abbrev pub completes : ClauseTree → ClauseTree → List Binding → List ℕ → Bool
completes c d bs ps = subsumes_with bs (drop (length ps) c) (unused (marked d ps) d)

-- the next literal is matched to the one at a place more
abbrev pub goes_on : ClauseTree → ClauseTree → List Binding → List ℕ → ℕ → Bool
goes_on c d bs ps a =
    option_map_or (λ more. completes c d more (ps ++ a ∷ []))
    (matched_at bs (slice_get c (length ps)) (slice_get d a)) false

-- at a place that isn't taken
abbrev pub serves : ClauseTree → ClauseTree → List Binding → List ℕ → ℕ → Bool
serves c d bs ps a = not (is_taken ps a) && goes_on c d bs ps a

-- where no way is found, all is as before
abbrev pub AreBack : {X : Type 0} → Bool → List X → List X → Type 0
AreBack b old new = b ≡ false → new ≡ old

-- there is room for the places of all literals, and for the variables of those that have none yet
pub record HasPlaces (ls : List Literal) (ps : Vec ℕ) (m : Matching) : Type 0 where
  pub places : length ls ≤ vec_capacity ps
  pub terms : length m.bindings + standing (drop (vec_len ps) (literals_of ls)) ≤ m.room
