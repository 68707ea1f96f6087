-- What a goal asks for: `answer(w1,..,wj)` among its attributes.
use Rattle.std.specs.Prelude.{ℕ, Bool, false, if◌then◌else◌, List, [], ◌∷◌, ◌++◌, Option, Some, None, unwrap_or, codes}
use Rattle.std.specs.Option.{option_and_then, option_map, option_map_or}
use Rattle.std.specs.Str.{bytes_eq}
use Rattle.fol_core.specs.Free as numbers
use Rattle.fol_core.specs.NamesOnce.{is_in, place_in}
use Rattle.fol_core.specs.RawTree.{RawTree, named, quantified, RawTrees, no_raws, more_raws}
use Rattle.fol_core.specs.declared.raw.Quantifier.TheVariants.{All, Exists}
use Rattle.ladr_rules.specs.Attributes.{attributed}

-- these names, and behind them those of the variables of the quantifiers `exists` in front, unless
-- one stands twice
abbrev pub front_of : List (List ℕ) → RawTree → Option (List (List ℕ))
front_of names (quantified Exists x t) =
    if is_in x names then None else front_of (names ++ x ∷ []) t
front_of names (quantified All x t) = Some names
front_of names (named s ts) = Some names

-- the place of a term that is one of the names
abbrev pub place_of : List (List ℕ) → RawTree → Option ℕ
place_of front (named w no_raws) = place_in w front
place_of front (named w (more_raws t ts)) = None
place_of front (quantified q x t) = None

-- a place, unless it is among these
abbrev pub unless_among : List ℕ → ℕ → Option ℕ
unless_among places k = if numbers.is_in k places then None else Some k

-- the place of a term that is one of the names, and none of these places
abbrev pub new_place : List (List ℕ) → List ℕ → RawTree → Option ℕ
new_place front places t = option_and_then (unless_among places) (place_of front t)

-- these places, and behind them those of terms, all different
abbrev pub places_behind : List (List ℕ) → List ℕ → RawTrees → Option (List ℕ)
places_behind front places no_raws = Some places
places_behind front places (more_raws t ts) =
    option_and_then (λ k. places_behind front (places ++ k ∷ []) ts) (new_place front places t)

-- the places that an attribute asks for, one at least
abbrev pub asked_by : List (List ℕ) → RawTree → Option (List ℕ)
asked_by front (named s no_raws) = None
asked_by front (named s (more_raws t ts)) =
    if bytes_eq s (codes "answer") then places_behind front [] (more_raws t ts) else None
asked_by front (quantified q x t) = None

-- those of the first attribute that asks so, or none
abbrev pub asked_of : List (List ℕ) → List RawTree → List ℕ
asked_of front [] = []
asked_of front (t ∷ ts) = option_map_or (λ places. places) (asked_by front t) (asked_of front ts)

-- what a formula with attributes asks for
abbrev pub asked_among : List RawTree → Option (List (List ℕ)) → List ℕ
asked_among ts None = []
asked_among ts (Some front) = asked_of front ts

abbrev pub asked : RawTree → List ℕ
asked t = asked_among (attributed t).attributes (front_of [] (attributed t).formula)

-- `answer(t,..)`, whatever its terms are, one at least
abbrev pub is_asking : RawTree → Bool
is_asking (named s no_raws) = false
is_asking (named s (more_raws t ts)) = bytes_eq s (codes "answer")
is_asking (quantified q x t) = false

-- the first attribute that is one
abbrev pub first_asking : List RawTree → Option RawTree
first_asking [] = None
first_asking (t ∷ ts) = if is_asking t then Some t else first_asking ts

-- the places that it asks for, and none where it asks for no such names
abbrev pub asked_with : Option (List (List ℕ)) → RawTree → List ℕ
asked_with None t = []
asked_with (Some front) t = unwrap_or (asked_by front t) []

-- What a line of a proof asks for: by the first attribute `answer(t,..)`, whether it can ask so or
-- not; nothing where there is no such attribute.
abbrev pub line_asks : RawTree → Option (List ℕ)
line_asks t =
    option_map (asked_with (front_of [] (attributed t).formula))
    (first_asking (attributed t).attributes)
