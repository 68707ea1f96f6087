-- Names beside their weights.
use Rattle.std.proofs.Common.{◌≡◌, ℕ, zero, suc, ◌<◌, Bool, true, false, ◌||◌, if◌then◌else◌, List, [], ◌∷◌, ◌++◌, length, map, Option, Some, None, unwrap_or, slice_get, not, cond, refl, sym, ap, ap₂, ◌∙◌, subst, arith}
use Rattle.std.specs.List.{zip}
use Rattle.std.specs.Option.{option_map}
use Rattle.std.specs.Str.{bytes_eq}
use Rattle.std.proofs.lemmas.Option.{slice_get_within}
use Rattle.fol_core.specs.KboRows.{is_weighed, with_weight, weight_in}
use Rattle.fol_core.specs.NamesOnce.{is_in, with_name, place_in}
use Rattle.fol_core.specs.SymbolTable.{first_place}
use Rattle.fol_core.proofs.Places.{first_place_is_position, first_place-found}

firsts : (names : List (List ℕ)) (weights : List ℕ) → length names ≡ length weights → map (λ r. r.0) (zip names weights) ≡ names
firsts [] weights h = refl
firsts (n ∷ names) [] h = absurd (omega (arith, h))
firsts (n ∷ names) (w ∷ weights) h = ap (λ ns. n ∷ ns) (firsts names weights (omega (arith, h)))

-- a name has a weight where it is one of the names
pub weighed_in : (name : List ℕ) (names : List (List ℕ)) (weights : List ℕ) → length names ≡ length weights → is_weighed name (zip names weights) ≡ is_in name names
weighed_in name names weights h = ap (is_in name) (firsts names weights h)

zip_more : (names : List (List ℕ)) (weights : List ℕ) (name : List ℕ) (weight : ℕ) → length names ≡ length weights → zip (names ++ name ∷ []) (weights ++ weight ∷ []) ≡ zip names weights ++ (name, weight) ∷ []
zip_more [] [] name weight h = refl
zip_more [] (w ∷ weights) name weight h = absurd (omega (arith, h))
zip_more (n ∷ names) [] name weight h = absurd (omega (arith, h))
zip_more (n ∷ names) (w ∷ weights) name weight h = ap (λ rs. (n, w) ∷ rs) (zip_more names weights name weight (omega (arith, h)))

-- a new name goes last with its weight
pub row_put : (names : List (List ℕ)) (weights : List ℕ) (name : List ℕ) (weight : ℕ) → length names ≡ length weights → is_in name names ≡ false
    → zip (with_name name names) (weights ++ weight ∷ []) ≡ with_weight name weight (zip names weights)
row_put names weights name weight h new =
    ap (λ b. zip (if b then names else names ++ name ∷ []) (weights ++ weight ∷ [])) new ∙ zip_more names weights name weight h
    ∙ sym (ap (λ b. if b then zip names weights else zip names weights ++ (name, weight) ∷ []) (weighed_in name names weights h ∙ new))

pub there_stays : (name : List ℕ) (weight : ℕ) (rows : List (List ℕ × ℕ)) → is_weighed name rows ≡ true → rows ≡ with_weight name weight rows
there_stays name weight rows there = sym (ap (λ b. if b then rows else rows ++ (name, weight) ∷ []) there)

weight_first : (name : List ℕ) (names : List (List ℕ)) (weights : List ℕ) (place : ℕ) → length names ≡ length weights → first_place (λ n. bytes_eq name n) names ≡ Some place → weight_in name (zip names weights) ≡ slice_get weights place
weight_first name [] weights place h is = cc
weight_first name (n ∷ names) [] place h is = absurd (omega (arith, h))
weight_first name (n ∷ names) (w ∷ weights) place h is = by (bytes_eq name n) (first_place (λ m. bytes_eq name m) names) (λ m e. weight_first name names weights m (omega (arith, h)) e) is
  where
    by : (b : Bool) (o : Option ℕ) → ((m : ℕ) → o ≡ Some m → weight_in name (zip names weights) ≡ slice_get weights m)
        → (if b then Some 0 else option_map suc o) ≡ Some place → cond b (Some w) (weight_in name (zip names weights)) ≡ slice_get (w ∷ weights) place
    by true o rest e = ap (λ q. slice_get (w ∷ weights) (unwrap_or q 0)) e
    by false None rest e = cc
    by false (Some m) rest e = rest m refl ∙ ap (λ q. slice_get (w ∷ weights) (unwrap_or q 0)) e

no_weight : (name : List ℕ) (names : List (List ℕ)) (weights : List ℕ) → first_place (λ n. bytes_eq name n) names ≡ None → weight_in name (zip names weights) ≡ None
no_weight name [] weights is = refl
no_weight name (n ∷ names) [] is = refl
no_weight name (n ∷ names) (w ∷ weights) is = by (bytes_eq name n) (first_place (λ m. bytes_eq name m) names) (no_weight name names weights) is
  where
    by : (b : Bool) (o : Option ℕ) → (o ≡ None → weight_in name (zip names weights) ≡ None) → (if b then Some 0 else option_map suc o) ≡ None → cond b (Some w) (weight_in name (zip names weights)) ≡ None
    by true o rest e = cc
    by false None rest e = rest refl
    by false (Some m) rest e = cc

-- what a name weighs stands at its place
pub weight_at : (name : List ℕ) (names : List (List ℕ)) (weights : List ℕ) (place : ℕ) → length names ≡ length weights → place_in name names ≡ Some place → weight_in name (zip names weights) ≡ slice_get weights place
weight_at name names weights place h is = weight_first name names weights place h (first_place_is_position (λ n. bytes_eq name n) names ∙ is)

pub weight_nowhere : (name : List ℕ) (names : List (List ℕ)) (weights : List ℕ) → place_in name names ≡ None → weight_in name (zip names weights) ≡ None
weight_nowhere name names weights is = no_weight name names weights (first_place_is_position (λ n. bytes_eq name n) names ∙ is)

pub place_within : (name : List ℕ) (names : List (List ℕ)) (place : ℕ) → place_in name names ≡ Some place → place < length names
place_within name names place is =
    let found = first_place-found (λ n. bytes_eq name n) names place (first_place_is_position (λ n. bytes_eq name n) names ∙ is) in
    slice_get_within names place found.0 found.1

-- a name that isn't new, and one that is
pub is_there : (new there : Bool) → new ≡ not there → new ≡ false → there ≡ true
is_there new true e h = refl
is_there true false e h = cc
is_there false false e h = cc

pub is_absent : (new there : Bool) → new ≡ not there → new ≡ true → there ≡ false
is_absent new false e h = refl
is_absent true true e h = cc
is_absent false true e h = cc
