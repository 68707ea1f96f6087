-- Attributes and their terms by how many arguments they have.
use Rattle.std.proofs.Common.{◌≡◌, ◌<◌, ◌≤◌, ◌+◌, ◌∙◌, ◌++◌, ℕ, get_or, false, ◌==◌, if◌then◌else◌, List, [], ◌∷◌, length, Option, Some, None, is_some, position, codes, refl, sym, ap}
use Rattle.std.specs.Str.{bytes_eq}
use Rattle.fol_core.specs.Free as numbers
use Rattle.fol_core.specs.NamesOnce.{place_in}
use Rattle.fol_core.specs.RawView.{raw_of}
use Rattle.fol_core.specs.declared.raw.Raw.{Raw}
use Rattle.std.specs.Option.{option_and_then, option_map}
use Rattle.fol_core.specs.RawTree.{RawTree, named, quantified, no_raws, more_raws, raws_of}
use Rattle.fol_core.proofs.Places.{first_place_is_position, first_place-any}
use Rattle.ladr_rules.specs.Asked.{asked, asked_among, asked_by, asked_with, first_asking, front_of, is_asking, line_asks, new_place, place_of, places_behind}
use Rattle.ladr_rules.specs.Attributes.{attributes_in}
use Rattle.ladr_rules.specs.Seen.{is_joined}
use Rattle.ladr_rules.proofs.Arities.{no_none}
use Rattle.ladr_rules.proofs.Parts.{raws_from, raws_next, raws_end}

pub is_placed : (k : ℕ) (ps : List ℕ) → is_some (position (λ p. k == p) ps) ≡ numbers.is_in k ps
is_placed k ps = ap is_some (sym (first_place_is_position (λ p. k == p) ps)) ∙ first_place-any (λ p. k == p) ps

pub asked_by_length : (front : List (List ℕ)) (s : List ℕ) (ts : List RawTree) → asked_by front (named s (raws_of ts)) ≡ (if length ts == 0 then None else (if bytes_eq s (codes "answer") then places_behind front [] (raws_of ts) else None))
asked_by_length front s [] = refl
asked_by_length front s (t ∷ ts) = ap (λ b. if b then None else (if bytes_eq s (codes "answer") then places_behind front [] (raws_of (t ∷ ts)) else None)) (sym (no_none (length ts)))

pub place_by_length : (front : List (List ℕ)) (w : List ℕ) (ts : List RawTree) → place_of front (named w (raws_of ts)) ≡ (if length ts == 0 then place_in w front else None)
place_by_length front w [] = refl
place_by_length front w (t ∷ ts) = ap (λ b. if b then place_in w front else None) (sym (no_none (length ts)))

-- what `#` joins, and what it doesn't
pub attributes_joined : (t u : RawTree) → attributes_in (named (codes "#") (more_raws t (more_raws u no_raws))) ≡ t ∷ attributes_in u
attributes_joined t u = refl

pub attributes_alone : (t : RawTree) → is_joined t ≡ false → attributes_in t ≡ t ∷ []
attributes_alone (quantified q x t) h = refl
attributes_alone (named s no_raws) h = refl
attributes_alone (named s (more_raws t no_raws)) h = refl
attributes_alone (named s (more_raws t (more_raws u no_raws))) h = ap (λ b. if b then t ∷ attributes_in u else named s (more_raws t (more_raws u no_raws)) ∷ []) h
attributes_alone (named s (more_raws t (more_raws u (more_raws v ts)))) h = refl

pub asked_joined : (t u : RawTree) → asked (named (codes "#") (more_raws t (more_raws u no_raws))) ≡ asked_among (attributes_in u) (front_of [] t)
asked_joined t u = refl

none_among : (o : Option (List (List ℕ))) → asked_among [] o ≡ []
none_among None = refl
none_among (Some front) = refl

pub asked_alone : (t : RawTree) → is_joined t ≡ false → asked t ≡ []
asked_alone (quantified q x t) h = none_among (front_of [] (quantified q x t))
asked_alone (named s no_raws) h = none_among (front_of [] (named s no_raws))
asked_alone (named s (more_raws t no_raws)) h = none_among (front_of [] (named s (more_raws t no_raws)))
asked_alone (named s (more_raws t (more_raws u no_raws))) h = rw h (none_among (front_of [] (named s (more_raws t (more_raws u no_raws)))))
asked_alone (named s (more_raws t (more_raws u (more_raws v ts)))) h = none_among (front_of [] (named s (more_raws t (more_raws u (more_raws v ts)))))

-- one place more, or none
pub places_next :
    (front : List (List ℕ)) (ps : List ℕ) (raws : List Raw) (i : ℕ) (raw : Raw) (k : ℕ) → i < length raws → raw ≡ get_or raws i raw →
    new_place front ps (raw_of raw) ≡ Some k → places_behind front ps (raws_from raws i) ≡ places_behind front (ps ++ k ∷ []) (raws_from raws (i + 1))
places_next front ps raws i raw k h is e =
    ap (places_behind front ps) (raws_next raws i raw h is)
    ∙ ap (option_and_then (λ j. places_behind front (ps ++ j ∷ []) (raws_from raws (i + 1)))) e

pub places_none :
    (front : List (List ℕ)) (ps : List ℕ) (raws : List Raw) (i : ℕ) (raw : Raw) → i < length raws → raw ≡ get_or raws i raw →
    new_place front ps (raw_of raw) ≡ None → places_behind front ps (raws_from raws i) ≡ None
places_none front ps raws i raw h is e =
    ap (places_behind front ps) (raws_next raws i raw h is)
    ∙ ap (option_and_then (λ j. places_behind front (ps ++ j ∷ []) (raws_from raws (i + 1)))) e

pub places_end : (front : List (List ℕ)) (ps : List ℕ) (raws : List Raw) (i : ℕ) → length raws ≤ i → places_behind front ps (raws_from raws i) ≡ Some ps
places_end front ps raws i past = ap (places_behind front ps) (raws_end raws i past)

-- the first attribute that asks
pub asking_by_length : (s : List ℕ) (ts : List RawTree) → is_asking (named s (raws_of ts)) ≡ (if length ts == 0 then false else bytes_eq s (codes "answer"))
asking_by_length s [] = refl
asking_by_length s (t ∷ ts) = ap (λ b. if b then false else bytes_eq s (codes "answer")) (sym (no_none (length ts)))

pub line_joined : (t u : RawTree) → line_asks (named (codes "#") (more_raws t (more_raws u no_raws))) ≡ option_map (asked_with (front_of [] t)) (first_asking (attributes_in u))
line_joined t u = refl

pub line_alone : (t : RawTree) → is_joined t ≡ false → line_asks t ≡ None
line_alone (quantified q x t) h = refl
line_alone (named s no_raws) h = refl
line_alone (named s (more_raws t no_raws)) h = refl
line_alone (named s (more_raws t (more_raws u no_raws))) h = rw h refl
line_alone (named s (more_raws t (more_raws u (more_raws v ts)))) h = refl
