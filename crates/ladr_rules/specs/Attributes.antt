-- Formulas with attributes, `formula # t # t`, as they are read.
use Rattle.std.specs.Prelude.{ℕ, Bool, true, false, ◌&&◌, nat_le, if◌then◌else◌, List, [], ◌∷◌, Option, Some, None, codes}
use Rattle.std.specs.List.{list_any}
use Rattle.std.specs.Str.{bytes_eq}
use Rattle.fol_core.specs.RawTree.{RawTree, named, quantified, no_raws, more_raws}
use Rattle.ladr_lex.specs.Numeral.{whole_number}
use Rattle.ladr_rules.specs.declared.bounds.TheConstants.{MOST_WEIGHT}

-- a formula without its attributes, and these in their order
pub record Attributed : Type 0 where
  pub formula : RawTree
  pub attributes : List RawTree

-- the attributes behind the first `#`: `#` binds to the right
abbrev pub attributes_in : RawTree → List RawTree
attributes_in (quantified q x t) = quantified q x t ∷ []
attributes_in (named s no_raws) = named s no_raws ∷ []
attributes_in (named s (more_raws t no_raws)) = named s (more_raws t no_raws) ∷ []
attributes_in (named s (more_raws t (more_raws u no_raws))) =
    if bytes_eq s (codes "#") then t ∷ attributes_in u
    else named s (more_raws t (more_raws u no_raws)) ∷ []
attributes_in (named s (more_raws t (more_raws u (more_raws v ts)))) =
    named s (more_raws t (more_raws u (more_raws v ts))) ∷ []

abbrev plain : RawTree → Attributed
plain t = record { formula = t; attributes = [] }

abbrev pub attributed : RawTree → Attributed
attributed (quantified q x t) = plain (quantified q x t)
attributed (named s no_raws) = plain (named s no_raws)
attributed (named s (more_raws t no_raws)) = plain (named s (more_raws t no_raws))
attributed (named s (more_raws t (more_raws u no_raws))) =
    if bytes_eq s (codes "#") then record { formula = t; attributes = attributes_in u }
    else plain (named s (more_raws t (more_raws u no_raws)))
attributed (named s (more_raws t (more_raws u (more_raws v ts)))) =
    plain (named s (more_raws t (more_raws u (more_raws v ts))))

-- the term is `label(t)`
abbrev pub is_label : RawTree → Bool
is_label (named s (more_raws t no_raws)) = bytes_eq s (codes "label")
is_label t = false

-- the first label, which is kept
abbrev pub label_of : List RawTree → Option RawTree
label_of [] = None
label_of (t ∷ ts) = if is_label t then Some t else label_of ts

-- a number, unless it is above the greatest
abbrev pub limited : ℕ → Option ℕ → Option ℕ
limited greatest None = None
limited greatest (Some n) = if nat_le n greatest then Some n else None

-- the whole number that a term is, unless it is above the greatest
abbrev pub limited_number : ℕ → RawTree → Option ℕ
limited_number greatest (named s no_raws) = limited greatest (whole_number s)
limited_number greatest t = None

abbrev pub is_hint_weight : RawTree → Bool
is_hint_weight (named s ts) = bytes_eq s (codes "bsub_hint_wt")
is_hint_weight (quantified q x t) = false

-- the number of `bsub_hint_wt(n)`, and none where it has another shape
abbrev pub hint_weight : RawTree → Option ℕ
hint_weight (named s (more_raws t no_raws)) = limited_number MOST_WEIGHT t
hint_weight t = None

abbrev is_lost : Option ℕ → Bool
is_lost None = true
is_lost (Some n) = false

-- one of another shape is row 12, on a formula of any list
abbrev pub has_unfit_weight : List RawTree → Bool
has_unfit_weight ts = list_any (λ t. is_hint_weight t && is_lost (hint_weight t)) ts

-- the number of the first, for a hint
abbrev pub hint_weight_of : List RawTree → Option ℕ
hint_weight_of [] = None
hint_weight_of (t ∷ ts) = if is_hint_weight t then hint_weight t else hint_weight_of ts
