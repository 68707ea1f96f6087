-- What a set of names has is what the list of its names has.
use Rattle.std.proofs.Common.{◌≡◌, ℕ, false, ◌||◌, List, [], ◌∷◌, ◌++◌, refl, ap, ◌∙◌}
use Rattle.std.specs.Global.{Vec}
use Rattle.std.specs.List.{list_any}
use Rattle.std.specs.Str.{bytes_eq}
use Rattle.indexmap.specs.IndexSet.{insert_key}
use Rattle.fol_core.specs.NamesOnce.{is_in, with_name}
use Rattle.ladr_rules.specs.KeptNames.{names_of}

pub is_among : (name : List ℕ) (names : List (Vec ℕ)) → list_any (λ v. bytes_eq name v.items) names ≡ is_in name (names_of names)
is_among name [] = refl
is_among name (v ∷ names) = ap (λ b. bytes_eq name v.items || b) (is_among name names)

names_more : (names : List (Vec ℕ)) (v : Vec ℕ) → names_of (names ++ v ∷ []) ≡ names_of names ++ v.items ∷ []
names_more [] v = refl
names_more (w ∷ names) v = ap (λ l. w.items ∷ l) (names_more names v)

-- a copy of a new name goes last
pub name_put : (names : List (Vec ℕ)) (copy : Vec ℕ) → is_in copy.items (names_of names) ≡ false
    → names_of (insert_key (λ v w. bytes_eq v.items w.items) names copy) ≡ with_name copy.items (names_of names)
name_put names copy new = rw (is_among copy.items names ∙ new) (rw new (names_more names copy))
