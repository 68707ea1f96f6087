-- Nodes merged into classes: each is linked to one that isn't greater, and the least node of a
-- class to itself.
use Rattle.std.specs.Prelude.{ℕ, ◌+◌, ◌*◌, ◌<◌, ◌≤◌, ◌≡◌, Bool, true, false, List, [], ◌∷◌, ◌++◌, length, map}
use Rattle.std.specs.List.{slice_index_or, sum_by}
use Rattle.fol_core.specs.Substitutions.{Substitution}
use Rattle.term_unifiers.specs.Shapes.{Shape, variable, element, application, shape_at, seen, AreBelow}
use Rattle.term_unifiers.specs.declared.work.Work.{Work}

abbrev pub nth : List ℕ → ℕ → ℕ
nth numbers n = slice_index_or numbers n 0

abbrev pub LeadDown : List ℕ → Type 0
LeadDown links = (n : ℕ) → n < length links → nth links n ≤ n

-- linked nodes have one label
abbrev pub FitsLinks : Substitution → List ℕ → Type 0
FitsLinks label links = (n : ℕ) → n < length links → label n ≡ label (nth links n)

abbrev pub IsNoVariable : Shape → Type 0
IsNoVariable (variable x) = ⊥
IsNoVariable (element k) = Unit {0}
IsNoVariable (application f ks) = Unit {0}

-- where the first is no variable, the second is none, and their labels make them the same
abbrev pub Carries : Substitution → Shape → Shape → Type 0
Carries label p q = IsNoVariable p → IsNoVariable q × (seen label p ≡ seen label q)

-- each node's schema is carried on to that of the node it is linked to
abbrev pub CarriesOn : Substitution → List Shape → List ℕ → List ℕ → Type 0
CarriesOn label shapes schemas links =
    (n : ℕ) → n < length links
    → Carries label (shape_at shapes (nth schemas n)) (shape_at shapes (nth schemas (nth links n)))

-- a schema is a node of the same class, and no variable where some node of the class is none
pub record HasSchemas (label : Substitution) (shapes : List Shape) (schemas links : List ℕ)
    : Type 0 where
  pub same : (n : ℕ) → n < length shapes → label n ≡ label (nth schemas n)
  pub own : (n : ℕ) → n < length shapes
      → Carries label (shape_at shapes n) (shape_at shapes (nth schemas n))
  pub onward : CarriesOn label shapes schemas links

-- links, schemas, and pairs that have to be merged
pub record Merging : Type 0 where
  pub links : List ℕ
  pub schemas : List ℕ
  pub lefts : List ℕ
  pub rights : List ℕ

abbrev pub merging_of : Work → Merging
merging_of w = record {
  links = w.links.items;
  schemas = w.schemas.items;
  lefts = w.lefts.items;
  rights = w.rights.items;
}

-- a pair more
abbrev pub with_pair : ℕ → ℕ → Merging → Merging
with_pair a b m = record {
  links = m.links;
  schemas = m.schemas;
  lefts = m.lefts ++ a ∷ [];
  rights = m.rights ++ b ∷ [];
}

-- linked nodes and those of pairs have one label
pub record Fits (label : Substitution) (m : Merging) : Type 0 where
  pub links : FitsLinks label m.links
  pub pairs : map label m.lefts ≡ map label m.rights

-- what holds all the time
pub record IsMerging (shapes : List Shape) (m : Merging) : Type 0 where
  pub linked : length m.links ≡ length shapes
  pub schemed : length m.schemas ≡ length shapes
  pub down : LeadDown m.links
  pub inside : AreBelow (length shapes) m.schemas
  pub lefts : AreBelow (length shapes) m.lefts
  pub rights : AreBelow (length shapes) m.rights
  pub even : length m.lefts ≡ length m.rights
  pub schemas : (label : Substitution) → Fits label m → HasSchemas label shapes m.schemas m.links

-- the label of a node that is no variable is made of its arguments' labels
abbrev pub Respects : Substitution → List Shape → Type 0
Respects label shapes =
    (n : ℕ) → n < length shapes → IsNoVariable (shape_at shapes n)
    → label n ≡ seen label (shape_at shapes n)

-- what fits later fits before; and what fits before and respects the terms fits later
pub record GoesOn (shapes : List Shape) (old new : Merging) : Type 0 where
  pub merging : IsMerging shapes new
  pub back : (label : Substitution) → Fits label new → Fits label old
  pub on : (label : Substitution) → Respects label shapes → Fits label old → Fits label new

-- nothing that respects the terms fits
abbrev pub Clashes : List Shape → Merging → Type 0
Clashes shapes m = (label : Substitution) → Respects label shapes → ¬ Fits label m

abbrev pub Steps : List Shape → Merging → Merging → Bool → Type 0
Steps shapes old new true = GoesOn shapes old new
Steps shapes old new false = Clashes shapes old

abbrev pub sum_of : List ℕ → ℕ
sum_of numbers = sum_by (λ n. n) numbers

abbrev pub arity : Shape → ℕ
arity (variable x) = 0
arity (element k) = 0
arity (application f ks) = length ks

abbrev pub arities : List Shape → ℕ
arities shapes = sum_by arity shapes

-- what is left to be done
abbrev pub left_of : List Shape → Merging → ℕ
left_of shapes m = sum_of m.links * (arities shapes + 1) + length m.lefts

abbrev pub Lessens : List Shape → Merging → Merging → Bool → Type 0
Lessens shapes old new true = left_of shapes new ≤ left_of shapes old
Lessens shapes old new false = Unit {0}

-- links that lead to the same node, in fewer steps
pub record Shortened (old new : List ℕ) : Type 0 where
  pub as_many : length new ≡ length old
  pub down : LeadDown new
  pub sum : sum_of new ≤ sum_of old
  pub stays : (n : ℕ) → n < length old → nth old n ≡ n → nth new n ≡ n
  pub stood : (n : ℕ) → n < length old → nth new n ≡ n → nth old n ≡ n
  pub on : (label : Substitution) → FitsLinks label old → FitsLinks label new
  pub back : (label : Substitution) → FitsLinks label new → FitsLinks label old
  pub carries : (label : Substitution) (shapes : List Shape) (schemas : List ℕ)
      → CarriesOn label shapes schemas old → CarriesOn label shapes schemas new

-- the least node of a node's class
pub record IsLeast (links : List ℕ) (start n : ℕ) : Type 0 where
  pub within : n ≤ start
  pub least : nth links n ≡ n
  pub same : (label : Substitution) → FitsLinks label links → label start ≡ label n

-- each node is linked to the least of its class
abbrev pub IsFlat : List ℕ → Type 0
IsFlat links = (n : ℕ) → n < length links → nth links (nth links n) ≡ nth links n

-- each node is a class of its own
pub record CountsUp (numbers : List ℕ) (count : ℕ) : Type 0 where
  pub as_many : length numbers ≡ count
  pub own : (n : ℕ) → n < count → nth numbers n ≡ n

-- two of least nodes have to be merged
pub record CanUnite (shapes : List Shape) (m : Merging) (low high : ℕ) : Type 0 where
  pub merging : IsMerging shapes (with_pair low high m)
  pub lower : low < high
  pub low_least : nth m.links low ≡ low
  pub high_least : nth m.links high ≡ high

-- nothing is left
pub record IsMerged (shapes : List Shape) (old new : Merging) : Type 0 where
  pub goes : GoesOn shapes old new
  pub flat : IsFlat new.links
  pub done : new.lefts ≡ []

abbrev pub Merges : List Shape → Merging → Merging → Bool → Type 0
Merges shapes old new true = IsMerged shapes old new
Merges shapes old new false = Clashes shapes old
