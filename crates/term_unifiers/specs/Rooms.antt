-- How many pairs wait at most while nodes are merged, and how many classes on a walk.
use Rattle.std.specs.Prelude.{ℕ, zero, suc, ◌+◌, ◌==◌, ◌≤◌, ◌≡◌, Bool, true, false, if◌then◌else◌, List, [], length, vec_capacity}
use Rattle.std.specs.List.{sum_by}
use Rattle.term_unifiers.specs.Merging.{Merging, nth, arity, merging_of}
use Rattle.term_unifiers.specs.Shapes.{Shape, shape_at}
use Rattle.term_unifiers.specs.Walking.{mark_at}
use Rattle.term_unifiers.specs.declared.walk.Mark.{Mark}
use Rattle.term_unifiers.specs.declared.walk.Mark.TheVariants.{New, Open, Done}
use Rattle.term_unifiers.specs.declared.walk.Walk.{Walk}
use Rattle.term_unifiers.specs.declared.work.Work.{Work}

-- how many arguments the schema of a class has: a node that isn't the least of one has none
abbrev pub arguments_due : List Shape → Merging → ℕ → ℕ
arguments_due shapes m n =
    if nth m.links n == n then arity (shape_at shapes (nth m.schemas n)) else 0

abbrev pub sum_below : (ℕ → ℕ) → ℕ → ℕ
sum_below f zero = 0
sum_below f (suc n) = sum_below f n + f n

-- the pairs that wait, and the arguments of all classes: a class that is merged away leaves as many
-- pairs at most as it had arguments
abbrev pub most_pairs : List Shape → Merging → ℕ
most_pairs shapes m = length m.lefts + sum_below (arguments_due shapes m) (length shapes)

-- there is room for them
pub record HasRoom (shapes : List Shape) (w : Work) : Type 0 where
  pub lefts : most_pairs shapes (merging_of w) ≤ vec_capacity w.lefts
  pub rights : most_pairs shapes (merging_of w) ≤ vec_capacity w.rights

abbrev pub KeepsRoom : List Shape → Work → Bool → Type 0
KeepsRoom shapes w true = HasRoom shapes w
KeepsRoom shapes w false = Unit {0}

-- a class that wasn't looked at counts
abbrev pub newness : Mark → ℕ
newness New = 1
newness Open = 0
newness Done = 0

-- the classes in the order, those on the way and those that weren't looked at
abbrev pub most_classes : Walk → ℕ
most_classes w = length w.order.items + length w.frames.items + sum_by newness w.marks.items

-- there is room for them, and for so many more on the way
pub record HasPlaces (more : ℕ) (w : Walk) : Type 0 where
  pub order : most_classes w + more ≤ vec_capacity w.order
  pub frames : most_classes w + more ≤ vec_capacity w.frames

abbrev pub KeepsPlaces : Walk → Bool → Type 0
KeepsPlaces w true = HasPlaces 0 w
KeepsPlaces w false = Unit {0}

-- before so many classes are looked at
pub record IsUnstarted (count : ℕ) (w : Walk) : Type 0 where
  pub marks : (n : ℕ) → mark_at w.marks.items n ≡ New
  pub as_many : length w.marks.items ≡ count
  pub order : w.order.items ≡ []
  pub frames : w.frames.items ≡ []
  pub places : HasPlaces 0 w
