-- A walk over classes that gives an order of them.
use Rattle.std.specs.Prelude.{ℕ, ◌+◌, ◌-◌, ◌*◌, ◌<◌, ◌≤◌, ◌≡◌, Bool, true, false, List, [], ◌∷◌, ◌++◌, length}
use Rattle.std.specs.List.{slice_index_or, sum_by}
use Rattle.fol_core.specs.Substitutions.{Substitution}
use Rattle.fol_core.specs.Tree.{nodes}
use Rattle.term_unifiers.specs.Classes.{Classes, children, In, IsOrder, IsCyclic}
use Rattle.term_unifiers.specs.Merging.{nth, FitsLinks, Respects, arities}
use Rattle.term_unifiers.specs.declared.walk.Frame.{Frame}
use Rattle.term_unifiers.specs.declared.walk.Mark.{Mark}
use Rattle.term_unifiers.specs.declared.walk.Mark.TheVariants.{New, Open, Done}
use Rattle.term_unifiers.specs.declared.walk.Walk.{Walk}

abbrev pub mark_at : List Mark → ℕ → Mark
mark_at marks n = slice_index_or marks n New

abbrev pub root_at : List Frame → ℕ → ℕ
root_at frames i = (slice_index_or frames i record { root = 0; next = 0 }).root

-- the class of one of a schema's arguments
pub record IsChild (c : Classes) (r k x : ℕ) : Type 0 where
  pub there : k < length (children c r)
  pub same : nth (children c r) k ≡ x
  pub within : x < length c.shapes

-- the first arguments' classes are in the order
pub record IsFrame (c : Classes) (marks : List Mark) (order : List ℕ) (f : Frame) : Type 0 where
  pub within : f.root < length c.shapes
  pub marked : mark_at marks f.root ≡ Open
  pub next : f.next ≤ length (children c f.root)
  pub before : (k : ℕ) → k < f.next → In (nth (children c f.root) k) order

-- whatever makes the same of all that is merged makes a class's term smaller than those before it
abbrev pub Sinks : Classes → List Frame → Type 0
Sinks c frames =
    (label : Substitution) → Respects label c.shapes → FitsLinks label c.links
    → (i j : ℕ) → i < j → j < length frames
    → nodes (label (root_at frames j)) < nodes (label (root_at frames i))

pub record IsWalk (c : Classes) (marks : List Mark) (order : List ℕ) (frames : List Frame) : Type 0
  where
    pub as_many : length marks ≡ length c.shapes
    pub ordering : IsOrder c [] order
    pub done : (r : ℕ) → r < length c.shapes → mark_at marks r ≡ Done → In r order
    pub ordered : (r : ℕ) → In r order → (r < length c.shapes) × (mark_at marks r ≡ Done)
    pub on_way : (r : ℕ) → r < length c.shapes → mark_at marks r ≡ Open
        → (i : ℕ) × (i < length frames) × (root_at frames i ≡ r)
    pub framed : (i : ℕ) (d : Frame) → i < length frames
        → IsFrame c marks order (slice_index_or frames i d)
    pub apart : (i j : ℕ) → i < j → j < length frames
        → ¬ (root_at frames i ≡ root_at frames j)
    pub sinks : Sinks c frames

abbrev pub mark_weight : Mark → ℕ
mark_weight New = 2
mark_weight Open = 1
mark_weight Done = 0

-- what is left to be looked at
abbrev pub walk_left : Classes → List Mark → List Frame → ℕ
walk_left c marks frames =
    sum_by mark_weight marks * (arities c.shapes + 2)
    + sum_by (λ f. arities c.shapes + 1 - f.next) frames

-- what is in the order stays there, and what was looked at is never new again
pub record WalksOn (c : Classes) (marks : List Mark) (order : List ℕ) (frames : List Frame)
    (w : Walk) : Type 0 where
  pub walk : IsWalk c w.marks.items w.order.items w.frames.items
  pub kept : (r : ℕ) → In r order → In r w.order.items
  pub marked : (r : ℕ) → ¬ (mark_at marks r ≡ New) → ¬ (mark_at w.marks.items r ≡ New)
  pub less : walk_left c w.marks.items w.frames.items < walk_left c marks frames

abbrev pub Advances : Classes → Walk → Frame → Walk → Bool → Type 0
Advances c old frame new true =
    WalksOn c old.marks.items old.order.items (old.frames.items ++ frame ∷ []) new
Advances c old frame new false = IsCyclic c

-- nothing is on the way
pub record Rests (c : Classes) (w : Walk) : Type 0 where
  pub walk : IsWalk c w.marks.items w.order.items w.frames.items
  pub empty : w.frames.items ≡ []

-- a class is put into the order, behind those that it leads to
pub record IsVisited (c : Classes) (old new : Walk) (root : ℕ) : Type 0 where
  pub rests : Rests c new
  pub kept : (r : ℕ) → In r old.order.items → In r new.order.items
  pub there : In root new.order.items

abbrev pub Visits : Classes → Walk → Walk → ℕ → Bool → Type 0
Visits c old new root true = IsVisited c old new root
Visits c old new root false = IsCyclic c
