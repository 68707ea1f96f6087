-- How deep a term is at least that ends what waits.
use Rattle.std.specs.Prelude.{ℕ, ◌<◌, zero, suc, Bool, true, false, ◌&&◌, ◌≡◌, List, [], ◌∷◌, if◌then◌else◌}
use Rattle.fol_core.specs.RawTree.{RawTree, depth}
use Rattle.ladr_reader.specs.Capped.{is_bar, disjuncts, all_within}
use Rattle.ladr_reader.specs.declared.stack.Frame.{Frame}
use Rattle.ladr_reader.specs.declared.stack.Frame.TheVariants.{Group, Applied, Waiting}
use Rattle.ladr_reader.specs.declared.stack.Part.{Part}
use Rattle.ladr_reader.specs.declared.stack.Part.TheVariants.{Prefix, Infix, Quantified}

-- a term has more than n levels, or one of its disjuncts has, where just those are to have few
abbrev pub IsTooDeep : Bool → ℕ → RawTree → Type 0
IsTooDeep false n t = n < depth t
IsTooDeep true n t = all_within n (disjuncts t) ≡ false

-- whether a part is a disjunct with its `|`
abbrev pub is_disjunct : Part → Bool
is_disjunct (Prefix s) = false
is_disjunct (Infix s u) = is_bar s
is_disjunct (Quantified q x) = false

-- whether what stands inside of c levels is no deeper than its disjuncts
abbrev pub is_spine : Bool → ℕ → Bool
is_spine literals zero = literals
is_spine literals (suc c) = false

-- a frame is one level more, but a disjunction is none where its disjuncts alone count
abbrev pub one_more : Bool → Bool → ℕ → ℕ
one_more literals disjunction c = if is_spine literals c && disjunction then 0 else suc c

-- the levels around what stands inside of all that waits
abbrev pub levels_around : Bool → List Frame → ℕ
levels_around literals [] = 0
levels_around literals (Group ∷ fs) = levels_around literals fs
levels_around literals (Applied s us ∷ fs) =
    one_more literals (is_bar s) (levels_around literals fs)
levels_around literals (Waiting part side p ∷ fs) =
    one_more literals (is_disjunct part) (levels_around literals fs)
