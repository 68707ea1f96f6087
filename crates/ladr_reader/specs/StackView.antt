-- What waits, from the code's parts.
use Rattle.std.specs.Prelude.{ℕ, zero, suc, List, [], ◌∷◌, Option, Some, None}
use Rattle.ladr_reader.specs.declared.stack.Frame.{Frame}
use Rattle.ladr_reader.specs.declared.stack.Frame.TheVariants.{Group}
use Rattle.ladr_reader.specs.declared.stack.Held.{Held}

-- so many open parentheses inside of what waits
abbrev pub in_groups : ℕ → List Frame → List Frame
in_groups zero fs = fs
in_groups (suc n) fs = Group ∷ in_groups n fs

-- what is held, the innermost first, with the open parentheses outside of each
abbrev pub frames_of : List Held → List Frame
frames_of [] = []
frames_of (h ∷ hs) = h.frame ∷ in_groups h.groups (frames_of hs)

abbrev pub first_held : List Held → Option Held
first_held [] = None
first_held (h ∷ hs) = Some h
