-- Places in a term, by numbers: that of the outermost argument in the lowest four bits, counted from
-- 1, above them that of the one within it, and so on.
use Rattle.std.specs.Prelude.{ℕ, ◌≡◌, ◌≤◌, ◌+◌, ◌-◌, ◌*◌, ◌/◌, ◌%◌, ◌==◌, if◌then◌else◌, List, [], ◌∷◌, ◌++◌, Option, Some, None}
use Rattle.fol_core.specs.Tree.{Tree, var, elem, app, Trees, none, more}
use Rattle.discrim_tree.specs.declared.once.Occurrence.{Occurrence}
use Rattle.discrim_tree.specs.declared.once.Repeat.{Repeat}

-- the part of a term at a place, if it's there
abbrev mutual
  pub at_place : Tree → ℕ → Option Tree
  at_place (var x) place = if place == 0 then Some (var x) else None
  at_place (elem k) place = if place == 0 then Some (elem k) else None
  at_place (app f ts) place =
      if place == 0 then Some (app f ts) else at_argument ts (place % 16) (place / 16)

  pub at_argument : Trees → ℕ → ℕ → Option Tree
  at_argument none k place = None
  at_argument (more t ts) k place =
      if k == 1 then at_place t place else at_argument ts (k - 1) place

abbrev pub occurrence : ℕ → ℕ → Occurrence
occurrence x place = record { variable = x; place = place }

-- the variables of a term at a place from the left, and where they stand; the number of an argument
-- counts so many times the unit
abbrev mutual
  pub occurrences : ℕ → ℕ → Tree → List Occurrence
  occurrences place unit (var x) = occurrence x place ∷ []
  occurrences place unit (elem k) = []
  occurrences place unit (app f ts) = all_occurrences place unit 1 ts

  -- those of arguments, from one of a number on
  pub all_occurrences : ℕ → ℕ → ℕ → Trees → List Occurrence
  all_occurrences place unit n none = []
  all_occurrences place unit n (more t ts) =
      occurrences (place + n * unit) (16 * unit) t ++ all_occurrences place unit (n + 1) ts

-- no argument has a number that four bits have no room for
abbrev mutual
  pub IsNarrow : Tree → Type 0
  IsNarrow (var x) = Unit {0}
  IsNarrow (elem k) = Unit {0}
  IsNarrow (app f ts) = AreNarrow 1 ts

  pub AreNarrow : ℕ → Trees → Type 0
  AreNarrow n none = Unit {0}
  AreNarrow n (more t ts) = (n ≤ 15) × IsNarrow t × AreNarrow (n + 1) ts

-- the first place of a variable
abbrev pub next_place : ℕ → List Occurrence → Option ℕ
next_place x [] = None
next_place x (o ∷ os) = if o.variable == x then Some o.place else next_place x os

abbrev pub repeat : ℕ → ℕ → Repeat
repeat first second = record { first = first; second = second }

abbrev pub with_repeat : ℕ → Option ℕ → List Repeat → List Repeat
with_repeat first None repeats = repeats
with_repeat first (Some second) repeats = repeat first second ∷ repeats

-- each place with the next one of the same variable
abbrev pub repeats : List Occurrence → List Repeat
repeats [] = []
repeats (o ∷ os) = with_repeat o.place (next_place o.variable os) (repeats os)

-- the places of the variables of a term that stand there twice
abbrev pub repeated : Tree → List Repeat
repeated t = repeats (occurrences 0 1 t)

-- a term has the same part at both places
pub record IsAlike (t : Tree) (r : Repeat) : Type 0 where
  pub part : Tree
  pub first : at_place t r.first ≡ Some part
  pub second : at_place t r.second ≡ Some part

abbrev pub AreAlike : Tree → List Repeat → Type 0
AreAlike t [] = Unit {0}
AreAlike t (r ∷ rs) = IsAlike t r × AreAlike t rs
