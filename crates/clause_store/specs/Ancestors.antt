-- The lines that a line rests on.
use Rattle.std.specs.Prelude.{ℕ, ◌≡◌, ◌++◌, Bool, IsTrue, List, [], ◌∷◌, map, Some}
use Rattle.std.specs.List.{filter, flat_map}
use Rattle.std.specs.Option.{option_map_or}
use Rattle.fol_core.specs.Free.{is_in}
use Rattle.derivation.specs.Later.{later_parents}
use Rattle.derivation.specs.Lines.{FirstWord, assumed, wanted, clausified, denied, copied, resolved, factored, paramodulated, xx_resolved, instantiated, LineTree, line_at}
use Rattle.clause_store.specs.Lines.{PlainLine, plain_trees}

-- the numbers of the lines that a first word takes
abbrev pub first_parents : FirstWord → List ℕ
first_parents assumed = []
first_parents wanted = []
first_parents (clausified n) = n ∷ []
first_parents (denied n) = n ∷ []
first_parents (copied n) = n ∷ []
first_parents (resolved n ss) = n ∷ map (λ s. s.clause) ss
first_parents (factored n a b) = n ∷ []
first_parents (paramodulated n a side m b path) = n ∷ m ∷ []
first_parents (xx_resolved n a) = n ∷ []
first_parents (instantiated n es) = n ∷ []

-- the parents of a line: the lines that it takes by its first word, and by those behind it
abbrev pub line_parents : LineTree → List ℕ
line_parents l = first_parents l.first ++ flat_map later_parents l.later

-- the parents of the line of a number
abbrev pub parents_in : List LineTree → ℕ → List ℕ
parents_in ls n = option_map_or line_parents (line_at ls n) []

-- from a line to another by way of some, the last one first: each is a parent of the one before it
abbrev pub IsWay : (ℕ → List ℕ) → ℕ → List ℕ → ℕ → Type 0
IsWay parents n [] m = n ≡ m
IsWay parents n (k ∷ ks) m = IsWay parents n ks k × IsTrue (is_in m (parents k))

-- a line rests on itself, on its parents, on theirs, and so on
abbrev pub RestsOn : (ℕ → List ℕ) → ℕ → ℕ → Type 0
RestsOn parents n m = (ks : List ℕ) × IsWay parents n ks m

-- A test tells which lines a line rests on.
pub record IsAncestry (ls : List LineTree) (n : ℕ) (among : ℕ → Bool) : Type 0 where
  pub rests : (m : ℕ) → IsTrue (among m) → RestsOn (parents_in ls) n m
  pub all : (m : ℕ) (l : LineTree) → line_at ls m ≡ Some l → RestsOn (parents_in ls) n m →
      IsTrue (among m)

-- lines are those of others that one of these rests on, in their order and under their numbers
pub record AreAncestors (all : List PlainLine) (n : ℕ) (some : List PlainLine) : Type 0 where
  pub among : ℕ → Bool
  pub ancestry : IsAncestry (plain_trees all) n among
  pub lines : some ≡ filter (λ l. among l.number) all
