-- What holds of each element of a list, as far as a loop has come.
use Rattle.std.proofs.Common.{◌≡◌, ℕ, ◌+◌, ◌<◌, ◌≤◌, List, [], ◌∷◌, length, get_or, take, map, subst}
use Rattle.std.proofs.lemmas.List.{take_all}
use Rattle.std.proofs.lemmas.List.Elements.{All-more, recursion_from_All}
use Rattle.std.specs.List.{All, AllByRecursion}
use Rattle.derivation.specs.View.{later_of}
use Rattle.derivation.specs.declared.words.Later.{Later}
use Rattle.derivation.specs.declared.words.Satellite.{Satellite}
use Rattle.printed_proofs.specs.LineBounds.{IsBoundedLater, AreBoundedLater}
use Rattle.words_print.specs.Sayable.{IsShort, AreShort, IsShortSatellite, AreShortSatellites}

module _ {X : Type 0} (P : X → Type 0) where
  -- one more
  pub more : (xs : List X) (i : ℕ) (x : X) → i < length xs → x ≡ get_or xs i x → All P (take i xs) → P x → All P (take (i + 1) xs)
  more xs i x within is before here = All-more P xs i x within before (subst P is here)

  -- all
  pub all : (xs : List X) (i : ℕ) → length xs ≤ i → All P (take i xs) → AllByRecursion P xs
  all xs i end before = recursion_from_All P xs (subst (All P) (take_all i xs end) before)

pub numbers_all : (ns : List ℕ) → AllByRecursion IsShort ns → AreShort ns
numbers_all [] all = tt
numbers_all (n ∷ ns) all = (all.0, numbers_all ns all.1)

pub satellites_all : (ss : List Satellite) → AllByRecursion IsShortSatellite ss → AreShortSatellites ss
satellites_all [] all = tt
satellites_all (s ∷ ss) all = (all.0, satellites_all ss all.1)

abbrev pub IsBoundedStep : Later → Type 0
IsBoundedStep s = IsBoundedLater (later_of s)

pub steps_all : (ss : List Later) → AllByRecursion IsBoundedStep ss → AreBoundedLater (map later_of ss)
steps_all [] all = tt
steps_all (s ∷ ss) all = (all.0, steps_all ss all.1)
