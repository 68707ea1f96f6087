-- Terms whose variables are numbered by first occurrence as they are built.
use Rattle.std.specs.BTreeMap.{is_at}
use Rattle.std.specs.Map.{lookup}
use Rattle.std.specs.Option.{option_map}
use Rattle.std.specs.Ordering.{nat_cmp}
use Rattle.std.specs.Prelude.{ℕ, ◌≡◌, ◌==◌, ◌+◌, ◌<◌, List, [], ◌++◌, length, map}
use Rattle.fol_core.specs.Free.{joined, variables_of, variables_of_all}
use Rattle.fol_core.specs.Renumbered.{by_place}
use Rattle.fol_core.specs.Substitutions.{substitute}
use Rattle.fol_core.specs.SymbolTable.{first_place}
use Rattle.fol_core.specs.Tree.{Tree, trees_of}

-- the places of the variables of a term stand in their stead, and stay right where the list of variables grows; what is new in
-- the list are those of the term
pub record IsWritten (old new : List ℕ) (u t : Tree) : Type 0 where
  pub numbers : new ≡ joined old (variables_of u)
  pub term : (behind : List ℕ) → t ≡ substitute (by_place (new ++ behind)) u

-- and of several terms, one after the other
pub record AreWritten (old new : List ℕ) (us ts : List Tree) : Type 0 where
  pub numbers : new ≡ joined old (variables_of_all (trees_of us))
  pub terms : (behind : List ℕ) → ts ≡ map (substitute (by_place (new ++ behind))) us

-- the places of variables behind sixteen others are noted
pub record AreNoted (few others : List ℕ) (places : List (ℕ × ℕ)) : Type 0 where
  pub full : length few < 16 → others ≡ []
  pub placed : (x : ℕ)
      → lookup (is_at (nat_cmp x)) places
      ≡ option_map (λ k. length few + k) (first_place (λ y. x == y) others)
