-- Terms that are in normal form left of a place, where rewriting goes on.
use Rattle.std.specs.Prelude.{ℕ, suc, ◌≡◌, ◌==◌, Bool, true, false, nat_lt, if◌then◌else◌, List, [], ◌∷◌, None}
use Rattle.fol_core.specs.Literals.{ClauseTree}
use Rattle.fol_core.specs.Tree.{Tree, var, elem, app, Trees, none, more}
use Rattle.prover_steps.specs.Clashing.{Held}
use Rattle.prover_steps.specs.Rewriting.{first_step, atom_step}

-- a part is left of a place
abbrev pub is_passed : ℕ → List ℕ → Bool
is_passed k [] = false
is_passed k (n ∷ place) = nat_lt k n

-- the rest of a place that is in a part
abbrev pub place_within : ℕ → List ℕ → List ℕ
place_within k [] = []
place_within k (n ∷ place) = if k == n then place else []

abbrev mutual
  -- no rule fits left of a place
  pub IsNormalBefore : List Held → List ℕ → Tree → Type 0
  IsNormalBefore rs place (var x) = Unit {0}
  IsNormalBefore rs place (elem k) = Unit {0}
  IsNormalBefore rs place (app f ts) = AreNormalBefore rs place 1 ts

  -- of arguments, the first of which has this number
  pub AreNormalBefore : List Held → List ℕ → ℕ → Trees → Type 0
  AreNormalBefore rs place k none = Unit {0}
  AreNormalBefore rs place k (more t ts) =
      ((is_passed k place ≡ true → first_step rs t ≡ None)
      × IsNormalBefore rs (place_within k place) t)
      × AreNormalBefore rs place (suc k) ts

-- of literals, the first of which has this number
abbrev pub AreLiteralsNormalBefore : List Held → List ℕ → ℕ → ClauseTree → Type 0
AreLiteralsNormalBefore rs place k [] = Unit {0}
AreLiteralsNormalBefore rs place k (l ∷ c) =
    ((is_passed k place ≡ true → atom_step rs l.atom ≡ None)
    × IsNormalBefore rs (place_within k place) l.atom)
    × AreLiteralsNormalBefore rs place (suc k) c
