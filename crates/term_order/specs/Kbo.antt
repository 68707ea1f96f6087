-- The Knuth-Bendix order.
use Rattle.std.specs.Prelude.{ℕ, Bool, true, false, ◌+◌, ◌==◌, nat_lt, nat_le, ◌&&◌, ◌||◌, if◌then◌else◌}
use Rattle.fol_core.specs.Tree.{Tree, var, elem, app, Trees, none, more}
use Rattle.substitutions.specs.Occurring.{have_variable}
use Rattle.unifiers.specs.Matching.{same_tree}

abbrev mutual
  -- how often a variable stands in a term
  pub times_in : ℕ → Tree → ℕ
  times_in x (var y) = if x == y then 1 else 0
  times_in x (elem k) = 0
  times_in x (app f ts) = times_in_all x ts

  pub times_in_all : ℕ → Trees → ℕ
  times_in_all x none = 0
  times_in_all x (more t ts) = times_in x t + times_in_all x ts

-- whether no variable of a third term stands in ts more often than in ss
module _ (ss ts : Trees) where
  abbrev mutual
    pub none_oftener : Tree → Bool
    none_oftener (var y) = nat_le (times_in_all y ts) (times_in_all y ss)
    none_oftener (elem k) = true
    none_oftener (app f us) = none_oftener_all us

    pub none_oftener_all : Trees → Bool
    none_oftener_all none = true
    none_oftener_all (more u us) = none_oftener u && none_oftener_all us

-- What each symbol weighs.
module _ (weight : ℕ → ℕ) where
  abbrev mutual
    -- what a term weighs: its symbols' weights, and 1 for each variable and element
    pub weigh : Tree → ℕ
    weigh (var x) = 1
    weigh (elem k) = 1
    weigh (app f ts) = weight f + weigh_all ts

    pub weigh_all : Trees → ℕ
    weigh_all none = 0
    weigh_all (more t ts) = weigh t + weigh_all ts

-- An order of symbols, and what each of them weighs.
module _ (above : ℕ → ℕ → Bool) (weight : ℕ → ℕ) where
  -- whether f(ss) outweighs g(ts), where it is known whether the first pair of arguments that
  -- differ has the greater one in ss: no variable stands in ts more often, and f(ss) weighs more;
  -- or they weigh the same, and f stands above g, or is g and the arguments decide
  abbrev pub outweighs : ℕ → Trees → ℕ → Trees → Bool → Bool
  outweighs f ss g ts first =
      none_oftener_all ss ts ts
      && (nat_lt (weigh weight (app g ts)) (weigh weight (app f ss))
      || (weigh weight (app f ss) == weigh weight (app g ts) && (above f g || (f == g && first))))

  abbrev mutual
    -- s > t where t is a variable that s has and isn't; or an element, and s an application; or two
    -- applications are so
    pub kbo_greater : Tree → Tree → Bool
    kbo_greater (var x) t = false
    kbo_greater (elem k) t = false
    kbo_greater (app f ss) (var y) = have_variable y ss
    kbo_greater (app f ss) (elem k) = true
    kbo_greater (app f ss) (app g ts) =
        outweighs f ss g ts (kbo_first ss ts)

    pub kbo_first : Trees → Trees → Bool
    kbo_first none ts = false
    kbo_first (more s ss) none = false
    kbo_first (more s ss) (more t ts) =
        if same_tree s t then kbo_first ss ts else kbo_greater s t
