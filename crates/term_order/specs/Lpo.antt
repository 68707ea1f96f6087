-- The lexicographic path order.
use Rattle.std.specs.Prelude.{ℕ, Bool, true, false, ◌==◌, ◌&&◌, ◌||◌, if◌then◌else◌}
use Rattle.fol_core.specs.Tree.{Tree, var, elem, app, Trees, none, more}
use Rattle.substitutions.specs.Occurring.{have_variable}
use Rattle.unifiers.specs.Matching.{same_tree}

-- An order of symbols: whether the first stands above the second.
module _ (above : ℕ → ℕ → Bool) where
  -- f(ss) against a second term, where it is known of the arguments ss whether one is greater than
  -- a term or the same, and whether the first pair in which they differ has the greater one of
  -- theirs
  module _ (f : ℕ) (ss : Trees) (some : Tree → Bool) (first : Trees → Bool) where
    abbrev mutual
      pub app_greater : Tree → Bool
      app_greater (var y) = have_variable y ss
      app_greater (elem k) = some (elem k)
      app_greater (app g ts) =
          some (app g ts)
          || ((above f g && greater_each ts) || (f == g && (greater_each ts && first ts)))

      -- it is greater than each of some terms
      pub greater_each : Trees → Bool
      greater_each none = true
      greater_each (more t ts) = app_greater t && greater_each ts

  abbrev mutual
    -- s > t where t is a variable of s other than s; or s is f(s1,..) and some si is t or greater;
    -- or t is g(t1,..), f stands above g, and s is greater than each tj; or f is g, s is greater
    -- than each tj, and the first pair of arguments that differ has the one of s greater
    pub lpo_greater : Tree → Tree → Bool
    lpo_greater (var x) t = false
    lpo_greater (elem k) t = false
    lpo_greater (app f ss) t =
        app_greater f ss (λ u. some_at_least ss u) (λ us. first_greater ss us) t

    pub some_at_least : Trees → Tree → Bool
    some_at_least none t = false
    some_at_least (more s ss) t = (same_tree s t || lpo_greater s t) || some_at_least ss t

    pub first_greater : Trees → Trees → Bool
    first_greater none ts = false
    first_greater (more s ss) none = false
    first_greater (more s ss) (more t ts) =
        if same_tree s t then first_greater ss ts else lpo_greater s t
