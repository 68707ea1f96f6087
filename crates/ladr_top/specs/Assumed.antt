-- What an item of names that are to differ adds to what was read.
use Rattle.std.specs.Prelude.{◌≡◌, ◌↔◌, ◌≤◌, ℕ, true, false, List, [], ◌∷◌, ◌++◌, map, length}
use Rattle.std.specs.List.{list_any}
use Rattle.std.specs.declared.result.Result.TheVariants.{Ok}
use Rattle.fol_core.specs.Meaning.{Meaning, IsLawful}
use Rattle.fol_core.specs.Truth.{Assignment, Holds, value_of}
use Rattle.fol_problem.specs.declared.problem.Role.TheVariants.{Assumption}
use Rattle.ladr_distinct.specs.Different.{term_named, AreDifferent}
use Rattle.ladr_formulas.specs.Formulas.{is_free_name}
use Rattle.ladr_formulas.specs.declared.styles.Mode.{Mode}
use Rattle.ladr_lex.specs.declared.limits.TheConstants.{MOST_NAMES}
use Rattle.ladr_problem.specs.Adding.{after_names, style_in}
use Rattle.ladr_problem.specs.Sofar.{Sofar, Listed}
use Rattle.ladr_settings.specs.Settings.{is_meant}

-- Names, none of them a variable, bring one more assumption: in every lawful interpretation and
-- under every assignment it holds exactly where their values differ pairwise.
pub record BringsDifference (m : Mode) (s t : Sofar) (ns : List (List ℕ)) : Type 0 where
  pub few : length ns ≤ MOST_NAMES
  pub plain : list_any (is_free_name (style_in m s)) ns ≡ false
  pub listed : Listed
  pub added : t.formulas ≡ s.formulas ++ (Assumption, listed) ∷ []
  pub means :
      (M : Meaning) → IsLawful M → (e : Assignment) → Holds M e listed.formula
      ↔ AreDifferent (map (λ n. value_of M e (term_named (style_in m s) t.symbols n)) ns)

-- An item of names that isn't refused brings that where it is meant for the program, and nothing
-- elsewhere.
abbrev pub NamesAreAssumed : Type 0
NamesAreAssumed =
    (m : Mode) (byte : ℕ) (s t : Sofar) (ns : List (List ℕ)) → after_names m byte s ns ≡ Ok t →
    (is_meant m s.settings ≡ true → BringsDifference m s t ns)
    × (is_meant m s.settings ≡ false → t ≡ s)
