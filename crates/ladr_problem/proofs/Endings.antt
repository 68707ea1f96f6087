-- The end of a file, as a program that tests interpretations takes it.
use Rattle.std.proofs.Common.{◌≡◌, ℕ, ◌≤◌, ◌==◌, Bool, true, false, if◌then◌else◌, List, [], ◌∷◌, length, Option, Some, None, refl, sym, ap, subst, ◌∙◌, arith}
use Rattle.std.specs.Option.{option_map_or}
use Rattle.ladr_commands.specs.ByName.{ByName}
use Rattle.ladr_formulas.specs.declared.styles.Mode.{Mode}
use Rattle.ladr_formulas.specs.declared.styles.Mode.TheVariants.{Prover, Mace, Tester}
use Rattle.ladr_lex.specs.declared.misuse.Misuse.{Misuse}
use Rattle.ladr_lex.specs.declared.misuse.Misuse.TheVariants.{Uncovered}
use Rattle.ladr_problem.specs.File.{Outcome, problem, unreadable, misused, too_large, all_tables, covered, at_file_end, first_lacking}
use Rattle.ladr_problem.specs.Sofar.{Sofar}

abbrev is_problem : Outcome → Bool
is_problem (problem s) = true
is_problem (unreadable byte) = false
is_problem (misused byte row) = false
is_problem (too_large byte what) = false

-- what is a problem in the end was one at the end of the items
pub problem_before : (m : Mode) (end : ℕ) (o : Outcome) (s : Sofar) → at_file_end m end o ≡ problem s → o ≡ problem s
problem_before Prover end o s h = h
problem_before Mace end o s h = h
problem_before Tester end (unreadable byte) s h = h
problem_before Tester end (misused byte row) s h = h
problem_before Tester end (too_large byte what) s h = h
problem_before Tester end (problem t) s h = by_count (length t.settings.interpretations == 0) h
  where
    refuses : (byte : ℕ) (row : Misuse) → misused byte row ≡ problem s → problem t ≡ problem s
    refuses byte row e = let d : false ≡ true = ap is_problem e in cc

    by_formula : (o : Option ℕ) → option_map_or (λ byte. misused byte Uncovered) o (problem t) ≡ problem s → problem t ≡ problem s
    by_formula None e = e
    by_formula (Some byte) e = refuses byte Uncovered e

    by_count : (b : Bool) → (if b then misused end Uncovered else covered t t.settings.interpretations) ≡ problem s → problem t ≡ problem s
    by_count true e = refuses end Uncovered e
    by_count false e = by_formula (first_lacking (all_tables t.settings.interpretations t.symbols) t.formulas) e

-- what is a problem in the end has an interpretation, where it is tested
pub has_interpretation : (end : ℕ) (o : Outcome) (s : Sofar) → at_file_end Tester end o ≡ problem s → 1 ≤ length s.settings.interpretations
has_interpretation end (unreadable byte) s h = cc
has_interpretation end (misused byte row) s h = cc
has_interpretation end (too_large byte what) s h = cc
has_interpretation end (problem t) s h = by_list t.settings.interpretations refl
  where
    same : problem t ≡ problem s
    same = problem_before Tester end (problem t) s h

    of : Outcome → List ByName
    of (problem u) = u.settings.interpretations
    of (unreadable byte) = []
    of (misused byte row) = []
    of (too_large byte what) = []

    by_list : (its : List ByName) → t.settings.interpretations ≡ its → 1 ≤ length s.settings.interpretations
    by_list (it ∷ its) e = omega (arith, ap length (sym (ap of same) ∙ e))
    by_list [] e =
        let refused : misused end Uncovered ≡ problem s = subst (λ (its : List ByName). (if length its == 0 then misused end Uncovered else covered t its) ≡ problem s) e h in
        let d : false ≡ true = ap is_problem refused in cc
