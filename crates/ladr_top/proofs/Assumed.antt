-- What an item of names adds, by how it is taken.
use Rattle.std.proofs.Common.{◌≡◌, ◌≤◌, ℕ, Bool, true, false, not, if◌then◌else◌, List, map, length, Option, Some, None, refl, sym, ap, subst}
use Rattle.std.specs.Prelude.{◌↔◌, nat_lt}
use Rattle.std.specs.List.{list_any}
use Rattle.std.specs.Option.{option_map_or}
use Rattle.std.specs.declared.result.Result.{Result}
use Rattle.std.specs.declared.result.Result.TheVariants.{Ok, Err}
use Rattle.std.proofs.lemmas.Bool.{false≢true, ltb-false}
use Rattle.fol_core.specs.SymbolTable.{Symbol}
use Rattle.fol_core.specs.Truth.{Holds, value_of}
use Rattle.ladr_distinct.specs.Different.{term_named, AreDifferent, distinct_reading, DistinctMeansDifferent}
use Rattle.ladr_distinct.specs.Formula.{distinct_formula}
use Rattle.ladr_formulas.specs.Formulas.{is_free_name, is_too_great}
use Rattle.ladr_formulas.specs.declared.styles.Mode.{Mode}
use Rattle.ladr_lex.specs.declared.limits.TheConstants.{MOST_NAMES, MOST_SYMBOLS}
use Rattle.ladr_lex.specs.declared.misuse.Misuse.{Misuse}
use Rattle.ladr_lex.specs.declared.misuse.Misuse.TheVariants.{UnfitAttribute, UnfitNumeral, VariableAmongNames}
use Rattle.ladr_problem.specs.Adding.{after_made, after_list, limit_of_names, listed_by, met, style_in, with_formula, with_names_met, least_misuse}
use Rattle.ladr_problem.specs.Sofar.{Sofar}
use Rattle.ladr_problem.specs.declared.refusal.Limit.TheVariants as limit
use Rattle.ladr_problem.specs.declared.refusal.Refusal.{Refusal}
use Rattle.ladr_problem.specs.declared.refusal.Refusal.TheVariants.{Large, Misused}
use Rattle.ladr_rules.specs.Attributes.{attributed, has_unfit_weight}
use Rattle.ladr_settings.specs.Settings.{is_meant}
use Rattle.ladr_settings.specs.declared.lists.FormulaList.TheVariants.{Assumptions}
use Rattle.ladr_top.specs.Assumed.{BringsDifference, NamesAreAssumed}

-- what isn't refused by a test
unrefused : (b : Bool) (why : Refusal) (r : Result Sofar Refusal) (t : Sofar) → (if b then Err why else r) ≡ Ok t → (b ≡ false) × (r ≡ Ok t)
unrefused true why r t e = absurd (cc)
unrefused false why r t e = (refl, e)

-- what is kept where it is meant, and what isn't where it isn't
where_meant : (b : Bool) (r : Result Sofar Refusal) (s t : Sofar) → (if not b then Ok s else r) ≡ Ok t → b ≡ true → r ≡ Ok t
where_meant true r s t e h = e
where_meant false r s t e h = absurd (false≢true h)

elsewhere : (b : Bool) (r : Result Sofar Refusal) (s t : Sofar) → (if not b then Ok s else r) ≡ Ok t → b ≡ false → t ≡ s
elsewhere true r s t e h = absurd (false≢true (sym h))
elsewhere false r s t e h = cc

no_misuse : (o : Option Misuse) (u t : Sofar) → option_map_or (λ k. Err (Misused k)) o (Ok u) ≡ Ok t → (o ≡ None) × (u ≡ t)
no_misuse None u t e = (refl, cc)
no_misuse (Some k) u t e = absurd (cc)

not_met : (b : Bool) (k : Misuse) (o : Option Misuse) → met b k o ≡ None → (b ≡ false) × (o ≡ None)
not_met true k o e = absurd (cc)
not_met false k o e = (refl, e)

pub names_assumed : DistinctMeansDifferent → NamesAreAssumed
names_assumed law m byte s t ns taken =
    let st = style_in m s in
    let read = distinct_reading st s.symbols ns in
    let made = with_names_met st ns read in
    let term = distinct_formula ns in
    let unfit = has_unfit_weight (attributed term).attributes in
    let listed = after_list Assumptions byte s term made in
    let few = unrefused (nat_lt MOST_NAMES (length ns)) (Large (limit_of_names st s.symbols ns)) (after_made m (Some Assumptions) byte s term made) t taken in
    let known = unrefused (nat_lt MOST_SYMBOLS (length read.reading.symbols)) (Large limit.Symbols) (if read.reading.large then Err (Large limit.Arity) else (if not (is_meant m s.settings) then Ok s else listed)) t few.1 in
    let narrow = unrefused read.reading.large (Large limit.Arity) (if not (is_meant m s.settings) then Ok s else listed) t known.1 in (
      λ meant.
          let kept = no_misuse (least_misuse Assumptions unfit made.tree made.reading.least) (with_formula Assumptions byte term made s) t (where_meant (is_meant m s.settings) listed s t narrow.1 meant) in
          let fit = not_met unfit UnfitAttribute made.reading.least kept.0 in
          let plain = not_met (list_any (is_free_name st) ns) VariableAmongNames (met (list_any (is_too_great st) ns) UnfitNumeral read.reading.least) fit.1 in
          let least = not_met (list_any (is_too_great st) ns) UnfitNumeral read.reading.least plain.1 in
          record {
            few = ltb-false MOST_NAMES (length ns) few.0;
            plain = plain.0;
            listed = listed_by Assumptions byte term made;
            added = ap (λ (u : Sofar). u.formulas) (sym kept.1);
            means = λ M lawful e.
                subst (λ (table : List Symbol). Holds M e read.tree ↔ AreDifferent (map (λ n. value_of M e (term_named st table n)) ns)) (ap (λ (u : Sofar). u.symbols) kept.1)
                (law M lawful e st s.symbols ns plain.0 least.1);
          },
      elsewhere (is_meant m s.settings) listed s t narrow.1,
    )
