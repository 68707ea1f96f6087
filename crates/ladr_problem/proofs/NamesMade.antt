-- What names make of what was read so far, by what the code has read.
use Rattle.std.proofs.Common.{◌≡◌, ◌≤◌, ℕ, false, not, if◌then◌else◌, List, [], ◌∷◌, length, take, Option, Some, None, refl, sym, ap, ◌∙◌, subst}
use Rattle.std.specs.Prelude.{nat_lt}
use Rattle.std.specs.List.{AllByRecursion, list_any}
use Rattle.std.specs.Option.{option_map, option_map_or}
use Rattle.std.specs.declared.result.Result.TheVariants.{Ok, Err}
use Rattle.std.proofs.lemmas.Bool.{le-ltb}
use Rattle.fol_core.specs.RawTree.{RawTree}
use Rattle.fol_core.specs.RawView.{raw_of}
use Rattle.fol_core.specs.SymbolTable.{Symbol, KeepsNumbers}
use Rattle.fol_core.specs.declared.raw.Raw.{Raw}
use Rattle.ladr_distinct.specs.Different.{distinct_reading}
use Rattle.ladr_distinct.specs.Formula.{all_differ, distinct_formula}
use Rattle.ladr_distinct.proofs.Halves.{halved_all}
use Rattle.ladr_distinct.proofs.Pairs.{each_pair}
use Rattle.ladr_formulas.specs.Formulas.{formula_reading, is_free_name, is_too_great}
use Rattle.ladr_formulas.specs.Whole.{IsWhole}
use Rattle.ladr_formulas.specs.declared.formulas.FormulaRead.{FormulaRead}
use Rattle.ladr_formulas.specs.declared.styles.Mode.{Mode}
use Rattle.ladr_lex.specs.declared.limits.TheConstants.{MOST_NAMES, MOST_SYMBOLS}
use Rattle.ladr_lex.specs.declared.misuse.Misuse.{Misuse}
use Rattle.ladr_lex.specs.declared.misuse.Misuse.TheVariants.{UnfitNumeral, VariableAmongNames}
use Rattle.ladr_problem.proofs.Takings.{take_kept}
use Rattle.ladr_problem.specs.Adding.{style_in, met, least_misuse, with_listed, after_made, after_names, limit_of_names, with_names_met}
use Rattle.ladr_problem.specs.Reading.{after_formula_read}
use Rattle.ladr_problem.specs.Sofar.{Sofar}
use Rattle.ladr_problem.specs.declared.refusal.Limit.TheVariants as limit
use Rattle.ladr_problem.specs.declared.refusal.Refusal.TheVariants.{Large, Misused}
use Rattle.ladr_rules.specs.Attributes.{attributed, has_unfit_weight, label_of, hint_weight_of}
use Rattle.ladr_rules.specs.declared.attributes.Notes.{Notes}
use Rattle.ladr_settings.specs.Settings.{is_meant}
use Rattle.ladr_settings.specs.declared.lists.FormulaList.TheVariants.{Assumptions}

-- the term of names has no attributes
pub distinct_whole : (ns : List (List ℕ)) → (attributed (distinct_formula ns)).formula ≡ distinct_formula ns
unfolding distinct_formula
distinct_whole ns = halved_all (λ t. (attributed t).formula ≡ t) refl (λ t u a b. refl) (length (all_differ ns)) (all_differ ns) (each_pair (λ s. Unit {0}) (λ t. (attributed t).formula ≡ t) (λ s u a b. refl) ns (units ns))
  where
    units : (ms : List (List ℕ)) → AllByRecursion (λ s. Unit {0}) ms
    units [] = tt
    units (m ∷ ms) = (tt, units ms)

module _ (m : Mode) (byte : ℕ) (s : Sofar) (ns : List (List ℕ)) where
  abbrev met_by : Option Misuse → Option Misuse
  met_by least = met (list_any (is_free_name (style_in m s)) ns) VariableAmongNames (met (list_any (is_too_great (style_in m s)) ns) UnfitNumeral least)

  -- names as the code has read them are those of the item
  pub same_names : (f : Raw) (a : Notes) (r : FormulaRead) (least : Option Misuse) (table : List Symbol)
      → raw_of f ≡ (attributed (distinct_formula ns)).formula → option_map raw_of a.label ≡ label_of (attributed (distinct_formula ns)).attributes
      → a.misused ≡ has_unfit_weight (attributed (distinct_formula ns)).attributes → a.hint_weight ≡ hint_weight_of (attributed (distinct_formula ns)).attributes
      → least ≡ met_by r.least → IsWhole (formula_reading (style_in m s) s.symbols (raw_of f)) r table → KeepsNumbers s.symbols table
      → after_formula_read m (Some Assumptions) byte (length s.symbols) (record s { symbols = table }) a [] (record r { least = least })
      ≡ after_made m (Some Assumptions) byte s (distinct_formula ns) (with_names_met (style_in m s) ns (distinct_reading (style_in m s) s.symbols ns))
  same_names f a r least table formula label misused weight told whole kept =
      let w : IsWhole (distinct_reading (style_in m s) s.symbols ns) r table = subst (λ (u : RawTree). IsWhole (formula_reading (style_in m s) s.symbols u) r table) (formula ∙ distinct_whole ns) whole in
      let old = take_kept s.symbols table kept in
      let row : least ≡ met_by (distinct_reading (style_in m s) s.symbols ns).reading.least = told ∙ ap (λ (o : Option Misuse). met_by o) w.least in
      λ i.
      if nat_lt MOST_SYMBOLS (length (w.symbols i)) then Err (Large limit.Symbols)
      else (if w.large i then Err (Large limit.Arity)
      else (if not (is_meant m s.settings) then Ok (record s { symbols = old i })
      else option_map_or (λ k. Err (Misused k)) (least_misuse Assumptions (misused i) (w.formula i) (row i))
      (Ok (with_listed Assumptions (record { formula = w.formula i; names = w.named i; label = label i; answer = []; byte = byte }) (weight i) (record s { symbols = w.symbols i })))))

  -- names that are no more than may stand
  pub few_names : length ns ≤ MOST_NAMES → after_names m byte s ns ≡ after_made m (Some Assumptions) byte s (distinct_formula ns) (with_names_met (style_in m s) ns (distinct_reading (style_in m s) s.symbols ns))
  few_names few =
      ap (λ b. if b then Err (Large (limit_of_names (style_in m s) s.symbols ns)) else after_made m (Some Assumptions) byte s (distinct_formula ns) (with_names_met (style_in m s) ns (distinct_reading (style_in m s) s.symbols ns)))
      (le-ltb MOST_NAMES (length ns) few)
