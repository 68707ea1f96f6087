-- What has grown binds variables once, and has symbols of its table, which are few and can be told apart; its options are in their ranges.
use Rattle.std.proofs.Common.{◌≡◌, ℕ, ◌≤◌, not, ◌&&◌, List, [], ◌∷◌, ◌++◌, map, length, Option, Some, None, refl, sym, ap, subst, arith}
use Rattle.std.specs.Option.{option_map_or}
use Rattle.std.proofs.lemmas.List.{map-append}
use Rattle.fol_problem.proofs.Soundness.{sound_below, sound_push}
use Rattle.fol_core.specs.Bound.{BindsOnce, HasSymbolsBelow}
use Rattle.fol_core.specs.FormulaView.{fol_of}
use Rattle.fol_core.specs.RawTree.{RawTree}
use Rattle.fol_problem.specs.Stated.{said, AreWellFormed, all_said}
use Rattle.fol_problem.specs.declared.problem.Input.{Input}
use Rattle.fol_problem.specs.declared.problem.Role.{Role}
use Rattle.ladr_formulas.proofs.OwnFormulas.{binds_once, symbols_below, table_grows}
use Rattle.ladr_formulas.proofs.OwnTerms.{terms_good}
use Rattle.ladr_formulas.specs.Formulas.{unread}
use Rattle.ladr_formulas.specs.declared.styles.Mode.{Mode}
use Rattle.ladr_lex.specs.declared.limits.TheConstants.{MOST_SYMBOLS}
use Rattle.ladr_lex.specs.declared.misuse.Misuse.TheVariants.{UnfitAttribute, UnfitHint, UnfitDemodulator}
use Rattle.ladr_problem.proofs.Entering.{terms_tell, formula_tells}
use Rattle.ladr_problem.proofs.Growing.{grown_counted, grown_ranged}
use Rattle.ladr_problem.proofs.History.{unmet}
use Rattle.ladr_problem.proofs.Named.{IsNamed, named_of_text, attributed_named, HasNamedParts, shaped_named}
use Rattle.ladr_problem.specs.Adding.{formula_made, style_in, role_of, is_hints, is_demodulators}
use Rattle.ladr_problem.specs.Growth.{Grown, nothing, changes, states, weighs, weighs_name}
use Rattle.ladr_problem.specs.Names.{AreTellable}
use Rattle.ladr_problem.specs.Proper.{IsProper}
use Rattle.ladr_problem.specs.Sofar.{Sofar, Listed, said_in, stated_in, input_of}
use Rattle.ladr_reader.specs.Table.{table_of}
use Rattle.ladr_rules.specs.Attributes.{attributed, has_unfit_weight}
use Rattle.ladr_rules.specs.Rules.{Sides, shaped_sides}
use Rattle.ladr_rules.specs.Shapes.{is_hint, is_demodulator}

-- a formula more, where its list has a role
said_pushed : (n : ℕ) (o : Option Role) (l : Listed) (fs : List (Role × Listed)) → AreWellFormed n (map (λ f. said f.0 f.1.formula) fs) → BindsOnce l.formula → HasSymbolsBelow n l.formula
    → AreWellFormed n (map (λ f. said f.0 f.1.formula) (option_map_or (λ r. fs ++ (r, l) ∷ []) o fs))
said_pushed n None l fs h once below = h
said_pushed n (Some r) l fs h once below = subst (AreWellFormed n) (sym (map-append (λ f. said f.0 f.1.formula) fs ((r, l) ∷ []))) (sound_push n (map (λ f. said f.0 f.1.formula) fs) r l.formula h once below)

well_formed : (m : Mode) (s : Sofar) → Grown m s → AreWellFormed (length s.symbols) (said_in s)
well_formed m _ nothing = tt
well_formed m _ (changes {s} t g f ranged) = well_formed m s g
well_formed m _ (states {s} list byte t g listed of none) =
    let st = style_in m s in
    let made = formula_made m s t in
    let a = attributed t in
    let clean = unmet (has_unfit_weight a.attributes) UnfitAttribute _ (unmet (is_demodulators list && not (is_demodulator made.tree)) UnfitDemodulator _ (unmet (is_hints list && not (is_hint made.tree)) UnfitHint _ none)) in
    said_pushed (length made.reading.symbols) (role_of list) _ s.formulas
    (sound_below (length s.symbols) (length made.reading.symbols) (said_in s) (table_grows st s.symbols a.formula) (well_formed m s g))
    (binds_once st s.symbols a.formula clean) (symbols_below st s.symbols a.formula)
well_formed m _ (weighs {s} t r g of) = sound_below (length s.symbols) _ (said_in s) (terms_good (style_in m s) [] (unread s.symbols) r.parts).grows.table (well_formed m s g)
well_formed m _ (weighs_name {s} t r g e once) = well_formed m s g

few : (m : Mode) (s : Sofar) → Grown m s → length s.symbols ≤ MOST_SYMBOLS
few m _ nothing = omega arith
few m _ (changes {s} t g f ranged) = few m s g
few m _ (states {s} list byte t g listed of none) = of.few
few m _ (weighs {s} t r g of) = of.few
few m _ (weighs_name {s} t r g e once) = few m s g

-- the names of the sides of a rule
sides_named : (m : Mode) (s : Sofar) (t : RawTree) (r : Sides) → IsNamed t → shaped_sides (style_in m s) t ≡ Some r → HasNamedParts (Some r)
sides_named m s t r named e = subst HasNamedParts e (shaped_named (style_in m s) t named)

tellable : (m : Mode) (s : Sofar) → Grown m s → AreTellable s.symbols
tellable m _ nothing = record { different = λ n s e. absurd (cc); named = refl }
tellable m _ (changes {s} t g f ranged) = tellable m s g
tellable m _ (states {s} list byte t g listed of none) =
    formula_tells (style_in m s) [] (unread s.symbols) (attributed t).formula (attributed_named t (named_of_text (table_of s.settings.operators) t of.text)) (tellable m s g)
tellable m _ (weighs {s} t r g of) =
    terms_tell (style_in m s) [] (unread s.symbols) r.parts (sides_named m s t r (named_of_text (table_of s.settings.operators) t of.text) of.shaped) (tellable m s g)
tellable m _ (weighs_name {s} t r g e once) = tellable m s g

-- what has grown is proper
pub grown_proper : (m : Mode) (s : Sofar) → Grown m s → IsProper (stated_in s) s.settings.options
grown_proper m s g = record { well_formed = well_formed m s g; few = few m s g; tellable = tellable m s g; ranged = grown_ranged m s g; countable = grown_counted m s g }

-- the formulas of the code are those that were read
pub said_same : (is : List Input) → map (λ f. said f.0 f.1.formula) (map input_of is) ≡ all_said is
said_same [] = refl
said_same (i ∷ is) = ap (λ ss. said i.role (fol_of i.formula.shape) ∷ ss) (said_same is)
