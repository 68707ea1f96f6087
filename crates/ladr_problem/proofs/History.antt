-- How each formula and each hint of what has grown came to be.
use Rattle.std.proofs.Common.{◌≡◌, ℕ, ◌≤◌, Bool, true, false, not, ◌&&◌, List, [], ◌∷◌, ◌++◌, map, length, Option, Some, None, if◌then◌else◌, refl, sym, ◌∙◌, subst, arith}
use Rattle.std.specs.List.{All, AllByRecursion}
use Rattle.std.specs.Option.{option_map_or}
use Rattle.std.proofs.lemmas.Bool.{false≢true}
use Rattle.std.proofs.lemmas.List.Elements.{All-nil, All-push, recursion_from_All}
use Rattle.fol_core.specs.RawTree.{RawTree}
use Rattle.fol_core.specs.SymbolTable.{Symbol, KeepsNumbers}
use Rattle.fol_problem.specs.Stated.{Said, said}
use Rattle.fol_problem.specs.declared.problem.Role.{Role}
use Rattle.ladr_formulas.proofs.Growing.{grows_formula, grows_terms}
use Rattle.ladr_formulas.proofs.OwnFormulas.{table_grows}
use Rattle.ladr_formulas.proofs.OwnTerms.{terms_good}
use Rattle.ladr_formulas.proofs.TermLemmas.{kept_both}
use Rattle.ladr_formulas.specs.Formulas.{unread, formula_reading, style_of}
use Rattle.ladr_formulas.specs.declared.styles.Mode.{Mode}
use Rattle.ladr_formulas.specs.declared.styles.Style.{Style}
use Rattle.ladr_lex.specs.Operators.{OperatorRow}
use Rattle.ladr_lex.specs.declared.misuse.Misuse.{Misuse}
use Rattle.ladr_lex.specs.declared.misuse.Misuse.TheVariants.{UnfitAttribute, UnfitHint, UnfitDemodulator}
use Rattle.ladr_problem.specs.Adding.{style_in, formula_made, listed_by, role_of, is_hints, is_demodulators, least_misuse, met}
use Rattle.ladr_problem.specs.Growth.{IsFormulaTerm, Grown, nothing, changes, states, weighs, weighs_name}
use Rattle.ladr_problem.specs.Sofar.{Sofar, Listed}
use Rattle.ladr_rules.specs.Attributes.{attributed, has_unfit_weight}
use Rattle.ladr_rules.specs.Shapes.{is_hint, is_demodulator}
use Rattle.ladr_settings.specs.Following.{Follows}
use Rattle.ladr_settings.specs.declared.lists.FormulaList.{FormulaList}
use Rattle.ladr_settings.specs.declared.lists.FormulaList.TheVariants.{Assumptions, Demodulators, Goals, Hints}
use Rattle.ladr_settings.specs.declared.lists.FormulaList.TheVariants as lists
use Rattle.ladr_settings.specs.declared.settings.Settings.{Settings}

-- A formula of a list of this role was read of a term, with these operators and in this style, and its symbols are those of the table.
pub record IsStated (rows : List OperatorRow) (st : Style) (table : List Symbol) (role : Option Role) (l : Listed) : Type 0 where
  pub list : FormulaList
  pub listed : role_of list ≡ role
  pub before : List Symbol
  pub tree : RawTree
  pub term : IsFormulaTerm rows st before tree
  pub fit : least_misuse list (has_unfit_weight (attributed tree).attributes) l.formula (formula_reading st before (attributed tree).formula).reading.least ≡ None
  pub is : listed_by list l.byte tree (formula_reading st before (attributed tree).formula) ≡ l
  pub more : length (formula_reading st before (attributed tree).formula).reading.symbols ≤ length table
  pub kept : KeepsNumbers (formula_reading st before (attributed tree).formula).reading.symbols table

-- where a misuse was met there is one of the least row
pub unmet : (test : Bool) (row : Misuse) (least : Option Misuse) → met test row least ≡ None → least ≡ None
unmet true row least h = cc
unmet false row least h = h

-- nothing was misused in it
pub clean_of : (rows : List OperatorRow) (st : Style) (table : List Symbol) (role : Option Role) (l : Listed) (x : IsStated rows st table role l) → (formula_reading st x.before (attributed x.tree).formula).reading.least ≡ None
clean_of rows st table role l x = unmet (has_unfit_weight (attributed x.tree).attributes) UnfitAttribute _ (unmet (is_demodulators x.list && not (is_demodulator l.formula)) UnfitDemodulator _ (unmet (is_hints x.list && not (is_hint l.formula)) UnfitHint _ x.fit))

longer : (rows : List OperatorRow) (st : Style) (table after : List Symbol) (role : Option Role) (l : Listed) → length table ≤ length after → KeepsNumbers table after → IsStated rows st table role l → IsStated rows st after role l
longer rows st table after role l more k x = record {
  list = x.list;
  listed = x.listed;
  before = x.before;
  tree = x.tree;
  term = x.term;
  fit = x.fit;
  is = x.is;
  more = omega (arith, more, x.more);
  kept = kept_both _ table after x.kept k;
}

-- all of them, with the operators and the style of now; as long as no list was opened there are none
pub record Has (rows : List OperatorRow) (st : Style) (table : List Symbol) (fs : List (Role × Listed)) (hs : List (Listed × Option ℕ)) : Type 0 where
  pub formulas : All (λ f. IsStated rows st table (Some f.0) f.1) fs
  pub hints : All (λ h. IsStated rows st table None h.0) hs

pub record History (m : Mode) (s : Sofar) : Type 0 where
  pub has : Has s.settings.operators (style_in m s) s.symbols s.formulas s.hints
  pub first : s.settings.listed ≡ false → (s.formulas ≡ []) × (s.hints ≡ [])

has_longer : (rows : List OperatorRow) (st : Style) (table after : List Symbol) (fs : List (Role × Listed)) (hs : List (Listed × Option ℕ)) → length table ≤ length after → KeepsNumbers table after → Has rows st table fs hs → Has rows st after fs hs
has_longer rows st table after fs hs more k x = record {
  formulas = λ i d lt. longer rows st table after (Some _) _ more k (x.formulas i d lt);
  hints = λ i d lt. longer rows st table after None _ more k (x.hints i d lt);
}

-- one more, among the formulas or among the hints
pushed : (P : Role × Listed → Type 0) (o : Option Role) (l : Listed) (fs : List (Role × Listed)) → All P fs → ((r : Role) → o ≡ Some r → P (r, l)) → All P (option_map_or (λ r. fs ++ (r, l) ∷ []) o fs)
pushed P None l fs h k = h
pushed P (Some r) l fs h k = All-push P fs (r, l) h (k r refl)

hinted : (P : Listed × Option ℕ → Type 0) (b : Bool) (l : Listed) (w : Option ℕ) (hs : List (Listed × Option ℕ)) → All P hs → (b ≡ true → P (l, w)) → All P (if b then hs ++ (l, w) ∷ [] else hs)
hinted P true l w hs h k = All-push P hs (l, w) h (k refl)
hinted P false l w hs h k = h

-- hints alone have no role
hints_none : (list : FormulaList) → is_hints list ≡ true → role_of list ≡ None
hints_none Assumptions h = absurd (false≢true h)
hints_none lists.Usable h = absurd (false≢true h)
hints_none Demodulators h = absurd (false≢true h)
hints_none Goals h = absurd (false≢true h)
hints_none Hints h = refl

module _ (m : Mode) where
  -- the settings that a command leaves
  abbrev HasAt : Sofar → List OperatorRow → Bool → Type 0
  HasAt s rows prolog = Has rows (style_of m prolog) s.symbols s.formulas s.hints

  none_has : (s : Sofar) (rows : List OperatorRow) (prolog : Bool) → (s.formulas ≡ []) × (s.hints ≡ []) → HasAt s rows prolog
  none_has s rows prolog e = record {
    formulas = subst (λ (fs : List (Role × Listed)). All (λ f. IsStated rows (style_of m prolog) s.symbols (Some f.0) f.1) fs) (sym e.0) (All-nil _);
    hints = subst (λ (hs : List (Listed × Option ℕ)). All (λ h. IsStated rows (style_of m prolog) s.symbols None h.0) hs) (sym e.1) (All-nil _);
  }

  settled : (s : Sofar) (t : Settings) → Follows m s.settings t → History m s → History m (record s { settings = t })
  settled s t f x = by s.settings.listed refl
    where
      by : (b : Bool) → s.settings.listed ≡ b → History m (record s { settings = t })
      by true e = record {
        has = subst (λ (rows : List OperatorRow). HasAt s rows t.options.prolog_style_variables) (sym (f.operators e)) (subst (λ (p : Bool). HasAt s s.settings.operators p) (sym (f.styled e)) x.has);
        first = λ none. absurd (false≢true (sym none ∙ f.rises e));
      }
      by false e = record { has = none_has s t.operators t.options.prolog_style_variables (x.first e); first = λ still. x.first e }

  pub history : (s : Sofar) → Grown m s → History m s
  history _ nothing = record { has = record { formulas = All-nil _; hints = All-nil _ }; first = λ none. (refl, refl) }
  history _ (changes {s} t g f ranged) = settled s t f (history s g)
  history _ (states {s} list byte t g listed of none) =
      let made = formula_made m s t in
      let rows = s.settings.operators in
      let st = style_in m s in
      let l : Listed = listed_by list byte t made in
      let more : length s.symbols ≤ length made.reading.symbols = table_grows st s.symbols (attributed t).formula in
      let old = has_longer rows st s.symbols made.reading.symbols s.formulas s.hints more (grows_formula st [] (attributed t).formula (unread s.symbols)).symbols (history s g).has in
      let one : (role : Option Role) → role_of list ≡ role → IsStated rows st made.reading.symbols role l = λ role e. record {
        list = list;
        listed = e;
        before = s.symbols;
        tree = t;
        term = of;
        fit = none;
        is = refl;
        more = omega arith;
        kept = λ n x q. q;
      } in
      record {
        has = record {
          formulas = pushed (λ f. IsStated rows st made.reading.symbols (Some f.0) f.1) (role_of list) l s.formulas old.formulas (λ r e. one (Some r) e);
          hints = hinted (λ h. IsStated rows st made.reading.symbols None h.0) (is_hints list) l _ s.hints old.hints (λ e. one None (hints_none list e));
        };
        first = λ none. absurd (false≢true (sym none ∙ listed));
      }
  history _ (weighs {s} t r g of) =
      let x = history s g in
      record {
        has = has_longer s.settings.operators (style_in m s) s.symbols _ s.formulas s.hints (terms_good (style_in m s) [] (unread s.symbols) r.parts).grows.table (grows_terms (style_in m s) [] (unread s.symbols) r.parts).symbols x.has;
        first = x.first;
      }
  history _ (weighs_name {s} t r g e once) = let x = history s g in record { has = x.has; first = x.first }

  -- each formula, and each hint
  pub stated_each : (s : Sofar) → Grown m s → All (λ f. IsStated s.settings.operators (style_in m s) s.symbols (Some f.0) f.1) s.formulas
  stated_each s g = (history s g).has.formulas

  pub hinted_each : (s : Sofar) → Grown m s → All (λ h. IsStated s.settings.operators (style_in m s) s.symbols None h.0) s.hints
  hinted_each s g = (history s g).has.hints

-- what holds of the formulas holds of what is said
pub each_said : (P : Said → Type 0) (fs : List (Role × Listed)) → All (λ f. P (said f.0 f.1.formula)) fs → AllByRecursion P (map (λ f. said f.0 f.1.formula) fs)
each_said P fs h = by fs (recursion_from_All _ fs h)
  where
    by : (gs : List (Role × Listed)) → AllByRecursion (λ f. P (said f.0 f.1.formula)) gs → AllByRecursion P (map (λ f. said f.0 f.1.formula) gs)
    by [] k = tt
    by (g ∷ gs) k = (k.0, by gs k.1)
