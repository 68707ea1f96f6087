-- What has grown states itself when it is printed.
use Rattle.std.proofs.Common.{◌≡◌, ℕ, ◌≤◌, Bool, true, false, not, List, [], ◌∷◌, length, Option, Some, None, if◌then◌else◌, refl, sym, ap, subst, arith}
use Rattle.std.specs.Prelude.{codes, IfSome, is_none, nat_le}
use Rattle.std.specs.Str.{bytes_eq}
use Rattle.std.proofs.lemmas.Bool.{and_from}
use Rattle.std.proofs.lemmas.Bool.Decides.{nat_tests}
use Rattle.fol_core.specs.RawTree.{RawTree, named, quantified, no_raws, more_raws}
use Rattle.fol_core.specs.SymbolTable.{Symbol, KeepsNumbers}
use Rattle.fol_problem.specs.declared.problem.Role.{Role}
use Rattle.ladr_formulas.specs.Formulas.{Made, names_of_variables, is_faultless, formula_reading, IsReadAs}
use Rattle.ladr_formulas.specs.declared.styles.Mode.{Mode}
use Rattle.ladr_formulas.specs.declared.styles.Style.{Style}
use Rattle.fol_core.specs.Fol.{Fol}
use Rattle.ladr_lex.specs.Bytes.{is_ordinary, is_special}
use Rattle.ladr_lex.specs.Operators.{OperatorRow, are_lawful}
use Rattle.ladr_lex.specs.declared.limits.TheConstants.{MOST_SYMBOLS}
use Rattle.ladr_lex.specs.declared.misuse.Misuse.{Misuse}
use Rattle.ladr_lex.specs.declared.operators.OperatorKind.TheVariants.{InfixRight}
use Rattle.ladr_print.proofs.Printing.{printed_reads}
use Rattle.ladr_print.specs.HasText.{CanName, HasText}
use Rattle.ladr_print.proofs.Stating.{named_between, formula_again}
use Rattle.ladr_print.specs.FormulaText.{formula_raw}
use Rattle.ladr_print.specs.FormulaText as printing
use Rattle.ladr_print.specs.Precedences.{precedence}
use Rattle.ladr_print.specs.RawText.{text_of}
use Rattle.ladr_print.specs.ReadsAgain.{IsAmong, made_behind, ReadsFormula}
use Rattle.ladr_print.specs.StatesAs.{KeepsFixed, StatesAs}
use Rattle.ladr_print.specs.TermText.{name_in}
use Rattle.ladr_problem.proofs.Good.{grown_proper}
use Rattle.ladr_problem.proofs.History.{IsStated, clean_of, stated_each, hinted_each}
use Rattle.ladr_problem.specs.Adding.{style_in}
use Rattle.ladr_problem.specs.Growth.{Grown, nothing, changes, states, weighs, weighs_name}
use Rattle.ladr_problem.specs.Sofar.{Sofar, Listed}
use Rattle.ladr_reader.specs.Table.{table_of}
use Rattle.ladr_rules.specs.Attributes.{Attributed, attributed, attributes_in, is_label, label_of}
use Rattle.ladr_models.specs.Printed.{listed_text, StatesItself, StateThemselves}

-- the parts of a term with attributes may be printed, and the formula with its label
module _ (rows : List OperatorRow) (fixed : KeepsFixed rows) where
  abbrev P : RawTree → Type 0
  P t = HasText (table_of rows) t

  abbrev AllP : List RawTree → Type 0
  AllP [] = Unit {0}
  AllP (t ∷ ts) = P t × AllP ts

  attributes_printable : (t : RawTree) → P t → AllP (attributes_in t)
  attributes_printable (quantified q x t) p = (p, tt)
  attributes_printable (named s no_raws) p = (p, tt)
  attributes_printable (named s (more_raws t no_raws)) p = (p, tt)
  attributes_printable (named s (more_raws t (more_raws u no_raws))) p = by (bytes_eq s (codes "#")) (attributes_printable u p.1.1.0)
    where
      by : (b : Bool) → AllP (attributes_in u) → AllP (if b then t ∷ attributes_in u else named s (more_raws t (more_raws u no_raws)) ∷ [])
      by true others = (p.1.0, others)
      by false others = (p, tt)
  attributes_printable (named s (more_raws t (more_raws u (more_raws v ts)))) p = (p, tt)

  label_printable : (ts : List RawTree) → AllP ts → IfSome (label_of ts) P
  label_printable [] all = tt
  label_printable (t ∷ ts) all = by (is_label t) (label_printable ts all.1)
    where
      by : (b : Bool) → IfSome (label_of ts) P → IfSome (if b then Some t else label_of ts) P
      by true later = all.0
      by false later = later

  hash : CanName (table_of rows) (codes "#") 2
  unfolding is_special is_ordinary
  hash = named_between rows fixed (codes "#") (record { precedence = 810; kind = InfixRight }) refl refl refl refl

  with_label : (label : Option RawTree) (t : RawTree) → IfSome label P → P t → P (printing.with_attribute label t)
  with_label None t h p = p
  with_label (Some l) t h p = (hash, (p, (h, tt)))

  labelled_printable : (t : RawTree) → P t → P (printing.with_attribute (label_of (attributed t).attributes) (attributed t).formula)
  labelled_printable (quantified q x t) p = p
  labelled_printable (named s no_raws) p = p
  labelled_printable (named s (more_raws t no_raws)) p = p
  labelled_printable (named s (more_raws t (more_raws u no_raws))) p = by (bytes_eq s (codes "#"))
    where
      marked : Attributed
      marked = record { formula = t; attributes = attributes_in u }

      bare : Attributed
      bare = record { formula = named s (more_raws t (more_raws u no_raws)); attributes = [] }

      by : (b : Bool) → P (printing.with_attribute (label_of (if b then marked else bare).attributes) (if b then marked else bare).formula)
      by true = with_label (label_of (attributes_in u)) t (label_printable (attributes_in u) (attributes_printable u p.1.1.0)) p.1.0
      by false = p
  labelled_printable (named s (more_raws t (more_raws u (more_raws v ts)))) p = p

-- a formula that was read with these operators and in this style, and has symbols of the table
record IsFrom (rows : List OperatorRow) (st : Style) (table : List Symbol) (l : Listed) : Type 0 where
  before : List Symbol
  tree : RawTree
  may : HasText (table_of rows) (printing.with_attribute l.label tree)
  formula : (formula_reading st before tree).tree ≡ l.formula
  names : names_of_variables (formula_reading st before tree).reading.variables ≡ l.names
  clean : (formula_reading st before tree).reading.least ≡ None
  fits : (formula_reading st before tree).reading.large ≡ false
  kept : KeepsNumbers (formula_reading st before tree).reading.symbols table

-- such a formula states itself
restated : (rows : List OperatorRow) (st : Style) (table : List Symbol) (l : Listed) → are_lawful rows ≡ true → KeepsFixed rows → length table ≤ MOST_SYMBOLS → IsFrom rows st table l → StatesItself rows st table l
restated rows st table l lawful fixed few x =
    let g = table_of rows in
    let m = formula_reading st x.before x.tree in
    let within : length table ≤ MOST_SYMBOLS = few in
    let among : IsAmong m.reading table = record { clean = x.clean; kept = x.kept; few = omega (arith, within) } in
    let own : ReadsFormula g st x.before (text_of g (printing.with_attribute l.label x.tree)) l.label m =
    record { tree = x.tree; precedence = precedence g (printing.with_attribute l.label x.tree); reads = printed_reads rows (printing.with_attribute l.label x.tree) lawful x.may; made = refl }
    in
    let again = (formula_again rows st x.before (text_of g (printing.with_attribute l.label x.tree)) l.label m table lawful fixed own among).1 in
    let fewer : nat_le (length table) MOST_SYMBOLS ≡ true = grind (arith, nat_tests) in
    let sound : is_faultless (made_behind table m).reading ≡ true =
    and_from _ _ (and_from _ _ (ap (λ (o : Option Misuse). is_none o) x.clean) (ap not x.fits)) fewer
    in
    let states : IsReadAs (made_behind table m) l.formula l.names table = record { faultless = sound; formula = sym x.formula; named = sym x.names; symbols = refl } in
    let text : text_of g (printing.with_attribute l.label (formula_raw table (name_in (names_of_variables m.reading.variables)) m.tree)) ≡ listed_text rows table l =
    λ i. text_of g (printing.with_attribute l.label (formula_raw table (name_in (x.names i)) (x.formula i)))
    in
    subst (λ (b : List ℕ). StatesAs g st table b l.label l.formula l.names table) text
    (record { tree = again.tree; precedence = again.precedence; reads = again.reads; states = subst (λ (r : Made Fol). IsReadAs r l.formula l.names table) (sym again.made) states })

-- each formula of what has grown is such a one
is_from : (rows : List OperatorRow) (st : Style) (table : List Symbol) (role : Option Role) (l : Listed) → KeepsFixed rows → IsStated rows st table role l → IsFrom rows st table l
is_from rows st table role l fixed x = record {
  before = x.before;
  tree = (attributed x.tree).formula;
  may = subst (λ (o : Option RawTree). HasText (table_of rows) (printing.with_attribute o (attributed x.tree).formula)) (ap (λ (y : Listed). y.label) x.is) (labelled_printable rows fixed x.tree x.term.text);
  formula = ap (λ (y : Listed). y.formula) x.is;
  names = ap (λ (y : Listed). y.names) x.is;
  clean = clean_of rows st table role l x;
  fits = x.term.fits;
  kept = x.kept;
}

-- the operators stay as the laws of printed texts ask
pub operators_fixed : (m : Mode) (s : Sofar) → Grown m s → (are_lawful s.settings.operators ≡ true) × KeepsFixed s.settings.operators
unfolding is_ordinary is_special
operators_fixed m _ nothing = (refl, λ name h. refl)
operators_fixed m _ (changes {s} t g f ranged) = let old = operators_fixed m s g in (f.lawful old.0, f.fixed old.1)
operators_fixed m _ (states {s} list byte t g listed of none) = operators_fixed m s g
operators_fixed m _ (weighs {s} t r g of) = operators_fixed m s g
operators_fixed m _ (weighs_name {s} t r g e once) = operators_fixed m s g

pub states_themselves : (m : Mode) (s : Sofar) → Grown m s → StateThemselves m s
states_themselves m s g =
    let rows = s.settings.operators in
    let st = style_in m s in
    let kept = operators_fixed m s g in
    let few = (grown_proper m s g).few in
    record {
      formulas = λ i d lt. restated rows st s.symbols _ kept.0 kept.1 few (is_from rows st s.symbols _ _ kept.1 (stated_each m s g i d lt));
      hints = λ i d lt. restated rows st s.symbols _ kept.0 kept.1 few (is_from rows st s.symbols None _ kept.1 (hinted_each m s g i d lt));
    }
