-- A printed formula states what it stated before.
use Rattle.std.proofs.Common.{◌≡◌, ℕ, zero, suc, ◌≤◌, Bool, true, false, List, [], ◌∷◌, length, Option, Some, None, inl, inr, refl, sym, ap, ◌∙◌, subst, arith}
use Rattle.std.specs.Prelude.{not, ◌&&◌, is_none, nat_le, slice_get, unwrap_or, codes}
use Rattle.std.specs.Option.{option_map}
use Rattle.std.specs.Str.{bytes_eq}
use Rattle.std.proofs.lemmas.Bool.{cases_Bool, and_parts}
use Rattle.std.proofs.lemmas.Bool.Decides.{nat_tests}
use Rattle.fol_core.specs.Fol.{Fol}
use Rattle.fol_core.specs.RawTree.{RawTree, named, quantified, no_raws, more_raws}
use Rattle.fol_core.specs.SymbolTable.{Symbol, KeepsNumbers}
use Rattle.ladr_lex.specs.declared.limits.TheConstants.{MOST_SYMBOLS}
use Rattle.ladr_lex.specs.Bytes.{is_ordinary, is_special}
use Rattle.ladr_lex.specs.Lexeme.{special}
use Rattle.ladr_lex.specs.Operators.{OperatorRow, operator_of, are_lawful, is_fixed, standard_rows}
use Rattle.ladr_lex.specs.declared.operators.Operator.{Operator}
use Rattle.ladr_lex.specs.declared.operators.OperatorKind.TheVariants.{Infix, InfixRight, Prefix}
use Rattle.ladr_lex.specs.declared.misuse.Misuse.{Misuse}
use Rattle.ladr_formulas.specs.Formulas.{Variable, Reading, Made, unread, names_of_variables, is_faultless, is_denial, connective_of, formula_reading, IsReadAs}
use Rattle.ladr_reader.specs.Table.{table_of}
use Rattle.ladr_formulas.specs.declared.connectives.Connective.{Connective}
use Rattle.ladr_formulas.specs.declared.connectives.Connective.TheVariants.{And, Or, IfThen, ThenIf, IfAndOnlyIf}
use Rattle.ladr_formulas.specs.declared.styles.Style.{Style}
use Rattle.ladr_print.specs.FormulaText.{two, denial, formula_raw, with_attribute}
use Rattle.ladr_print.specs.Precedences.{is_infix, precedence}
use Rattle.ladr_lex.specs.Cuts.{can_be}
use Rattle.ladr_lex.specs.declared.token.TokenKind.TheVariants.{Special}
use Rattle.ladr_print.specs.RawText.{text_of}
use Rattle.ladr_print.specs.ReadsAgain.{IsAmong, made_behind, ReadsFormula}
use Rattle.ladr_print.specs.StatesAs.{KeepsFixed, StatesAs}
use Rattle.ladr_print.specs.TermText.{name_in}
use Rattle.ladr_formulas.proofs.Behind.{read_behind}
use Rattle.ladr_print.proofs.Naming.{Reaches, formula_back}
use Rattle.ladr_print.specs.HasText.{before, between, CanName, HasText}
use Rattle.ladr_print.proofs.Printing.{printed_reads, text_has}
use Rattle.ladr_print.proofs.Rereading.{turned, by_one, by_two, reread}

-- the fixed symbols may be printed where the printer brings them
pub named_between : (rows : List OperatorRow) → KeepsFixed rows → (s : List ℕ) (o : Operator) → is_fixed s ≡ true → operator_of standard_rows s ≡ Some o →
    is_infix o.kind ≡ true → can_be (Some Special) s ≡ true → CanName (table_of rows) s 2
named_between rows k s o f e two w = record { sort = special; written = w; allowed = between o (k s f ∙ e) two refl }

pub record Brings (rows : List OperatorRow) : Type 0 where
  pub conjunction : CanName (table_of rows) (codes "&") 2
  pub disjunction : CanName (table_of rows) (codes "|") 2
  pub implication : CanName (table_of rows) (codes "->") 2
  pub equivalence : CanName (table_of rows) (codes "<->") 2
  pub difference : CanName (table_of rows) (codes "!=") 2
  pub minus : CanName (table_of rows) (codes "-") 1

pub brings : (rows : List OperatorRow) → KeepsFixed rows → Brings rows
unfolding is_special is_ordinary
brings rows k =
    record {
      conjunction = named_between rows k (codes "&") (record { precedence = 780; kind = InfixRight }) refl refl refl refl;
      disjunction = named_between rows k (codes "|") (record { precedence = 790; kind = InfixRight }) refl refl refl refl;
      implication = named_between rows k (codes "->") (record { precedence = 800; kind = Infix }) refl refl refl refl;
      equivalence = named_between rows k (codes "<->") (record { precedence = 800; kind = Infix }) refl refl refl refl;
      difference = named_between rows k (codes "!=") (record { precedence = 700; kind = Infix }) refl refl refl refl;
      minus = record { sort = special; written = refl; allowed = before (record { precedence = 350; kind = Prefix }) refl (k (codes "-") refl ∙ refl) refl refl };
    }

module _ (rows : List OperatorRow) (b : Brings rows) where
  abbrev P : RawTree → Type 0
  P t = HasText (table_of rows) t

  pub two_has : (s : List ℕ) (t u : RawTree) → CanName (table_of rows) s 2 → P t → P u → P (two s t u)
  two_has s t u n p q = (n, (p, (q, tt)))

  pub denial_has : (t : RawTree) → P t → P (denial t)
  denial_has (quantified q x t) p = (b.minus, (p, tt))
  denial_has (named n no_raws) p = (b.minus, (p, tt))
  denial_has (named n (more_raws t no_raws)) p = (b.minus, (p, tt))
  denial_has (named n (more_raws t (more_raws u no_raws))) p =
      elim (cases_Bool (bytes_eq n (codes "="))) [
        | inl y ↦ rw y (two_has (codes "!=") t u b.difference p.1.0 p.1.1.0)
        | inr k ↦ rw k (b.minus, (p, tt))
      ]
  denial_has (named n (more_raws t (more_raws u (more_raws w ts)))) p = (b.minus, (p, tt))

  by_two_has : (o : Option Connective) (t u other : RawTree) → P t → P u → P other → P (by_two o t u other)
  by_two_has None t u other p q r = r
  by_two_has (Some And) t u other p q r = two_has (codes "&") t u b.conjunction p q
  by_two_has (Some Or) t u other p q r = two_has (codes "|") t u b.disjunction p q
  by_two_has (Some IfThen) t u other p q r = two_has (codes "->") t u b.implication p q
  by_two_has (Some ThenIf) t u other p q r = two_has (codes "->") u t b.implication q p
  by_two_has (Some IfAndOnlyIf) t u other p q r = two_has (codes "<->") t u b.equivalence p q

  by_one_has : (c : Bool) (s : List ℕ) (t u : RawTree) → P (named s (more_raws t no_raws)) → P u → P (by_one c s t u)
  by_one_has true s t u p q = denial_has u q
  by_one_has false s t u p q = p

  pub turned_has : (t : RawTree) → P t → P (turned t)
  turned_has (quantified q x t) p = (p.0, turned_has t p.1)
  turned_has (named n no_raws) p = p
  turned_has (named n (more_raws t no_raws)) p = by_one_has (is_denial n) n t (turned t) p (turned_has t p.1.0)
  turned_has (named n (more_raws t (more_raws u no_raws))) p =
      by_two_has (connective_of n) (turned t) (turned u) (two n t u) (turned_has t p.1.0) (turned_has u p.1.1.0) p
  turned_has (named n (more_raws t (more_raws u (more_raws w ts)))) p = p

  attributed_has : (label : Option RawTree) (t u : RawTree) → (P t → P u) → P (with_attribute label t) → P (with_attribute label u)
  attributed_has None t u f p = f p
  attributed_has (Some l) t u f p = (p.0, (f p.1.0, p.1.1))

-- a reading without faults
no_row : (o : Option Misuse) → is_none o ≡ true → o ≡ None
no_row None h = refl
no_row (Some n) h = cc

pub record Sound (s : Reading) : Type 0 where
  pub least : s.least ≡ None
  pub fewer : length s.symbols ≤ MOST_SYMBOLS

pub sound_parts : (s : Reading) → is_faultless s ≡ true → Sound s
sound_parts s h =
    let first = and_parts (is_none s.least && not s.large) (nat_le (length s.symbols) MOST_SYMBOLS) h in
    let fewer = first.1 in
    record { least = no_row s.least (and_parts (is_none s.least) (not s.large) first.0).0; fewer = grind (arith, nat_tests) }

pub names_found : (vs : List Variable) (n : ℕ) (x : Variable) → slice_get vs n ≡ Some x → name_in (names_of_variables vs) n ≡ x.name
names_found [] n x e = absurd (cc)
names_found (y ∷ vs) zero x e = ap (λ (o : Option Variable). unwrap_or (option_map (λ (z : Variable). z.name) o) []) e
names_found (y ∷ vs) (suc n) x e = names_found vs n x e

-- a printed formula is read as the one that it came from, behind the table before it and behind any that has all its symbols
pub formula_again :
    (rows : List OperatorRow) (st : Style) (first : List Symbol) (other : List ℕ) (label : Option RawTree) (m : Made Fol) (T : List Symbol) →
    are_lawful rows ≡ true → KeepsFixed rows → ReadsFormula (table_of rows) st first other label m → IsAmong m.reading T →
    ReadsFormula (table_of rows) st first (text_of (table_of rows) (with_attribute label (formula_raw T (name_in (names_of_variables m.reading.variables)) m.tree))) label m
    × ReadsFormula (table_of rows) st T (text_of (table_of rows) (with_attribute label (formula_raw T (name_in (names_of_variables m.reading.variables)) m.tree))) label (made_behind T m)
formula_again rows st first other label m T l k s among =
    let g = table_of rows in
    let v = name_in (names_of_variables m.reading.variables) in
    let own = formula_reading st first s.tree in
    let reaches : Reaches T v own.reading = subst (λ (r : Made Fol). Reaches T v r.reading) (sym s.made)
    (record { sound = among.clean; symbols = among.kept; names = λ n x e. names_found m.reading.variables n x e }) in
    let printed : formula_raw T v m.tree ≡ turned s.tree =
    ap (λ (r : Made Fol). formula_raw T v r.tree) (sym s.made) ∙ formula_back T v among.few st s.tree [] (unread first) (λ name n e. absurd (cc)) reaches
    in
    let again : formula_reading st first (turned s.tree) ≡ m = reread st s.tree [] (unread first) ∙ s.made in
    let may : HasText g (with_attribute label (turned s.tree)) =
    attributed_has rows (brings rows k) label s.tree (turned s.tree) (turned_has rows (brings rows k) s.tree) (text_has rows s.reads)
    in
    let larger : formula_reading st T (turned s.tree) ≡ made_behind T m =
    read_behind T st first (turned s.tree) (subst (λ (r : Made Fol). KeepsNumbers r.reading.symbols T) (sym again) among.kept) ∙ ap (made_behind T) again
    in
    let text = λ (t : RawTree). text_of g (with_attribute label t) in (
      subst (λ (t : RawTree). ReadsFormula g st first (text t) label m) (sym printed)
          (record { tree = turned s.tree; precedence = precedence g (with_attribute label (turned s.tree)); reads = printed_reads rows (with_attribute label (turned s.tree)) l may; made = again }),
      subst (λ (t : RawTree). ReadsFormula g st T (text t) label (made_behind T m)) (sym printed)
          (record { tree = turned s.tree; precedence = precedence g (with_attribute label (turned s.tree)); reads = printed_reads rows (with_attribute label (turned s.tree)) l may; made = larger }),
    )

pub states_back :
    (rows : List OperatorRow) (st : Style) (table : List Symbol) (other : List ℕ) (label : Option RawTree) (f : Fol) (names : List (List ℕ)) (after : List Symbol) →
    are_lawful rows ≡ true → KeepsFixed rows → StatesAs (table_of rows) st table other label f names after →
    StatesAs (table_of rows) st table (text_of (table_of rows) (with_attribute label (formula_raw after (name_in names) f))) label f names after
states_back rows st table other label f names after l k s =
    let g = table_of rows in
    let m = formula_reading st table s.tree in
    let parts = sound_parts m.reading s.states.faultless in
    let among : IsAmong m.reading after = record {
      clean = parts.least;
      kept = subst (KeepsNumbers m.reading.symbols) (sym s.states.symbols) (λ n x e. e);
      few = omega (arith, parts.fewer, ap length s.states.symbols);
    } in
    let again = (formula_again rows st table other label m after l k (record { tree = s.tree; precedence = s.precedence; reads = s.reads; made = refl }) among).0 in
    let text : text_of g (with_attribute label (formula_raw after (name_in (names_of_variables m.reading.variables)) m.tree)) ≡ text_of g (with_attribute label (formula_raw after (name_in names) f)) =
    λ i. text_of g (with_attribute label (formula_raw after (name_in (sym s.states.named i)) (sym s.states.formula i)))
    in
    subst (λ (b : List ℕ). StatesAs g st table b label f names after) text
    (record { tree = again.tree; precedence = again.precedence; reads = again.reads; states = subst (λ (r : Made Fol). IsReadAs r f names after) (sym again.made) s.states })
