-- A formula that some text states is read again from its printed text, with its label.
use Rattle.std.proofs.Common.{◌≡◌, ℕ, Bool, true, false, List, [], length, Option, Some, None, inl, inr, refl, sym, ap, ◌∙◌, subst, arith, drop}
use Rattle.std.specs.Prelude.{codes, option_map}
use Rattle.std.specs.List.{list_any}
use Rattle.std.specs.Str.{bytes_eq}
use Rattle.std.proofs.lemmas.Bool.{cases_Bool, cond-false}
use Rattle.std.proofs.lemmas.List.{drop_all}
use Rattle.std.proofs.lemmas.Slice.Eq.{bytes_eq-Decides}
use Rattle.derivation.specs.declared.line.Content.TheVariants as content
use Rattle.fol_core.specs.Fol.{Fol}
use Rattle.fol_core.specs.FormulaView.{fol_of}
use Rattle.fol_core.specs.RawTree.{RawTree, named, quantified, no_raws, more_raws}
use Rattle.fol_core.specs.SymbolTable.{Symbol, KeepsNumbers}
use Rattle.fol_core.specs.declared.formula.Formula.{Formula}
use Rattle.fol_core.specs.declared.symbols.Kind.TheVariants.{Relation}
use Rattle.ladr_formulas.specs.Formulas.{Bound, Reading, Made, meets, unread, is_element, with_symbol, terms_of, formula_in, formula_reading, names_of_variables, style_of}
use Rattle.ladr_formulas.specs.declared.styles.Mode.TheVariants.{Prover}
use Rattle.ladr_formulas.specs.declared.styles.Style.{Style}
use Rattle.ladr_formulas.proofs.Behind.{read_behind}
use Rattle.ladr_formulas.proofs.Growing.{grows_terms}
use Rattle.ladr_lex.specs.Operators.{OperatorRow}
use Rattle.ladr_lex.specs.declared.misuse.Misuse.TheVariants.{TwoKinds, UnfitAttribute, UnfitNumeral}
use Rattle.ladr_print.specs.FormulaText.{two, formula_raw, with_attribute}
use Rattle.ladr_print.specs.HasText.{HasText}
use Rattle.ladr_print.specs.ReadsAgain.{made_behind}
use Rattle.ladr_print.specs.StatesAs.{KeepsFixed}
use Rattle.ladr_print.specs.TermText.{Naming, name_in}
use Rattle.ladr_print.proofs.Naming.{Reaches, before, formula_back}
use Rattle.ladr_print.proofs.Printing.{text_has}
use Rattle.ladr_print.proofs.Rereading.{turned, reread}
use Rattle.ladr_print.proofs.Stating.{Brings, brings, turned_has, names_found}
use Rattle.ladr_reader.specs.Table.{table_of}
use Rattle.ladr_rules.specs.Asked.{asked_with, first_asking, front_of, line_asks}
use Rattle.ladr_rules.specs.Attributes.{Attributed, attributed, label_of, is_hint_weight, has_unfit_weight}
use Rattle.proof_lines.specs.Stated.{is_too_deep, line_made}
use Rattle.proof_lines.specs.Strays.{brings_stray, is_stray_relation}
use Rattle.proof_print.specs.Formulas.{is_kept_label, IsReadFormula}
use Rattle.proof_print.specs.LineTexts.{formula_term}
use Rattle.proof_print.specs.Reread.{IsContentTerm}

-- a formula that is read without misuse isn't headed by `#`
module _ (st : Style) (T : List Symbol) (v : Naming) where
  no_hash : (scope : List Bound) (s : Reading) (t u : RawTree) → Reaches T v (formula_in st scope s (two (codes "#") t u)).reading → ⊥
  no_hash scope s t u r =
      let met = meets (is_element st (codes "#")) UnfitNumeral s in
      let ts = more_raws t (more_raws u no_raws) in
      let after = with_symbol (codes "#") 2 Relation met in
      let kept = before T v after (terms_of st scope after ts).reading (grows_terms st scope after ts) r in
      let e = kept.sound in
      cc

  plain_formula : (scope : List Bound) (s : Reading) (t : RawTree) → Reaches T v (formula_in st scope s t).reading → attributed t ≡ record { formula = t; attributes = [] }
  plain_formula scope s (quantified q x t) r = refl
  plain_formula scope s (named n no_raws) r = refl
  plain_formula scope s (named n (more_raws t no_raws)) r = refl
  plain_formula scope s (named n (more_raws t (more_raws u no_raws))) r =
      elim (cases_Bool (bytes_eq n (codes "#"))) [
        | inl y ↦ absurd (no_hash scope s t u (subst (λ (m : List ℕ). Reaches T v (formula_in st scope s (two m t u)).reading) ((bytes_eq-Decides n (codes "#")).0 y) r))
        | inr k ↦ cond-false (bytes_eq n (codes "#")) _ _ k
      ]
  plain_formula scope s (named n (more_raws t (more_raws u (more_raws w ts)))) r = refl

-- with a label behind it, or none
record Labelled (label : Option RawTree) (t : RawTree) : Type 0 where
  formula : (attributed (with_attribute label t)).formula ≡ t
  fit : has_unfit_weight (attributed (with_attribute label t)).attributes ≡ false
  kept : label_of (attributed (with_attribute label t)).attributes ≡ label
  asks : line_asks (with_attribute label t) ≡ None

label_no_weight : (s : List ℕ) (t : RawTree) → bytes_eq s (codes "label") ≡ true → is_hint_weight (named s (more_raws t no_raws)) ≡ false
label_no_weight s t h = subst (λ (n : List ℕ). is_hint_weight (named n (more_raws t no_raws)) ≡ false) (sym ((bytes_eq-Decides s (codes "label")).0 h)) refl

label_no_answer : (s : List ℕ) → bytes_eq s (codes "label") ≡ true → bytes_eq s (codes "answer") ≡ false
label_no_answer s h = subst (λ (n : List ℕ). bytes_eq n (codes "answer") ≡ false) (sym ((bytes_eq-Decides s (codes "label")).0 h)) refl

labelled : (label : Option RawTree) (t : RawTree) → is_kept_label label ≡ true → attributed t ≡ record { formula = t; attributes = [] } → Labelled label t
labelled None t k e =
    record {
      formula = ap (λ (a : Attributed). a.formula) e;
      fit = ap (λ (a : Attributed). has_unfit_weight a.attributes) e;
      kept = ap (λ (a : Attributed). label_of a.attributes) e;
      asks = ap (λ (a : Attributed). option_map (asked_with (front_of [] a.formula)) (first_asking a.attributes)) e;
    }
labelled (Some (named s (more_raws u no_raws))) t k e =
    record {
      formula = refl;
      fit = (let w = label_no_weight s u k in rw w refl);
      kept = rw k refl;
      asks = (let w = label_no_answer s k in rw w refl);
    }
labelled (Some (named s no_raws)) t k e = absurd (cc)
labelled (Some (named s (more_raws u (more_raws w ts)))) t k e = absurd (cc)
labelled (Some (quantified q x u)) t k e = absurd (cc)

attributed_has : (rows : List OperatorRow) → Brings rows → (label : Option RawTree) (t : RawTree) → HasText (table_of rows) (with_attribute label t) → HasText (table_of rows) (with_attribute label (turned t))
attributed_has rows b None t p = turned_has rows b t p
attributed_has rows b (Some l) t p = (p.0, (turned_has rows b t p.1.0, p.1.1))

module _ (rows : List OperatorRow) (prolog : Bool) (problem T : List Symbol) (fixed : KeepsFixed rows) (f : Formula) (l : Option RawTree)
    (given : IsReadFormula rows prolog T (fol_of f.shape) f.names l) where
  abbrev st : Style
  st = style_of Prover prolog

  abbrev m : Made Fol
  m = given.made

  abbrev label : Option RawTree
  label = l

  abbrev v : Naming
  v = name_in (names_of_variables m.reading.variables)

  own : Reaches T v (formula_reading st given.behind given.reads.tree).reading
  own = subst (λ (r : Made Fol). Reaches T v r.reading) (sym given.reads.made)
      (record { sound = given.among.clean; symbols = given.among.kept; names = λ n x e. names_found m.reading.variables n x e })

  printed : formula_raw T v m.tree ≡ turned given.reads.tree
  printed = ap (λ (r : Made Fol). formula_raw T v r.tree) (sym given.reads.made) ∙ formula_back T v given.among.few st given.reads.tree [] (unread given.behind) (λ name n e. absurd (cc)) own

  larger : formula_reading st T (turned given.reads.tree) ≡ made_behind T m
  larger =
      let again : formula_reading st given.behind (turned given.reads.tree) ≡ m = reread st given.reads.tree [] (unread given.behind) ∙ given.reads.made in
      read_behind T st given.behind (turned given.reads.tree) (subst (λ (r : Made Fol). KeepsNumbers r.reading.symbols T) (sym again) given.among.kept) ∙ ap (made_behind T) again

  term_is : formula_term T (fol_of f.shape) f.names label ≡ with_attribute label (turned given.reads.tree)
  term_is = (λ i. with_attribute label (formula_raw T (name_in (sym given.names_are i)) (sym given.tree_is i))) ∙ ap (with_attribute label) printed

  pub formula_has : HasText (table_of rows) (formula_term T (fol_of f.shape) f.names label)
  formula_has = subst (HasText (table_of rows)) (sym term_is) (attributed_has rows (brings rows fixed) label given.reads.tree (text_has rows given.reads.reads))

  parts : Labelled label (turned given.reads.tree)
  parts =
      labelled label (turned given.reads.tree) given.label_is
      (plain_formula st T v [] (unread T) (turned given.reads.tree)
      (subst (λ (r : Made Fol). Reaches T v r.reading) (sym larger)
      (record { sound = given.among.clean; symbols = λ n s e. e; names = λ n x e. names_found m.reading.variables n x e })))

  made_is : line_made st T true (with_attribute label (turned given.reads.tree)) ≡ made_behind T m
  made_is = ap (formula_reading st T) parts.formula ∙ larger

  turned_term : IsContentTerm st problem T true (with_attribute label (turned given.reads.tree)) (content.Formula f l)
  turned_term =
      let X = with_attribute label (turned given.reads.tree) in
      let strays : list_any (is_stray_relation problem) (drop (length T) T) ≡ false = ap (list_any (is_stray_relation problem)) (drop_all (length T) T (omega arith)) in
      record {
        shallow = ap (λ (t : RawTree). is_too_deep true t) (sym term_is) ∙ given.shallow;
        unmisused =
            (λ i. (meets (brings_stray problem (length T) (made_is i).reading.symbols) TwoKinds (meets (parts.fit i) UnfitAttribute (made_is i).reading)).least)
            ∙ ap (λ (b : Bool). (meets b TwoKinds (made_behind T m).reading).least) strays ∙ given.among.clean;
        asks = λ e. parts.asks;
        means = (
          sym given.tree_is ∙ ap (λ (r : Made Fol). r.tree) (sym made_is),
          sym given.names_are ∙ ap (λ (r : Made Fol). names_of_variables r.reading.variables) (sym made_is),
          sym parts.kept,
        );
        symbols = ap (λ (r : Made Fol). r.reading.symbols) made_is;
      }

  pub formula_reads : IsContentTerm st problem T true (formula_term T (fol_of f.shape) f.names label) (content.Formula f l)
  formula_reads = subst (λ (t : RawTree). IsContentTerm st problem T true t (content.Formula f l)) (sym term_is) turned_term
