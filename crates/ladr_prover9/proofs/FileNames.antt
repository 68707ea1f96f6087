-- The names in the formulas of what has grown and in their labels are within a line.
use Rattle.std.proofs.Common.{ℕ, suc, Bool, true, false, if◌then◌else◌, length, List, [], ◌∷◌, Option, Some, None, subst}
use Rattle.std.specs.Prelude.{codes}
use Rattle.std.proofs.lemmas.List.Elements.{recursion_from_All}
use Rattle.std.specs.List.{AllByRecursion}
use Rattle.std.specs.Str.{bytes_eq}
use Rattle.fol_core.specs.Fol.{Fol, verum, falsum, negation}
use Rattle.fol_core.specs.RawTree.{RawTree, named, quantified, RawTrees, no_raws, more_raws}
use Rattle.fol_core.specs.SymbolTable.{Symbol, is_clash}
use Rattle.fol_core.specs.Tree.{Tree, elem, app, none}
use Rattle.fol_problem.specs.declared.problem.Role.{Role}
use Rattle.fol_core.specs.declared.symbols.Kind.{Kind}
use Rattle.fol_core.specs.declared.symbols.Kind.TheVariants.{Function, Relation}
use Rattle.ladr_formulas.specs.Formulas.{Variable, Reading, Bound, Made, meets, with_variable, reading_with_name, with_symbol, symbol_number, is_variable, variable_number, is_too_great, is_element, named_variable, constant_as, arity_of, term_of, terms_of, relation_of, sentence_as, equation_read, under, is_denial, connective_of, by_connective, comparison, formula_in, unread, formula_reading, names_of_variables}
use Rattle.ladr_formulas.specs.declared.connectives.Connective.{Connective}
use Rattle.ladr_formulas.specs.declared.connectives.Connective.TheVariants.{And, Or, IfThen, ThenIf, IfAndOnlyIf}
use Rattle.ladr_formulas.specs.declared.styles.Mode.{Mode}
use Rattle.ladr_formulas.specs.declared.styles.Style.{Style}
use Rattle.ladr_lex.specs.Numeral.{limited_number_of}
use Rattle.ladr_lex.specs.declared.misuse.Misuse.{Misuse}
use Rattle.ladr_lex.specs.declared.misuse.Misuse.TheVariants.{QuantifierInTerm, UnfitNumeral, UnfitAttribute, TwoKinds}
use Rattle.ladr_lex.specs.Operators.{OperatorRow}
use Rattle.ladr_problem.proofs.History.{IsStated, stated_each}
use Rattle.ladr_problem.proofs.Named.{name_of_sort}
use Rattle.ladr_problem.specs.Growth.{Grown}
use Rattle.ladr_problem.specs.Sofar.{Sofar, Listed}
use Rattle.ladr_reader.specs.HasText.{HasText, HaveTexts}
use Rattle.ladr_reader.specs.Table.{OperatorTable, table_of}
use Rattle.ladr_rules.specs.Attributes.{Attributed, attributed, attributes_in, is_label, label_of}
use Rattle.prover_steps.proofs.Lists.{all_append}
use Rattle.ladr_intake.proofs.Names.{name_unbroken}
use Rattle.ladr_prover9.proofs.Unbroken.{IsFlat, HasFlatNames, HaveFlatNames, HasFlatLabel}

-- a term that has a text
mutual
  flat_of_text : (g : OperatorTable) (t : RawTree) → HasText g t → HasFlatNames t
  flat_of_text g (named s ts) h = (name_unbroken s (name_of_sort h.0.sort s h.0.written), all_flat g ts h.1)
  flat_of_text g (quantified q x t) h = (name_unbroken x (name_of_sort h.0.sort x h.0.written), flat_of_text g t h.1)

  all_flat : (g : OperatorTable) (ts : RawTrees) → HaveTexts g ts → HaveFlatNames ts
  all_flat g no_raws h = tt
  all_flat g (more_raws t ts) h = (flat_of_text g t h.0, all_flat g ts h.1)

-- its formula and its label
attributes_flat : (t : RawTree) → HasFlatNames t → AllByRecursion HasFlatNames (attributes_in t)
attributes_flat (quantified q x t) h = (h, tt)
attributes_flat (named s no_raws) h = (h, tt)
attributes_flat (named s (more_raws t no_raws)) h = (h, tt)
attributes_flat (named s (more_raws t (more_raws u no_raws))) h = by (bytes_eq s (codes "#")) (attributes_flat u h.1.1.0)
  where
    by : (b : Bool) → AllByRecursion HasFlatNames (attributes_in u) → AllByRecursion HasFlatNames (if b then t ∷ attributes_in u else named s (more_raws t (more_raws u no_raws)) ∷ [])
    by true rest = (h.1.0, rest)
    by false rest = (h, tt)
attributes_flat (named s (more_raws t (more_raws u (more_raws v ts)))) h = (h, tt)

abbrev IsFlatWith : Attributed → Type 0
IsFlatWith a = HasFlatNames a.formula × AllByRecursion HasFlatNames a.attributes

attributed_flat : (t : RawTree) → HasFlatNames t → IsFlatWith (attributed t)
attributed_flat (quantified q x t) h = (h, tt)
attributed_flat (named s no_raws) h = (h, tt)
attributed_flat (named s (more_raws t no_raws)) h = (h, tt)
attributed_flat (named s (more_raws t (more_raws u no_raws))) h = by (bytes_eq s (codes "#"))
  where
    whole : Attributed
    whole = record { formula = named s (more_raws t (more_raws u no_raws)); attributes = [] }

    by : (b : Bool) → IsFlatWith (if b then record { formula = t; attributes = attributes_in u } else whole)
    by true = (h.1.0, attributes_flat u h.1.1.0)
    by false = (h, tt)
attributed_flat (named s (more_raws t (more_raws u (more_raws v ts)))) h = (h, tt)

label_flat : (ts : List RawTree) → AllByRecursion HasFlatNames ts → HasFlatLabel (label_of ts)
label_flat [] h = tt
label_flat (t ∷ ts) h = by (is_label t) (label_flat ts h.1)
  where
    by : (b : Bool) → HasFlatLabel (label_of ts) → HasFlatLabel (if b then Some t else label_of ts)
    by true rest = h.0
    by false rest = rest

-- the variables of a reading
abbrev pub HaveFlat : List Variable → Type 0
HaveFlat vs = AllByRecursion (λ v. IsFlat v.name) vs

abbrev Tells : Reading → Type 0
Tells s = HaveFlat s.variables

abbrev TellsWith : (A : Type 0) → Made A → Type 0
TellsWith A m = Tells m.reading

met_flat : (test : Bool) (m : Misuse) (s : Reading) → Tells s → Tells (meets test m s)
met_flat true m s t = t
met_flat false m s t = t

symbol_tells : (name : List ℕ) (arity : ℕ) (kind : Kind) (s : Reading) → Tells s → Tells (with_symbol name arity kind s)
symbol_tells name arity kind s t =
    let clash = is_clash s.symbols (record { name = name; arity = arity; kind = kind }) in
    met_flat (bytes_eq name (codes "#")) UnfitAttribute (meets clash TwoKinds s) (met_flat clash TwoKinds s t)

new_variable : (name : List ℕ) (free : Bool) (s : Reading) → IsFlat name → Tells s → Tells (with_variable name free s)
new_variable name free s h t = all_append (λ (v : Variable). IsFlat v.name) s.variables (record { name = name; free = free } ∷ []) t (h, tt)

with_name_tells : (scope : List Bound) (name : List ℕ) (s : Reading) → IsFlat name → Tells s → Tells (reading_with_name scope name s)
with_name_tells scope name s h t = by _
  where
    by : (b : Bool) → Tells (if b then s else with_variable name true s)
    by true = t
    by false = new_variable name true s h t

variable_tells : (st : Style) (scope : List Bound) (name : List ℕ) (s : Reading) → IsFlat name → Tells s → Tells (named_variable st scope name s).reading
unfolding named_variable
variable_tells st scope name s h t = by (is_variable st scope name)
  where
    by : (b : Bool) → TellsWith (Option ℕ) (if b then record { tree = Some (variable_number scope name s); reading = reading_with_name scope name s } else record { tree = None; reading = s })
    by true = with_name_tells scope name s h t
    by false = t

constant_tells : (st : Style) (name : List ℕ) (o : Option ℕ) (s : Reading) → Tells s → Tells (constant_as st name o s).reading
constant_tells st name (Some n) s t = t
constant_tells st name None s t = by (is_element st name)
  where
    after : Reading
    after = with_symbol name 0 Function s

    by : (b : Bool) → TellsWith Tree (if b then record { tree = elem (limited_number_of name); reading = meets (is_too_great st name) UnfitNumeral s } else record { tree = app (symbol_number name 0 after) none; reading = after })
    by true = met_flat (is_too_great st name) UnfitNumeral s t
    by false = symbol_tells name 0 Function s t

mutual
  term_tells : (st : Style) (scope : List Bound) (s : Reading) (t : RawTree) → HasFlatNames t → Tells s → Tells (term_of st scope s t).reading
  term_tells st scope s (quantified q x t) h told =
      term_tells st (record { name = x; number = length s.variables } ∷ scope) (with_variable x false (meets true QuantifierInTerm s)) t h.1 (new_variable x false (meets true QuantifierInTerm s) h.0 told)
  term_tells st scope s (named name no_raws) h told =
      constant_tells st name (named_variable st scope name s).tree (named_variable st scope name s).reading (variable_tells st scope name s h.0 told)
  term_tells st scope s (named name (more_raws t ts)) h told =
      let great = meets (is_too_great st name) UnfitNumeral s in
      let after = with_symbol name (suc (arity_of ts)) Function great in
      let first = term_of st scope after t in
      terms_tell st scope first.reading ts h.1.1 (term_tells st scope after t h.1.0 (symbol_tells name (suc (arity_of ts)) Function great (met_flat (is_too_great st name) UnfitNumeral s told)))

  terms_tell : (st : Style) (scope : List Bound) (s : Reading) (ts : RawTrees) → HaveFlatNames ts → Tells s → Tells (terms_of st scope s ts).reading
  terms_tell st scope s no_raws h told = told
  terms_tell st scope s (more_raws t ts) h told = terms_tell st scope (term_of st scope s t).reading ts h.1 (term_tells st scope s t h.0 told)

relation_tells : (st : Style) (scope : List Bound) (name : List ℕ) (ts : RawTrees) (s : Reading) → HaveFlatNames ts → Tells s → Tells (relation_of st scope name ts s).reading
relation_tells st scope name ts s all told =
    let element = meets (is_element st name) UnfitNumeral s in
    terms_tell st scope (with_symbol name (arity_of ts) Relation element) ts all (symbol_tells name (arity_of ts) Relation element (met_flat (is_element st name) UnfitNumeral s told))

sentence_tells : (st : Style) (scope : List Bound) (name : List ℕ) (o : Option ℕ) (s : Reading) → Tells s → Tells (sentence_as st scope name o s).reading
sentence_tells st scope name (Some n) s told = told
sentence_tells st scope name None s told = by (bytes_eq name (codes "$T")) (bytes_eq name (codes "$F"))
  where
    by : (a b : Bool) → TellsWith Fol (if a then record { tree = verum; reading = s } else (if b then record { tree = falsum; reading = s } else relation_of st scope name no_raws s))
    by true b = told
    by false true = told
    by false false = relation_tells st scope name no_raws s tt told

equation_tells : (st : Style) (scope : List Bound) (t u : RawTree) (s : Reading) → HasFlatNames t → HasFlatNames u → Tells s → Tells (equation_read st scope t u s).reading
equation_tells st scope t u s h k told = term_tells st scope (term_of st scope s t).reading u k (term_tells st scope s t h told)

comparison_tells : (st : Style) (scope : List Bound) (name : List ℕ) (t u : RawTree) (s : Reading) → HasFlatNames t → HasFlatNames u → Tells s → Tells (comparison st scope name t u s).reading
comparison_tells st scope name t u s h k told = by (bytes_eq name (codes "=")) (bytes_eq name (codes "!="))
  where
    by : (a b : Bool) → TellsWith Fol (if a then equation_read st scope t u s else (if b then under negation (equation_read st scope t u s) else relation_of st scope name (more_raws t (more_raws u no_raws)) s))
    by true b = equation_tells st scope t u s h k told
    by false true = equation_tells st scope t u s h k told
    by false false = relation_tells st scope name (more_raws t (more_raws u no_raws)) s (h, (k, tt)) told

abbrev AllTell : (Reading → Made Fol) → Type 0
AllTell f = (r : Reading) → Tells r → Tells (f r).reading

connected_tell : (o : Option Connective) (f g h : Reading → Made Fol) → AllTell f → AllTell g → AllTell h → AllTell (by_connective o f g h)
connected_tell (Some And) f g h a b c s t = b (f s).reading (a s t)
connected_tell (Some Or) f g h a b c s t = b (f s).reading (a s t)
connected_tell (Some IfThen) f g h a b c s t = b (f s).reading (a s t)
connected_tell (Some ThenIf) f g h a b c s t = a (g s).reading (b s t)
connected_tell (Some IfAndOnlyIf) f g h a b c s t = b (f s).reading (a s t)
connected_tell None f g h a b c s t = c s t

denial_tells : (st : Style) (scope : List Bound) (name : List ℕ) (t : RawTree) (s : Reading) (m : Made Fol) → HasFlatNames t → Tells s → Tells m.reading
    → TellsWith Fol (if is_denial name then under negation m else relation_of st scope name (more_raws t no_raws) s)
denial_tells st scope name t s m h told inner = by (is_denial name)
  where
    by : (b : Bool) → TellsWith Fol (if b then under negation m else relation_of st scope name (more_raws t no_raws) s)
    by true = inner
    by false = relation_tells st scope name (more_raws t no_raws) s (h, tt) told

formula_tells : (st : Style) (scope : List Bound) (s : Reading) (t : RawTree) → HasFlatNames t → Tells s → Tells (formula_in st scope s t).reading
formula_tells st scope s (quantified q x t) h told =
    formula_tells st (record { name = x; number = length s.variables } ∷ scope) (with_variable x false s) t h.1 (new_variable x false s h.0 told)
formula_tells st scope s (named name no_raws) h told =
    sentence_tells st scope name (named_variable st scope name s).tree (named_variable st scope name s).reading (variable_tells st scope name s h.0 told)
formula_tells st scope s (named name (more_raws t no_raws)) h told = denial_tells st scope name t s (formula_in st scope s t) h.1.0 told (formula_tells st scope s t h.1.0 told)
formula_tells st scope s (named name (more_raws t (more_raws u no_raws))) h told =
    connected_tell (connective_of name) (λ r. formula_in st scope r t) (λ r. formula_in st scope r u) (comparison st scope name t u)
    (λ r. formula_tells st scope r t h.1.0) (λ r. formula_tells st scope r u h.1.1.0) (λ r. comparison_tells st scope name t u r h.1.0 h.1.1.0) s told
formula_tells st scope s (named name (more_raws t (more_raws u (more_raws v ts)))) h told = relation_tells st scope name (more_raws t (more_raws u (more_raws v ts))) s h.1 told

-- the names of a listed formula's variables, and its label
names_flat : (vs : List Variable) → HaveFlat vs → AllByRecursion IsFlat (names_of_variables vs)
names_flat [] h = tt
names_flat (v ∷ vs) h = (h.0, names_flat vs h.1)

pub record IsFlatListed (l : Listed) : Type 0 where
  pub names : AllByRecursion IsFlat l.names
  pub label : HasFlatLabel l.label

stated_flat : (rows : List OperatorRow) (st : Style) (table : List Symbol) (role : Option Role) (l : Listed) → IsStated rows st table role l → IsFlatListed l
stated_flat rows st table role l x =
    let made = formula_reading st x.before (attributed x.tree).formula in
    let parts = attributed_flat x.tree (flat_of_text (table_of rows) x.tree x.term.text) in
    subst IsFlatListed x.is (record {
      names = names_flat made.reading.variables (formula_tells st [] (unread x.before) (attributed x.tree).formula parts.0 tt);
      label = label_flat (attributed x.tree).attributes parts.1;
    })

pub grown_flat : (m : Mode) (s : Sofar) → Grown m s → AllByRecursion (λ f. IsFlatListed f.1) s.formulas
grown_flat m s g = recursion_from_All (λ (f : Role × Listed). IsFlatListed f.1) s.formulas (λ i d lt. stated_flat _ _ _ _ _ (stated_each m s g i d lt))
