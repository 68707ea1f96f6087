-- The symbols that a formula enters can be told apart.
use Rattle.std.proofs.Common.{◌≡◌, ℕ, suc, Bool, true, false, if◌then◌else◌, List, [], ◌∷◌, ◌++◌, length, Option, Some, None, is_some, refl, ◌∙◌}
use Rattle.std.specs.Prelude.{codes}
use Rattle.std.specs.Str.{bytes_eq}
use Rattle.std.proofs.lemmas.Bool.{and_from}
use Rattle.std.proofs.lemmas.List.Folds.{list_all-append}
use Rattle.fol_core.proofs.SymbolLemmas.{FindsEach-push}
use Rattle.fol_core.specs.Fol.{Fol, verum, falsum, negation}
use Rattle.fol_core.specs.RawTree.{RawTree, named, quantified, RawTrees, no_raws, more_raws}
use Rattle.fol_core.specs.SymbolTable.{Symbol, symbol, number_of, entered}
use Rattle.fol_core.specs.Tree.{Tree, elem, app, none}
use Rattle.fol_core.specs.declared.symbols.Kind.{Kind}
use Rattle.fol_core.specs.declared.symbols.Kind.TheVariants.{Function, Relation}
use Rattle.ladr_lex.specs.Numeral.{limited_number_of}
use Rattle.ladr_lex.specs.declared.misuse.Misuse.{Misuse}
use Rattle.ladr_lex.specs.declared.misuse.Misuse.TheVariants.{QuantifierInTerm, UnfitNumeral}
use Rattle.ladr_problem.proofs.Named.{IsNamed, AreNamed}
use Rattle.ladr_problem.specs.Names.{is_name, AreTellable}
use Rattle.ladr_formulas.specs.Formulas.{Reading, Bound, Made, meets, with_variable, reading_with_name, with_symbol, symbol_number, is_variable, variable_number, is_too_great, is_element, named_variable, constant_as, arity_of, term_of, terms_of, relation_of, sentence_as, equation_read, under, is_denial, connective_of, by_connective, comparison, formula_in}
use Rattle.ladr_formulas.specs.declared.styles.Style.{Style}
use Rattle.ladr_formulas.specs.declared.connectives.Connective.{Connective}
use Rattle.ladr_formulas.specs.declared.connectives.Connective.TheVariants.{And, Or, IfThen, ThenIf, IfAndOnlyIf}

-- one symbol more, unless it is there
pub tellable_entered : (table : List Symbol) (name : List ℕ) (arity : ℕ) (kind : Kind) → AreTellable table → is_name name ≡ true → AreTellable (entered table (symbol name arity kind))
tellable_entered table name arity kind t h = by (number_of table name arity) refl
  where
    by : (o : Option ℕ) → number_of table name arity ≡ o → AreTellable (if is_some o then table else table ++ symbol name arity kind ∷ [])
    by (Some n) e = t
    by None e = record {
      different = FindsEach-push table name arity kind t.different e;
      named = list_all-append (λ (s : Symbol). is_name s.name) table (symbol name arity kind ∷ []) ∙ and_from _ _ t.named (and_from _ _ h refl);
    }

-- so are those of a reading
abbrev Tells : Reading → Type 0
Tells s = AreTellable s.symbols

abbrev TellsWith : (A : Type 0) → Made A → Type 0
TellsWith A m = Tells m.reading

met : (test : Bool) (m : Misuse) (s : Reading) → Tells s → Tells (meets test m s)
met true m s t = t
met false m s t = t

with_symbol_tells : (name : List ℕ) (arity : ℕ) (kind : Kind) (s : Reading) → Tells s → is_name name ≡ true → Tells (with_symbol name arity kind s)
with_symbol_tells name arity kind s t h = tellable_entered s.symbols name arity kind t h

with_name_tells : (scope : List Bound) (name : List ℕ) (s : Reading) → Tells s → Tells (reading_with_name scope name s)
with_name_tells scope name s t = by _
  where
    by : (b : Bool) → Tells (if b then s else with_variable name true s)
    by true = t
    by false = t

variable_tells : (st : Style) (scope : List Bound) (name : List ℕ) (s : Reading) → Tells s → Tells (named_variable st scope name s).reading
unfolding named_variable
variable_tells st scope name s t = by (is_variable st scope name)
  where
    by : (b : Bool) → TellsWith (Option ℕ) (if b then record { tree = Some (variable_number scope name s); reading = reading_with_name scope name s } else record { tree = None; reading = s })
    by true = with_name_tells scope name s t
    by false = t

-- terms
constant_tells : (st : Style) (name : List ℕ) (o : Option ℕ) (s : Reading) → Tells s → is_name name ≡ true → Tells (constant_as st name o s).reading
constant_tells st name (Some n) s t h = t
constant_tells st name None s t h = by (is_element st name)
  where
    after : Reading
    after = with_symbol name 0 Function s

    by : (b : Bool) → TellsWith Tree (if b then record { tree = elem (limited_number_of name); reading = meets (is_too_great st name) UnfitNumeral s } else record { tree = app (symbol_number name 0 after) none; reading = after })
    by true = met (is_too_great st name) UnfitNumeral s t
    by false = with_symbol_tells name 0 Function s t h

mutual
  term_tells : (st : Style) (scope : List Bound) (s : Reading) (t : RawTree) → IsNamed t → Tells s → Tells (term_of st scope s t).reading
  term_tells st scope s (quantified q x t) h told = term_tells st (record { name = x; number = length s.variables } ∷ scope) (with_variable x false (meets true QuantifierInTerm s)) t h told
  term_tells st scope s (named name no_raws) h told =
      constant_tells st name (named_variable st scope name s).tree (named_variable st scope name s).reading (variable_tells st scope name s told) h.0
  term_tells st scope s (named name (more_raws t ts)) h told =
      let great = meets (is_too_great st name) UnfitNumeral s in
      let after = with_symbol name (suc (arity_of ts)) Function great in
      let first = term_of st scope after t in
      terms_tell st scope first.reading ts h.1.1 (term_tells st scope after t h.1.0 (with_symbol_tells name (suc (arity_of ts)) Function great (met (is_too_great st name) UnfitNumeral s told) h.0))

  pub terms_tell : (st : Style) (scope : List Bound) (s : Reading) (ts : RawTrees) → AreNamed ts → Tells s → Tells (terms_of st scope s ts).reading
  terms_tell st scope s no_raws h told = told
  terms_tell st scope s (more_raws t ts) h told = terms_tell st scope (term_of st scope s t).reading ts h.1 (term_tells st scope s t h.0 told)

-- formulas
relation_tells : (st : Style) (scope : List Bound) (name : List ℕ) (ts : RawTrees) (s : Reading) → is_name name ≡ true → AreNamed ts → Tells s → Tells (relation_of st scope name ts s).reading
relation_tells st scope name ts s h all told =
    let element = meets (is_element st name) UnfitNumeral s in
    terms_tell st scope (with_symbol name (arity_of ts) Relation element) ts all (with_symbol_tells name (arity_of ts) Relation element (met (is_element st name) UnfitNumeral s told) h)

sentence_tells : (st : Style) (scope : List Bound) (name : List ℕ) (o : Option ℕ) (s : Reading) → is_name name ≡ true → Tells s → Tells (sentence_as st scope name o s).reading
sentence_tells st scope name (Some n) s h told = told
sentence_tells st scope name None s h told = by (bytes_eq name (codes "$T")) (bytes_eq name (codes "$F"))
  where
    by : (a b : Bool) → TellsWith Fol (if a then record { tree = verum; reading = s } else (if b then record { tree = falsum; reading = s } else relation_of st scope name no_raws s))
    by true b = told
    by false true = told
    by false false = relation_tells st scope name no_raws s h tt told

equation_tells : (st : Style) (scope : List Bound) (t u : RawTree) (s : Reading) → IsNamed t → IsNamed u → Tells s → Tells (equation_read st scope t u s).reading
equation_tells st scope t u s h k told = term_tells st scope (term_of st scope s t).reading u k (term_tells st scope s t h told)

comparison_tells : (st : Style) (scope : List Bound) (name : List ℕ) (t u : RawTree) (s : Reading) → is_name name ≡ true → IsNamed t → IsNamed u → Tells s → Tells (comparison st scope name t u s).reading
comparison_tells st scope name t u s n h k told = by (bytes_eq name (codes "=")) (bytes_eq name (codes "!="))
  where
    by : (a b : Bool) → TellsWith Fol (if a then equation_read st scope t u s else (if b then under negation (equation_read st scope t u s) else relation_of st scope name (more_raws t (more_raws u no_raws)) s))
    by true b = equation_tells st scope t u s h k told
    by false true = equation_tells st scope t u s h k told
    by false false = relation_tells st scope name (more_raws t (more_raws u no_raws)) s n (h, (k, tt)) told

abbrev AllTell : (Reading → Made Fol) → Type 0
AllTell f = (r : Reading) → Tells r → Tells (f r).reading

connected_tell : (o : Option Connective) (f g h : Reading → Made Fol) → AllTell f → AllTell g → AllTell h → AllTell (by_connective o f g h)
connected_tell (Some And) f g h a b c s t = b (f s).reading (a s t)
connected_tell (Some Or) f g h a b c s t = b (f s).reading (a s t)
connected_tell (Some IfThen) f g h a b c s t = b (f s).reading (a s t)
connected_tell (Some ThenIf) f g h a b c s t = a (g s).reading (b s t)
connected_tell (Some IfAndOnlyIf) f g h a b c s t = b (f s).reading (a s t)
connected_tell None f g h a b c s t = c s t

denial_tells : (st : Style) (scope : List Bound) (name : List ℕ) (t : RawTree) (s : Reading) (m : Made Fol) → is_name name ≡ true → IsNamed t → Tells s → Tells m.reading
    → TellsWith Fol (if is_denial name then under negation m else relation_of st scope name (more_raws t no_raws) s)
denial_tells st scope name t s m n h told inner = by (is_denial name)
  where
    by : (b : Bool) → TellsWith Fol (if b then under negation m else relation_of st scope name (more_raws t no_raws) s)
    by true = inner
    by false = relation_tells st scope name (more_raws t no_raws) s n (h, tt) told

pub formula_tells : (st : Style) (scope : List Bound) (s : Reading) (t : RawTree) → IsNamed t → Tells s → Tells (formula_in st scope s t).reading
formula_tells st scope s (quantified q x t) h told = formula_tells st (record { name = x; number = length s.variables } ∷ scope) (with_variable x false s) t h told
formula_tells st scope s (named name no_raws) h told =
    sentence_tells st scope name (named_variable st scope name s).tree (named_variable st scope name s).reading h.0 (variable_tells st scope name s told)
formula_tells st scope s (named name (more_raws t no_raws)) h told = denial_tells st scope name t s (formula_in st scope s t) h.0 h.1.0 told (formula_tells st scope s t h.1.0 told)
formula_tells st scope s (named name (more_raws t (more_raws u no_raws))) h told =
    connected_tell (connective_of name) (λ r. formula_in st scope r t) (λ r. formula_in st scope r u) (comparison st scope name t u)
    (λ r. formula_tells st scope r t h.1.0) (λ r. formula_tells st scope r u h.1.1.0) (λ r. comparison_tells st scope name t u r h.0 h.1.0 h.1.1.0) s told
formula_tells st scope s (named name (more_raws t (more_raws u (more_raws v ts)))) h told = relation_tells st scope name (more_raws t (more_raws u (more_raws v ts))) s h.0 h.1 told
