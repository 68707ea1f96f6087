-- What a term as read means as a formula, by the symbols and variables that there are in the end.
use Rattle.std.specs.Prelude.{◌≡◌, ℕ, suc, Bool, true, false, not, ◌&&◌, ◌||◌, List, [], ◌∷◌, Option, Some, None, is_none, if◌then◌else◌, slice_get, codes}
use Rattle.std.specs.Str.{bytes_eq}
use Rattle.fol_core.specs.Bound.{binders_of}
use Rattle.fol_core.specs.Fol.{Fol, verum, falsum, equal, atom, negation, conjunction, disjunction, implication, equivalence, forall, exists}
use Rattle.fol_core.specs.RawTree.{RawTree, named, quantified, RawTrees, no_raws, more_raws}
use Rattle.fol_core.specs.SymbolTable.{Symbol, symbol, number_of, is_clash}
use Rattle.fol_core.specs.Tree.{Tree, var, elem, app, Trees, none, more}
use Rattle.fol_core.specs.declared.raw.Quantifier.TheVariants.{All, Exists}
use Rattle.fol_core.specs.declared.symbols.Kind.{Kind}
use Rattle.fol_core.specs.declared.symbols.Kind.TheVariants.{Function, Relation}
use Rattle.ladr_lex.specs.Numeral.{limited_number_of}
use Rattle.ladr_formulas.specs.Formulas.{Style, Variable, Bound, bound_number, free_number, is_free_name, is_variable, is_element, is_too_great, arity_of, is_denial, connective_of}
use Rattle.ladr_formulas.specs.VariablesMet.{variables_in}

-- the number of a name and arity in a table that has them with this kind; `#` names nothing
abbrev pub number_as : Kind → List Symbol → List ℕ → ℕ → Option ℕ
number_as kind table name arity =
    if bytes_eq name (codes "#") || is_clash table (symbol name arity kind) then None
    else number_of table name arity

-- whether a name with these arguments is a function's, below a relation
abbrev pub is_function : Style → List Bound → List ℕ → RawTrees → Bool
is_function st scope name no_raws = not (is_variable st scope name) && not (is_element st name)
is_function st scope name (more_raws t ts) = not (is_too_great st name)

-- whether a name with these arguments is a relation's
abbrev pub is_relation : Style → List Bound → List ℕ → RawTrees → Bool
is_relation st scope name no_raws =
    not (is_variable st scope name || bytes_eq name (codes "$T") || bytes_eq name (codes "$F"))
is_relation st scope name (more_raws t no_raws) = not (is_denial name)
is_relation st scope name (more_raws t (more_raws u no_raws)) =
    is_none (connective_of name) && not (bytes_eq name (codes "=") || bytes_eq name (codes "!="))
is_relation st scope name (more_raws t (more_raws u (more_raws v ts))) = true

mutual
  -- the term that a term as read means below a relation, where quantifiers around bind these
  pub data MeansTerm (st : Style) (table : List Symbol) (variables : List Variable)
      : List Bound → RawTree → Tree → Type 0 where
    -- a variable is the one that the innermost quantifier binds which has its name
    bound_variable :
        {scope : List Bound} {name : List ℕ} {n : ℕ} → bound_number scope name ≡ Some n →
        MeansTerm st table variables scope (named name no_raws) (var n)
    -- or the free one of its name
    free_variable :
        {scope : List Bound} {name : List ℕ} {n : ℕ} → bound_number scope name ≡ None →
        is_free_name st name ≡ true → free_number 0 variables name ≡ Some n →
        MeansTerm st table variables scope (named name no_raws) (var n)
    element :
        {scope : List Bound} {name : List ℕ} → is_variable st scope name ≡ false →
        is_element st name ≡ true → is_too_great st name ≡ false →
        MeansTerm st table variables scope (named name no_raws) (elem (limited_number_of name))
    -- a function is the symbol that the table has for its name and arity, as a function
    applied :
        {scope : List Bound} {name : List ℕ} {ts : RawTrees} {us : Trees} {f : ℕ} →
        is_function st scope name ts ≡ true →
        number_as Function table name (arity_of ts) ≡ Some f →
        MeanTerms st table variables scope ts us →
        MeansTerm st table variables scope (named name ts) (app f us)

  pub data MeanTerms (st : Style) (table : List Symbol) (variables : List Variable)
      : List Bound → RawTrees → Trees → Type 0 where
    no_terms : {scope : List Bound} → MeanTerms st table variables scope no_raws none
    more_terms :
        {scope : List Bound} {t : RawTree} {ts : RawTrees} {u : Tree} {us : Trees} →
        MeansTerm st table variables scope t u → MeanTerms st table variables scope ts us →
        MeanTerms st table variables scope (more_raws t ts) (more u us)

-- a name in front of two arguments
abbrev pub between : List ℕ → RawTree → RawTree → RawTree
between name t u = named name (more_raws t (more_raws u no_raws))

-- The formula that a term as read means, where quantifiers around bind these. A quantifier has the
-- number of a variable of its name that isn't free.
pub data Means (st : Style) (table : List Symbol) (variables : List Variable)
    : List Bound → RawTree → Fol → Type 0 where
  for_all :
      {scope : List Bound} {x : List ℕ} {t : RawTree} {f : Fol} {n : ℕ} →
      slice_get variables n ≡ Some (record { name = x; free = false }) →
      Means st table variables (record { name = x; number = n } ∷ scope) t f →
      Means st table variables scope (quantified All x t) (forall n f)
  there_is :
      {scope : List Bound} {x : List ℕ} {t : RawTree} {f : Fol} {n : ℕ} →
      slice_get variables n ≡ Some (record { name = x; free = false }) →
      Means st table variables (record { name = x; number = n } ∷ scope) t f →
      Means st table variables scope (quantified Exists x t) (exists n f)
  truth :
      {scope : List Bound} → is_variable st scope (codes "$T") ≡ false →
      Means st table variables scope (named (codes "$T") no_raws) verum
  falsity :
      {scope : List Bound} → is_variable st scope (codes "$F") ≡ false →
      Means st table variables scope (named (codes "$F") no_raws) falsum
  denied :
      {scope : List Bound} {t : RawTree} {f : Fol} → Means st table variables scope t f →
      Means st table variables scope (named (codes "-") (more_raws t no_raws)) (negation f)
  both :
      {scope : List Bound} {t u : RawTree} {f g : Fol} → Means st table variables scope t f →
      Means st table variables scope u g →
      Means st table variables scope (between (codes "&") t u) (conjunction f g)
  either :
      {scope : List Bound} {t u : RawTree} {f g : Fol} → Means st table variables scope t f →
      Means st table variables scope u g →
      Means st table variables scope (between (codes "|") t u) (disjunction f g)
  if_then :
      {scope : List Bound} {t u : RawTree} {f g : Fol} → Means st table variables scope t f →
      Means st table variables scope u g →
      Means st table variables scope (between (codes "->") t u) (implication f g)
  -- the premise stands on the right
  then_if :
      {scope : List Bound} {t u : RawTree} {f g : Fol} → Means st table variables scope t f →
      Means st table variables scope u g →
      Means st table variables scope (between (codes "<-") t u) (implication g f)
  if_and_only_if :
      {scope : List Bound} {t u : RawTree} {f g : Fol} → Means st table variables scope t f →
      Means st table variables scope u g →
      Means st table variables scope (between (codes "<->") t u) (equivalence f g)
  equals :
      {scope : List Bound} {t u : RawTree} {a b : Tree} →
      MeansTerm st table variables scope t a → MeansTerm st table variables scope u b →
      Means st table variables scope (between (codes "=") t u) (equal a b)
  differs :
      {scope : List Bound} {t u : RawTree} {a b : Tree} →
      MeansTerm st table variables scope t a → MeansTerm st table variables scope u b →
      Means st table variables scope (between (codes "!=") t u) (negation (equal a b))
  -- a relation is the symbol that the table has for its name and arity, as a relation; its name isn't
  -- an element's
  related :
      {scope : List Bound} {name : List ℕ} {ts : RawTrees} {us : Trees} {r : ℕ} →
      is_relation st scope name ts ≡ true → is_element st name ≡ false →
      number_as Relation table name (arity_of ts) ≡ Some r →
      MeanTerms st table variables scope ts us →
      Means st table variables scope (named name ts) (atom r us)

-- the places of the variables that aren't free, where the first of these is number n
abbrev pub bound_places : ℕ → List Variable → List ℕ
bound_places n [] = []
bound_places n (v ∷ vs) =
    if v.free then bound_places (suc n) vs else n ∷ bound_places (suc n) vs

-- A formula is what a term as read means, with this table and the term's variables; its quantifiers
-- bind, from left to right, those that aren't free, each one of its own.
pub record IsMeaning (st : Style) (table : List Symbol) (t : RawTree) (f : Fol) : Type 0 where
  pub means : Means st table (variables_in st t) [] t f
  pub bound : binders_of f ≡ bound_places 0 (variables_in st t)
