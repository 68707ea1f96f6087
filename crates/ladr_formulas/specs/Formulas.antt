-- How a term as read is a formula.
use Rattle.std.specs.Prelude.{◌≡◌, IsTrue, ℕ, suc, ◌==◌, nat_le, nat_lt, Bool, true, false, not, ◌&&◌, ◌||◌, List, [], ◌∷◌, ◌++◌, length, Option, Some, None, is_some, is_none, unwrap_or, if◌then◌else◌, codes}
use Rattle.std.specs.Str.{bytes_eq}
use Rattle.fol_core.specs.Fol.{Fol, verum, falsum, equal, atom, negation, conjunction, disjunction, implication, equivalence, forall, exists}
use Rattle.fol_core.specs.RawTree.{RawTree, named, quantified, RawTrees, no_raws, more_raws}
use Rattle.fol_core.specs.SymbolTable.{Symbol, number_of, entered, is_clash}
use Rattle.fol_core.specs.Tree.{Tree, var, elem, app, Trees, none, more}
use Rattle.fol_core.specs.declared.raw.Quantifier.{Quantifier}
use Rattle.fol_core.specs.declared.raw.Quantifier.TheVariants.{All, Exists}
use Rattle.fol_core.specs.declared.symbols.Kind.{Kind}
use Rattle.fol_core.specs.declared.symbols.Kind.TheVariants.{Function, Relation}
use Rattle.ladr_lex.specs.Misuses.{earlier}
use Rattle.ladr_lex.specs.declared.limits.TheConstants.{MOST_ARGUMENTS, MOST_ELEMENT, MOST_SYMBOLS}
use Rattle.ladr_lex.specs.Numeral.{is_numeral, limited_number_of}
use Rattle.ladr_lex.specs.declared.misuse.Misuse.{Misuse}
use Rattle.ladr_lex.specs.declared.misuse.Misuse.TheVariants.{TwoKinds, VariableAsFormula, QuantifierInTerm, UnfitAttribute, UnfitNumeral}
use Rattle.ladr_formulas.specs.declared.connectives.Connective.{Connective}
use Rattle.ladr_formulas.specs.declared.connectives.Connective.TheVariants.{And, Or, IfThen, ThenIf, IfAndOnlyIf}
use Rattle.ladr_formulas.specs.declared.styles.Mode.{Mode}
use Rattle.ladr_formulas.specs.declared.styles.Mode.TheVariants.{Prover, Mace, Tester}
pub use Rattle.ladr_formulas.specs.declared.styles.Style.{Style}

-- a variable of a formula: its printed name, and whether no quantifier brought it
pub record Variable : Type 0 where
  pub name : List ℕ
  pub free : Bool

-- what has been read so far: the symbols, the variables by number, the misuse of the least row that
-- was met, and whether an arity was too large
pub record Reading : Type 0 where
  pub symbols : List Symbol
  pub variables : List Variable
  pub least : Option Misuse
  pub large : Bool

-- a tree, and what has been read with it
pub record Made (A : Type 0) : Type 0 where
  pub tree : A
  pub reading : Reading

-- the variables that quantifiers around bind, the innermost first, with their numbers
pub record Bound : Type 0 where
  pub name : List ℕ
  pub number : ℕ

-- a misuse is met, if the test says so
abbrev pub meets : Bool → Misuse → Reading → Reading
meets test misuse s = if test then record s { least = Some (earlier misuse s.least) } else s

-- the number under which a name is bound
abbrev pub bound_number : List Bound → List ℕ → Option ℕ
bound_number [] name = None
bound_number (b ∷ bs) name = if bytes_eq b.name name then Some b.number else bound_number bs name

-- the number of a name's free variable among these, the first of them being number n
abbrev pub free_number : ℕ → List Variable → List ℕ → Option ℕ
free_number n [] name = None
free_number n (v ∷ vs) name =
    if v.free && bytes_eq v.name name then Some n else free_number (suc n) vs name

-- whether a name that isn't bound is a variable, by its first byte
abbrev pub is_free_name : Style → List ℕ → Bool
is_free_name st [] = false
is_free_name st (b ∷ bs) =
    if st.prolog then (nat_le 65 b && nat_le b 90) || b == 95 else nat_le 117 b && nat_le b 122

-- whether a name without arguments is a variable
abbrev pub is_variable : Style → List Bound → List ℕ → Bool
is_variable st scope name = is_some (bound_number scope name) || is_free_name st name

-- one more variable
abbrev pub with_variable : List ℕ → Bool → Reading → Reading
with_variable name free s =
    record s { variables = s.variables ++ record { name = name; free = free } ∷ [] }

-- the number of a variable's name; a free name that is new takes the next number
abbrev pub variable_number : List Bound → List ℕ → Reading → ℕ
variable_number scope name s =
    unwrap_or (bound_number scope name)
    (unwrap_or (free_number 0 s.variables name) (length s.variables))

abbrev pub reading_with_name : List Bound → List ℕ → Reading → Reading
reading_with_name scope name s =
    if is_some (bound_number scope name) || is_some (free_number 0 s.variables name) then s
    else with_variable name true s

-- the number of a name without arguments, if it is a variable
unfoldable pub named_variable : Style → List Bound → List ℕ → Reading → Made (Option ℕ)
named_variable st scope name s =
    if is_variable st scope name
    then record
    { tree = Some (variable_number scope name s); reading = reading_with_name scope name s }
    else record { tree = None; reading = s }

-- a symbol is entered; a clash of kinds is misuse, and so is `#`; there may be too many arguments
abbrev pub with_symbol : List ℕ → ℕ → Kind → Reading → Reading
with_symbol name arity kind s =
    let symbol : Symbol = record { name = name; arity = arity; kind = kind } in
    let met = meets (bytes_eq name (codes "#")) UnfitAttribute
    (meets (is_clash s.symbols symbol) TwoKinds s) in
    record met
    { symbols = entered s.symbols symbol; large = s.large || nat_lt MOST_ARGUMENTS arity }

abbrev pub symbol_number : List ℕ → ℕ → Reading → ℕ
symbol_number name arity s = unwrap_or (number_of s.symbols name arity) 0

abbrev pub arity_of : RawTrees → ℕ
arity_of no_raws = 0
arity_of (more_raws t ts) = suc (arity_of ts)

-- numerals that name elements end at 999,999,999
abbrev pub is_too_great : Style → List ℕ → Bool
is_too_great st name =
    st.elements && is_numeral name && nat_lt MOST_ELEMENT (limited_number_of name)

abbrev pub is_element : Style → List ℕ → Bool
is_element st name = st.elements && is_numeral name

-- a term without arguments: a variable, else an element or a constant
abbrev pub constant_as : Style → List ℕ → Option ℕ → Reading → Made Tree
constant_as st name (Some n) s = record { tree = var n; reading = s }
constant_as st name None s =
    if is_element st name
    then record
    { tree = elem (limited_number_of name); reading = meets (is_too_great st name) UnfitNumeral s }
    else (let after = with_symbol name 0 Function s in record
    { tree = app (symbol_number name 0 after) none; reading = after })

abbrev pub constant : Style → List Bound → List ℕ → Reading → Made Tree
constant st scope name s =
    let v = named_variable st scope name s in
    constant_as st name v.tree v.reading

abbrev mutual
  -- a term below a relation, in which every symbol is a function; a quantifier there is misuse, and
  -- its body is read on
  pub term_of : Style → List Bound → Reading → RawTree → Made Tree
  term_of st scope s (quantified q x t) =
      term_of st (record { name = x; number = length s.variables } ∷ scope)
      (with_variable x false (meets true QuantifierInTerm s)) t
  term_of st scope s (named name no_raws) = constant st scope name s
  term_of st scope s (named name (more_raws t ts)) =
      let arity = suc (arity_of ts) in
      let after = with_symbol name arity Function (meets (is_too_great st name) UnfitNumeral s) in
      let first = term_of st scope after t in
      let others = terms_of st scope first.reading ts in
      record {
        tree = app (symbol_number name arity after) (more first.tree others.tree);
        reading = others.reading;
      }

  pub terms_of : Style → List Bound → Reading → RawTrees → Made Trees
  terms_of st scope s no_raws = record { tree = none; reading = s }
  terms_of st scope s (more_raws t ts) =
      let first = term_of st scope s t in
      let others = terms_of st scope first.reading ts in
      record { tree = more first.tree others.tree; reading = others.reading }

-- a relation with its arguments; a numeral as relation is misuse
abbrev pub relation_of : Style → List Bound → List ℕ → RawTrees → Reading → Made Fol
relation_of st scope name ts s =
    let arity = arity_of ts in
    let after = with_symbol name arity Relation (meets (is_element st name) UnfitNumeral s) in
    let arguments = terms_of st scope after ts in
    record {
      tree = atom (symbol_number name arity after) arguments.tree;
      reading = arguments.reading;
    }

-- a formula without arguments: a variable, which is misuse, else a constant or a relation
abbrev pub sentence_as : Style → List Bound → List ℕ → Option ℕ → Reading → Made Fol
sentence_as st scope name (Some n) s =
    record { tree = verum; reading = meets true VariableAsFormula s }
sentence_as st scope name None s =
    if bytes_eq name (codes "$T") then record { tree = verum; reading = s }
    else (if bytes_eq name (codes "$F") then record { tree = falsum; reading = s }
    else relation_of st scope name no_raws s)

abbrev pub sentence : Style → List Bound → List ℕ → Reading → Made Fol
sentence st scope name s =
    let v = named_variable st scope name s in
    sentence_as st scope name v.tree v.reading

abbrev pub equation_read : Style → List Bound → RawTree → RawTree → Reading → Made Fol
equation_read st scope t u s =
    let left = term_of st scope s t in
    let right = term_of st scope left.reading u in
    record { tree = equal left.tree right.tree; reading = right.reading }

abbrev pub under : (Fol → Fol) → Made Fol → Made Fol
under f m = record { tree = f m.tree; reading = m.reading }

-- a quantifier with the number of its variable
abbrev pub bound_by : Quantifier → ℕ → Fol → Fol
bound_by All n f = forall n f
bound_by Exists n f = exists n f

-- whether a name with one argument denies it
abbrev pub is_denial : List ℕ → Bool
is_denial name = bytes_eq name (codes "-")

-- the connective of a name with two arguments
abbrev pub connective_of : List ℕ → Option Connective
connective_of name =
    if bytes_eq name (codes "&") then Some And
    else (if bytes_eq name (codes "|") then Some Or
    else (if bytes_eq name (codes "->") then Some IfThen
    else (if bytes_eq name (codes "<-") then Some ThenIf
    else (if bytes_eq name (codes "<->") then Some IfAndOnlyIf else None))))

-- two formulas, read one behind the other
abbrev pub connective_read : (Fol → Fol → Fol) → (Reading → Made Fol) → (Reading → Made Fol) →
    Reading → Made Fol
connective_read join first second s =
    let left = first s in
    under (join left.tree) (second left.reading)

-- two formulas under a connective, the premise of an implication first
abbrev pub joined_by : Connective → Fol → Fol → Fol
joined_by And f g = conjunction f g
joined_by Or f g = disjunction f g
joined_by IfThen f g = implication f g
joined_by ThenIf f g = implication f g
joined_by IfAndOnlyIf f g = equivalence f g

-- the two parts of a connective; `a <- b` is `b -> a`, and b is read first
abbrev pub by_connective : Option Connective → (Reading → Made Fol) → (Reading → Made Fol) →
    (Reading → Made Fol) → Reading → Made Fol
by_connective (Some And) first second otherwise = connective_read (joined_by And) first second
by_connective (Some Or) first second otherwise = connective_read (joined_by Or) first second
by_connective (Some IfThen) first second otherwise = connective_read (joined_by IfThen) first second
by_connective (Some ThenIf) first second otherwise = connective_read (joined_by ThenIf) second first
by_connective (Some IfAndOnlyIf) first second otherwise =
    connective_read (joined_by IfAndOnlyIf) first second
by_connective None first second otherwise = otherwise

-- an equation, its denial, or a relation of two terms
abbrev pub comparison : Style → List Bound → List ℕ → RawTree → RawTree → Reading → Made Fol
comparison st scope name t u s =
    if bytes_eq name (codes "=") then equation_read st scope t u s
    else (if bytes_eq name (codes "!=") then under negation (equation_read st scope t u s)
    else relation_of st scope name (more_raws t (more_raws u no_raws)) s)

-- A formula. A name with two arguments may be a connective, `=` or `!=`, one with one argument a
-- denial; any other is a relation.
abbrev pub formula_in : Style → List Bound → Reading → RawTree → Made Fol
formula_in st scope s (quantified q x t) =
    under (bound_by q (length s.variables))
    (formula_in st (record { name = x; number = length s.variables } ∷ scope)
    (with_variable x false s) t)
formula_in st scope s (named name no_raws) = sentence st scope name s
formula_in st scope s (named name (more_raws t no_raws)) =
    if is_denial name then under negation (formula_in st scope s t)
    else relation_of st scope name (more_raws t no_raws) s
formula_in st scope s (named name (more_raws t (more_raws u no_raws))) =
    by_connective (connective_of name) (λ r. formula_in st scope r t) (λ r. formula_in st scope r u)
    (comparison st scope name t u) s
formula_in st scope s (named name (more_raws t (more_raws u (more_raws v ts)))) =
    relation_of st scope name (more_raws t (more_raws u (more_raws v ts))) s

-- before a formula is read
abbrev pub unread : List Symbol → Reading
unread table = record { symbols = table; variables = []; least = None; large = false }

-- the formula of a term as read, behind a table of symbols
abbrev pub formula_reading : Style → List Symbol → RawTree → Made Fol
formula_reading st table t = formula_in st [] (unread table) t

-- numerals name elements but for the prover
abbrev pub style_of : Mode → Bool → Style
style_of Prover prolog = record { elements = false; prolog = prolog }
style_of Mace prolog = record { elements = true; prolog = prolog }
style_of Tester prolog = record { elements = true; prolog = prolog }

-- the printed names of the variables, by number
abbrev pub names_of_variables : List Variable → List (List ℕ)
names_of_variables [] = []
names_of_variables (v ∷ vs) = v.name ∷ names_of_variables vs

-- nothing is misused, and nothing too large
abbrev pub is_faultless : Reading → Bool
is_faultless s = is_none s.least && not s.large && nat_le (length s.symbols) MOST_SYMBOLS

-- a reading without faults is this formula, with these names and behind it this table
pub record IsReadAs (m : Made Fol) (f : Fol) (names : List (List ℕ)) (table : List Symbol) : Type 0
  where
    pub faultless : IsTrue (is_faultless m.reading)
    pub formula : f ≡ m.tree
    pub named : names ≡ names_of_variables m.reading.variables
    pub symbols : table ≡ m.reading.symbols
