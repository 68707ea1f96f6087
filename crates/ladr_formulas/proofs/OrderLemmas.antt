-- The table behind a reading is the one before it with the symbols that occur, in their order, and an arity is too large where
-- one of theirs is.
use Rattle.std.proofs.Common.{◌≡◌, ℕ, suc, Bool, true, false, List, [], ◌∷◌, ◌++◌, Option, Some, None, refl, sym, ap, ◌∙◌, ◌==◌, Result, Ok, Err, append_assoc}
use Rattle.std.specs.Prelude.{not, ◌||◌, ◌&&◌, is_some, is_none, if◌then◌else◌, filter, nat_lt, IfOk, OnOk, codes}
use Rattle.std.specs.List.{list_any}
use Rattle.std.specs.Str.{bytes_eq}
use Rattle.std.specs.Bool.{Decides}
use Rattle.std.proofs.lemmas.Bool.Decides.{same_from_decides, Decides-eqb, Decides-like, Decides-and}
use Rattle.std.proofs.lemmas.List.{append-nil}
use Rattle.std.proofs.lemmas.List.Folds.{list_any-append}
use Rattle.std.proofs.lemmas.Slice.Eq.{bytes_eq-Decides}
use Rattle.fol_core.specs.Fol.{Fol, verum, falsum, negation}
use Rattle.fol_core.specs.RawTree.{RawTree, named, quantified, RawTrees, no_raws, more_raws}
use Rattle.fol_core.specs.SymbolTable.{Symbol, symbol, is_called, number_of, entered}
use Rattle.fol_core.specs.Tree.{Tree, elem, app, none}
use Rattle.fol_core.specs.declared.symbols.Kind.TheVariants.{Function, Relation}
use Rattle.fol_core.proofs.Places.{first_place-any}
use Rattle.ladr_lex.specs.Numeral.{limited_number_of}
use Rattle.ladr_lex.specs.declared.limits.TheConstants.{MOST_ARGUMENTS}
use Rattle.ladr_lex.specs.declared.misuse.Misuse.{Misuse}
use Rattle.ladr_lex.specs.declared.misuse.Misuse.TheVariants.{QuantifierInTerm, UnfitNumeral}
use Rattle.ladr_formulas.specs.Formulas.{Reading, Made, Bound, Style, meets, bound_number, free_number, is_free_name, is_variable, with_variable, variable_number, reading_with_name, named_variable, with_symbol, symbol_number, arity_of, is_too_great, is_element, constant_as, term_of, terms_of, relation_of, sentence_as, equation_read, under, is_denial, connective_of, connective_read, joined_by, by_connective, comparison, formula_in, unread, formula_reading}
use Rattle.ladr_formulas.specs.Counting.{names_bound, all_entered}
use Rattle.ladr_formulas.specs.Occurring.{stands_for_variable, symbols_of_term, symbols_of_terms, symbols_of_relation, symbols_compared, in_order, occurring, first_of_each, new_symbols, has_many_arguments}
use Rattle.ladr_formulas.specs.Whole.{IsWhole}
use Rattle.ladr_formulas.specs.declared.formulas.FormulaRead.{FormulaRead}
use Rattle.ladr_formulas.specs.declared.connectives.Connective.{Connective}
use Rattle.ladr_formulas.specs.declared.connectives.Connective.TheVariants.{And, Or, IfThen, ThenIf, IfAndOnlyIf}

-- what is kept of symbols that are read: the table, and whether an arity was too large
abbrev Noted : Type 0
Noted = List Symbol × Bool

abbrev noted : Reading → Noted
noted s = (s.symbols, s.large)

abbrev note : Noted → Symbol → Noted
note p x = (entered p.0 x, p.1 || nat_lt MOST_ARGUMENTS x.arity)

-- behind these symbols, read in their order
abbrev all_noted : Noted → List Symbol → Noted
all_noted p [] = p
all_noted p (s ∷ ss) = all_noted (note p s) ss

noted_on : (p : Noted) (xs ys : List Symbol) → all_noted p (xs ++ ys) ≡ all_noted (all_noted p xs) ys
noted_on p [] ys = refl
noted_on p (x ∷ xs) ys = noted_on (note p x) xs ys

pub bound_among : (scope : List Bound) (name : List ℕ) → is_some (bound_number scope name) ≡ list_any (λ b. bytes_eq b name) (names_bound scope)
bound_among [] name = refl
bound_among (b ∷ bs) name = by (bytes_eq b.name name) (bound_among bs name)
  where
    by : (t : Bool) → is_some (bound_number bs name) ≡ list_any (λ b. bytes_eq b name) (names_bound bs)
        → is_some (if t then Some b.number else bound_number bs name) ≡ (t || list_any (λ b. bytes_eq b name) (names_bound bs))
    by true rest = refl
    by false rest = rest

pub same_variable : (st : Style) (scope : List Bound) (name : List ℕ) → is_variable st scope name ≡ stands_for_variable st (names_bound scope) name
same_variable st scope name = ap (λ (b : Bool). b || is_free_name st name) (bound_among scope name)

met_noted : (test : Bool) (row : Misuse) (s : Reading) → noted (meets test row s) ≡ noted s
met_noted true row s = refl
met_noted false row s = refl

named_noted : (scope : List Bound) (name : List ℕ) (s : Reading) → noted (reading_with_name scope name s) ≡ noted s
named_noted scope name s = by (is_some (bound_number scope name) || is_some (free_number 0 s.variables name))
  where
    by : (b : Bool) → noted (if b then s else with_variable name true s) ≡ noted s
    by true = refl
    by false = refl

-- what a name without arguments is, where it is a variable, enters nothing
record IsNamed (st : Style) (scope : List Bound) (name : List ℕ) (s : Reading) (m : Made (Option ℕ)) : Type 0 where
  found : is_some m.tree ≡ stands_for_variable st (names_bound scope) name
  same : noted m.reading ≡ noted s

variable_named : (st : Style) (scope : List Bound) (name : List ℕ) (s : Reading) → IsNamed st scope name s (named_variable st scope name s)
unfolding named_variable
variable_named st scope name s = by (is_variable st scope name) (same_variable st scope name)
  where
    by : (b : Bool) → b ≡ stands_for_variable st (names_bound scope) name → IsNamed st scope name s (if b then record { tree = Some (variable_number scope name s); reading = reading_with_name scope name s } else record { tree = None; reading = s })
    by true e = record { found = e; same = named_noted scope name s }
    by false e = record { found = e; same = refl }

-- a constant, with the option that says whether its name is a variable
constant_noted : (st : Style) (name : List ℕ) (o : Option ℕ) (s : Reading)
    → noted (constant_as st name o s).reading ≡ all_noted (noted s) (if is_some o || is_element st name then [] else symbol name 0 Function ∷ [])
constant_noted st name (Some n) s = refl
constant_noted st name None s = by (is_element st name)
  where
    made : Bool → Made Tree
    made b = if b then record { tree = elem (limited_number_of name); reading = meets (is_too_great st name) UnfitNumeral s } else record { tree = app (symbol_number name 0 (with_symbol name 0 Function s)) none; reading = with_symbol name 0 Function s }

    by : (b : Bool) → noted (made b).reading ≡ all_noted (noted s) (if b then [] else symbol name 0 Function ∷ [])
    by true = met_noted (is_too_great st name) UnfitNumeral s
    by false = refl

mutual
  term_noted : (st : Style) (scope : List Bound) (s : Reading) (t : RawTree) → noted (term_of st scope s t).reading ≡ all_noted (noted s) (symbols_of_term st (names_bound scope) t)
  term_noted st scope s (quantified q x t) = term_noted st _ (with_variable x false (meets true QuantifierInTerm s)) t
  term_noted st scope s (named name no_raws) =
      let v = named_variable st scope name s in
      let is = variable_named st scope name s in
      constant_noted st name v.tree v.reading ∙
      (λ i. all_noted (is.same i) (if is.found i || is_element st name then [] else symbol name 0 Function ∷ []))
  term_noted st scope s (named name (more_raws t ts)) =
      let arity = suc (arity_of ts) in
      let met = meets (is_too_great st name) UnfitNumeral s in
      terms_noted st scope (with_symbol name arity Function met) (more_raws t ts) ∙
      ap (λ (p : Noted). all_noted (note p (symbol name arity Function)) (symbols_of_terms st (names_bound scope) (more_raws t ts))) (met_noted (is_too_great st name) UnfitNumeral s)

  pub terms_noted : (st : Style) (scope : List Bound) (s : Reading) (ts : RawTrees) → noted (terms_of st scope s ts).reading ≡ all_noted (noted s) (symbols_of_terms st (names_bound scope) ts)
  terms_noted st scope s no_raws = refl
  terms_noted st scope s (more_raws t ts) =
      let others = symbols_of_terms st (names_bound scope) ts in
      terms_noted st scope (term_of st scope s t).reading ts ∙ ap (λ (p : Noted). all_noted p others) (term_noted st scope s t) ∙
      sym (noted_on (noted s) (symbols_of_term st (names_bound scope) t) others)

relation_noted : (st : Style) (scope : List Bound) (name : List ℕ) (ts : RawTrees) (s : Reading) → noted (relation_of st scope name ts s).reading ≡ all_noted (noted s) (symbols_of_relation st (names_bound scope) name ts)
relation_noted st scope name ts s =
    let arity = arity_of ts in
    terms_noted st scope (with_symbol name arity Relation (meets (is_element st name) UnfitNumeral s)) ts ∙
    ap (λ (p : Noted). all_noted (note p (symbol name arity Relation)) (symbols_of_terms st (names_bound scope) ts)) (met_noted (is_element st name) UnfitNumeral s)

sentence_noted : (st : Style) (scope : List Bound) (name : List ℕ) (o : Option ℕ) (s : Reading)
    → noted (sentence_as st scope name o s).reading ≡ all_noted (noted s) (if is_some o || bytes_eq name (codes "$T") || bytes_eq name (codes "$F") then [] else symbol name 0 Relation ∷ [])
sentence_noted st scope name (Some n) s = refl
sentence_noted st scope name None s = by (bytes_eq name (codes "$T")) (bytes_eq name (codes "$F"))
  where
    made : Bool → Bool → Made Fol
    made a b = if a then record { tree = verum; reading = s } else (if b then record { tree = falsum; reading = s } else relation_of st scope name no_raws s)

    by : (a b : Bool) → noted (made a b).reading ≡ all_noted (noted s) (if a || b then [] else symbol name 0 Relation ∷ [])
    by true b = refl
    by false true = refl
    by false false = relation_noted st scope name no_raws s

equation_noted : (st : Style) (scope : List Bound) (t u : RawTree) (s : Reading)
    → noted (equation_read st scope t u s).reading ≡ all_noted (noted s) (symbols_of_term st (names_bound scope) t ++ symbols_of_term st (names_bound scope) u)
equation_noted st scope t u s =
    let right = symbols_of_term st (names_bound scope) u in
    term_noted st scope (term_of st scope s t).reading u ∙ ap (λ (p : Noted). all_noted p right) (term_noted st scope s t) ∙
    sym (noted_on (noted s) (symbols_of_term st (names_bound scope) t) right)

comparison_noted : (st : Style) (scope : List Bound) (name : List ℕ) (t u : RawTree) (s : Reading)
    → noted (comparison st scope name t u s).reading ≡ all_noted (noted s) (symbols_compared st (names_bound scope) name t u)
comparison_noted st scope name t u s = by (bytes_eq name (codes "=")) (bytes_eq name (codes "!="))
  where
    equation : List Symbol
    equation = symbols_of_term st (names_bound scope) t ++ symbols_of_term st (names_bound scope) u

    other : RawTrees
    other = more_raws t (more_raws u no_raws)

    made : Bool → Bool → Made Fol
    made a b = if a then equation_read st scope t u s else (if b then under negation (equation_read st scope t u s) else relation_of st scope name other s)

    by : (a b : Bool) → noted (made a b).reading ≡ all_noted (noted s) (if a || b then equation else symbols_of_relation st (names_bound scope) name other)
    by true b = equation_noted st scope t u s
    by false true = equation_noted st scope t u s
    by false false = relation_noted st scope name other s

abbrev Enters : (Reading → Made Fol) → List Symbol → Type 0
Enters f ss = (s : Reading) → noted (f s).reading ≡ all_noted (noted s) ss

joined_noted : (join : Fol → Fol → Fol) (f g : Reading → Made Fol) (xs ys : List Symbol) → Enters f xs → Enters g ys → Enters (connective_read join f g) (xs ++ ys)
joined_noted join f g xs ys a b s = b (f s).reading ∙ ap (λ (p : Noted). all_noted p ys) (a s) ∙ sym (noted_on (noted s) xs ys)

connected_noted : (o : Option Connective) (f g h : Reading → Made Fol) (xs ys zs : List Symbol) → Enters f xs → Enters g ys → Enters h zs → Enters (by_connective o f g h) (in_order o xs ys zs)
connected_noted None f g h xs ys zs a b c s = c s
connected_noted (Some And) f g h xs ys zs a b c s = joined_noted (joined_by And) f g xs ys a b s
connected_noted (Some Or) f g h xs ys zs a b c s = joined_noted (joined_by Or) f g xs ys a b s
connected_noted (Some IfThen) f g h xs ys zs a b c s = joined_noted (joined_by IfThen) f g xs ys a b s
connected_noted (Some ThenIf) f g h xs ys zs a b c s = joined_noted (joined_by ThenIf) g f ys xs b a s
connected_noted (Some IfAndOnlyIf) f g h xs ys zs a b c s = joined_noted (joined_by IfAndOnlyIf) f g xs ys a b s

formula_noted : (st : Style) (scope : List Bound) (s : Reading) (t : RawTree) → noted (formula_in st scope s t).reading ≡ all_noted (noted s) (occurring st (names_bound scope) t)
formula_noted st scope s (quantified q x t) = formula_noted st _ (with_variable x false s) t
formula_noted st scope s (named name no_raws) =
    let v = named_variable st scope name s in
    let is = variable_named st scope name s in
    sentence_noted st scope name v.tree v.reading ∙
    (λ i. all_noted (is.same i) (if is.found i || bytes_eq name (codes "$T") || bytes_eq name (codes "$F") then [] else symbol name 0 Relation ∷ []))
formula_noted st scope s (named name (more_raws t no_raws)) = by (is_denial name) (formula_noted st scope s t)
  where
    made : Bool → Made Fol
    made b = if b then under negation (formula_in st scope s t) else relation_of st scope name (more_raws t no_raws) s

    by : (b : Bool) → noted (formula_in st scope s t).reading ≡ all_noted (noted s) (occurring st (names_bound scope) t)
        → noted (made b).reading ≡ all_noted (noted s) (if b then occurring st (names_bound scope) t else symbols_of_relation st (names_bound scope) name (more_raws t no_raws))
    by true part = part
    by false part = relation_noted st scope name (more_raws t no_raws) s
formula_noted st scope s (named name (more_raws t (more_raws u no_raws))) =
    let names = names_bound scope in
    connected_noted (connective_of name) (λ r. formula_in st scope r t) (λ r. formula_in st scope r u) (comparison st scope name t u)
    (occurring st names t) (occurring st names u) (symbols_compared st names name t u)
    (λ r. formula_noted st scope r t) (λ r. formula_noted st scope r u) (comparison_noted st scope name t u) s
formula_noted st scope s (named name (more_raws t (more_raws u (more_raws v ts)))) = relation_noted st scope name (more_raws t (more_raws u (more_raws v ts))) s

table_noted : (p : Noted) (ss : List Symbol) → (all_noted p ss).0 ≡ all_entered p.0 ss
table_noted p [] = refl
table_noted p (s ∷ ss) = table_noted (note p s) ss

large_noted : (table : List Symbol) (large : Bool) (ss : List Symbol) → (all_noted (table, large) ss).1 ≡ (large || has_many_arguments ss)
large_noted table true [] = refl
large_noted table false [] = refl
large_noted table large (s ∷ ss) = large_noted (entered table s) (large || nat_lt MOST_ARGUMENTS s.arity) ss ∙ by large (nat_lt MOST_ARGUMENTS s.arity)
  where
    by : (a b : Bool) → ((a || b) || has_many_arguments ss) ≡ (a || (b || has_many_arguments ss))
    by true b = refl
    by false b = refl

-- whether a name and arity don't stand in a table, and whether a symbol has those of another
abbrev unknown : List Symbol → Symbol → Bool
unknown table x = is_none (number_of table x.name x.arity)

abbrev called : Symbol → Symbol → Bool
called s x = is_called s.name s.arity x

called_is : (s x : Symbol) → Decides (called s x) ((s.name ≡ x.name) × (s.arity ≡ x.arity))
called_is s x = Decides-and (bytes_eq s.name x.name) (s.arity == x.arity) (bytes_eq-Decides s.name x.name) (Decides-eqb s.arity x.arity)

called_back : (s x : Symbol) → called x s ≡ called s x
called_back s x = same_from_decides (called x s) (called s x) (called_is x s) (Decides-like (called s x) (λ p. (sym p.0, sym p.1)) (λ p. (sym p.0, sym p.1)) (called_is s x))

none_not : (o : Option ℕ) → is_none o ≡ not (is_some o)
none_not None = refl
none_not (Some n) = refl

unknown_any : (table : List Symbol) (x : Symbol) → unknown table x ≡ not (list_any (called x) table)
unknown_any table x = none_not (number_of table x.name x.arity) ∙ ap not (first_place-any (called x) table)

neither : (a b : Bool) → not (a || (b || false)) ≡ (not a && not b)
neither true b = refl
neither false true = refl
neither false false = refl

-- what stands behind one more symbol stood before it, or is that symbol
unknown_last : (table : List Symbol) (s x : Symbol) → unknown (table ++ s ∷ []) x ≡ (unknown table x && not (called s x))
unknown_last table s x =
    unknown_any (table ++ s ∷ []) x ∙ ap not (list_any-append (called x) table (s ∷ [])) ∙ neither (list_any (called x) table) (called x s) ∙
    (λ i. sym (unknown_any table x) i && not (called_back s x i))

unknown_still : (table : List Symbol) (s x : Symbol) → unknown table s ≡ false → unknown table x ≡ (unknown table x && not (called s x))
unknown_still table s x h = by (called s x) refl
  where
    whole : (b : Bool) → b ≡ (b && true)
    whole true = refl
    whole false = refl

    by : (b : Bool) → called s x ≡ b → unknown table x ≡ (unknown table x && not b)
    by false e = whole (unknown table x)
    by true e =
        let p = (called_is s x).0 e in
        let f : unknown table x ≡ false = (λ i. is_none (number_of table (sym p.0 i) (sym p.1 i))) ∙ h in
        f ∙ ap (λ (b : Bool). b && false) (sym f)

-- what passes two tests, one behind the other
pub filter_both : {X : Type 0} (p q r : X → Bool) (xs : List X) → ((x : X) → p x ≡ (q x && r x)) → filter p xs ≡ filter q (filter r xs)
filter_both p q r [] h = refl
filter_both {X} p q r (x ∷ xs) h = ap (λ (b : Bool). if b then x ∷ filter p xs else filter p xs) (h x) ∙ by (q x) (r x) (filter_both p q r xs h) ∙ last (r x)
  where
    last : (b : Bool) → (if b then (if q x then x ∷ filter q (filter r xs) else filter q (filter r xs)) else filter q (filter r xs)) ≡ filter q (if b then x ∷ filter r xs else filter r xs)
    last true = refl
    last false = refl

    by : (a b : Bool) → filter p xs ≡ filter q (filter r xs) → (if a && b then x ∷ filter p xs else filter p xs) ≡ (if b then (if a then x ∷ filter q (filter r xs) else filter q (filter r xs)) else filter q (filter r xs))
    by true true rest = ap (λ (l : List X). x ∷ l) rest
    by true false rest = rest
    by false true rest = rest
    by false false rest = rest

-- symbols that are entered stand behind the table, the first of each name and arity that wasn't there
pub entered_behind : (table ss : List Symbol) → all_entered table ss ≡ table ++ new_symbols table ss
entered_behind table [] = sym (append-nil table)
entered_behind table (s ∷ ss) = by (number_of table s.name s.arity) refl (λ t. entered_behind t ss)
  where
    firsts : List Symbol
    firsts = first_of_each ss

    others : List Symbol
    others = filter (λ t. not (called s t)) firsts

    Rest : Type 0
    Rest = (t : List Symbol) → all_entered t ss ≡ t ++ new_symbols t ss

    by : (o : Option ℕ) → number_of table s.name s.arity ≡ o → Rest → all_entered (entered table s) ss ≡ table ++ new_symbols table (s ∷ ss)
    by (Some n) e rest =
        let known : unknown table s ≡ false = ap is_none e in
        ap (λ (o : Option ℕ). all_entered (if is_some o then table else table ++ s ∷ []) ss) e ∙ rest table ∙
        ap (λ (l : List Symbol). table ++ l) (filter_both (unknown table) (unknown table) (λ t. not (called s t)) firsts (λ x. unknown_still table s x known) ∙
        ap (λ (b : Bool). if b then s ∷ filter (unknown table) others else filter (unknown table) others) (sym known))
    by None e rest =
        let fresh : unknown table s ≡ true = ap is_none e in
        ap (λ (o : Option ℕ). all_entered (if is_some o then table else table ++ s ∷ []) ss) e ∙ rest (table ++ s ∷ []) ∙
        append_assoc table (s ∷ []) (new_symbols (table ++ s ∷ []) ss) ∙
        ap (λ (l : List Symbol). table ++ l) (ap (λ (l : List Symbol). s ∷ l) (filter_both (unknown (table ++ s ∷ [])) (unknown table) (λ t. not (called s t)) firsts (λ x. unknown_last table s x)) ∙
        ap (λ (b : Bool). if b then s ∷ filter (unknown table) others else filter (unknown table) others) (sym fresh))

-- the symbols behind the reading of a formula
pub read_in_order : (st : Style) (table : List Symbol) (t : RawTree) → (formula_reading st table t).reading.symbols ≡ table ++ new_symbols table (occurring st [] t)
read_in_order st table t =
    let ss = occurring st [] t in
    ap (λ (p : Noted). p.0) (formula_noted st [] (unread table) t) ∙ table_noted (noted (unread table)) ss ∙ entered_behind table ss

-- an arity is too large where a symbol has so many arguments
pub read_large : (st : Style) (table : List Symbol) (t : RawTree) → (formula_reading st table t).reading.large ≡ has_many_arguments (occurring st [] t)
read_large st table t = ap (λ (p : Noted). p.1) (formula_noted st [] (unread table) t) ∙ large_noted table false (occurring st [] t)

-- and behind that of terms
pub terms_in_order : (st : Style) (table : List Symbol) (ts : RawTrees) → (terms_of st [] (unread table) ts).reading.symbols ≡ table ++ new_symbols table (symbols_of_terms st [] ts)
terms_in_order st table ts =
    let ss = symbols_of_terms st [] ts in
    ap (λ (p : Noted). p.0) (terms_noted st [] (unread table) ts) ∙ table_noted (noted (unread table)) ss ∙ entered_behind table ss

pub terms_large : (st : Style) (table : List Symbol) (ts : RawTrees) → (terms_of st [] (unread table) ts).reading.large ≡ has_many_arguments (symbols_of_terms st [] ts)
terms_large st table ts = ap (λ (p : Noted). p.1) (terms_noted st [] (unread table) ts) ∙ large_noted table false (symbols_of_terms st [] ts)

-- so are those that the code has
pub whole_in_order : {E : Type 0} (r : Result FormulaRead E) (st : Style) (table : List Symbol) (t : RawTree) (u : List Symbol) → IfOk r (λ f. IsWhole (formula_reading st table t) f u)
    → OnOk r (u ≡ table ++ new_symbols table (occurring st [] t))
whole_in_order (Ok f) st table t u h = h.symbols ∙ read_in_order st table t
whole_in_order (Err e) st table t u h = tt

pub whole_large : {E : Type 0} (r : Result FormulaRead E) (st : Style) (table : List Symbol) (t : RawTree) (u : List Symbol) → IfOk r (λ f. IsWhole (formula_reading st table t) f u)
    → IfOk r (λ f. f.large ≡ has_many_arguments (occurring st [] t))
whole_large (Ok f) st table t u h = h.large ∙ read_large st table t
whole_large (Err e) st table t u h = tt
