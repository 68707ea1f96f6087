-- Symbols that are entered one behind the other, until there are too many.
use Rattle.std.proofs.Common.{◌≡◌, ℕ, ◌+◌, ◌<◌, ◌≤◌, Bool, true, false, List, [], ◌∷◌, ◌++◌, length, drop, refl, sym, ap, ◌∙◌, subst, get_or, arith, inl, inr, Result, Ok, Err, Option, Some}
use Rattle.std.specs.Prelude.{◌||◌, is_some, nat_lt, IfOk}
use Rattle.std.proofs.lemmas.Bool.{cases_Bool, lt-ltb, ltb-true}
use Rattle.std.proofs.lemmas.List.{drop_more, drop_all, length-append}
use Rattle.fol_core.specs.RawTree.{RawTree, named, raws_of}
use Rattle.fol_core.specs.RawView.{raw_of, raw_list}
use Rattle.fol_core.specs.SymbolTable.{Symbol, symbol, number_of, entered}
use Rattle.fol_core.specs.declared.raw.Raw.{Raw}
use Rattle.fol_core.specs.declared.symbols.Kind.TheVariants.{Function}
use Rattle.ladr_lex.specs.declared.limits.TheConstants.{MOST_ARGUMENTS, MOST_SYMBOLS}
use Rattle.ladr_formulas.specs.Counting.{is_wide, are_wide, names_bound, all_entered, IsCounted}
use Rattle.ladr_formulas.specs.Formulas.{Style, Bound, arity_of, connective_of, formula_reading}
use Rattle.ladr_formulas.specs.Occurring.{symbols_of_term, symbols_of_terms, symbols_of_relation, symbols_compared, in_order, occurring}
use Rattle.ladr_formulas.specs.declared.connectives.Connective.{Connective}
use Rattle.ladr_formulas.specs.declared.connectives.Connective.TheVariants.{And, Or, IfThen, ThenIf, IfAndOnlyIf}
use Rattle.ladr_formulas.proofs.OrderLemmas.{entered_behind, read_in_order}
use Rattle.ladr_formulas.proofs.TermLemmas.{arity_is_length}

pub entered_on : (t xs ys : List Symbol) → all_entered t (xs ++ ys) ≡ all_entered (all_entered t xs) ys
entered_on t [] ys = refl
entered_on t (x ∷ xs) ys = entered_on (entered t x) xs ys

entered_longer : (t : List Symbol) (x : Symbol) → length t ≤ length (entered t x)
entered_longer t x =
    elim (cases_Bool (is_some (number_of t x.name x.arity))) [
      | inl y ↦ rw y (omega arith)
      | inr k ↦ rw k (omega (arith, length-append t (x ∷ [])))
    ]

pub longer : (t ss : List Symbol) → length t ≤ length (all_entered t ss)
longer t [] = omega arith
longer t (s ∷ ss) = omega (arith, entered_longer t s, longer (entered t s) ss)

-- what was counted, with what is counted behind it
pub counted_on : (a xs b ys c : List Symbol) (few : Bool) → IsCounted a xs b true → IsCounted b ys c few → IsCounted a (xs ++ ys) c few
counted_on a xs b ys c true h k = k ∙ ap (λ (t : List Symbol). all_entered t ys) h ∙ sym (entered_on a xs ys)
counted_on a xs b ys c false h k = subst (λ (t : List Symbol). MOST_SYMBOLS < length t) (ap (λ (t : List Symbol). all_entered t ys) h ∙ sym (entered_on a xs ys)) k

-- too many are too many, whatever is behind them
pub counted_over : (a xs ys : List Symbol) → MOST_SYMBOLS < length (all_entered a xs) → MOST_SYMBOLS < length (all_entered a (xs ++ ys))
counted_over a xs ys h = subst (λ (t : List Symbol). MOST_SYMBOLS < length t) (sym (entered_on a xs ys)) (omega (arith, h, longer (all_entered a xs) ys))

-- an application has its own symbol and those of its arguments
pub applied : (st : Style) (bound : List (List ℕ)) (name : List ℕ) (args : List RawTree) → 0 < length args →
    symbols_of_term st bound (named name (raws_of args)) ≡ symbol name (arity_of (raws_of args)) Function ∷ symbols_of_terms st bound (raws_of args)
applied st bound name [] h = absurd (omega arith)
applied st bound name (a ∷ others) h = refl

-- those of the arguments from one on, where that is counted
pub argument_here : (st : Style) (bound : List (List ℕ)) (arg : Raw) (args : List Raw) (i : ℕ) → i < length args → arg ≡ get_or args i arg →
    symbols_of_terms st bound (raws_of (raw_list (drop i args))) ≡ symbols_of_term st bound (raw_of arg) ++ symbols_of_terms st bound (raws_of (raw_list (drop (i + 1) args)))
argument_here st bound arg args i h e = ap (λ (l : List Raw). symbols_of_terms st bound (raws_of (raw_list l))) (drop_more args i arg h ∙ ap (λ (a : Raw). a ∷ drop (i + 1) args) (sym e))

-- whether one of the arguments from one on is wide
pub wide_here : (arg : Raw) (args : List Raw) (i : ℕ) → i < length args → arg ≡ get_or args i arg →
    are_wide (raws_of (raw_list (drop i args))) ≡ (is_wide (raw_of arg) || are_wide (raws_of (raw_list (drop (i + 1) args))))
wide_here arg args i h e = ap (λ (l : List Raw). are_wide (raws_of (raw_list l))) (drop_more args i arg h ∙ ap (λ (a : Raw). a ∷ drop (i + 1) args) (sym e))

-- where counting stops, it stops for what is counted further
pub stops_as : (a xs ys zs b : List Symbol) (few : Bool) → zs ≡ xs ++ ys → few ≡ false → IsCounted a xs b few → MOST_SYMBOLS < length (all_entered a zs)
stops_as a xs ys zs b true z e h = absurd (cc)
stops_as a xs ys zs b false z e h = subst (λ (ss : List Symbol). MOST_SYMBOLS < length (all_entered a ss)) (sym z) (counted_over a xs ys h)

pub goes_on_as : (a xs ys zs b c : List Symbol) (few more : Bool) → zs ≡ xs ++ ys → few ≡ true → IsCounted a xs b few → IsCounted b ys c more → IsCounted a zs c more
goes_on_as a xs ys zs b c true more z e h k = subst (λ (ss : List Symbol). IsCounted a ss c more) (sym z) (counted_on a xs b ys c more h k)
goes_on_as a xs ys zs b c false more z e h k = absurd (cc)

-- an application's symbol is entered, and of its arguments the symbols of those before `here`
pub loop_stops : (a head start items now x later here zs new : List Symbol) (first few : Bool) → zs ≡ head ++ items → first ≡ true → IsCounted a head start first →
    all_entered now here ≡ all_entered start items → here ≡ x ++ later → few ≡ false → IsCounted now x new few → MOST_SYMBOLS < length (all_entered a zs)
loop_stops a head start items now x later here zs new false few z n h i e f k = absurd (cc)
loop_stops a head start items now x later here zs new true few z n h i e f k =
    subst (λ (t : List Symbol). MOST_SYMBOLS < length t)
    (i ∙ ap (λ (t : List Symbol). all_entered t items) h ∙ sym (entered_on a head items) ∙ ap (all_entered a) (sym z))
    (stops_as now x later here new few e f k)

pub loop_goes_on : (start items now x later here new : List Symbol) (few : Bool) → all_entered now here ≡ all_entered start items → here ≡ x ++ later → few ≡ true →
    IsCounted now x new few → all_entered new later ≡ all_entered start items
loop_goes_on start items now x later here new false i e f k = absurd (cc)
loop_goes_on start items now x later here new true i e f k =
    ap (λ (t : List Symbol). all_entered t later) k ∙ sym (entered_on now x later) ∙ ap (all_entered now) (sym e) ∙ i

pub loop_ends : (a head start items now here zs : List Symbol) (first : Bool) → zs ≡ head ++ items → first ≡ true → IsCounted a head start first → here ≡ [] →
    all_entered now here ≡ all_entered start items → now ≡ all_entered a zs
loop_ends a head start items now here zs false z n h e i = absurd (cc)
loop_ends a head start items now here zs true z n h e i =
    ap (all_entered now) (sym e) ∙ i ∙ ap (λ (t : List Symbol). all_entered t items) h ∙ sym (entered_on a head items) ∙ ap (all_entered a) (sym z)

pub scope_kept : {X : Type 0} (few : Bool) (x y z : X) → few ≡ true → (few ≡ true → x ≡ y) → y ≡ z → x ≡ z
scope_kept few x y z e h f = h e ∙ f

-- no argument is left
pub none_left : (st : Style) (bound : List (List ℕ)) (args : List Raw) (i : ℕ) → length args ≤ i → symbols_of_terms st bound (raws_of (raw_list (drop i args))) ≡ []
none_left st bound args i h = ap (λ (l : List Raw). symbols_of_terms st bound (raws_of (raw_list l))) (drop_all i args h)

pub left_or : (b f : Bool) → b ≡ true → true ≡ (b || f)
left_or true f e = refl
left_or false f e = absurd (cc)

pub right_or : (b f : Bool) → b ≡ false → f ≡ (b || f)
right_or true f e = absurd (cc)
right_or false f e = refl

-- where two formulas or terms are counted one behind the other, the last answers for both
pub goes_on_ok : {E : Type 0} (a xs ys zs b c : List Symbol) (few : Bool) (r : Result Bool E) → zs ≡ xs ++ ys → few ≡ true → IsCounted a xs b few →
    IfOk r (λ more. IsCounted b ys c more) → IfOk r (λ more. IsCounted a zs c more)
goes_on_ok a xs ys zs b c few (Ok more) z e h k = goes_on_as a xs ys zs b c few more z e h k
goes_on_ok a xs ys zs b c few (Err e) z f h k = tt

pub scope_kept_ok : {X E : Type 0} (few : Bool) (r : Result Bool E) (x y z : X) → few ≡ true → (few ≡ true → y ≡ z) → IfOk r (λ more. more ≡ true → x ≡ y) →
    IfOk r (λ more. more ≡ true → x ≡ z)
scope_kept_ok few (Ok more) x y z e h k = λ f. k f ∙ h e
scope_kept_ok few (Err e) x y z f h k = tt

-- a name with many arguments is wide, whatever they are; another one where an argument is
pub wide_by_count : (name : List ℕ) (args : List RawTree) → MOST_ARGUMENTS < length args → true ≡ is_wide (named name (raws_of args))
wide_by_count name args h =
    sym (ap (λ (b : Bool). b || are_wide (raws_of args)) (ap (nat_lt MOST_ARGUMENTS) (arity_is_length args) ∙ lt-ltb MOST_ARGUMENTS (length args) h))

pub wide_by_argument : (name : List ℕ) (args : List RawTree) → true ≡ are_wide (raws_of args) → true ≡ is_wide (named name (raws_of args))
wide_by_argument name args h = by (nat_lt MOST_ARGUMENTS (arity_of (raws_of args))) ∙ ap (λ (b : Bool). nat_lt MOST_ARGUMENTS (arity_of (raws_of args)) || b) h
  where
    by : (b : Bool) → true ≡ (b || true)
    by true = refl
    by false = refl

pub narrow : (name : List ℕ) (args : List RawTree) → length args ≤ MOST_ARGUMENTS → false ≡ are_wide (raws_of args) → false ≡ is_wide (named name (raws_of args))
narrow name args h e =
    by (nat_lt MOST_ARGUMENTS (arity_of (raws_of args))) refl
  where
    by : (b : Bool) → nat_lt MOST_ARGUMENTS (arity_of (raws_of args)) ≡ b → false ≡ (b || are_wide (raws_of args))
    by true f = absurd (omega (arith, arity_is_length args, ltb-true MOST_ARGUMENTS (arity_of (raws_of args)) f))
    by false f = e

-- two formulas that a connective joins, in their order; else relations, but for denials
pub joined_here : (st : Style) (bound : List (List ℕ)) (name : List ℕ) (args : List RawTree) (t u : RawTree) (c : Connective) → args ≡ t ∷ u ∷ [] → connective_of name ≡ Some c → (c ≡ ThenIf → ⊥) →
    occurring st bound (named name (raws_of args)) ≡ occurring st bound t ++ occurring st bound u
joined_here st bound name args t u c e h n =
    let others = symbols_compared st bound name t u in
    ap (λ (l : List RawTree). occurring st bound (named name (raws_of l))) e ∙
    ap (λ (o : Option Connective). in_order o (occurring st bound t) (occurring st bound u) others) h ∙ by c n
  where
    by : (k : Connective) → (k ≡ ThenIf → ⊥) → in_order (Some k) (occurring st bound t) (occurring st bound u) (symbols_compared st bound name t u) ≡ occurring st bound t ++ occurring st bound u
    by And m = refl
    by Or m = refl
    by IfThen m = refl
    by ThenIf m = absurd (m refl)
    by IfAndOnlyIf m = refl

pub reversed_here : (st : Style) (bound : List (List ℕ)) (name : List ℕ) (args : List RawTree) (t u : RawTree) → args ≡ t ∷ u ∷ [] → connective_of name ≡ Some ThenIf →
    occurring st bound (named name (raws_of args)) ≡ occurring st bound u ++ occurring st bound t
reversed_here st bound name args t u e h =
    ap (λ (l : List RawTree). occurring st bound (named name (raws_of l))) e ∙
    ap (λ (o : Option Connective). in_order o (occurring st bound t) (occurring st bound u) (symbols_compared st bound name t u)) h

pub many_here : (st : Style) (bound : List (List ℕ)) (name : List ℕ) (args : List RawTree) → 3 ≤ length args →
    occurring st bound (named name (raws_of args)) ≡ symbols_of_relation st bound name (raws_of args)
many_here st bound name [] h = absurd (omega arith)
many_here st bound name (a ∷ []) h = absurd (omega arith)
many_here st bound name (a ∷ b ∷ []) h = absurd (omega arith)
many_here st bound name (a ∷ b ∷ c ∷ others) h = refl

pub same_counted : {E : Type 0} (a xs ys c : List Symbol) (r : Result Bool E) → xs ≡ ys → IfOk r (λ few. IsCounted a ys c few) → IfOk r (λ few. IsCounted a xs c few)
same_counted a xs ys c r e h = subst (λ (ss : List Symbol). IfOk r (λ few. IsCounted a ss c few)) (sym e) h

-- the symbols of a formula that were counted are those behind its reading
all_read : (st given : Style) (scope : List Bound) (table : List Symbol) (t : RawTree) → given ≡ st → scope ≡ [] →
    all_entered table (occurring given (names_bound scope) t) ≡ (formula_reading st table t).reading.symbols
all_read st given scope table t g s = (λ i. all_entered table (occurring (g i) (names_bound (s i)) t)) ∙ entered_behind table (occurring st [] t) ∙ sym (read_in_order st table t)

pub few_behind : (st given : Style) (scope : List Bound) (table after : List Symbol) (t : RawTree) (few : Bool) → given ≡ st → scope ≡ [] → few ≡ true →
    IsCounted table (occurring given (names_bound scope) t) after few → after ≡ (formula_reading st table t).reading.symbols
few_behind st given scope table after t true g s e h = h ∙ all_read st given scope table t g s
few_behind st given scope table after t false g s e h = absurd (cc)

pub many_behind : (st given : Style) (scope : List Bound) (table after : List Symbol) (t : RawTree) (few : Bool) → given ≡ st → scope ≡ [] → few ≡ false →
    IsCounted table (occurring given (names_bound scope) t) after few → MOST_SYMBOLS < length (formula_reading st table t).reading.symbols
many_behind st given scope table after t true g s e h = absurd (cc)
many_behind st given scope table after t false g s e h = subst (λ (u : List Symbol). MOST_SYMBOLS < length u) (all_read st given scope table t g s) h
