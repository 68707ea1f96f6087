-- Each quantifier of a formula that is read brings a variable of its own, and no free variable is one of these.
use Rattle.std.proofs.Common.{◌≡◌, inl, inr, ℕ, zero, suc, ◌+◌, ◌<◌, ◌≤◌, ◌==◌, Bool, true, false, ◌||◌, ◌&&◌, if◌then◌else◌, IsTrue, List, [], ◌∷◌, ◌++◌, length, Option, Some, None, is_some, unwrap_or, refl, sym, ap, ◌∙◌, subst, arith}
use Rattle.std.proofs.lemmas.Bool.{or_left, or_right, or_cases, eq-eqb, false≢true, true≢false}
use Rattle.std.specs.Str.{bytes_eq}
use Rattle.std.specs.Prelude.{codes}
use Rattle.std.proofs.lemmas.Option.{slice_get_within}
use Rattle.fol_core.specs.SymbolTable.{Symbol, symbol, number_of, entered, is_clash}
use Rattle.fol_core.specs.declared.symbols.Kind.{Kind}
use Rattle.fol_core.proofs.SymbolLemmas.{symbol_there, number_of_push}
use Rattle.ladr_lex.specs.declared.misuse.Misuse.{Misuse}
use Rattle.ladr_lex.specs.declared.misuse.Misuse.TheVariants.{TwoKinds, UnfitAttribute}
use Rattle.ladr_formulas.specs.Formulas.{Variable, Reading, Bound, Style, Made, meets, bound_number, free_number, with_variable, reading_with_name, variable_number, is_variable, named_variable, with_symbol, symbol_number}

-- whether a variable is free
abbrev pub is_free : List Variable → ℕ → Bool
is_free [] x = false
is_free (v ∷ vs) zero = v.free
is_free (v ∷ vs) (suc x) = is_free vs x

-- whether a quantifier around binds it
abbrev pub is_bound : ℕ → List Bound → Bool
is_bound x [] = false
is_bound x (b ∷ bs) = x == b.number || is_bound x bs

is_free_more : (vs : List Variable) (v : Variable) (x : ℕ) → x < length vs → is_free (vs ++ v ∷ []) x ≡ is_free vs x
is_free_more [] v x h = absurd (omega arith)
is_free_more (w ∷ vs) v zero h = refl
is_free_more (w ∷ vs) v (suc x) h = is_free_more vs v x (omega arith)

pub is_free_last : (vs : List Variable) (v : Variable) → is_free (vs ++ v ∷ []) (length vs) ≡ v.free
is_free_last [] v = refl
is_free_last (w ∷ vs) v = is_free_last vs v

is_free_within : (vs : List Variable) (x : ℕ) → IsTrue (is_free vs x) → x < length vs
is_free_within [] x h = absurd (false≢true h)
is_free_within (v ∷ vs) zero h = omega arith
is_free_within (v ∷ vs) (suc x) h = omega (arith, is_free_within vs x h)

-- what reading on leaves as it was
pub record Grows (s u : Reading) : Type 0 where
  pub table : length s.symbols ≤ length u.symbols
  pub count : length s.variables ≤ length u.variables
  pub flags : (x : ℕ) → x < length s.variables → is_free u.variables x ≡ is_free s.variables x
  pub least : u.least ≡ None → s.least ≡ None

pub grows_not : (s : Reading) → Grows s s
grows_not s = record { table = omega arith; count = omega arith; flags = λ x h. refl; least = λ e. e }

pub grows_on : (s t u : Reading) → Grows s t → Grows t u → Grows s u
grows_on s t u g h = record {
  table = omega (arith, g.table, h.table);
  count = omega (arith, g.count, h.count);
  flags = λ x i. h.flags x (omega (arith, g.count, i)) ∙ g.flags x i;
  least = λ e. g.least (h.least e);
}

-- a free variable stays free
pub free_still : (s u : Reading) → Grows s u → (x : ℕ) → IsTrue (is_free s.variables x) → IsTrue (is_free u.variables x)
free_still s u g x h = g.flags x (is_free_within s.variables x h) ∙ h

some_not_none : {A : Type 0} (n : A) → Some n ≡ None → ⊥
some_not_none n e = true≢false (ap is_some e)

pub grows_met : (test : Bool) (row : Misuse) (s : Reading) → Grows s (meets test row s)
grows_met true row s = record { table = omega arith; count = omega arith; flags = λ x h. refl; least = λ e. absurd (some_not_none _ e) }
grows_met false row s = grows_not s

-- where a row of misuse is met there is a least one
pub met : (row : Misuse) (s : Reading) → (meets true row s).least ≡ None → ⊥
met row s e = some_not_none _ e

pub count_variable : (vs : List Variable) (v : Variable) → length (vs ++ v ∷ []) ≡ suc (length vs)
count_variable [] v = refl
count_variable (w ∷ vs) v = ap suc (count_variable vs v)

pub grows_variable : (name : List ℕ) (free : Bool) (s : Reading) → Grows s (with_variable name free s)
grows_variable name free s = record {
  table = omega arith;
  count = omega (arith, count_variable s.variables (record { name = name; free = free }));
  flags = is_free_more s.variables (record { name = name; free = free });
  least = λ e. e;
}

entered_longer : (table : List Symbol) (t : Symbol) → length table ≤ length (entered table t)
entered_longer table t = by (is_some (number_of table t.name t.arity))
  where
    longer : (ss : List Symbol) → length ss ≤ length (ss ++ t ∷ [])
    longer [] = omega arith
    longer (s ∷ ss) = omega (arith, longer ss)

    by : (b : Bool) → length table ≤ length (if b then table else table ++ t ∷ [])
    by true = omega arith
    by false = longer table

pub grows_symbol : (name : List ℕ) (arity : ℕ) (kind : Kind) (s : Reading) → Grows s (with_symbol name arity kind s)
grows_symbol name arity kind s =
    let clash = meets (is_clash s.symbols (symbol name arity kind)) TwoKinds s in
    let g = grows_on s clash (meets (bytes_eq name (codes "#")) UnfitAttribute clash) (grows_met (is_clash s.symbols (symbol name arity kind)) TwoKinds s) (grows_met (bytes_eq name (codes "#")) UnfitAttribute clash) in
    record { table = entered_longer s.symbols (symbol name arity kind); count = g.count; flags = g.flags; least = g.least }

-- a symbol that was entered has a number of the table
pub number_below : (name : List ℕ) (arity : ℕ) (kind : Kind) (s : Reading) → symbol_number name arity (with_symbol name arity kind s) < length (with_symbol name arity kind s).symbols
number_below name arity kind s = by (number_of s.symbols name arity) refl
  where
    after : Bool → List Symbol
    after b = if b then s.symbols else s.symbols ++ symbol name arity kind ∷ []

    longer : (ss : List Symbol) (t : Symbol) → length (ss ++ t ∷ []) ≡ suc (length ss)
    longer [] t = refl
    longer (u ∷ ss) t = ap suc (longer ss t)

    by : (o : Option ℕ) → number_of s.symbols name arity ≡ o → unwrap_or (number_of (entered s.symbols (symbol name arity kind)) name arity) 0 < length (entered s.symbols (symbol name arity kind))
    by (Some n) h =
        let same : entered s.symbols (symbol name arity kind) ≡ s.symbols = ap (λ (o : Option ℕ). after (is_some o)) h in
        subst (λ (t : List Symbol). unwrap_or (number_of t name arity) 0 < length t) (sym same)
        (subst (λ (o : Option ℕ). unwrap_or o 0 < length s.symbols) (sym h) (slice_get_within s.symbols n _ (symbol_there s.symbols name arity n h)))
    by None h =
        let same : entered s.symbols (symbol name arity kind) ≡ s.symbols ++ symbol name arity kind ∷ [] = ap (λ (o : Option ℕ). after (is_some o)) h in
        subst (λ (t : List Symbol). unwrap_or (number_of t name arity) 0 < length t) (sym same)
        (subst (λ (o : Option ℕ). unwrap_or o 0 < length (s.symbols ++ symbol name arity kind ∷ [])) (sym (number_of_push s.symbols name arity kind h))
        (omega (arith, longer s.symbols (symbol name arity kind))))

-- what a variable may be: free, or bound around
abbrev pub IsKnown : Reading → List Bound → ℕ → Type 0
IsKnown u scope x = IsTrue (is_free u.variables x || is_bound x scope)

pub known_still : (s u : Reading) (scope : List Bound) (x : ℕ) → Grows s u → IsKnown s scope x → IsKnown u scope x
known_still s u scope x g h = elim (or_cases (is_free s.variables x) (is_bound x scope) h) [
  | inl i ↦ or_left (is_free u.variables x) (is_bound x scope) (free_still s u g x i)
  | inr i ↦ or_right (is_free u.variables x) (is_bound x scope) i
]

bound_there : (scope : List Bound) (name : List ℕ) (n : ℕ) → bound_number scope name ≡ Some n → IsTrue (is_bound n scope)
bound_there [] name n h = absurd (some_not_none n (sym h))
bound_there (b ∷ bs) name n h = by (bytes_eq b.name name) (bound_there bs name n) h
  where
    own : (m : ℕ) → Some b.number ≡ Some m → IsTrue (m == b.number)
    own m e = subst (λ (o : Option ℕ). IsTrue (unwrap_or o 0 == b.number)) e (eq-eqb b.number b.number refl)

    by : (t : Bool) → (bound_number bs name ≡ Some n → IsTrue (is_bound n bs)) → (if t then Some b.number else bound_number bs name) ≡ Some n → IsTrue (n == b.number || is_bound n bs)
    by true rest e = or_left (n == b.number) (is_bound n bs) (own n e)
    by false rest e = or_right (n == b.number) (is_bound n bs) (rest e)

-- the number that is found for a free variable is one from n on
free_there : (n : ℕ) (vs : List Variable) (name : List ℕ) (k : ℕ) → free_number n vs name ≡ Some k → (j : ℕ) × (k ≡ n + j) × IsTrue (is_free vs j)
free_there n [] name k h = absurd (some_not_none k (sym h))
free_there n (v ∷ vs) name k h = by v.free (bytes_eq v.name name) refl (free_there (suc n) vs name k) h
  where
    Rest : Type 0
    Rest = free_number (suc n) vs name ≡ Some k → (j : ℕ) × (k ≡ suc n + j) × IsTrue (is_free vs j)

    next : ((j : ℕ) × (k ≡ suc n + j) × IsTrue (is_free vs j)) → (j : ℕ) × (k ≡ n + j) × IsTrue (is_free (v ∷ vs) j)
    next p = (suc p.0, omega (arith, p.1), p.2)

    by : (free named : Bool) → v.free ≡ free → Rest → (if free && named then Some n else free_number (suc n) vs name) ≡ Some k → (j : ℕ) × (k ≡ n + j) × IsTrue (is_free (v ∷ vs) j)
    by true true f rest e = (0, omega (arith, ap (λ (o : Option ℕ). unwrap_or o 0) e), f)
    by true false f rest e = next (rest e)
    by false true f rest e = next (rest e)
    by false false f rest e = next (rest e)

-- the number of a variable's name is that of a known one
pub record VariableGood (scope : List Bound) (s : Reading) (m : Made (Option ℕ)) : Type 0 where
  pub grows : Grows s m.reading
  pub known : (n : ℕ) → m.tree ≡ Some n → IsKnown m.reading scope n

some_same : (m n : ℕ) → Some m ≡ Some n → m ≡ n
some_same m n e = ap (λ (o : Option ℕ). unwrap_or o 0) e

number_known : (scope : List Bound) (name : List ℕ) (s : Reading) → Grows s (reading_with_name scope name s) × IsKnown (reading_with_name scope name s) scope (variable_number scope name s)
number_known scope name s = by (bound_number scope name) (free_number 0 s.variables name) refl refl
  where
    after : Option ℕ → Option ℕ → Reading
    after o p = if is_some o || is_some p then s else with_variable name true s

    number : Option ℕ → Option ℕ → ℕ
    number o p = unwrap_or o (unwrap_or p (length s.variables))

    by : (o p : Option ℕ) → bound_number scope name ≡ o → free_number 0 s.variables name ≡ p → Grows s (after o p) × IsKnown (after o p) scope (number o p)
    by (Some n) p e f = (grows_not s, or_right (is_free s.variables n) (is_bound n scope) (bound_there scope name n e))
    by None (Some n) e f =
        let there = free_there 0 s.variables name n f in
        (grows_not s, or_left (is_free s.variables n) (is_bound n scope) (subst (λ (k : ℕ). IsTrue (is_free s.variables k)) (omega (arith, there.1)) there.2))
    by None None e f =
        (grows_variable name true s, or_left (is_free (s.variables ++ record { name = name; free = true } ∷ []) (length s.variables)) (is_bound (length s.variables) scope) (is_free_last s.variables (record { name = name; free = true })))

pub variable_good : (st : Style) (scope : List Bound) (name : List ℕ) (s : Reading) → VariableGood scope s (named_variable st scope name s)
unfolding named_variable
variable_good st scope name s = by (is_variable st scope name)
  where
    known : Grows s (reading_with_name scope name s) × IsKnown (reading_with_name scope name s) scope (variable_number scope name s)
    known = number_known scope name s

    by : (b : Bool) → VariableGood scope s (if b then record { tree = Some (variable_number scope name s); reading = reading_with_name scope name s } else record { tree = None; reading = s })
    by true = record { grows = known.0; known = λ n e. subst (λ (k : ℕ). IsKnown (reading_with_name scope name s) scope k) (some_same _ n e) known.1 }
    by false = record { grows = grows_not s; known = λ n e. absurd (some_not_none n (sym e)) }
