-- Skolem symbols are different from each other and from those of the problem.
use Rattle.std.proofs.Common.{◌≡◌, ◌⊎◌, inl, inr, ℕ, zero, suc, ◌+◌, ◌*◌, ◌^◌, ◌<◌, ◌≤◌, ◌==◌, Bool, true, false, if◌then◌else◌, IsTrue, List, [], ◌∷◌, ◌++◌, length, slice_index, Option, Some, None, is_some, unwrap_or, refl, sym, ap, ◌∙◌, subst, arith}
use Rattle.std.specs.Prelude.{slice_get}
use Rattle.std.specs.Fmt.{decimal}
use Rattle.std.specs.Str.{bytes_eq}
use Rattle.std.proofs.lemmas.Bool.{or_left, or_right, false≢true, true≢false, false_from_ne_true, ne_eqb, cases_lt}
use Rattle.std.proofs.lemmas.Nat.{mul-le}
use Rattle.std.proofs.lemmas.Slice.Eq.{bytes_eq-Decides}
use Rattle.fol_core.specs.Bound.{uses_symbol}
use Rattle.fol_core.specs.Fol.{Fol, verum, falsum, equal, atom, negation, conjunction, disjunction, implication, equivalence, forall, exists}
use Rattle.fol_core.specs.Free.{closure_of, free_vars_of}
use Rattle.fol_core.specs.Literals.{equality}
use Rattle.fol_problem.specs.Stated.{Said, AreWellFormed, AreNewTo}
use Rattle.fol_core.specs.SymbolTable.{Symbol, symbol, number_of, entered, KeepsNumbers}
use Rattle.fol_core.specs.Tree.{var}
use Rattle.fol_core.specs.SkolemAxioms.{SkolemAxiom, AreNotIn, IsApart, AreInOrder}
use Rattle.fol_problem.proofs.Soundness.{uses_closed}
use Rattle.fol_core.proofs.SymbolLemmas.{symbol_there, number_of_push}
use Rattle.clausify.specs.Input.{form, is_taken, all_arities, axioms_from}
use Rattle.clausify.specs.Names.{letter_numbered, is_named, free_from, next_free, next_name, next_constant, next_function, skolem_symbols, all_entered, entered_numbers, IsNewName}
use Rattle.clausify.specs.Skolem.{somes, arities, skolem_axioms}
use Rattle.clausify.proofs.FreeNames.{number_told, next_is_free, next_upto}
use Rattle.clausify.proofs.Bodies.{form_uses, axioms_many, many_in_two, around_none, IsAllowed, IsOrdered, ordered_two, ordered}
use Rattle.clausify.proofs.SkolemLemmas.{kept_through}
use Rattle.clausify.proofs.WholeLaws.{apart_of, free_of}

-- a symbol of this name stands under the number
abbrev Stands : List Symbol → ℕ → List ℕ → Type 0
Stands table n name = (s : Symbol) × ((slice_get table n ≡ Some s) × (s.name ≡ name))

some_same : {A : Type 0} (d x y : A) → Some x ≡ Some y → x ≡ y
some_same d x y e = ap (λ o. unwrap_or o d) e

one_name : (table : List Symbol) (n : ℕ) (x y : List ℕ) → Stands table n x → Stands table n y → x ≡ y
one_name table n x y h k = sym h.1.1 ∙ ap (λ (s : Symbol). s.name) (some_same h.0 h.0 k.0 (sym h.1.0 ∙ k.1.0)) ∙ k.1.1

at_end : (table : List Symbol) (s : Symbol) (n : ℕ) (t : Symbol) → slice_get table n ≡ Some t → slice_get (table ++ s ∷ []) n ≡ Some t
at_end [] s n t h = absurd (true≢false (sym (ap is_some h)))
at_end (r ∷ rs) s zero t h = h
at_end (r ∷ rs) s (suc n) t h = at_end rs s n t h

keeps_entered : (table : List Symbol) (s : Symbol) → KeepsNumbers table (entered table s)
keeps_entered table s = by (is_some (number_of table s.name s.arity))
  where
    by : (b : Bool) → KeepsNumbers table (if b then table else table ++ s ∷ [])
    by true = λ n t h. h
    by false = at_end table s

pub keeps_all : (table : List Symbol) (ss : List Symbol) → KeepsNumbers table (all_entered table ss)
keeps_all table [] = λ n t h. h
keeps_all table (s ∷ ss) = kept_through table (entered table s) (all_entered (entered table s) ss) (keeps_entered table s) (keeps_all (entered table s) ss)

-- a symbol that is entered stands under its number
entered_stands : (table : List Symbol) (s : Symbol) → Stands (entered table s) (unwrap_or (number_of (entered table s) s.name s.arity) 0) s.name
entered_stands table s = by (number_of table s.name s.arity) refl
  where
    after : Bool → List Symbol
    after b = if b then table else table ++ s ∷ []

    there : (t : List Symbol) (n : ℕ) → number_of t s.name s.arity ≡ Some n → Stands t (unwrap_or (number_of t s.name s.arity) 0) s.name
    there t n h = subst (λ (o : Option ℕ). Stands t (unwrap_or o 0) s.name) (sym h) (symbol s.name s.arity _, (symbol_there t s.name s.arity n h, refl))

    by : (o : Option ℕ) → number_of table s.name s.arity ≡ o → Stands (entered table s) (unwrap_or (number_of (entered table s) s.name s.arity) 0) s.name
    by (Some n) h =
        let same : entered table s ≡ table = ap (λ (o : Option ℕ). after (is_some o)) h in
        subst (λ (t : List Symbol). Stands t (unwrap_or (number_of t s.name s.arity) 0) s.name) (sym same) (there table n h)
    by None h =
        let same : entered table s ≡ table ++ s ∷ [] = ap (λ (o : Option ℕ). after (is_some o)) h in
        subst (λ (t : List Symbol). Stands t (unwrap_or (number_of t s.name s.arity) 0) s.name) (sym same) (there (table ++ s ∷ []) (length table) (number_of_push table s.name s.arity s.kind h))

-- each stands under its number
abbrev AllStand : List Symbol → List ℕ → List Symbol → Type 0
AllStand table [] ss = Unit {0}
AllStand table (n ∷ ns) [] = ⊥
AllStand table (n ∷ ns) (s ∷ ss) = Stands table n s.name × AllStand table ns ss

all_stand : (table : List Symbol) (ss : List Symbol) → AllStand (all_entered table ss) (entered_numbers table ss) ss
all_stand table [] = tt
all_stand table (s ∷ ss) =
    let first = entered_stands table s in
    ((first.0, (keeps_all (entered table s) ss _ first.0 first.1.0, first.1.1)), all_stand (entered table s) ss)

-- names behind the last numbers
abbrev pub IsAfter : ℕ → ℕ → List ℕ → Type 0
IsAfter c f name = ((n : ℕ) × ((name ≡ letter_numbered 99 n) × ((c < n) × (n < 10 ^ 64)))) ⊎ ((n : ℕ) × ((name ≡ letter_numbered 102 n) × ((f < n) × (n < 10 ^ 64))))

abbrev AllAfter : ℕ → ℕ → List Symbol → Type 0
AllAfter c f [] = Unit {0}
AllAfter c f (s ∷ ss) = IsAfter c f s.name × AllAfter c f ss

sooner : (c d f g : ℕ) (ss : List Symbol) → c ≤ d → f ≤ g → AllAfter d g ss → AllAfter c f ss
sooner c d f g [] a b h = tt
sooner c d f g (s ∷ ss) a b h = (elim h.0 [ inl i ↦ inl (i.0, (i.1.0, (omega (arith, i.1.1.0), i.1.1.1))) | inr i ↦ inr (i.0, (i.1.0, (omega (arith, i.1.1.0), i.1.1.1))) ], sooner c d f g ss a b h.1)

from_on : (table : List Symbol) (letter most n : ℕ) → n ≤ free_from table letter most n
from_on table letter zero n = omega arith
from_on table letter (suc most) n = by (is_named table (letter_numbered letter n)) (from_on table letter most (n + 1))
  where
    by : (b : Bool) → n + 1 ≤ free_from table letter most (n + 1) → n ≤ (if b then free_from table letter most (n + 1) else n)
    by true h = omega (arith, h)
    by false h = omega arith

free_after : (table : List Symbol) (letter n : ℕ) → n < next_free table letter n
free_after table letter n = omega (arith, from_on table letter (length table) (n + 1))

pub constant_after : (input : List Symbol) (c a : ℕ) → c ≤ next_constant input c a
constant_after input c a = by (a == 0)
  where
    by : (b : Bool) → c ≤ (if b then next_free input 99 c else c)
    by true = omega (arith, free_after input 99 c)
    by false = omega arith

pub function_after : (input : List Symbol) (f a : ℕ) → f ≤ next_function input f a
function_after input f a = by (a == 0)
  where
    by : (b : Bool) → f ≤ (if b then f else next_free input 102 f)
    by true = omega arith
    by false = omega (arith, free_after input 102 f)

-- the name of the next symbol is behind the last numbers, and those behind the next ones are others
pub name_after : (input : List Symbol) (c f a : ℕ) → next_constant input c a < 10 ^ 64 → next_function input f a < 10 ^ 64 → IsAfter c f (next_name input c f a)
name_after input c f a = by (a == 0)
  where
    by : (b : Bool) → (if b then next_free input 99 c else c) < 10 ^ 64 → (if b then f else next_free input 102 f) < 10 ^ 64
        → IsAfter c f (if b then letter_numbered 99 (next_free input 99 c) else letter_numbered 102 (next_free input 102 f))
    by true h k = inl (next_free input 99 c, (refl, (free_after input 99 c, h)))
    by false h k = inr (next_free input 102 f, (refl, (free_after input 102 f, k)))

-- the names of symbols with these arities are new, and their numbers have as many digits as are written
abbrev pub AreNames : List Symbol → ℕ → ℕ → List ℕ → Type 0
AreNames input c f [] = Unit {0}
AreNames input c f (a ∷ later) =
    IsNewName input (next_name input c f a) × (next_constant input c a < 10 ^ 64) × (next_function input f a < 10 ^ 64) × AreNames input (next_constant input c a) (next_function input f a) later

name_new : (input : List Symbol) (c f a : ℕ) → c + (length input + 1) < 10 ^ 64 → f + (length input + 1) < 10 ^ 64 → IsNewName input (next_name input c f a)
name_new input c f a h k = by (a == 0)
  where
    by : (b : Bool) → IsNewName input (if b then letter_numbered 99 (next_free input 99 c) else letter_numbered 102 (next_free input 102 f))
    by true = record { letter = 99; number = next_free input 99 c; skolem = inl refl; is = refl; few = omega (arith, h, next_upto input 99 c); free = next_is_free input 99 c (omega (arith, h)) }
    by false = record { letter = 102; number = next_free input 102 f; skolem = inr refl; is = refl; few = omega (arith, k, next_upto input 102 f); free = next_is_free input 102 f (omega (arith, k)) }

-- a symbol more takes no more numbers than the table is long, and one
constant_upto : (input : List Symbol) (c a : ℕ) → next_constant input c a ≤ c + (length input + 1)
constant_upto input c a = by (a == 0)
  where
    by : (b : Bool) → (if b then next_free input 99 c else c) ≤ c + (length input + 1)
    by true = next_upto input 99 c
    by false = omega arith

function_upto : (input : List Symbol) (f a : ℕ) → next_function input f a ≤ f + (length input + 1)
function_upto input f a = by (a == 0)
  where
    by : (b : Bool) → (if b then f else next_free input 102 f) ≤ f + (length input + 1)
    by true = omega arith
    by false = next_upto input 102 f

pub are_names : (input : List Symbol) (c f : ℕ) (later : List ℕ) → c + length later * (length input + 1) < 10 ^ 64 → f + length later * (length input + 1) < 10 ^ 64 → AreNames input c f later
are_names input c f [] h k = tt
are_names input c f (a ∷ later) h k =
    let d = constant_upto input c a in
    let g = function_upto input f a in (
      name_new input c f a (omega (arith, h)) (omega (arith, k)),
      omega (arith, h, d),
      omega (arith, k, g),
      are_names input (next_constant input c a) (next_function input f a) later (omega (arith, h, d)) (omega (arith, k, g)),
    )

names_after : (input : List Symbol) (c f : ℕ) (later : List ℕ) → AreNames input c f later → AllAfter c f (skolem_symbols input c f later)
names_after input c f [] h = tt
names_after input c f (a ∷ later) h = (
  name_after input c f a h.1 h.2,
  sooner c (next_constant input c a) f (next_function input f a) (skolem_symbols input (next_constant input c a) (next_function input f a) later) (constant_after input c a) (function_after input f a)
      (names_after input (next_constant input c a) (next_function input f a) later h.3),
)

first_of : (x y : ℕ) (xs ys : List ℕ) → x ∷ xs ≡ y ∷ ys → x ≡ y
first_of x y xs ys e = cc

pub other_name : (input : List Symbol) (c f a : ℕ) (name : List ℕ) → next_constant input c a < 10 ^ 64 → next_function input f a < 10 ^ 64
    → IsAfter (next_constant input c a) (next_function input f a) name → next_name input c f a ≡ name → ⊥
other_name input c f a name = by (a == 0)
  where
    by : (b : Bool) → (if b then next_free input 99 c else c) < 10 ^ 64 → (if b then f else next_free input 102 f) < 10 ^ 64
        → IsAfter (if b then next_free input 99 c else c) (if b then f else next_free input 102 f) name → (if b then letter_numbered 99 (next_free input 99 c) else letter_numbered 102 (next_free input 102 f)) ≡ name → ⊥
    by true h k (inl i) e = absurd (omega (arith, i.1.1.0, number_told 99 (next_free input 99 c) i.0 h i.1.1.1 (e ∙ i.1.0)))
    by true h k (inr i) e = absurd (omega (arith, first_of 99 102 (decimal (next_free input 99 c)) (decimal i.0) (e ∙ i.1.0)))
    by false h k (inl i) e = absurd (omega (arith, first_of 102 99 (decimal (next_free input 102 f)) (decimal i.0) (e ∙ i.1.0)))
    by false h k (inr i) e = absurd (omega (arith, i.1.1.0, number_told 102 (next_free input 102 f) i.0 k i.1.1.1 (e ∙ i.1.0)))

-- no name of the input stands under it
named_there : (input : List Symbol) (n : ℕ) (name : List ℕ) → Stands input n name → is_named input name ≡ true
named_there [] n name h = absurd (true≢false (sym (ap is_some h.1.0)))
named_there (s ∷ ss) zero name h =
    let same : s ≡ h.0 = some_same s s h.0 h.1.0 in
    or_left (bytes_eq name s.name) (is_named ss name) ((bytes_eq-Decides name s.name).1 (sym (ap (λ (t : Symbol). t.name) same ∙ h.1.1)))
named_there (s ∷ ss) (suc n) name h = or_right (bytes_eq name s.name) (is_named ss name) (named_there ss n name h)

some_symbol : (input : List Symbol) (n : ℕ) → n < length input → (s : Symbol) × (slice_get input n ≡ Some s)
some_symbol [] n h = absurd (omega arith)
some_symbol (s ∷ ss) zero h = (s, refl)
some_symbol (s ∷ ss) (suc n) h = some_symbol ss n (omega arith)

not_of_input : (input table : List Symbol) (n : ℕ) (name : List ℕ) → KeepsNumbers input table → Stands table n name → is_named input name ≡ false → length input ≤ n
not_of_input input table n name keeps h free = elim (cases_lt n (length input)) [
  | inl lt ↦ (
      let s = some_symbol input n lt in
      let same : s.0 ≡ h.0 = some_same s.0 s.0 h.0 (sym (keeps n s.0 s.1) ∙ h.1.0) in
      absurd (true≢false (sym (named_there input n name (s.0, (s.1, ap (λ (t : Symbol). t.name) same ∙ h.1.1))) ∙ free)))
  | inr le ↦ le
]

-- all numbers are from N on, and none stands twice
abbrev pub AreFresh : ℕ → List ℕ → Type 0
AreFresh N [] = Unit {0}
AreFresh N (n ∷ ns) = (N ≤ n) × ((j : ℕ) → j < length ns → n ≡ slice_index ns j → ⊥) × AreFresh N ns

apart_behind : (table : List Symbol) (c f n : ℕ) (name : List ℕ) (ns : List ℕ) (ss : List Symbol) → Stands table n name → ((other : List ℕ) → IsAfter c f other → name ≡ other → ⊥) → AllAfter c f ss
    → AllStand table ns ss → (j : ℕ) → j < length ns → n ≡ slice_index ns j → ⊥
apart_behind table c f n name [] ss h others after stand j l e = absurd (omega arith)
apart_behind table c f n name (m ∷ ns) [] h others after stand j l e = stand
apart_behind table c f n name (m ∷ ns) (s ∷ ss) h others after stand zero l e =
    others s.name after.0 (one_name table n name s.name h (subst (λ (k : ℕ). Stands table k s.name) (sym e) stand.0))
apart_behind table c f n name (m ∷ ns) (s ∷ ss) h others after stand (suc j) l e = apart_behind table c f n name ns ss h others after.1 stand.1 j (omega arith) e

fresh : (input table : List Symbol) (c f : ℕ) (later ns : List ℕ) → KeepsNumbers input table → AreNames input c f later → AllStand table ns (skolem_symbols input c f later) → AreFresh (length input) ns
fresh input table c f later [] keeps names stand = tt
fresh input table c f [] (n ∷ ns) keeps names stand = absurd stand
fresh input table c f (a ∷ later) (n ∷ ns) keeps names stand =
    let d = next_constant input c a in
    let g = next_function input f a in (
      not_of_input input table n (next_name input c f a) keeps stand.0 names.0.free,
      apart_behind table d g n (next_name input c f a) ns (skolem_symbols input d g later) stand.0 (λ other after e. other_name input c f a other names.1 names.2 after e) (names_after input d g later names.3) stand.1,
      fresh input table d g later ns keeps names.3 stand.1,
    )

pub numbers_fresh : (input table : List Symbol) (later : List ℕ) → KeepsNumbers input table → AreNames input 0 0 later → AreFresh (length input) (entered_numbers table (skolem_symbols input 0 0 later))
numbers_fresh input table later keeps names =
    let ss = skolem_symbols input 0 0 later in
    fresh input (all_entered table ss) 0 0 later (entered_numbers table ss) (kept_through input table (all_entered table ss) keeps (keeps_all table ss)) names (all_stand table ss)

-- two numbers of a list
fresh_at : (N : ℕ) (ns : List ℕ) → AreFresh N ns → (j : ℕ) → j < length ns → N ≤ slice_index ns j
fresh_at N [] h j l = absurd (omega arith)
fresh_at N (n ∷ ns) h zero l = h.0
fresh_at N (n ∷ ns) h (suc j) l = fresh_at N ns h.2 j (omega arith)

fresh_apart : (N : ℕ) (ns : List ℕ) → AreFresh N ns → (i j : ℕ) → i < j → j < length ns → slice_index ns i ≡ slice_index ns j → ⊥
fresh_apart N [] h i j l m e = absurd (omega arith)
fresh_apart N (n ∷ ns) h zero zero l m e = absurd (omega arith)
fresh_apart N (n ∷ ns) h zero (suc j) l m e = h.1 j (omega arith) e
fresh_apart N (n ∷ ns) h (suc i) zero l m e = absurd (omega arith)
fresh_apart N (n ∷ ns) h (suc i) (suc j) l m e = fresh_apart N ns h.2 i j (omega arith) (omega arith) e

module _ (N : ℕ) (S : List ℕ) (is_fresh : AreFresh N S) where
  not_in : (k : ℕ) (f : Fol) (ws : List SkolemAxiom) (l : ℕ) → ((s : ℕ) → IsTrue (uses_symbol s f) → IsAllowed N S k s) → k ≤ l → l + length ws ≤ length S → IsOrdered N S l ws → AreNotIn ws f
  not_in k f [] l allowed le many h = tt
  not_in k f (w ∷ ws) l allowed le many h = (false_from_ne_true (uses_symbol w.symbol f) (λ i. by (allowed w.symbol i)), not_in k f ws (suc l) allowed (omega arith) (omega arith) h.3)
    where
      by : IsAllowed N S k w.symbol → ⊥
      by (inl i) = absurd (omega (arith, h.0, fresh_at N S is_fresh l (omega arith)))
      by (inr i) = fresh_apart N S is_fresh i.0 l (omega (arith, i.1.0)) (omega arith) (sym i.1.1 ∙ h.0)

  apart_from : (k : ℕ) (ws : List SkolemAxiom) (l : ℕ) → k < l → l + length ws ≤ length S → IsOrdered N S l ws → IsApart (slice_index S k) ws
  apart_from k [] l lt many h = tt
  apart_from k (w ∷ ws) l lt many h = (ne_eqb w.symbol (slice_index S k) (λ e. fresh_apart N S is_fresh k l lt (omega arith) (sym e ∙ h.0)), apart_from k ws (suc l) (omega arith) (omega arith) h.3)

  pub in_order : (k : ℕ) (ws : List SkolemAxiom) → k + length ws ≤ length S → IsOrdered N S k ws → AreInOrder ws
  in_order k [] many h = tt
  in_order k (w ∷ ws) many h = (
    h.2,
    not_in k w.body (w ∷ ws) k h.1 (omega arith) many h,
    subst (λ (s : ℕ). IsApart s ws) (sym h.0) (apart_from k ws (suc k) (omega arith) (omega arith) h.3),
    in_order (suc k) ws (omega arith) h.3,
  )

  pub new_to : (ss : List Said) (ws : List SkolemAxiom) → AreWellFormed N ss → length ws ≤ length S → IsOrdered N S 0 ws → AreNewTo ss ws
  new_to [] ws well_formed many h = tt
  new_to (s ∷ ss) ws well_formed many h = (not_in 0 s.formula ws 0 (λ n i. inl (well_formed.1 n i)) (omega arith) (omega arith) h, new_to ss ws well_formed.2 many h)

-- the witnesses of all formulas
from_ordered : (N : ℕ) (S : List ℕ) (k : ℕ) (ss : List Said) → N ≤ equality → AreWellFormed N ss → IsOrdered N S k (axioms_from S k ss)
from_ordered N S k [] le well_formed = tt
from_ordered N S k (s ∷ ss) le well_formed =
    let f = form s in
    ordered_two N S k (k + somes f) (skolem_axioms S k [] var f) (axioms_from S (k + somes f) ss) (omega (arith, axioms_many S k [] var f))
    (ordered N S f (λ y. false) k [] var (apart_of (is_taken s.role) s.formula well_formed.0 (λ n i. let lt = well_formed.1 n i in omega arith)) (free_of (is_taken s.role) s.formula) around_none
    (λ y n i. absurd (false≢true i)) (λ n i. well_formed.1 n (sym (uses_closed n (free_vars_of s.formula) s.formula) ∙ form_uses (is_taken s.role) (closure_of s.formula) n i)))
    (from_ordered N S (k + somes f) ss le well_formed.2)

arities_many : (n : ℕ) (f : Fol) → length (arities n f) ≡ somes f
arities_many n verum = refl
arities_many n falsum = refl
arities_many n (equal s t) = refl
arities_many n (atom r ts) = refl
arities_many n (negation f) = refl
arities_many n (implication f g) = refl
arities_many n (equivalence f g) = refl
arities_many n (conjunction f g) = omega (arith, many_in_two (arities n f) (arities n g), arities_many n f, arities_many n g)
arities_many n (disjunction f g) = omega (arith, many_in_two (arities n f) (arities n g), arities_many n f, arities_many n g)
arities_many n (forall x f) = arities_many (n + 1) f
arities_many n (exists x f) = omega (arith, arities_many n f)

pub from_many : (S : List ℕ) (k : ℕ) (ss : List Said) → length (axioms_from S k ss) ≡ length (all_arities ss)
from_many S k [] = refl
from_many S k (s ∷ ss) =
    omega (
      arith,
      many_in_two (skolem_axioms S k [] var (form s)) (axioms_from S (k + somes (form s)) ss),
      many_in_two (arities 0 (form s)) (all_arities ss),
      axioms_many S k [] var (form s),
      arities_many 0 (form s),
      from_many S (k + somes (form s)) ss,
    )

pub symbols_many : (input : List Symbol) (c f : ℕ) (later : List ℕ) → length (skolem_symbols input c f later) ≡ length later
symbols_many input c f [] = refl
symbols_many input c f (a ∷ later) = omega (arith, symbols_many input (next_constant input c a) (next_function input f a) later)

pub numbers_many : (table ss : List Symbol) → length (entered_numbers table ss) ≡ length ss
numbers_many table [] = refl
numbers_many table (s ∷ ss) = omega (arith, numbers_many (entered table s) ss)

-- what is to be shown of all: they stand in an order to be filled in, and none is a symbol of the formulas
pub all_in_order : (input table : List Symbol) (ss : List Said) → length input ≤ equality → AreWellFormed (length input) ss → KeepsNumbers input table
    → length (axioms_from (entered_numbers table (skolem_symbols input 0 0 (all_arities ss))) 0 ss) ≤ equality
    → AreInOrder (axioms_from (entered_numbers table (skolem_symbols input 0 0 (all_arities ss))) 0 ss) × AreNewTo ss (axioms_from (entered_numbers table (skolem_symbols input 0 0 (all_arities ss))) 0 ss)
all_in_order input table ss le well_formed keeps few =
    let later = all_arities ss in
    let S = entered_numbers table (skolem_symbols input 0 0 later) in
    let ws = axioms_from S 0 ss in
    let as_many = from_many S 0 ss in
    let below = mul-le (length later) (length input + 1) equality (equality + 1) (omega (arith, few, as_many)) (omega (arith, le)) in
    let is_fresh = numbers_fresh input table later keeps (are_names input 0 0 later (omega (arith, below)) (omega (arith, below))) in
    let h = from_ordered (length input) S 0 ss le well_formed in
    let many : length ws ≤ length S = omega (arith, as_many, numbers_many table (skolem_symbols input 0 0 later), symbols_many input 0 0 later) in
    (in_order (length input) S is_fresh 0 ws (omega (arith, many)) h, new_to (length input) S is_fresh ss ws well_formed many h)
