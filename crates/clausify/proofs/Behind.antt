-- The Skolem symbols of a problem stand behind its own.
use Rattle.std.proofs.Common.{◌≡◌, inl, inr, ℕ, zero, suc, ◌+◌, ◌^◌, ◌<◌, ◌≤◌, ◌==◌, ◌&&◌, Bool, true, false, if◌then◌else◌, List, [], ◌∷◌, ◌++◌, length, slice_index, Option, Some, None, is_some, unwrap_or, refl, sym, ap, ◌∙◌, subst, append_assoc, append-nil, arith}
use Rattle.std.specs.List.{AllByRecursion}
use Rattle.std.specs.Option.{option_map}
use Rattle.std.specs.Str.{bytes_eq}
use Rattle.std.proofs.lemmas.Bool.{or_parts, or_from, false_from_ne_true}
use Rattle.std.proofs.lemmas.List.Folds.{list_any-append}
use Rattle.std.proofs.lemmas.Nat.{mul-le}
use Rattle.std.proofs.lemmas.Slice.Eq.{bytes_eq-Decides}
use Rattle.fol_core.specs.Fol.{Fol, verum, falsum, equal, atom, negation, conjunction, disjunction, implication, equivalence, forall, exists}
use Rattle.fol_core.specs.Literals.{equality}
use Rattle.fol_core.specs.SkolemAxioms.{SkolemAxiom}
use Rattle.fol_problem.specs.Stated.{Said, Stated}
use Rattle.fol_core.specs.Substitutions.{Substitution, with_term}
use Rattle.fol_core.specs.SymbolTable.{Symbol, symbol, number_of, entered, FindsEach}
use Rattle.fol_core.specs.Tree.{var}
use Rattle.fol_core.specs.declared.symbols.Kind.TheVariants.{Function}
use Rattle.fol_core.proofs.SymbolLemmas.{FindsEach-push, number_of_push}
use Rattle.clausify.specs.Behind.{AreFor, HasOwnName, StandBehind}
use Rattle.clausify.specs.Input.{form, all_arities, skolems, axioms_from}
use Rattle.clausify.specs.Names.{is_named, next_name, next_constant, next_function, skolem_symbols, all_entered, entered_numbers}
use Rattle.clausify.specs.Skolem.{somes, arities, skolem_axioms, skolem_term}
use Rattle.clausify.proofs.Bodies.{axioms_many, many_in_two}
use Rattle.clausify.proofs.Fresh.{IsAfter, AreNames, are_names, name_after, other_name, constant_after, function_after, from_many, symbols_many, numbers_many}

-- each of the witnesses, from place k on, has the symbol of its place and so many variables
abbrev Fit : List ℕ → ℕ → List ℕ → List SkolemAxiom → Type 0
Fit S k [] [] = Unit {0}
Fit S k [] (w ∷ ws) = ⊥
Fit S k (a ∷ later) [] = ⊥
Fit S k (a ∷ later) (w ∷ ws) = (w.symbol ≡ slice_index S k) × (length w.variables ≡ a) × Fit S (suc k) later ws

fit_two : (S : List ℕ) (k l : ℕ) (xs ys : List ℕ) (us ws : List SkolemAxiom) → l ≡ k + length us → Fit S k xs us → Fit S l ys ws → Fit S k (xs ++ ys) (us ++ ws)
fit_two S k l [] ys [] ws e h i = subst (λ (n : ℕ). Fit S n ys ws) (omega (arith, e)) i
fit_two S k l [] ys (u ∷ us) ws e h i = absurd h
fit_two S k l (x ∷ xs) ys [] ws e h i = absurd h
fit_two S k l (x ∷ xs) ys (u ∷ us) ws e h i = (h.0, h.1, fit_two S (suc k) l xs ys us ws (omega (arith, e)) h.2 i)

form_fit : (S : List ℕ) (f : Fol) (n k : ℕ) (scope : List ℕ) (terms : Substitution) → n ≡ length scope → Fit S k (arities n f) (skolem_axioms S k scope terms f)
form_fit S verum n k scope terms e = tt
form_fit S falsum n k scope terms e = tt
form_fit S (equal s t) n k scope terms e = tt
form_fit S (atom r ts) n k scope terms e = tt
form_fit S (negation f) n k scope terms e = tt
form_fit S (implication f g) n k scope terms e = tt
form_fit S (equivalence f g) n k scope terms e = tt
form_fit S (conjunction f g) n k scope terms e =
    fit_two S k (k + somes f) (arities n f) (arities n g) (skolem_axioms S k scope terms f) (skolem_axioms S (k + somes f) scope terms g) (omega (arith, axioms_many S k scope terms f)) (form_fit S f n k scope terms e) (form_fit S g n (k + somes f) scope terms e)
form_fit S (disjunction f g) n k scope terms e =
    fit_two S k (k + somes f) (arities n f) (arities n g) (skolem_axioms S k scope terms f) (skolem_axioms S (k + somes f) scope terms g) (omega (arith, axioms_many S k scope terms f)) (form_fit S f n k scope terms e) (form_fit S g n (k + somes f) scope terms e)
form_fit S (forall x f) n k scope terms e = form_fit S f (n + 1) k (scope ++ x ∷ []) terms (omega (arith, e, many_in_two scope (x ∷ [])))
form_fit S (exists y f) n k scope terms e =
    let next = with_term terms y (skolem_term (slice_index S k) scope) in
    (refl, sym e, subst (λ (m : ℕ). Fit S m (arities n f) (skolem_axioms S (k + 1) scope next f)) (omega arith) (form_fit S f n (k + 1) scope next e))

all_fit : (S : List ℕ) (k : ℕ) (ss : List Said) → Fit S k (all_arities ss) (axioms_from S k ss)
all_fit S k [] = tt
all_fit S k (s ∷ ss) =
    let f = form s in
    fit_two S k (k + somes f) (arities 0 f) (all_arities ss) (skolem_axioms S k [] var f) (axioms_from S (k + somes f) ss) (omega (arith, axioms_many S k [] var f)) (form_fit S f 0 k [] var refl) (all_fit S (k + somes f) ss)

-- numbers that are n and those behind it
abbrev Counts : ℕ → List ℕ → Type 0
Counts n [] = Unit {0}
Counts n (m ∷ ms) = (m ≡ n) × Counts (suc n) ms

counted : (n : ℕ) (ms : List ℕ) (k : ℕ) → Counts n ms → k < length ms → slice_index ms k ≡ n + k
counted n [] k h l = absurd (omega arith)
counted n (m ∷ ms) zero h l = omega (arith, h.0)
counted n (m ∷ ms) (suc k) h l = omega (arith, counted (suc n) ms k h.1 (omega arith))

for_all : (input : List Symbol) (S : List ℕ) (N c f k : ℕ) (later : List ℕ) (ws : List SkolemAxiom) → Counts N S → k + length later ≤ length S → Fit S k later ws → AreFor (N + k) (skolem_symbols input c f later) ws
for_all input S N c f k [] [] counts most h = tt
for_all input S N c f k [] (w ∷ ws) counts most h = absurd h
for_all input S N c f k (a ∷ later) [] counts most h = absurd h
for_all input S N c f k (a ∷ later) (w ∷ ws) counts most h = (
  h.0 ∙ counted N S k counts (omega (arith, most)),
  refl,
  h.1,
  subst (λ (n : ℕ). AreFor n (skolem_symbols input (next_constant input c a) (next_function input f a) later) ws) (omega arith)
      (for_all input S N (next_constant input c a) (next_function input f a) (suc k) later ws counts (omega (arith, most)) h.2),
)

-- a name that no symbol has stands under no number
unnamed : (table : List Symbol) (name : List ℕ) (arity : ℕ) → is_named table name ≡ false → number_of table name arity ≡ None
unnamed [] name arity h = refl
unnamed (s ∷ ss) name arity h =
    let parts = or_parts (bytes_eq name s.name) (is_named ss name) h in
    by (bytes_eq name s.name) (arity == s.arity) (number_of ss name arity) parts.0 (unnamed ss name arity parts.1)
  where
    by : (a b : Bool) (o : Option ℕ) → a ≡ false → o ≡ None → (if a && b then Some 0 else option_map suc o) ≡ None
    by true b o e none = cc
    by false b None e none = refl
    by false b (Some n) e none = cc

-- no name of the table is a new one behind the last numbers
abbrev IsFree : List Symbol → List Symbol → ℕ → ℕ → Type 0
IsFree input table c f = (name : List ℕ) → IsAfter c f name → is_named input name ≡ false → is_named table name ≡ false

later_after : (c d f g : ℕ) (name : List ℕ) → c ≤ d → f ≤ g → IsAfter d g name → IsAfter c f name
later_after c d f g name a b (inl h) = inl (h.0, (h.1.0, (omega (arith, h.1.1.0), h.1.1.1)))
later_after c d f g name a b (inr h) = inr (h.0, (h.1.0, (omega (arith, h.1.1.0), h.1.1.1)))

free_next : (input table : List Symbol) (c f a : ℕ) → next_constant input c a < 10 ^ 64 → next_function input f a < 10 ^ 64 → IsFree input table c f
    → IsFree input (table ++ symbol (next_name input c f a) a Function ∷ []) (next_constant input c a) (next_function input f a)
free_next input table c f a h k free name after new =
    list_any-append (λ (s : Symbol). bytes_eq name s.name) table (symbol (next_name input c f a) a Function ∷ [])
    ∙ or_from _ _ (free name (later_after c (next_constant input c a) f (next_function input f a) name (constant_after input c a) (function_after input f a) after) new)
    (or_from _ _ (false_from_ne_true (bytes_eq name (next_name input c f a)) (λ e. other_name input c f a name h k after (sym ((bytes_eq-Decides name (next_name input c f a)).0 e)))) refl)

-- the table behind which they stand
record Behind (table ss : List Symbol) : Type 0 where
  entered_all : all_entered table ss ≡ table ++ ss
  numbers : Counts (length table) (entered_numbers table ss)
  different : FindsEach table → FindsEach (all_entered table ss)

one_behind : (table : List Symbol) (s : Symbol) (ss : List Symbol) → number_of table s.name s.arity ≡ None → Behind (table ++ s ∷ []) ss → Behind table (s ∷ ss)
one_behind table s ss none rest = record {
  entered_all = ap (λ (t : List Symbol). all_entered t ss) is ∙ rest.entered_all ∙ append_assoc table (s ∷ []) ss;
  numbers = (
    ap (λ (t : List Symbol). unwrap_or (number_of t s.name s.arity) 0) is ∙ ap (λ (o : Option ℕ). unwrap_or o 0) (number_of_push table s.name s.arity s.kind none),
    subst (λ (n : ℕ). Counts n (entered_numbers (entered table s) ss)) (omega (arith, many_in_two table (s ∷ [])))
        (subst (λ (t : List Symbol). Counts (length (table ++ s ∷ [])) (entered_numbers t ss)) (sym is) rest.numbers),
  );
  different = λ once. subst (λ (t : List Symbol). FindsEach (all_entered t ss)) (sym is) (rest.different (FindsEach-push table s.name s.arity s.kind once none));
}
  where
    is : entered table s ≡ table ++ s ∷ []
    is = ap (λ (o : Option ℕ). if is_some o then table else table ++ s ∷ []) none

all_behind : (input table : List Symbol) (c f : ℕ) (later : List ℕ) → AreNames input c f later → IsFree input table c f → Behind table (skolem_symbols input c f later)
all_behind input table c f [] names free = record { entered_all = sym (append-nil table); numbers = tt; different = λ once. once }
all_behind input table c f (a ∷ later) names free =
    let name = next_name input c f a in
    let unused = free name (name_after input c f a names.1 names.2) names.0.free in
    one_behind table (symbol name a Function) (skolem_symbols input (next_constant input c a) (next_function input f a) later) (unnamed table name a unused)
    (all_behind input (table ++ symbol name a Function ∷ []) (next_constant input c a) (next_function input f a) later names.3 (free_next input table c f a names.1 names.2 free))

own_name : (input : List Symbol) (c f : ℕ) (s : Symbol) → is_named input s.name ≡ false → IsAfter c f s.name → HasOwnName input s
own_name input c f s free (inl h) = (free, (99, h.0, inl refl, h.1.1.1, h.1.0))
own_name input c f s free (inr h) = (free, (102, h.0, inr refl, h.1.1.1, h.1.0))

own_names : (input : List Symbol) (c f : ℕ) (later : List ℕ) → AreNames input c f later → AllByRecursion (HasOwnName input) (skolem_symbols input c f later)
own_names input c f [] h = tt
own_names input c f (a ∷ later) h = (
  own_name input c f (symbol (next_name input c f a) a Function) h.0.free (name_after input c f a h.1 h.2),
  own_names input (next_constant input c a) (next_function input f a) later h.3,
)

pub stand_behind : (p : Stated) → length p.symbols ≤ equality → length (axioms_from (entered_numbers p.symbols (skolems p.symbols p.formulas)) 0 p.formulas) ≤ equality → StandBehind p
stand_behind p le few =
    let input = p.symbols in
    let later = all_arities p.formulas in
    let ss = skolem_symbols input 0 0 later in
    let S = entered_numbers input ss in
    let as_many = from_many S 0 p.formulas in
    let below = mul-le (length later) (length input + 1) equality (equality + 1) (omega (arith, few, as_many)) (omega (arith, le)) in
    let names = are_names input 0 0 later (omega (arith, below)) (omega (arith, below)) in
    let behind = all_behind input input 0 0 later names (λ name after new. new) in
    let most : 0 + length later ≤ length S = omega (arith, numbers_many input ss, symbols_many input 0 0 later) in
    record {
      table = behind.entered_all;
      witnesses = subst (λ (n : ℕ). AreFor n ss (axioms_from S 0 p.formulas)) (omega arith) (for_all input S (length input) 0 0 0 later (axioms_from S 0 p.formulas) behind.numbers most (all_fit S 0 p.formulas));
      names = own_names input 0 0 later names;
      different = behind.different;
    }
