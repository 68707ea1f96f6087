-- Behind a table that has the Skolem symbols already, they have the same numbers.
use Rattle.std.proofs.Common.{◌≡◌, ℕ, suc, Bool, true, false, if◌then◌else◌, List, [], ◌∷◌, ◌++◌, length, Option, Some, None, is_some, refl, sym, ap, ap₂, ◌∙◌, subst, append_assoc, append-nil}
use Rattle.std.specs.Prelude.{unwrap_or}
use Rattle.std.specs.Option.{option_map}
use Rattle.clausify.specs.Input.{skolems, skolem_numbers, with_skolems, all_rows, all_skolem_axioms, clauses_in_table, axioms_in_table}
use Rattle.clausify.specs.Names.{all_entered, entered_numbers}
use Rattle.fol_problem.specs.Stated.{Stated}
use Rattle.fol_core.specs.SymbolTable.{Symbol, first_place, is_called, number_of, entered}
use Rattle.fol_core.proofs.SymbolLemmas.{number_of_push}

-- a place in front stays
module _ {X : Type 0} (test : X → Bool) where
  place_kept : (xs ys : List X) (n : ℕ) → first_place test xs ≡ Some n → first_place test (xs ++ ys) ≡ Some n
  place_kept [] ys n e = absurd (cc)
  place_kept (x ∷ xs) ys n e = by (test x) (first_place test xs) (place_kept xs ys) e
    where
      by : (b : Bool) (o : Option ℕ) → ((m : ℕ) → o ≡ Some m → first_place test (xs ++ ys) ≡ Some m) → (if b then Some 0 else option_map suc o) ≡ Some n → (if b then Some 0 else option_map suc (first_place test (xs ++ ys))) ≡ Some n
      by true o rest e = e
      by false None rest e = absurd (cc)
      by false (Some m) rest e = ap (option_map suc) (rest m refl) ∙ e

-- a symbol that was entered has a number
pub record HasNumber (table : List Symbol) (s : Symbol) : Type 0 where
  pub number : ℕ
  pub at : number_of table s.name s.arity ≡ Some number

entered_there : (table : List Symbol) (s : Symbol) → HasNumber (entered table s) s
entered_there table s = by (number_of table s.name s.arity) refl
  where
    by : (o : Option ℕ) → number_of table s.name s.arity ≡ o → HasNumber (entered table s) s
    by (Some n) e = record { number = n; at = ap (λ (p : Option ℕ). number_of (if is_some p then table else table ++ s ∷ []) s.name s.arity) e ∙ e }
    by None e = record { number = length table; at = ap (λ (p : Option ℕ). number_of (if is_some p then table else table ++ s ∷ []) s.name s.arity) e ∙ number_of_push table s.name s.arity s.kind e }

-- what is entered stands behind
pub record IsFront (table all : List Symbol) : Type 0 where
  pub rest : List Symbol
  pub is : table ++ rest ≡ all

entered_front : (table : List Symbol) (s : Symbol) → IsFront table (entered table s)
entered_front table s = by (is_some (number_of table s.name s.arity))
  where
    by : (b : Bool) → IsFront table (if b then table else table ++ s ∷ [])
    by true = record { rest = []; is = append-nil table }
    by false = record { rest = s ∷ []; is = refl }

all_front : (table ss : List Symbol) → IsFront table (all_entered table ss)
all_front table [] = record { rest = []; is = append-nil table }
all_front table (s ∷ ss) =
    let one = entered_front table s in
    let more = all_front (entered table s) ss in
    record { rest = one.rest ++ more.rest; is = sym (append_assoc table one.rest more.rest) ∙ ap (λ (t : List Symbol). t ++ more.rest) one.is ∙ more.is }

front_number : (table all : List Symbol) (s : Symbol) (n : ℕ) → IsFront table all → number_of table s.name s.arity ≡ Some n → number_of all s.name s.arity ≡ Some n
front_number table all s n front e = subst (λ (t : List Symbol). number_of t s.name s.arity ≡ Some n) front.is (place_kept (is_called s.name s.arity) table front.rest n e)

-- the numbers of entered symbols are those of the whole table, where nothing is entered any more
numbers_same : (table ss all : List Symbol) → all_entered table ss ≡ all → entered_numbers table ss ≡ entered_numbers all ss
numbers_same table [] all e = refl
numbers_same table (s ∷ ss) all e =
    let one = entered_there table s in
    let front : IsFront (entered table s) all = subst (IsFront (entered table s)) e (all_front (entered table s) ss) in
    let there : number_of all s.name s.arity ≡ Some one.number = front_number (entered table s) all s one.number front one.at in
    let stays : entered all s ≡ all = ap (λ (o : Option ℕ). if is_some o then all else all ++ s ∷ []) there in
    ap₂ (λ (n : ℕ) (ns : List ℕ). n ∷ ns)
    (ap (λ (o : Option ℕ). unwrap_or o 0) (one.at ∙ sym there) ∙ ap (λ (t : List Symbol). unwrap_or (number_of t s.name s.arity) 0) (sym stays))
    (numbers_same (entered table s) ss all e ∙ ap (λ (t : List Symbol). entered_numbers t ss) (sym stays))

-- so it is of the clauses and the witnesses
module _ (p : Stated) where
  skolems_same : skolem_numbers p.symbols p ≡ skolem_numbers (with_skolems p.symbols p) p
  skolems_same = numbers_same p.symbols (skolems p.symbols p.formulas) (with_skolems p.symbols p) refl

  pub rows_same : clauses_in_table p.symbols p ≡ clauses_in_table (with_skolems p.symbols p) p
  rows_same = ap (λ (ns : List ℕ). all_rows ns p.formulas) skolems_same

  pub witnesses_same : axioms_in_table p.symbols p ≡ axioms_in_table (with_skolems p.symbols p) p
  witnesses_same = ap (λ (ns : List ℕ). all_skolem_axioms ns p.formulas) skolems_same
