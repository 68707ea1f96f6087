-- The table of a file's problem with its Skolem symbols.
use Rattle.std.proofs.Common.{◌≡◌, inl, inr, ℕ, zero, suc, ◌-◌, ◌<◌, ◌≤◌, Bool, true, false, not, ◌&&◌, List, [], ◌∷◌, ◌++◌, length, map, Some, slice_get, refl, sym, ap, ◌∙◌, subst, append_assoc, arith}
use Rattle.std.specs.List.{All, AllByRecursion, list_any}
use Rattle.std.specs.Str.{bytes_eq}
use Rattle.std.proofs.lemmas.Bool.{cases_lt, or_cases, or_left, or_right}
use Rattle.std.proofs.lemmas.Slice.Eq.{bytes_eq-Decides}
use Rattle.clausify.specs.Behind.{AreFor, HasOwnName}
use Rattle.clausify.specs.Input.{formulas}
use Rattle.fol_core.specs.Bound.{uses_symbol}
use Rattle.fol_core.specs.FormulaView.{fol_of}
use Rattle.fol_core.specs.Occurs.{occurs_in}
use Rattle.fol_core.specs.SkolemAxioms.{SkolemAxiom}
use Rattle.fol_problem.specs.Stated.{all_said}
use Rattle.fol_core.specs.SymbolTable.{Symbol, is_same_kind, KeepsNumbers}
use Rattle.fol_problem.specs.declared.problem.Input.{Input}
use Rattle.fol_problem.specs.declared.problem.Role.{Role}
use Rattle.fol_core.specs.declared.symbols.Kind.TheVariants.{Relation}
use Rattle.fol_core.proofs.Places.{slice_get_more}
use Rattle.ladr_problem.specs.Sofar.{Listed, input_of}
use Rattle.proof_lines.specs.Strays.{has_name, is_skolem_name, is_stray_relation}
use Rattle.proof_print.specs.Names.{IsSkolemSymbol}
use Rattle.derivation_laws.specs.Tables.{AllStandIn}
use Rattle.printed_proofs.proofs.LinesBehind.{all_fail}

-- what holds of each formula of a file holds of each input
pub at_input : (P : Role × Listed → Type 0) (xs : List Input) → All P (map input_of xs) → (k : ℕ) (i : Input) → slice_get xs k ≡ Some i → P (input_of i)
at_input P [] all k i e = absurd (cc)
at_input P (x ∷ xs) all zero i e = (let same : x ≡ i = cc in subst (λ (y : Input). P (input_of y)) same (all zero (input_of x) (omega arith)))
at_input P (x ∷ xs) all (suc k) i e = at_input P xs (λ j d lt. all (suc j) d (omega (arith, lt))) k i e

-- an input whose formula has a symbol
pub record UsedBy (xs : List Input) (s : ℕ) : Type 0 where
  pub place : ℕ
  pub input : Input
  pub at : slice_get xs place ≡ Some input
  pub uses : uses_symbol s (fol_of input.formula.shape) ≡ true

pub used_by : (xs : List Input) (s : ℕ) → occurs_in s (formulas (all_said xs)) ≡ true → UsedBy xs s
used_by [] s h = absurd (cc)
used_by (x ∷ xs) s h =
    elim (or_cases (uses_symbol s (fol_of x.formula.shape)) (occurs_in s (formulas (all_said xs))) h) [
      | inl e ↦ record { place = 0; input = x; at = refl; uses = e }
      | inr e ↦ (let r = used_by xs s e in record { place = suc r.place; input = r.input; at = r.at; uses = r.uses })
    ]

-- symbols behind others
pub past : (xs ys : List Symbol) (n : ℕ) → length xs ≤ n → slice_get (xs ++ ys) n ≡ slice_get ys (n - length xs)
past [] ys n h = (let same : n ≡ n - length {A = Symbol} [] = omega arith in ap (slice_get ys) same)
past (x ∷ xs) ys zero h = absurd (omega (arith, h))
past (x ∷ xs) ys (suc n) h = (let same : n - length xs ≡ suc n - suc (length xs) = omega arith in past xs ys n (omega (arith, h)) ∙ ap (slice_get ys) same)

pub stand_behind : (front ss : List Symbol) → AllStandIn (front ++ ss) ss
stand_behind front [] = tt
stand_behind front (s ∷ ss) =
    let here : slice_get (front ++ s ∷ ss) (length front) ≡ Some s = past front (s ∷ ss) (length front) (omega arith) ∙ ap (slice_get (s ∷ ss)) (none_left (length front)) in
    let rest = stand_behind (front ++ s ∷ []) ss in
    ((length front, here), subst (λ (t : List Symbol). AllStandIn t ss) (append_assoc front (s ∷ []) ss) rest)
  where
    none_left : (n : ℕ) → n - n ≡ 0
    none_left n = omega arith

pub keeps_front : (xs ys : List Symbol) → KeepsNumbers xs (xs ++ ys)
keeps_front xs ys n s e = slice_get_more xs ys n s e

-- as many as there are witnesses
pub skolems_count : (n : ℕ) (ss : List Symbol) (ws : List SkolemAxiom) → AreFor n ss ws → length ss ≡ length ws
skolems_count n [] [] h = refl
skolems_count n [] (w ∷ ws) h = absurd h
skolems_count n (s ∷ ss) [] h = absurd h
skolems_count n (s ∷ ss) (w ∷ ws) h = ap suc (skolems_count (suc n) ss ws h.3)

-- each is a Skolem symbol
skolem_at : (input : List Symbol) (n : ℕ) (ss : List Symbol) (ws : List SkolemAxiom) → AreFor n ss ws → AllByRecursion (HasOwnName input) ss → (k : ℕ) (x : Symbol) → slice_get ss k ≡ Some x → IsSkolemSymbol x
skolem_at input n [] ws h names k x e = absurd (cc)
skolem_at input n (s ∷ ss) [] h names k x e = absurd h
skolem_at input n (s ∷ ss) (w ∷ ws) h names zero x e =
    let same : s ≡ x = cc in
    let name = names.0.1 in
    subst IsSkolemSymbol same (record {
      letter = name.0;
      number = name.1;
      arity = s.arity;
      letter_is = name.2;
      short = name.3;
      is = λ i. record { name = name.4 i; arity = s.arity; kind = h.1 i };
    })
skolem_at input n (s ∷ ss) (w ∷ ws) h names (suc k) x e = skolem_at input (suc n) ss ws h.3 names.1 k x e

-- a symbol of the table, of the problem or of Skolem's
module _ (input ss : List Symbol) (ws : List SkolemAxiom) (are : AreFor (length input) ss ws) (names : AllByRecursion (HasOwnName input) ss) where
  pub skolem_behind : (n : ℕ) (x : Symbol) → length input ≤ n → slice_get (input ++ ss) n ≡ Some x → IsSkolemSymbol x
  skolem_behind n x h e = skolem_at input (length input) ss ws are names (n - length input) x (sym (past input ss n h) ∙ e)

  named_there : (xs : List Symbol) (n : ℕ) (x : Symbol) → slice_get xs n ≡ Some x → has_name xs x.name ≡ true
  named_there [] n x e = absurd (cc)
  named_there (y ∷ xs) zero x e = (let same : y ≡ x = cc in or_left (bytes_eq x.name y.name) (has_name xs x.name) ((bytes_eq-Decides x.name y.name).1 (ap (λ (z : Symbol). z.name) (sym same))))
  named_there (y ∷ xs) (suc n) x e = or_right (bytes_eq x.name y.name) (has_name xs x.name) (named_there xs n x e)

  front_at : (xs : List Symbol) (n : ℕ) (x : Symbol) → n < length xs → slice_get (xs ++ ss) n ≡ Some x → slice_get xs n ≡ Some x
  front_at [] n x h e = absurd (omega (arith, h))
  front_at (y ∷ xs) zero x h e = e
  front_at (y ∷ xs) (suc n) x h e = front_at xs n x (omega (arith, h)) e

  none_if_named : (a b c : Bool) → c ≡ true → (a && (b && not c)) ≡ false
  none_if_named true true c h = ap not h
  none_if_named true false c h = refl
  none_if_named false b c h = refl

  not_stray : (n : ℕ) (x : Symbol) → slice_get (input ++ ss) n ≡ Some x → is_stray_relation input x ≡ false
  not_stray n x e =
      elim (cases_lt n (length input)) [
        | inl l ↦ none_if_named (is_same_kind x.kind Relation) (is_skolem_name x.name) (has_name input x.name) (named_there input n x (front_at input n x l e))
        | inr g ↦ (let k = skolem_behind n x g e in ap (λ (y : Symbol). is_same_kind y.kind Relation && (is_skolem_name y.name && not (has_name input y.name))) k.is)
      ]

  pub none_stray : list_any (is_stray_relation input) (input ++ ss) ≡ false
  none_stray = all_fail (is_stray_relation input) (input ++ ss) not_stray
