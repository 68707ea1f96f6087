-- Worked examples of the definitions. The variables are x, y and z, the symbols p, q, f and r.
use Rattle.std.proofs.Common.{◌≡◌, ℕ, zero, suc, true, ◌==◌, nat_lt, List, [], ◌∷◌, Some, None, codes, slice_index, if◌then◌else◌, ◌<◌, refl, sym, ap, ◌∙◌, arith}
use Rattle.std.proofs.lemmas.Bool.{false≢true, ltb-true}
use Rattle.fol_core.specs.Tree.{var, app, none, more}
use Rattle.fol_core.specs.Fol.{Fol, equal, atom, conjunction, disjunction, forall, exists}
use Rattle.fol_core.specs.Free.{free_vars_of, closure_of}
use Rattle.fol_core.specs.Meaning.{Meaning}
use Rattle.fol_core.specs.Truth.{Assignment, Holds}
use Rattle.fol_core.specs.declared.symbols.Kind.TheVariants.{Function, Relation}
use Rattle.fol_core.specs.SymbolTable.{Symbol, symbol, number_of, entered, is_clash}

abbrev x : ℕ
x = 0

abbrev y : ℕ
y = 1

abbrev z : ℕ
z = 2

-- an atom of one variable
abbrev of_var : ℕ → ℕ → Fol
of_var relation v = atom relation (more (var v) none)

abbrev p : ℕ
p = 0

abbrev q : ℕ
q = 1

abbrev f : ℕ
f = 2

abbrev r : ℕ
r = 3

-- all x r(x,f(y))
abbrev under : Fol
under = forall x (atom r (more (var x) (more (app f (more (var y) none)) none)))

under-free : free_vars_of under ≡ y ∷ []
under-free = refl

under-closure : closure_of under ≡ forall y under
under-closure = refl

-- exists x (f(x) = y) & (p(z) | q(x)): x is free behind the place where it is bound
abbrev beside : Fol
beside = conjunction (exists x (equal (app f (more (var x) none)) (var y))) (disjunction (of_var p z) (of_var q x))

beside-free : free_vars_of beside ≡ y ∷ z ∷ x ∷ []
beside-free = refl

beside-closure : closure_of beside ≡ forall y (forall z (forall x beside))
beside-closure = refl

-- p/1 and f/1 entered, and p/1 again
abbrev table : List Symbol
table = entered (entered (entered [] (symbol (codes "p") 1 Relation)) (symbol (codes "f") 1 Function)) (symbol (codes "p") 1 Relation)

table-is : table ≡ symbol (codes "p") 1 Relation ∷ symbol (codes "f") 1 Function ∷ []
table-is = refl

table-p : number_of table (codes "p") 1 ≡ Some 0
table-p = refl

table-f : number_of table (codes "f") 1 ≡ Some 1
table-f = refl

-- another arity is another symbol, and another kind is refused
table-other : number_of table (codes "f") 2 ≡ None
table-other = refl

table-clash : is_clash table (symbol (codes "f") 1 Relation) ≡ true
table-clash = refl

-- the elements 0 and 1; p is true of 0 alone, q of 1 alone
abbrev two : Meaning
two = record { within = λ n. nat_lt n 2; function = λ s ns. 0; relation = λ s ns. slice_index ns 0 == s }

-- (all x p(x)) | q(x): the last x is free
abbrev outer : Fol
outer = disjunction (forall x (of_var p x)) (of_var q x)

-- it is false of the element 0, so its closure is false
outer-at-0 : (e : Assignment) → e x ≡ 0 → ¬ Holds two e outer
outer-at-0 e at h = h (λ all. false≢true (all 1 refl), λ last. false≢true (sym (ap (λ k. k == 1) at) ∙ last))

outer-closure : (e : Assignment) → ¬ Holds two e (closure_of outer)
outer-closure e h = outer-at-0 (λ v. if v == x then 0 else e v) refl (h 0 refl)

-- while all x (p(x) | q(x)) is true
inner : (e : Assignment) → Holds two e (forall x (disjunction (of_var p x) (of_var q x)))
inner e zero within neither = neither.0 refl
inner e (suc zero) within neither = neither.1 refl
inner e (suc (suc n)) within neither = let below : suc (suc n) < 2 = ltb-true (suc (suc n)) 2 within in omega arith
