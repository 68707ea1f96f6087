-- Renaming: by exchanging two elements, and by leaving all where they are.
use Rattle.std.proofs.Common.{◌≡◌, ℕ, zero, suc, ◌<◌, List, [], ◌∷◌, length, map, IsTrue, refl, sym, ap, ◌∙◌, arith}
use Rattle.std.proofs.lemmas.Bool.{false≢true}
use Rattle.fol_problem.specs.Stated.{Stated}
use Rattle.fol_core.specs.SymbolTable.{arity_at, kind_at}
use Rattle.fol_core.specs.declared.symbols.Kind.{Kind}
use Rattle.fol_core.specs.declared.symbols.Kind.TheVariants.{Function, Relation}
use Rattle.model_tables.specs.Isomorphism.{IsIsomorphism, carried}
use Rattle.model_tables.specs.Size.{AllBelow}
use Rattle.model_tables.specs.Tables.{Finite, has, listed_value}
use Rattle.model_tables.specs.Worked.{apart, tables, exchange}

within : (x : ℕ) → x < 3 → exchange x < 3
within zero h = omega arith
within (suc zero) h = omega arith
within (suc (suc zero)) h = omega arith
within (suc (suc (suc x))) h = absurd (omega arith)

-- exchanging twice changes nothing
twice : (x : ℕ) → x < 3 → exchange (exchange x) ≡ x
twice zero h = refl
twice (suc zero) h = refl
twice (suc (suc zero)) h = refl
twice (suc (suc (suc x))) h = absurd (omega arith)

of_one : (x : ℕ) → x < 3 → listed_value (tables 1 0) 3 (exchange x ∷ []) ≡ listed_value (tables 0 1) 3 (x ∷ [])
of_one zero h = refl
of_one (suc zero) h = refl
of_one (suc (suc zero)) h = refl
of_one (suc (suc (suc x))) h = absurd (omega arith)

carries : (s : ℕ) (xs : List ℕ) → IsTrue (has (tables 0 1) s) → length xs ≡ arity_at apart.symbols s → AllBelow 3 xs
    → listed_value (tables 1 0) s (map exchange xs) ≡ carried (kind_at apart.symbols s) exchange (listed_value (tables 0 1) s xs)
carries zero [] l e b = refl
carries zero (x ∷ xs) l e b = absurd (omega arith)
carries (suc zero) [] l e b = refl
carries (suc zero) (x ∷ xs) l e b = absurd (omega arith)
carries (suc (suc zero)) xs l e b = absurd (false≢true l)
carries (suc (suc (suc zero))) [] l e b = absurd (omega arith)
carries (suc (suc (suc zero))) (x ∷ []) l e b = of_one x b.0
carries (suc (suc (suc zero))) (x ∷ y ∷ xs) l e b = absurd (omega arith)
carries (suc (suc (suc (suc s)))) xs l e b = absurd (false≢true l)

pub exchanged : IsIsomorphism 3 apart exchange (tables 0 1) (tables 1 0)
exchanged = record {
  permutes = (within, λ x y lx ly e. sym (twice x lx) ∙ ap exchange e ∙ twice y ly);
  fixes = λ k named. absurd (false≢true named);
  carries = carries;
}

pub list_itself : (xs : List ℕ) → map (λ x. x) xs ≡ xs
list_itself [] = refl
list_itself (x ∷ xs) = ap (λ (ys : List ℕ). x ∷ ys) (list_itself xs)

pub carried_itself : (kind : Kind) (v : ℕ) → carried kind (λ x. x) v ≡ v
carried_itself Function v = refl
carried_itself Relation v = refl

-- tables whose elements keep their names are the same
pub in_place : (n : ℕ) (p : Stated) (t : Finite) → IsIsomorphism n p (λ x. x) t t
in_place n p t = record {
  permutes = (λ x l. l, λ x y lx ly e. e);
  fixes = λ k h. refl;
  carries = λ s xs h e b. ap (listed_value t s) (list_itself xs) ∙ sym (carried_itself (kind_at p.symbols s) (listed_value t s xs));
}
