-- The roles of formulas by their numbers.
use Rattle.std.proofs.Common.{◌≡◌, ℕ, zero, suc, ◌<◌, ◌≤◌, ◌-◌, true, false, nat_lt, Some, None, if◌then◌else◌, get_or, length, List, [], ◌∷◌, refl, sym, ap, ◌∙◌, arith}
use Rattle.std.proofs.lemmas.Bool.{ne_eqb, ltb-true, ltb-false}
use Rattle.std.specs.Option.{option_map_or}
use Rattle.derivation.specs.Lines.{said_at}
use Rattle.fol_problem.specs.Stated.{Said, said_of, all_said}
use Rattle.fol_problem.specs.declared.problem.Input.{Input}
use Rattle.fol_problem.specs.declared.problem.Role.TheVariants.{Assumption}
use Rattle.prover_proofs.specs.SearchLines.{role_at}

none_said : (ss : List Said) → said_at ss 0 ≡ None
none_said [] = refl
none_said (s ∷ ss) = none_said ss

one_less : (m : ℕ) → suc (suc m) - 1 ≡ suc m
one_less m = omega arith

past_said : (is : List Input) (m : ℕ) → length is ≤ m → said_at (all_said is) (suc m) ≡ None
past_said [] m h = refl
past_said (x ∷ is) zero h = absurd (omega arith)
past_said (x ∷ is) (suc m) h =
    ap (λ b. if b then Some (said_of x) else said_at (all_said is) (suc (suc m) - 1)) (ne_eqb (suc (suc m)) 1 (omega arith))
    ∙ ap (said_at (all_said is)) (one_less m) ∙ past_said is m (omega arith)

there_said : (is : List Input) (m : ℕ) (d : Input) → m < length is → said_at (all_said is) (suc m) ≡ Some (said_of (get_or is m d))
there_said [] m d h = absurd (omega arith)
there_said (x ∷ is) zero d h = refl
there_said (x ∷ is) (suc m) d h =
    ap (λ b. if b then Some (said_of x) else said_at (all_said is) (suc (suc m) - 1)) (ne_eqb (suc (suc m)) 1 (omega arith))
    ∙ ap (said_at (all_said is)) (one_less m) ∙ there_said is m d (omega arith)

pub role_none : (ss : List Said) (n : ℕ) → n ≡ 0 → Assumption ≡ role_at ss n
role_none ss n e = sym (ap (role_at ss) e ∙ ap (λ o. option_map_or (λ (s : Said). s.role) o Assumption) (none_said ss))

above_zero : (n : ℕ) → (n ≡ 0 → ⊥) → n ≡ suc (n - 1)
above_zero n h = omega (arith, h)

pub role_past : (is : List Input) (n : ℕ) → (n ≡ 0 → ⊥) → false ≡ nat_lt (n - 1) (length is) → Assumption ≡ role_at (all_said is) n
role_past is n some h =
    sym (ap (role_at (all_said is)) (above_zero n some)
    ∙ ap (λ o. option_map_or (λ (s : Said). s.role) o Assumption) (past_said is (n - 1) (ltb-false (n - 1) (length is) (sym h))))

pub role_there : (is : List Input) (n : ℕ) (i : Input) → (n ≡ 0 → ⊥) → true ≡ nat_lt (n - 1) (length is) → i ≡ get_or is (n - 1) i → i.role ≡ role_at (all_said is) n
role_there is n i some h e =
    ap (λ (x : Input). x.role) e
    ∙ sym (ap (role_at (all_said is)) (above_zero n some)
    ∙ ap (λ o. option_map_or (λ (s : Said). s.role) o Assumption) (there_said is (n - 1) i (ltb-true (n - 1) (length is) (sym h))))
