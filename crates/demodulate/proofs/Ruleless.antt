-- Without rules nothing is rewritten.
use Rattle.std.proofs.Common.{◌≡◌, ℕ, zero, suc, Bool, if◌then◌else◌, List, [], ◌∷◌, length, Some, None, sym, ap, ap₂, refl, arith}
use Rattle.std.specs.Option.{option_map, option_map_or}
use Rattle.derivation.specs.Later.{rewritten}
use Rattle.fol_core.specs.Literals.{literal, ClauseTree}
use Rattle.fol_core.specs.Tree.{Tree, var, elem, app, Trees, none, more}
use Rattle.prover_steps.specs.Clashing.{Held}
use Rattle.prover_steps.specs.Rewriting.{first_of, widened, in_argument, first_step, step_in, atom_step, simplified, then_word, clause_step, normal_form}

mutual
  no_step : (t : Tree) → first_step [] t ≡ None
  no_step (var x) = refl
  no_step (elem k) = refl
  no_step (app f ts) = ap (λ o. first_of (option_map (widened (app f)) o) None) (no_step_in 1 ts)

  no_step_in : (k : ℕ) (ts : Trees) → step_in [] k ts ≡ None
  no_step_in k none = refl
  no_step_in k (more t ts) = ap₂ (λ o p. first_of (option_map (in_argument k ts) o) (option_map (widened (more t)) p)) (no_step t) (no_step_in (suc k) ts)

no_atom_step : (t : Tree) → atom_step [] t ≡ None
no_atom_step (var x) = refl
no_atom_step (elem k) = refl
no_atom_step (app f ts) = ap (option_map (widened (app f))) (no_step_in 1 ts)

no_clause_step : (a : ℕ) (c : ClauseTree) → clause_step [] a c ≡ None
no_clause_step a [] = refl
no_clause_step a (l ∷ c) =
    ap₂ (λ o p. option_map_or (λ r. Some (rewritten r.rule a r.path, literal l.positive r.result ∷ c)) o (option_map (λ s. (s.0, l ∷ s.1)) p))
    (no_atom_step l.atom) (no_clause_step (suc a) c)

pub no_rules : (large : ClauseTree → Bool) (rs : List Held) (k : ℕ) (c : ClauseTree) → length rs ≡ 0 → simplified c [] ≡ normal_form large rs k c
no_rules large [] zero c e = refl
no_rules large [] (suc k) c e = sym (ap (λ o. option_map_or (λ s. if large s.1 then simplified c [] else then_word s.0 (normal_form large [] k s.1)) o (simplified c [])) (no_clause_step 0 c))
no_rules large (r ∷ rs) k c e = absurd (omega (arith, e))
