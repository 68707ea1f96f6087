-- The parents of the lines of a search.
use Rattle.std.proofs.Common.{◌≡◌, ℕ, zero, suc, ◌+◌, ◌<◌, Bool, true, false, if◌then◌else◌, refl, sym, ap, ◌∙◌, List, [], ◌∷◌, ◌++◌, length, Option, Some, Result, OnOk, arith}
use Rattle.std.specs.Prelude.{slice_get}
use Rattle.std.specs.Option.{option_map_or}
use Rattle.std.proofs.lemmas.Result.{on_ok_weaker}
use Rattle.clause_store.proofs.Kept.{means_first}
use Rattle.clause_store.specs.Ancestors.{first_parents}
use Rattle.clause_store.specs.Lines.{PlainLine, formula_line}
use Rattle.clause_store.specs.Marks.{line_under_number, plain_parents, parents_at}
use Rattle.clause_store.specs.Parents.{just_parents, steps_parents}
use Rattle.derivation.specs.Lines.{FirstWord, InputRow, is_goal}
use Rattle.fol_problem.specs.Stated.{Said, all_said}
use Rattle.fol_problem.specs.declared.problem.Input.{Input}
use Rattle.held_clauses.specs.declared.made.MadeLine.{MadeLine}
use Rattle.proof_words.specs.Written.{as_assumption, as_goal, by_clausify, by_deny, meant}
use Rattle.prover_proofs.proofs.Placed.{all_of, formula_at, clause_at, made_at}
use Rattle.prover_proofs.specs.SearchLines.{role_at, clausal_line, numbered_line}

of_formula : (n : ℕ) (i : Input) → plain_parents (formula_line n i) ≡ []
of_formula n i = by (is_goal i.role)
  where
    by : (b : Bool) → first_parents (meant (if b then as_goal else as_assumption)) ++ [] ≡ []
    by true = refl
    by false = refl

of_clause : (ss : List Said) (n : ℕ) (r : InputRow) → plain_parents (clausal_line ss n r) ≡ r.0 ∷ []
of_clause ss n r = by (is_goal (role_at ss r.0))
  where
    by : (b : Bool) → first_parents (meant (if b then by_deny r.0 else by_clausify r.0)) ++ [] ≡ r.0 ∷ []
    by true = refl
    by false = refl

of_made : (n : ℕ) (l : MadeLine) → plain_parents (numbered_line n l) ≡ just_parents l.just.value
of_made n l = ap (λ (w : FirstWord). first_parents w ++ steps_parents l.just.value.steps.items) (means_first l.just.value.first)

parents_by : (ls : List PlainLine) (n : ℕ) (l : PlainLine) → line_under_number ls n ≡ Some l → parents_at ls n ≡ plain_parents l
parents_by ls n l e = ap (λ (o : Option PlainLine). option_map_or plain_parents o []) e

some_at : (is : List Input) (k : ℕ) → k < length is → (i : Input) × (slice_get is k ≡ Some i)
some_at [] k h = absurd (omega arith)
some_at (i ∷ is) zero h = (i, refl)
some_at (i ∷ is) (suc k) h = some_at is k (omega arith)

module _ (is : List Input) (rows : List InputRow) (made : List MadeLine) where
  pub formula_parents : (n k : ℕ) → n ≡ suc k → k < length is → parents_at (all_of is rows made) n ≡ []
  formula_parents n k d h = let some = some_at is k h in parents_by (all_of is rows made) n (formula_line n some.0) (formula_at is rows made n k some.0 d some.1) ∙ of_formula n some.0

  pub clause_parents : (n k j : ℕ) (r : InputRow) → n ≡ suc k → k ≡ length is + j → slice_get rows j ≡ Some r → parents_at (all_of is rows made) n ≡ r.0 ∷ []
  clause_parents n k j r d f e = parents_by (all_of is rows made) n (clausal_line (all_said is) n r) (clause_at is rows made n k j r d f e) ∙ of_clause (all_said is) n r

  pub made_parents : (n k j : ℕ) (l : MadeLine) → n ≡ suc k → k ≡ length is + length rows + j → slice_get made j ≡ Some l → parents_at (all_of is rows made) n ≡ just_parents l.just.value
  made_parents n k j l d f e = parents_by (all_of is rows made) n (numbered_line n l) (made_at is rows made n k j l d f e) ∙ of_made n l

-- numbers that were put behind others
pub same_put : (old new some other : List ℕ) → other ≡ some → new ≡ old ++ some → new ≡ old ++ other
same_put old new some other e h = h ∙ sym (ap (λ (ns : List ℕ). old ++ ns) e)

pub are_put : {V E : Type 0} (old new some other : List ℕ) (r : Result V E) → other ≡ some → OnOk r (new ≡ old ++ some) → OnOk r (new ≡ old ++ other)
are_put old new some other r e h = on_ok_weaker r (same_put old new some other e) h
