-- Copies, and clauses that a rule concludes.
use Rattle.std.proofs.Common.{◌≡◌, ℕ, List, [], ◌∷◌, Some, refl, sym, ap, ◌∙◌}
use Rattle.fol_core.specs.Literals.{literal, ClauseTree}
use Rattle.fol_core.specs.Renumbered.{renumbered}
use Rattle.fol_core.specs.Tree.{var}
use Rattle.substitutions.specs.Instances.{substitute_clause}
use Rattle.substitutions.specs.Laws.{NumbersStay}
use Rattle.substitutions.proofs.Composing.{substitute_variables}
use Rattle.derivation.specs.Lines.{LineTree, clause_at, copied, copy_inference}
use Rattle.proof_words.specs.Written.{WrittenFirst, meant}
use Rattle.prover_steps.proofs.Steps.{IsDerived}

clause_same : (c : ClauseTree) → substitute_clause var c ≡ c
clause_same [] = refl
clause_same (l ∷ c) = ap (λ t. literal l.positive t ∷ substitute_clause var c) (substitute_variables l.atom) ∙ ap (λ d. l ∷ d) (clause_same c)

-- a numbered clause of a line is what a copy of it concludes
pub copy_derived : (ls : List LineTree) (w : WrittenFirst) (n : ℕ) (c : ClauseTree) → meant w ≡ copied n → clause_at ls n ≡ Some c → renumbered c ≡ c → IsDerived ls w c
copy_derived ls w n c word at numbered = record {
  by = copy_inference n;
  clauses = c ∷ [];
  is = ap Rattle.derivation.specs.Lines.inference_of word;
  are = (at, tt);
  fits = refl;
  concludes = (
    λ k. var,
    record { unifies = tt; general = λ other same. (other 0, ap (λ d. substitute_clause (other 0) d ∷ []) (sym (clause_same c))) },
    sym numbered ∙ ap renumbered (sym (clause_same c)),
  );
}

-- what a rule concludes has its variables numbered
pub derived_numbered : NumbersStay → (ls : List LineTree) (w : WrittenFirst) (c : ClauseTree) → IsDerived ls w c → renumbered c ≡ c
derived_numbered stay ls w c d = ap renumbered d.concludes.2 ∙ stay _ ∙ sym d.concludes.2
