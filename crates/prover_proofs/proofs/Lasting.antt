-- What a proof's last line rests on stays the same while a search goes on.
use Rattle.std.proofs.Common.{◌≡◌, ℕ, Option, Some, None, refl, sym, ap, ◌∙◌, subst, List, [], ◌++◌, map, append_assoc}
use Rattle.std.specs.Option.{option_and_then}
use Rattle.std.proofs.lemmas.List.{map-append}
use Rattle.clause_store.specs.Ancestors.{AreAncestors}
use Rattle.clause_store.specs.Laws.{AncestorsStay}
use Rattle.clause_store.specs.Lines.{PlainLine, plain_trees}
use Rattle.derivation.specs.Lines.{InputRow, LineTree, line_at, clause_at, content_clause, IsDerivation}
use Rattle.fol_core.specs.Literals.{ClauseTree}
use Rattle.fol_problem.specs.Stated.{Said}
use Rattle.prover_proofs.proofs.Saying.{state_lines_say}
use Rattle.prover_proofs.specs.ProofLaws.{SayWhatIsSaid}
use Rattle.prover_proofs.specs.SearchLines.{stated_lines, made_plain, lines_at}
use Rattle.prover_steps.specs.SearchLaws.{all_lines, EndsEmpty, IsSoundState}
use Rattle.prover_steps.specs.Searching.{MadeLine, FoundProof, SearchState}
use Rattle.prover_steps.specs.Starting.{problem_lines}

-- the lines of a later state
pub lines_grow : (base : List PlainLine) (s t : SearchState) (more : List MadeLine) → t.lines ≡ s.lines ++ more → lines_at base t ≡ lines_at base s ++ map made_plain more
lines_grow base s t more e = ap (λ (ls : List MadeLine). base ++ map made_plain ls) e ∙ ap (λ (ls : List PlainLine). base ++ ls) (map-append made_plain s.lines more) ∙ sym (append_assoc base (map made_plain s.lines) (map made_plain more))

-- a line that has a clause is there
line_of_clause : (ls : List LineTree) (n : ℕ) (c : ClauseTree) → clause_at ls n ≡ Some c → (l : LineTree) × (line_at ls n ≡ Some l)
line_of_clause ls n c e = by (line_at ls n) refl
  where
    by : (o : Option LineTree) → line_at ls n ≡ o → (l : LineTree) × (line_at ls n ≡ Some l)
    by None d = let f : None ≡ Some c = ap (λ o. option_and_then (λ (l : LineTree). content_clause l.content) o) (sym d) ∙ e in absurd (clash f)
      where
        clash : None ≡ Some c → ⊥
        clash x = cc
    by (Some l) d = (l, d)

module _ (stay : AncestorsStay) (formulas : List PlainLine) (ss : List Said) (rows : List InputRow) (say : SayWhatIsSaid formulas ss) where
  pub same_ancestors : (s t : SearchState) (more : List MadeLine) → t.lines ≡ s.lines ++ more → IsSoundState ss rows (problem_lines ss rows) s → IsSoundState ss rows (problem_lines ss rows) t
      → (p : FoundProof) (some : List PlainLine) → EndsEmpty (all_lines (problem_lines ss rows) s) p
      → AreAncestors (lines_at (stated_lines formulas ss rows) s) p.line some → AreAncestors (lines_at (stated_lines formulas ss rows) t) p.line some
  same_ancestors s t more e before behind p some empty a =
      let base = stated_lines formulas ss rows in
      let grown = lines_grow base s t more e in
      let at = line_of_clause (plain_trees (lines_at base s)) p.line [] (ap (λ (ls : List LineTree). clause_at ls p.line) (state_lines_say formulas ss rows s say) ∙ empty) in
      subst (λ (ls : List PlainLine). AreAncestors ls p.line some) (sym grown)
      (stay ss rows (lines_at base s) (map made_plain more) some p.line at.0
      (subst (λ (ls : List PlainLine). IsDerivation ss rows (plain_trees ls)) grown (subst (λ (ls : List LineTree). IsDerivation ss rows ls) (sym (state_lines_say formulas ss rows t say)) behind.derivation))
      at.1 a)
