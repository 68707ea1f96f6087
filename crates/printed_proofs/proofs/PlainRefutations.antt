-- Refutations behind whose lines nothing stands are refutations with answers.
use Rattle.std.proofs.Common.{◌≡◌, ℕ, List, [], ◌∷◌, map, refl, sym, ap, subst}
use Rattle.answered_lines.specs.Laws.{HaveNone, PlainRefutationsStay}
use Rattle.answered_lines.specs.Lines.{with_asks, all_said_in, with_terms, plain_rows, plain_lines, IsRefutationWith}
use Rattle.answered_lines.specs.View.{answered_lines_of}
use Rattle.answers.specs.AnswerView.{answers_of}
use Rattle.clausify.specs.Input.{clauses_in_table}
use Rattle.clause_store.specs.Lines.{AreUnnoted}
use Rattle.derivation.specs.Lines.{InputRow, LineTree, IsRefutation}
use Rattle.derivation.specs.View.{line_tree, lines_of}
use Rattle.derivation.specs.declared.line.Derivation.{Derivation}
use Rattle.derivation.specs.declared.line.Line.{Line}
use Rattle.derivation_laws.specs.Moved.{Moving}
use Rattle.fol_core.specs.SymbolTable.{Symbol}
use Rattle.fol_core.specs.Tree.{Trees}
use Rattle.fol_problem.specs.Stated.{Said, Stated}
use Rattle.ladr_check.specs.Offered.{proofs_in}
use Rattle.ladr_check.specs.Outcomes.{AreRefutations}
use Rattle.printed_proofs.specs.Refutations.{line_with, lines_with, AreAllRefuting}
use Rattle.printed_proofs.proofs.Unnoted.{AllAreUnnoted, unasked}
use Rattle.proof_check.proofs.PlainSteps.{said_plainly, rows_plainly}

-- with other numbers of symbols the same stands behind lines
lines_stay : (to : Moving) (ls : List Line) → AreUnnoted ls → AreUnnoted (lines_with to ls)
lines_stay to [] h = tt
lines_stay to (l ∷ ls) h = (h.0, lines_stay to ls h.1)

pub proofs_stay : (to : Moving) (ps : List (List Line)) → AllAreUnnoted ps → AllAreUnnoted (map (lines_with to) ps)
proofs_stay to [] h = tt
proofs_stay to (ls ∷ ps) h = (lines_stay to ls h.0, proofs_stay to ps h.1)

-- lines without what stands behind them
have_none : (ls : List Line) → AreUnnoted ls → HaveNone (answered_lines_of ls)
have_none [] h = tt
have_none (l ∷ ls) h = (unasked l.notes h.0.0, ap answers_of h.0.1, have_none ls h.1)

lines_plainly : (ls : List Line) → lines_of ls ≡ plain_lines (answered_lines_of ls)
lines_plainly [] = refl
lines_plainly (l ∷ ls) = ap (λ (ks : List LineTree). line_tree l ∷ ks) (lines_plainly ls)

module _ (stay : PlainRefutationsStay) (asks : List (List ℕ)) (lists : List Trees) where
  refutation_with : (ss : List Said) (rows : List InputRow) (ls : List Line) → AreUnnoted ls → IsRefutation ss rows (lines_of ls) → IsRefutationWith (with_asks ss asks) (with_terms rows lists) (answered_lines_of ls)
  refutation_with ss rows ls bare h =
      stay (with_asks ss asks) (with_terms rows lists) (answered_lines_of ls) (have_none ls bare)
      (subst (IsRefutation (all_said_in (with_asks ss asks)) (plain_rows (with_terms rows lists))) (lines_plainly ls)
      (subst (λ (rs : List InputRow). IsRefutation (all_said_in (with_asks ss asks)) rs (lines_of ls)) (sym (rows_plainly rows lists))
      (subst (λ (xs : List Said). IsRefutation xs rows (lines_of ls)) (sym (said_plainly ss asks)) h)))

  pub are_refutations : (p : Stated) (table : List Symbol) (ds : List Derivation) → AllAreUnnoted (map (λ (d : Derivation). d.lines.items) ds) → AreAllRefuting p table (map (λ (d : Derivation). d.lines.items) ds)
      → AreRefutations (with_asks p.formulas asks) (with_terms (clauses_in_table table p) lists) (proofs_in ds)
  are_refutations p table [] bare h = tt
  are_refutations p table (d ∷ ds) bare h = (refutation_with p.formulas (clauses_in_table table p) d.lines.items bare.0 h.0, are_refutations p table ds bare.1 h.1)
