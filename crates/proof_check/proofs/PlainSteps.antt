-- Refutations without their answers.
use Rattle.std.proofs.Common.{◌≡◌, ℕ, List, [], ◌∷◌, map, refl, ap, subst}
use Rattle.answered_lines.specs.Laws.{RefutationsArePlain}
use Rattle.answered_lines.specs.Lines.{Asked, asked, with_asks, all_said_in, AnsweredRow, with_terms, plain_rows, plain_lines, IsRefutationWith}
use Rattle.answered_lines.specs.View.{answered_lines_of, answered_rows_of, asked_of}
use Rattle.clausify.specs.Asked.{first_ask, other_asks}
use Rattle.derivation.specs.Lines.{InputRow, LineTree, IsRefutation}
use Rattle.derivation.specs.View.{lines_of}
use Rattle.derivation.specs.declared.line.Line.{Line}
use Rattle.fol_core.specs.Tree.{Trees, trees_of}
use Rattle.fol_core.specs.declared.clause.Clauses.{Clauses}
use Rattle.fol_problem.specs.Asks.{asks_of}
use Rattle.fol_problem.specs.Stated.{Said, all_said}
use Rattle.fol_problem.specs.declared.problem.Problem.{Problem}
use Rattle.proof_check.proofs.EarlierSteps.{plainly}

pub said_plainly : (ss : List Said) (asks : List (List ℕ)) → all_said_in (with_asks ss asks) ≡ ss
said_plainly [] asks = refl
said_plainly (s ∷ ss) asks = ap (λ rest. s ∷ rest) (said_plainly ss (other_asks asks))

pub rows_plainly : (rows : List InputRow) (lists : List Trees) → plain_rows (with_terms rows lists) ≡ rows
rows_plainly [] lists = refl
rows_plainly (r ∷ rows) [] = ap (λ rest. r ∷ rest) (rows_plainly rows [])
rows_plainly (r ∷ rows) (ts ∷ lists) = ap (λ rest. r ∷ rest) (rows_plainly rows lists)

pub plainly_refuted : (p : Problem) (cs : Clauses) (ls : List Line) → RefutationsArePlain → IsRefutationWith (asked_of p) (answered_rows_of cs) (answered_lines_of ls)
    → IsRefutation (all_said p.inputs.items) cs.clauses.items (lines_of ls)
plainly_refuted p cs ls plain h =
    subst (IsRefutation (all_said p.inputs.items) cs.clauses.items) (plainly ls)
    (subst (λ (rows : List InputRow). IsRefutation (all_said p.inputs.items) rows (plain_lines (answered_lines_of ls))) (rows_plainly cs.clauses.items (map trees_of cs.answers.items))
    (subst (λ (ss : List Said). IsRefutation ss (plain_rows (answered_rows_of cs)) (plain_lines (answered_lines_of ls))) (said_plainly (all_said p.inputs.items) (asks_of p))
    (plain (asked_of p) (answered_rows_of cs) (answered_lines_of ls) h)))
