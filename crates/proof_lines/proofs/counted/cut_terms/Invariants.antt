-- The answers so far, and those to come.
use Rattle.std.proofs.Common.{◌≡◌, ◌++◌, drop}
use Rattle.answers.specs.AnswerView.{answers_of}
use Rattle.fol_core.specs.TermView.{tree_list}
use Rattle.proof_lines.specs.Counted.{cut}
use Rattle.proof_lines.proofs.counted.cut_terms.Given as goal

abbrev pub invariant-loop-counted : goal.invariant-loop-counted
invariant-loop-counted l =
    answers_of l.answers.items ++ cut (drop l.counted-index l.counts) (tree_list l.rest.items) ≡ cut l.counts l.fn.terms
