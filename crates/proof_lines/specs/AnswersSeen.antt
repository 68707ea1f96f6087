-- A clause with answers as the code has it.
use Rattle.std.specs.Prelude.{◌≡◌, Option, Some, None}
use Rattle.fol_core.specs.RawTree.{RawTree}
use Rattle.fol_core.specs.RawView.{raw_list}
use Rattle.ladr_reader.specs.Capped.{disjuncts}
use Rattle.proof_lines.specs.Answered.{answer_views, answers_behind, answers_read, clause_part}
use Rattle.proof_lines.specs.declared.answered.AnsweredRaw.{AnsweredRaw}

-- the code has the answers behind a term, and the disjuncts of the clause before them, or nothing
-- where there are no answers
abbrev pub HasAnswersRead : RawTree → Option AnsweredRaw → Type 0
HasAnswersRead t None = answers_read t ≡ None
HasAnswersRead t (Some a) =
    (answers_read t ≡ Some (answer_views a.answers.items))
    × (raw_list a.literals.items ≡ disjuncts (clause_part t))

-- likewise behind a term that isn't nested too deep for that
abbrev pub HasAnswersSeen : RawTree → Option AnsweredRaw → Type 0
HasAnswersSeen t None = answers_behind t ≡ None
HasAnswersSeen t (Some a) =
    (answers_behind t ≡ Some (answer_views a.answers.items))
    × (raw_list a.literals.items ≡ disjuncts (clause_part t))
