use Rattle.std.proofs.Common.{◌∙◌, inr, Option, ap, refl, sym, subst}
use Rattle.fol_core.specs.RawTree.{RawTree}
use Rattle.fol_core.specs.RawView.{raw_list}
use Rattle.ladr_lex.specs.Lexeme.{lexemes_of}
use Rattle.ladr_reader.specs.Reads.{Item}
use Rattle.ladr_reader.specs.Table.{table_of}
use Rattle.proof_lines.specs.AnswerMarks.{noted}
use Rattle.proof_lines.specs.Answered.{answer_views, clause_part}
use Rattle.proof_lines.specs.AnswersSeen.{HasAnswersSeen}
use Rattle.proof_lines.specs.Literals.{read_as_clause}
use Rattle.proof_lines.specs.declared.answered.AnsweredRaw.{AnsweredRaw}
use Rattle.proof_lines.proofs.AnsweredClauses.{last_token, none_answered, unfit_answered}
use Rattle.proof_lines.proofs.answered.answered_clause.Goals as goal

pub returns-then-read_as_clause-clause-read : goal.returns-then-read_as_clause-clause-read
returns-then-read_as_clause-clause-read c =
    let ts = noted (lexemes_of c.args.tokens.now) in
    let h = subst (λ (o : Option AnsweredRaw). (t : RawTree) × Item (table_of c.args.ops.now) ts t × HasAnswersSeen t o) c.in-Ok-Some.field-0-is c.in-Ok-Some.ensures.read in
    let reads = ap read_as_clause (sym h.2.1) ∙ ap (λ ls. read_as_clause (raw_list ls)) (sym c.deref.ensures.value) ∙ sym c.if-read_as_clause.ensures in
    (clause_part h.0, answer_views c.in-Ok-Some.clause.answers.items, (h.0, h.1, h.2.0, refl, reads, c.requires), c.unless_deep.ensures (clause_part h.0) h.2.1 reads)

pub returns-else-read_as_clause-clause-fault : goal.returns-else-read_as_clause-clause-fault
returns-else-read_as_clause-clause-fault c =
    let ts = noted (lexemes_of c.args.tokens.now) in
    let h = subst (λ (o : Option AnsweredRaw). (t : RawTree) × Item (table_of c.args.ops.now) ts t × HasAnswersSeen t o) c.in-Ok-Some.field-0-is c.in-Ok-Some.ensures.read in
    let no = ap read_as_clause (sym h.2.1) ∙ ap (λ ls. read_as_clause (raw_list ls)) (sym c.deref.ensures.value) ∙ sym c.if-read_as_clause.ensures in
    inr (last_token (table_of c.args.ops.now) c.args.tokens.now h.0 h.1, (h.0, h.1, unfit_answered h.0 no))

pub returns-in-Ok-None-clause-fault : goal.returns-in-Ok-None-clause-fault
returns-in-Ok-None-clause-fault c =
    let ts = noted (lexemes_of c.args.tokens.now) in
    let h = subst (λ (o : Option AnsweredRaw). (t : RawTree) × Item (table_of c.args.ops.now) ts t × HasAnswersSeen t o) c.in-Ok-None.field-0-is c.in-Ok-None.ensures.read in
    inr (last_token (table_of c.args.ops.now) c.args.tokens.now h.0 h.1, (h.0, h.1, none_answered h.0 h.2))
