use Rattle.std.proofs.Common.{◌∙◌, ◌<◌}
use Rattle.fol_core.specs.RawTree.{depth}
use Rattle.ladr_lex.specs.Lexeme.{lexemes_of}
use Rattle.ladr_reader.specs.Table.{table_of}
use Rattle.proof_lines.specs.declared.answered.TheConstants.{MOST_ANSWERED_LEVELS}
use Rattle.proof_lines.proofs.AnswersBad.{noted_bad}
use Rattle.proof_lines.proofs.answered.read_answered.Goals as goal

pub returns-in-Err-Bad-clause-fault : goal.returns-in-Err-Bad-clause-fault
returns-in-Err-Bad-clause-fault c =
    rw c.in-Err-Bad.field-0-is
    (noted_bad (table_of c.args.ops.now) (lexemes_of c.args.tokens.now) c.deref.result.now (λ t. MOST_ANSWERED_LEVELS < depth t) c.in-Err-Bad.field-0 c.in-Err-Bad.k
    (c.deref.ensures.value ∙ c.in-Ok.ensures) c.in-Err-Bad.field-0-is c.in-Err-Bad.ensures.fault)
