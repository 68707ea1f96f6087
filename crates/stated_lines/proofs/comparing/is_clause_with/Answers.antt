use Rattle.std.proofs.Common.{◌≡◌, length, arith}
use Rattle.derivation.specs.View.{content_of}
use Rattle.stated_lines.proofs.AnswerSteps.{plain_decides}
use Rattle.stated_lines.proofs.comparing.is_clause_with.Goals as goal

pub returns : goal.returns
returns c =
    let none : length c.args.own_answers.now ≡ 0 = omega arith in
    let other : length c.args.answers.now ≡ 0 = omega arith in
    plain_decides (content_of c.args.content.now) c.args.clause.now c.args.own_answers.now c.args.answers.now c.in_ok-plain.plain none other c.in_ok-plain.ensures
