use Rattle.std.proofs.Common.{ap, ◌∙◌, ◌-◌, drop, length, arith, length-drop}
use Rattle.std.proofs.lemmas.List.{take_all}
use Rattle.ladr_lex.specs.Comments.{begins_with}
use Rattle.ladr_lex.proofs.Comments.{begins_is}
use Rattle.ladr_lex.proofs.scan.has_at.Goals as goal

pub returns-clause-word : goal.returns-clause-word
returns-clause-word c =
    let rest = drop c.args.at c.args.bytes.now in
    c.starts_with.ensures.value ∙ begins_is c.args.word.now _ ∙
    ap (begins_with c.args.word.now) (take_all (length c.args.bytes.now - c.args.at) rest (omega (arith, length-drop c.args.at c.args.bytes.now)))
