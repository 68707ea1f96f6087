-- The variable stands by its number.
use Rattle.term_unifiers.proofs.Written.{variable_written}
use Rattle.term_unifiers.proofs.writing.numbered.Goals as goal

pub returns : goal.returns
returns c = variable_written c.args.numbers.now c.number.new.self c.args.x c.in_ok-number.number c.in_ok-number.ensures.numbers c.in_ok-number.ensures.number
