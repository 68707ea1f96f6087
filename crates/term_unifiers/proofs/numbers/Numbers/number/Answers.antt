-- It is among them, or the next one.
use Rattle.term_unifiers.proofs.Numbered.{noted_there, number_there, added_list, added_number}
use Rattle.term_unifiers.proofs.numbers.Numbers.number.Goals as goal

pub returns-in-Some-clause-numbers : goal.returns-in-Some-clause-numbers
returns-in-Some-clause-numbers c = noted_there c.args.self.now c.args.x c.in-Some.place c.in-Some.ensures

pub returns-in-Some-clause-number : goal.returns-in-Some-clause-number
returns-in-Some-clause-number c = λ behind. number_there c.args.self.now behind c.args.x c.in-Some.place c.in-Some.ensures

pub returns-in-None-clause-numbers : goal.returns-in-None-clause-numbers
returns-in-None-clause-numbers c = added_list c.add.result c.args.self.now c.add.new.self c.args.x c.in-None.ensures c.add.ensures.numbers

pub returns-in-None-clause-number : goal.returns-in-None-clause-number
returns-in-None-clause-number c = added_number c.add.result c.args.self.now c.add.new.self c.args.x c.in-None.ensures c.add.ensures.numbers c.add.ensures.number
