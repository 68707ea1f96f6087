use Rattle.words_print.proofs.LetterNames.{literal_is, place_is}
use Rattle.words_print.proofs.laws.literals_are_named.Goals as goal

pub returns : goal.returns
returns _ a h = (literal_is a, place_is a h)
