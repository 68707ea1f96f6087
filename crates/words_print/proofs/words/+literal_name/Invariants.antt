-- The place falls.
use Rattle.words_print.proofs.words.+literal_name.Given as goal

abbrev pub decreases-literal_name : goal.decreases-literal_name
decreases-literal_name l = l.place
