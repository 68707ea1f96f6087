-- Items of lists as definitions see them.
use Rattle.fol_core.specs.RawView.{raw_of}
use Rattle.ladr_problem.specs.ListItem.{ListItem, closing, term, names}
use Rattle.ladr_problem.specs.declared.item.ListItem as code
use Rattle.ladr_problem.specs.declared.item.ListItem.TheVariants.{End, Term, Names}

abbrev pub item_of : code.ListItem → ListItem
item_of End = closing
item_of (Term raw) = term (raw_of raw)
item_of (Names ns) = names ns
