-- The literals are behind, or the others stay.
use Rattle.std.proofs.Common.{ap, ◌∙◌}
use Rattle.fol_core.specs.TermView.{tree_of}
use Rattle.shared_clauses.proofs.FollowSteps.{within_on}
use Rattle.shared_clauses.proofs.UsedSteps.{literal_below, literal_tree, result_behind, result_within}
use Rattle.shared_clauses.proofs.using.push_literals.Goals as goal

pub literals_along-requires : goal.literals_along-requires
literals_along-requires c = literal_below c.args.bank.now c.args.literals.now.items c.args.place c.index.result.now c.requires.place c.index.ensures c.requires.literals

pub returns-in_err-made-clause-within : goal.returns-in_err-made-clause-within
returns-in_err-made-clause-within c = within_on c.args.bank.now c.literals_along.new.bank c.args.literals.now.items c.literals_along.ensures.grows c.requires.literals

pub returns-clause-within : goal.returns-clause-within
returns-clause-within c =
    result_within c.extend_from_slice.result c.args.bank.now c.literals_along.new.bank c.args.literals.now.items c.in_ok-made.made.items c.as_slice.result.now c.extend_from_slice.new.self.items c.requires.literals c.literals_along.ensures.grows
    c.in_ok-made.ensures.within c.as_slice.ensures.value c.extend_from_slice.ensures.items

pub returns-clause-used : goal.returns-clause-used
returns-clause-used c =
    result_behind c.extend_from_slice.result c.args.bank.now c.literals_along.new.bank c.args.literals.now.items c.in_ok-made.made.items c.as_slice.result.now c.extend_from_slice.new.self.items c.args.place c.index.result.now.atom.0 c.args.path.now (tree_of c.args.general.now) c.args.used.now c.args.fresh
    c.requires.literals c.literals_along.ensures.grows (literal_tree c.args.bank.now c.args.literals.now.items c.args.place c.index.result.now c.requires.place c.index.ensures) c.as_slice.ensures.value c.extend_from_slice.ensures.items c.in_ok-made.ensures.made
