use Rattle.std.proofs.Common.{subst, sym, length}
use Rattle.fol_core.specs.Literals.{equality}
use Rattle.fol_problem.specs.Stated.{all_said}
use Rattle.fol_core.specs.SkolemAxioms.{PicksWitnesses}
use Rattle.clausify.specs.Input.{skolems}
use Rattle.clausify.specs.Laws.{AreTrueRows}
use Rattle.clausify.specs.Names.{entered_numbers}
use Rattle.fol_problem.proofs.Soundness.{sound_below}
use Rattle.clausify.proofs.problem.clauses_of.Goals as goal

pub returns-clause-suffice : goal.returns-clause-suffice
returns-clause-suffice c = λ m lawful rows.
    let ss = all_said c.args.problem.now.inputs.items in
    c.clauses_suffice.ensures m lawful (entered_numbers c.args.symbols.now (skolems c.args.problem.now.symbols ss)) ss
    (sound_below (length c.args.problem.now.symbols) equality ss c.fits.ensures c.requires.well_formed)
    (subst (AreTrueRows m) c.in_ok-clauses.ensures.clauses rows)

pub returns-clause-follow : goal.returns-clause-follow
returns-clause-follow c = λ m lawful picks as_roled.
    let ss = all_said c.args.problem.now.inputs.items in
    subst (AreTrueRows m) (sym c.in_ok-clauses.ensures.clauses)
    (c.clauses_follow.ensures m lawful (entered_numbers c.args.symbols.now (skolems c.args.problem.now.symbols ss)) ss
    (sound_below (length c.args.problem.now.symbols) equality ss c.fits.ensures c.requires.well_formed)
    (subst (PicksWitnesses m) c.in_ok-clauses.ensures.skolem picks) as_roled)
