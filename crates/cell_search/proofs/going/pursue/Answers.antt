use Rattle.std.proofs.Common.{◌≡◌, ◌<◌, Bool, true, false, length, map, refl, subst, arith}
use Rattle.std.proofs.lemmas.List.{length-map}
use Rattle.fol_core.specs.ClauseView.{literal_of}
use Rattle.cell_search.proofs.Growing.{grows_none}
use Rattle.cell_search.proofs.Obeying.{clause_of_row}
use Rattle.cell_search.proofs.Passing.{done_once, goes_once}
use Rattle.cell_search.proofs.Pursuing.{instance_true}
use Rattle.cell_search.specs.Following.{IsFollowed}
use Rattle.cell_search.specs.Telling.{told_of}
use Rattle.cell_search.specs.declared.look.Verdict.TheVariants.{Quiet, Contradiction, Asks}
use Rattle.cell_search.proofs.going.pursue.Goals as goal

pub obey-requires-clause-due : goal.obey-requires-clause-due
obey-requires-clause-due c = λ m solves agrees.
    c.in-Asks.ensures.tells.1 m (c.requires.board.present m solves agrees).0
    (instance_true c.args.setup.now m solves c.clauses-clauses.result.now c.args.clause c.index-clauses-clause.result c.args.env.now c.as_slice.result.now c.clauses-clauses.ensures
    (omega (arith, c.if-clause-clauses.false)) c.index-clauses-clause.is c.requires.board.some c.requires.env c.as_slice.ensures.literals)

pub returns-in-Contradiction-clause-refuted : goal.returns-in-Contradiction-clause-refuted
returns-in-Contradiction-clause-refuted c = λ _ m solves agrees.
    c.in-Contradiction.ensures.tells m (c.requires.board.present m solves agrees).0
    (instance_true c.args.setup.now m solves c.clauses-clauses.result.now c.args.clause c.index-clauses-clause.result c.args.env.now c.as_slice.result.now c.clauses-clauses.ensures
    (omega (arith, c.if-clause-clauses.false)) c.index-clauses-clause.is c.requires.board.some c.requires.env c.as_slice.ensures.literals)

pub returns-in-Contradiction-clause-goes : goal.returns-in-Contradiction-clause-goes
returns-in-Contradiction-clause-goes c = λ cells well. (
  goes_once c.args.setup.now c.args.trail.now c.clauses-clauses.result.now c.args.clause c.index-clauses-clause.result c.args.env.now (map literal_of c.as_slice.result.now) c.clauses-clauses.ensures
      (omega (arith, c.if-clause-clauses.false)) c.index-clauses-clause.is c.requires.board.some c.requires.env c.as_slice.ensures.literals
      Contradiction c.in-Contradiction.ensures.seen cells well false c.args.trail.now refl,
  λ done. absurd (let e : false ≡ true = done in cc),
)

pub returns-in-Asks-clause-goes : goal.returns-in-Asks-clause-goes
returns-in-Asks-clause-goes c = λ cells well. (
  goes_once c.args.setup.now c.args.trail.now c.clauses-clauses.result.now c.args.clause c.index-clauses-clause.result c.args.env.now (map literal_of c.as_slice.result.now) c.clauses-clauses.ensures
      (omega (arith, c.if-clause-clauses.false)) c.index-clauses-clause.is c.requires.board.some c.requires.env c.as_slice.ensures.literals
      (Asks c.in-Asks.ask) c.in-Asks.ensures.seen cells well c.obey.result c.obey.new.trail (c.obey.ensures.follows cells (well c.in-Asks.ask.cell c.in-Asks.ensures.tells.0)),
  λ done k few. c.obey.ensures.well done k few (well k few),
)

pub returns-then-clause-clauses-clause-looked : goal.returns-then-clause-clauses-clause-looked
returns-then-clause-clauses-clause-looked c = λ _ _ _ d at.
    let inside : c.args.clause < length (map (λ r. r.1) c.clauses-clauses.result.now) = rw c.clauses-clauses.ensures at.0 in
    absurd (omega (arith, inside, length-map c.clauses-clauses.result.now (λ r. r.1), c.if-clause-clauses.true))

pub returns-in-Quiet-clause-looked : goal.returns-in-Quiet-clause-looked
returns-in-Quiet-clause-looked c = λ cells well _ d at.
    done_once c.args.setup.now c.args.trail.now c.clauses-clauses.result.now c.args.clause c.index-clauses-clause.result c.args.env.now (map literal_of c.as_slice.result.now) c.clauses-clauses.ensures
    (omega (arith, c.if-clause-clauses.false)) c.index-clauses-clause.is c.requires.board.some c.requires.env c.as_slice.ensures.literals
    Quiet c.in-Quiet.ensures.seen cells well c.args.trail.now d refl (clause_of_row c.clauses-clauses.result.now c.args.setup.now.clauses c.args.clause c.index-clauses-clause.result d c.clauses-clauses.ensures (omega (arith, c.if-clause-clauses.false)) c.index-clauses-clause.is at.1)

pub returns-in-Asks-clause-looked : goal.returns-in-Asks-clause-looked
returns-in-Asks-clause-looked c = λ cells well done d at.
    done_once c.args.setup.now c.args.trail.now c.clauses-clauses.result.now c.args.clause c.index-clauses-clause.result c.args.env.now (map literal_of c.as_slice.result.now) c.clauses-clauses.ensures
    (omega (arith, c.if-clause-clauses.false)) c.index-clauses-clause.is c.requires.board.some c.requires.env c.as_slice.ensures.literals
    (Asks c.in-Asks.ask) c.in-Asks.ensures.seen cells well c.obey.new.trail d (subst (λ (b : Bool). IsFollowed c.args.setup.now c.args.trail.now (told_of c.args.setup.now (Asks c.in-Asks.ask)) b c.obey.new.trail) done (c.obey.ensures.follows cells (well c.in-Asks.ask.cell c.in-Asks.ensures.tells.0))) (clause_of_row c.clauses-clauses.result.now c.args.setup.now.clauses c.args.clause c.index-clauses-clause.result d c.clauses-clauses.ensures (omega (arith, c.if-clause-clauses.false)) c.index-clauses-clause.is at.1)

pub returns-then-clause-clauses-clause-grows : goal.returns-then-clause-clauses-clause-grows
returns-then-clause-clauses-clause-grows c = grows_none c.args.trail.now

pub returns-in-Quiet-clause-grows : goal.returns-in-Quiet-clause-grows
returns-in-Quiet-clause-grows c = grows_none c.args.trail.now

pub returns-in-Contradiction-clause-grows : goal.returns-in-Contradiction-clause-grows
returns-in-Contradiction-clause-grows c = grows_none c.args.trail.now
