-- What is fit to be printed, whatever its numbers: the lines that a search makes.
use Rattle.std.specs.Prelude.{◌≡◌, ◌<◌, ◌≤◌, true, false, List, [], length}
use Rattle.std.specs.List.{AllByRecursion}
use Rattle.derivation.specs.Later.{LaterWord, flipped, merged, reflexive, unit_deleted, rewritten}
use Rattle.derivation.specs.Lines.{InputRow}
use Rattle.fol_core.specs.Literals.{ClauseTree}
use Rattle.fol_core.specs.Renumbered.{renumbered}
use Rattle.fol_problem.specs.Stated.{Said}
use Rattle.proof_words.specs.Spelling.{takes_steps}
use Rattle.proof_words.specs.Written.{WrittenFirst, states_formula, as_assumption, as_goal, by_clausify, by_deny, by_copy, by_back_rewrite, by_back_unit_del, by_resolve, by_hyper, by_ur, by_factor, by_para, by_xx_res, by_instantiate}
use Rattle.prover_steps.specs.Searching.{Setting, Queued, MadeLine, SearchState, clause_depth, next_state, SearchReaches}
use Rattle.prover_steps.specs.Starting.{start_state}

-- variables are numbered by first occurrence, and there are 1000 levels at most
pub record IsFitClause (c : ClauseTree) : Type 0 where
  pub numbered : renumbered c ≡ c
  pub levels : clause_depth c ≤ 1000

-- a nucleus has a satellite, and a path has a number; no search puts terms in
abbrev pub IsFitFirst : WrittenFirst → Type 0
IsFitFirst as_assumption = Unit {0}
IsFitFirst as_goal = Unit {0}
IsFitFirst (by_clausify n) = Unit {0}
IsFitFirst (by_deny n) = Unit {0}
IsFitFirst (by_copy n) = Unit {0}
IsFitFirst (by_back_rewrite n) = Unit {0}
IsFitFirst (by_back_unit_del n) = Unit {0}
IsFitFirst (by_resolve n s) = Unit {0}
IsFitFirst (by_hyper n ss) = 0 < length ss
IsFitFirst (by_ur n ss) = 0 < length ss
IsFitFirst (by_factor n a b) = Unit {0}
IsFitFirst (by_para n a side m b path) = 0 < length path
IsFitFirst (by_xx_res n a) = Unit {0}
IsFitFirst (by_instantiate n es) = ⊥

-- so it has behind the first word
abbrev pub IsFitLater : LaterWord → Type 0
IsFitLater (flipped a) = Unit {0}
IsFitLater (merged a) = Unit {0}
IsFitLater (reflexive a) = Unit {0}
IsFitLater (unit_deleted a n) = Unit {0}
IsFitLater (rewritten n a path) = 0 < length path

-- words of a clause, each of them fit, and none behind a first one that takes none
pub record AreFitWords (w : WrittenFirst) (ws : List LaterWord) : Type 0 where
  pub of_clause : states_formula w ≡ false
  pub first : IsFitFirst w
  pub later : AllByRecursion IsFitLater ws
  pub alone : takes_steps w ≡ false → ws ≡ []

-- the clause and the words of a line are fit
pub record IsFitLine (l : MadeLine) : Type 0 where
  pub clause : IsFitClause l.clause
  pub words : AreFitWords l.first l.later

-- a first word that is fit, and others may stand behind it
pub record IsFitSource (w : WrittenFirst) : Type 0 where
  pub takes : takes_steps w ≡ true
  pub first : IsFitFirst w

-- a clause of the queue comes by such a word
abbrev pub IsFitQueued : Queued → Type 0
IsFitQueued q = IsFitSource q.first

-- the lines of a state, and what stands in its queue
pub record IsFitState (s : SearchState) : Type 0 where
  pub lines : AllByRecursion IsFitLine s.lines
  pub queue : AllByRecursion IsFitQueued s.queue

-- a search begins with such a state
abbrev pub StartIsFit : Type 0
StartIsFit = (ss : List Said) (rows : List InputRow) → IsFitState (start_state ss rows)

-- each step leads from such a state to one
abbrev pub NextIsFit : Type 0
NextIsFit = (st : Setting) (s : SearchState) → IsFitState s → IsFitState (next_state st s)

-- and so do more steps
abbrev pub ReachedAreFit : Type 0
ReachedAreFit =
    (st : Setting) (s t : SearchState) → IsFitState s → SearchReaches st s t → IsFitState t

-- so each line is fit that a search makes from its start
abbrev pub MadeLinesAreFit : Type 0
MadeLinesAreFit =
    (st : Setting) (ss : List Said) (rows : List InputRow) (t : SearchState)
    → SearchReaches st (start_state ss rows) t → AllByRecursion IsFitLine t.lines
