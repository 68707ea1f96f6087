-- The numbers of lines of a proof that are below 2 ^ 64, since the code keeps them in 64 bits.
use Rattle.std.specs.Prelude.{ℕ, ◌≤◌, ◌^◌, List, [], ◌∷◌, length}
use Rattle.derivation.specs.Later.{LaterWord, flipped, merged, reflexive, unit_deleted, rewritten}
use Rattle.derivation.specs.declared.line.Content.{Content}
use Rattle.derivation.specs.declared.line.Content.TheVariants.{Formula, Clause}
use Rattle.derivation.specs.declared.line.Line.{Line}
use Rattle.derivation.specs.declared.words.Satellite.{Satellite}
use Rattle.fol_core.specs.Literals.{ClauseTree}
use Rattle.fol_core.specs.Renumbered.{clause_variables}
use Rattle.proof_words.specs.Written.{Written, WrittenFirst, written_of, as_assumption, as_goal, by_clausify, by_deny, by_copy, by_back_rewrite, by_back_unit_del, by_resolve, by_hyper, by_ur, by_factor, by_para, by_xx_res, by_instantiate}
use Rattle.words_print.specs.Sayable.{IsShort, AreShort, IsShortSatellite, AreShortSatellites}

-- the numbers of a nucleus and its satellites are below 2 ^ 64
abbrev pub AreBoundedClash : ℕ → List Satellite → Type 0
AreBoundedClash n ss = IsShort n × AreShortSatellites ss

-- the numbers of a first word are
abbrev pub AreBoundedFirst : WrittenFirst → Type 0
AreBoundedFirst as_assumption = Unit {0}
AreBoundedFirst as_goal = Unit {0}
AreBoundedFirst (by_clausify n) = IsShort n
AreBoundedFirst (by_deny n) = IsShort n
AreBoundedFirst (by_copy n) = IsShort n
AreBoundedFirst (by_back_rewrite n) = IsShort n
AreBoundedFirst (by_back_unit_del n) = IsShort n
AreBoundedFirst (by_resolve n s) = IsShort n × IsShortSatellite s
AreBoundedFirst (by_hyper n ss) = AreBoundedClash n ss
AreBoundedFirst (by_ur n ss) = AreBoundedClash n ss
AreBoundedFirst (by_factor n a b) = IsShort n × IsShort a × IsShort b
AreBoundedFirst (by_para n a side m b path) =
    IsShort n × IsShort a × IsShort side × IsShort m × IsShort b × AreShort path
AreBoundedFirst (by_xx_res n a) = IsShort n × IsShort a
AreBoundedFirst (by_instantiate n es) = IsShort n

-- the numbers of a word behind the first are
abbrev pub IsBoundedLater : LaterWord → Type 0
IsBoundedLater (flipped a) = IsShort a
IsBoundedLater (merged a) = IsShort a
IsBoundedLater (reflexive a) = IsShort a
IsBoundedLater (unit_deleted a n) = IsShort a × IsShort n
IsBoundedLater (rewritten n a path) = IsShort n × IsShort a × AreShort path

-- the numbers of all words behind the first are
abbrev pub AreBoundedLater : List LaterWord → Type 0
AreBoundedLater [] = Unit {0}
AreBoundedLater (w ∷ ws) = IsBoundedLater w × AreBoundedLater ws

-- the numbers of all words of a line are
pub record AreBoundedWords (w : Written) : Type 0 where
  pub first : AreBoundedFirst w.first
  pub later : AreBoundedLater w.later

-- a clause has no more variables than there are numbers below 2 ^ 64
abbrev pub HasFewVariables : ClauseTree → Type 0
HasFewVariables c = length (clause_variables c) ≤ 2 ^ 64

-- a line's clause has so few, if it is one
abbrev pub IsBoundedContent : Content → Type 0
IsBoundedContent (Formula f label) = Unit {0}
IsBoundedContent (Clause c) = HasFewVariables c

-- a line's number and those of its words are below 2 ^ 64, and its clause has few variables
pub record IsBoundedLine (l : Line) : Type 0 where
  pub number : IsShort l.number
  pub words : AreBoundedWords (written_of l.just)
  pub variables : IsBoundedContent l.content
