-- Which words can be written so that they are read again.
use Rattle.std.specs.Prelude.{◌≡◌, ℕ, ◌<◌, ◌^◌, false, List, [], ◌∷◌, length}
use Rattle.derivation.specs.Later.{LaterWord, flipped, merged, reflexive, unit_deleted, rewritten}
use Rattle.derivation.specs.declared.words.Satellite.{Satellite}
use Rattle.proof_words.specs.Spelling.{takes_steps}
use Rattle.proof_words.specs.Written.{Written, WrittenFirst, as_assumption, as_goal, by_clausify, by_deny, by_copy, by_back_rewrite, by_back_unit_del, by_resolve, by_hyper, by_ur, by_factor, by_para, by_xx_res, by_instantiate}

-- at most 18,446,744,073,709,551,615
abbrev pub IsShort : ℕ → Type 0
IsShort n = n < 2 ^ 64

abbrev pub AreShort : List ℕ → Type 0
AreShort [] = Unit {0}
AreShort (n ∷ ns) = IsShort n × AreShort ns

-- a path has a number
abbrev pub IsSayablePath : List ℕ → Type 0
IsSayablePath path = (0 < length path) × AreShort path

abbrev pub IsShortSatellite : Satellite → Type 0
IsShortSatellite s = IsShort s.place × IsShort s.clause × IsShort s.literal

abbrev pub AreShortSatellites : List Satellite → Type 0
AreShortSatellites [] = Unit {0}
AreShortSatellites (s ∷ ss) = IsShortSatellite s × AreShortSatellites ss

-- a nucleus has a satellite
abbrev pub IsSayableClash : ℕ → List Satellite → Type 0
IsSayableClash n ss = IsShort n × (0 < length ss) × AreShortSatellites ss

-- a word with terms can't be said yet
abbrev pub IsSayableFirst : WrittenFirst → Type 0
IsSayableFirst as_assumption = Unit {0}
IsSayableFirst as_goal = Unit {0}
IsSayableFirst (by_clausify n) = IsShort n
IsSayableFirst (by_deny n) = IsShort n
IsSayableFirst (by_copy n) = IsShort n
IsSayableFirst (by_back_rewrite n) = IsShort n
IsSayableFirst (by_back_unit_del n) = IsShort n
IsSayableFirst (by_resolve n s) = IsShort n × IsShortSatellite s
IsSayableFirst (by_hyper n ss) = IsSayableClash n ss
IsSayableFirst (by_ur n ss) = IsSayableClash n ss
IsSayableFirst (by_factor n a b) = IsShort n × IsShort a × IsShort b
IsSayableFirst (by_para n a side m b path) =
    IsShort n × IsShort a × IsShort side × IsShort m × IsShort b × IsSayablePath path
IsSayableFirst (by_xx_res n a) = IsShort n × IsShort a
IsSayableFirst (by_instantiate n es) = ⊥

abbrev pub IsSayableLater : LaterWord → Type 0
IsSayableLater (flipped a) = IsShort a
IsSayableLater (merged a) = IsShort a
IsSayableLater (reflexive a) = IsShort a
IsSayableLater (unit_deleted a n) = IsShort a × IsShort n
IsSayableLater (rewritten n a path) = IsShort n × IsShort a × IsSayablePath path

abbrev pub AreSayable : List LaterWord → Type 0
AreSayable [] = Unit {0}
AreSayable (w ∷ ws) = IsSayableLater w × AreSayable ws

-- the numbers and places are short, no satellite or path is missing, and no word stands behind one
-- that takes none
pub record IsSayable (w : Written) : Type 0 where
  pub first : IsSayableFirst w.first
  pub later : AreSayable w.later
  pub alone : takes_steps w.first ≡ false → w.later ≡ []
