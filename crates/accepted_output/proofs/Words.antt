-- Words that are fit, with numbers below 2 ^ 64, can be said.
use Rattle.std.proofs.Common.{◌≡◌, false, List, [], ◌∷◌}
use Rattle.std.specs.List.{AllByRecursion}
use Rattle.derivation.specs.Later.{LaterWord, flipped, merged, reflexive, unit_deleted, rewritten}
use Rattle.printed_proofs.specs.LineBounds.{AreBoundedFirst, IsBoundedLater, AreBoundedLater, AreBoundedWords}
use Rattle.search_lines.specs.Shapes.{IsFitFirst, IsFitLater}
use Rattle.proof_words.specs.Spelling.{takes_steps}
use Rattle.proof_words.specs.Written.{Written, WrittenFirst, as_assumption, as_goal, by_clausify, by_deny, by_copy, by_back_rewrite, by_back_unit_del, by_resolve, by_hyper, by_ur, by_factor, by_para, by_xx_res, by_instantiate}
use Rattle.words_print.specs.Sayable.{IsSayableFirst, IsSayableLater, AreSayable, IsSayable}

-- whatever the numbers, of a formula or of a clause
pub record AreFit (w : Written) : Type 0 where
  pub first : IsFitFirst w.first
  pub later : AllByRecursion IsFitLater w.later
  pub alone : takes_steps w.first ≡ false → w.later ≡ []

first_said : (w : WrittenFirst) → IsFitFirst w → AreBoundedFirst w → IsSayableFirst w
first_said as_assumption fit bounds = tt
first_said as_goal fit bounds = tt
first_said (by_clausify n) fit bounds = bounds
first_said (by_deny n) fit bounds = bounds
first_said (by_copy n) fit bounds = bounds
first_said (by_back_rewrite n) fit bounds = bounds
first_said (by_back_unit_del n) fit bounds = bounds
first_said (by_resolve n s) fit bounds = bounds
first_said (by_hyper n ss) fit bounds = (bounds.0, fit, bounds.1)
first_said (by_ur n ss) fit bounds = (bounds.0, fit, bounds.1)
first_said (by_factor n a b) fit bounds = bounds
first_said (by_para n a side m b path) fit bounds = (bounds.0, bounds.1, bounds.2, bounds.3, bounds.4, (fit, bounds.5))
first_said (by_xx_res n a) fit bounds = bounds
first_said (by_instantiate n es) fit bounds = absurd fit

later_said : (w : LaterWord) → IsFitLater w → IsBoundedLater w → IsSayableLater w
later_said (flipped a) fit bounds = bounds
later_said (merged a) fit bounds = bounds
later_said (reflexive a) fit bounds = bounds
later_said (unit_deleted a n) fit bounds = bounds
later_said (rewritten n a path) fit bounds = (bounds.0, bounds.1, (fit, bounds.2))

all_said : (ws : List LaterWord) → AllByRecursion IsFitLater ws → AreBoundedLater ws → AreSayable ws
all_said [] fit bounds = tt
all_said (w ∷ ws) fit bounds = (later_said w fit.0 bounds.0, all_said ws fit.1 bounds.1)

pub words_said : (w : Written) → AreFit w → AreBoundedWords w → IsSayable w
words_said w fit bounds = record { first = first_said w.first fit.first bounds.first; later = all_said w.later fit.later bounds.later; alone = fit.alone }
