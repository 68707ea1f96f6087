use Rattle.std.proofs.Common.{◌≡◌, refl}
use Rattle.derivation.specs.View.{first_word_of}
use Rattle.derivation.specs.declared.words.First.{First}
use Rattle.derivation.specs.declared.words.First.TheVariants.{Assumption, Goal, Clausify, Deny, Copy, BackRewrite, BackUnitDel, Resolve, Hyper, Ur, Factor, Para, XxRes, Instantiate}
use Rattle.proof_words.specs.Written.{written_first, meant}
use Rattle.proof_words.proofs.laws.words_mean.Goals as goal

mean : (f : First) → first_word_of f ≡ meant (written_first f)
mean Assumption = refl
mean Goal = refl
mean (Clausify n) = refl
mean (Deny n) = refl
mean (Copy n) = refl
mean (BackRewrite n) = refl
mean (BackUnitDel n) = refl
mean (Resolve n s) = refl
mean (Hyper n ss) = refl
mean (Ur n ss) = refl
mean (Factor n a b) = refl
mean (Para p) = refl
mean (XxRes n a) = refl
mean (Instantiate n s) = refl

pub returns : goal.returns
returns _ = mean
