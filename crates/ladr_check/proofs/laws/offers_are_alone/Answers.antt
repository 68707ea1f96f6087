use Rattle.ladr_check.proofs.OneOffer.{offered_once, unrefused}
use Rattle.ladr_check.proofs.laws.offers_are_alone.Goals as goal

pub returns : goal.returns
returns c = λ bytes x offered. (
  offered,
  λ y other. offered_once c.one_outcome.ensures bytes c.one_line.ensures x y offered other,
  λ why refused. unrefused c.one_outcome.ensures bytes c.one_line.ensures c.bad_tokens_are_bad.ensures x why offered refused,
)
