-- The term is put in, or would make the clause too large.
use Rattle.inference.proofs.ClashSteps.{place_within}
use Rattle.inference.proofs.PlainSteps.{put_large}
use Rattle.inference.specs.Followed.{IsExchanged}
use Rattle.std.proofs.Common.{subst}
use Rattle.inference.proofs.plain.put_made.Goals as goal

pub exchange-old-requires : goal.exchange-old-requires
exchange-old-requires c = place_within c.args.clause.now c.args.place c.requires

pub returns-in-TooLarge : goal.returns-in-TooLarge
returns-in-TooLarge c = λ left right t at is. put_large c.args.clause.now c.args.place c.args.path.now left right t at c.requires (subst (λ m. IsExchanged left right t m) c.in-TooLarge.is is)
