-- No text that the law says is accepted is refused.
use Rattle.std.proofs.Common.{subst}
use Rattle.ladr_intake.specs.declared.stops.Refused.TheVariants.{Unreadable, Misuse, TooLarge}
use Rattle.ladr_made.proofs.Accepting.{unrefused}
use Rattle.ladr_made.proofs.proving.answer_of.Goals as goal
use Rattle.ladr_problem.specs.declared.refusal.ReadError.{ReadError}
use Rattle.proof_text.specs.Refused.{IsProofError}

pub returns-in-Err-Unreadable : goal.returns-in-Err-Unreadable
returns-in-Err-Unreadable c = absurd (unrefused c.args.text.now (Unreadable c.in-Err-Unreadable._place) c.requires (subst (λ (e : ReadError). IsProofError c.args.text.now e) c.in-Err-Unreadable.field-0-is c.in-Err-Unreadable.ensures.refused))

pub returns-in-Err-Misuse : goal.returns-in-Err-Misuse
returns-in-Err-Misuse c = absurd (unrefused c.args.text.now (Misuse c.in-Err-Misuse._place c.in-Err-Misuse._why) c.requires (subst (λ (e : ReadError). IsProofError c.args.text.now e) c.in-Err-Misuse.field-0-is c.in-Err-Misuse.ensures.refused))

pub returns-in-Err-TooLarge : goal.returns-in-Err-TooLarge
returns-in-Err-TooLarge c = absurd (unrefused c.args.text.now (TooLarge c.in-Err-TooLarge._byte c.in-Err-TooLarge._what) c.requires (subst (λ (e : ReadError). IsProofError c.args.text.now e) c.in-Err-TooLarge.field-0-is c.in-Err-TooLarge.ensures.refused))
