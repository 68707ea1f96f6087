use Rattle.std.proofs.Common.{refl}
use Rattle.ladr_io.proofs.StreamLaws.{Takes-none}
use Rattle.ladr_intake.proofs.refusing.or_refused.Goals as goal

pub returns-in-Err-Unreadable-clause-refused : goal.returns-in-Err-Unreadable-clause-refused
returns-in-Err-Unreadable-clause-refused g c = rw (c.in-Err-Unreadable.is, c.in-Err-Unreadable.field-0-is) c.refuse.ensures

pub returns-in-Err-Misuse-clause-refused : goal.returns-in-Err-Misuse-clause-refused
returns-in-Err-Misuse-clause-refused g c = rw (c.in-Err-Misuse.is, c.in-Err-Misuse.field-0-is) c.refuse-in-Err-Misuse.ensures

pub returns-in-Err-TooLarge-clause-refused : goal.returns-in-Err-TooLarge-clause-refused
returns-in-Err-TooLarge-clause-refused g c = rw (c.in-Err-TooLarge.is, c.in-Err-TooLarge.field-0-is) c.refuse-in-Err-TooLarge.ensures

pub returns-in-Err-Memory-clause-refused : goal.returns-in-Err-Memory-clause-refused
returns-in-Err-Memory-clause-refused g c = rw (c.in-Err-Memory.is, c.in-Err-Memory.field-0-is) (refl, Takes-none _)
