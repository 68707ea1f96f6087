-- An argument has a smaller number; the terms made are those of the arguments so far.
use Rattle.std.proofs.Common.{◌≡◌, take, map}
use Rattle.term_bank.specs.Bank.{tree_at}
use Rattle.term_bank.specs.declared.id.TermId.{TermId}
use Rattle.term_bank.proofs.bank.Bank.+plain.Given as goal

abbrev pub decreases-plain : goal.decreases-plain
decreases-plain c = c.id.0

abbrev pub invariant-loop-argument : goal.invariant-loop-argument
invariant-loop-argument l = l.terms ≡ map (λ (k : TermId). tree_at l.self k.0) (take l.argument-index l.arguments)
