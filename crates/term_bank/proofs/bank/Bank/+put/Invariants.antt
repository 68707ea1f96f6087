-- The numbers so far are those of the first arguments.
use Rattle.std.proofs.Common.{◌≡◌, take, map, length}
use Rattle.fol_core.specs.TermView.{tree_list}
use Rattle.term_bank.specs.Bank.{tree_at, Grows}
use Rattle.term_bank.specs.Cells.{AreNumbersBelow, numbers}
use Rattle.term_bank.specs.declared.id.TermId.{TermId}
use Rattle.term_bank.proofs.bank.Bank.+put.Given as goal

abbrev pub invariant-loop-term : goal.invariant-loop-term
invariant-loop-term l =
    Grows l.fn.self l.self
    × AreNumbersBelow (length l.self) (numbers l.arguments.items)
    × (map (λ (k : TermId). tree_at l.self k.0) l.arguments.items ≡ tree_list (take l.term-index l.term-items))
