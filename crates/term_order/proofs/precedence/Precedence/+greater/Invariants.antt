-- Subterms have smaller numbers; the terms from here on decide.
use Rattle.std.proofs.Common.{◌≡◌, ◌+◌, ◌*◌}
use Rattle.fol_core.specs.Tree.{trees_of}
use Rattle.term_bank.specs.Bank.{tree_at}
use Rattle.term_order.specs.Compared.{is_greater_than_each}
use Rattle.term_order.specs.Lpo.{lpo_greater, some_at_least}
use Rattle.term_order.specs.Precedences.{stands_above}
use Rattle.term_order.proofs.Bounds.{bound}
use Rattle.term_order.proofs.Walks.{terms_from}
use Rattle.term_order.proofs.precedence.Precedence.+greater.Given as goal

abbrev pub decreases-is_greater : goal.decreases-is_greater
decreases-is_greater l = 4 * (l.s.0 + l.t.0) + 3

abbrev pub decreases-is_greater_within : goal.decreases-is_greater_within
decreases-is_greater_within l = 4 * (l.s.0 + l.t.0) + 2

abbrev pub decreases-some_at_least : goal.decreases-some_at_least
decreases-some_at_least l = 4 * (bound l.ss.now + l.t.0) + 1

abbrev pub decreases-is_above_each : goal.decreases-is_above_each
decreases-is_above_each l = 4 * (l.s.0 + bound l.ts.now) + 1

abbrev pub invariant-some_at_least-loop-s : goal.invariant-some_at_least-loop-s
invariant-some_at_least-loop-s l =
    some_at_least (stands_above l.self.rows.items) (trees_of (terms_from l.bank l.ss 0)) (tree_at l.bank l.t.0)
    ≡ some_at_least (stands_above l.self.rows.items) (trees_of (terms_from l.bank l.ss l.s-index)) (tree_at l.bank l.t.0)

abbrev pub invariant-is_above_each-loop-t : goal.invariant-is_above_each-loop-t
invariant-is_above_each-loop-t l =
    is_greater_than_each (lpo_greater (stands_above l.self.rows.items)) (tree_at l.bank l.s.0) (terms_from l.bank l.ts 0)
    ≡ is_greater_than_each (lpo_greater (stands_above l.self.rows.items)) (tree_at l.bank l.s.0) (terms_from l.bank l.ts l.t-index)
