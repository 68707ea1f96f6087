-- Subterms have smaller numbers; the weight so far and that of the terms from here on are all.
use Rattle.std.proofs.Common.{◌≡◌, ◌≤◌, ◌+◌, ◌*◌}
use Rattle.fol_core.specs.Sizes.{sizes_of}
use Rattle.fol_core.specs.Tree.{trees_of}
use Rattle.term_order.specs.Kbo.{weigh_all}
use Rattle.term_order.specs.Precedences.{weight_at}
use Rattle.term_order.proofs.Bounds.{bound}
use Rattle.term_order.proofs.Walks.{terms_from}
use Rattle.term_order.proofs.precedence.Precedence.+weigh.Given as goal

abbrev pub decreases-weigh : goal.decreases-weigh
decreases-weigh l = 2 * l.t.0 + 1

abbrev pub decreases-weigh_all : goal.decreases-weigh_all
decreases-weigh_all l = 2 * bound l.ts.now

abbrev pub invariant-weigh_all-loop-t : goal.invariant-weigh_all-loop-t
invariant-weigh_all-loop-t l =
    (l.weight + weigh_all (weight_at l.self.rows.items) (trees_of (terms_from l.bank l.ts l.t-index)) ≡ weigh_all (weight_at l.self.rows.items) (trees_of (terms_from l.bank l.ts 0)))
    × (l.weight + 4294967295 * sizes_of (trees_of (terms_from l.bank l.ts l.t-index)) ≤ 4294967295 * sizes_of (trees_of (terms_from l.bank l.ts 0)))
