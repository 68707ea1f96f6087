-- Subterms have smaller numbers; the places so far and those from here on are all.
use Rattle.std.proofs.Common.{◌≡◌, ◌+◌, ◌*◌}
use Rattle.fol_core.specs.Tree.{trees_of}
use Rattle.term_order.specs.Kbo.{times_in_all}
use Rattle.term_order.proofs.Bounds.{bound}
use Rattle.term_order.proofs.Walks.{terms_from}
use Rattle.term_order.proofs.kbo.+times.Given as goal

abbrev pub decreases-times_in : goal.decreases-times_in
decreases-times_in l = 2 * l.t.0 + 1

abbrev pub decreases-times_among : goal.decreases-times_among
decreases-times_among l = 2 * bound l.ts.now

abbrev pub invariant-times_among-loop-t : goal.invariant-times_among-loop-t
invariant-times_among-loop-t l = l.times + times_in_all l.x (trees_of (terms_from l.bank l.ts l.t-index)) ≡ times_in_all l.x (trees_of (terms_from l.bank l.ts 0))
