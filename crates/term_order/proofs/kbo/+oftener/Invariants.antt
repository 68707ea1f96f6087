-- Subterms have smaller numbers; the terms from here on decide.
use Rattle.std.proofs.Common.{◌≡◌, ◌+◌, ◌*◌}
use Rattle.fol_core.specs.Tree.{trees_of}
use Rattle.term_order.specs.Compared.{trees_under}
use Rattle.term_order.specs.Kbo.{none_oftener_all}
use Rattle.term_order.proofs.Bounds.{bound}
use Rattle.term_order.proofs.Walks.{terms_from}
use Rattle.term_order.proofs.kbo.+oftener.Given as goal

abbrev pub decreases-none_oftener : goal.decreases-none_oftener
decreases-none_oftener l = 2 * l.u.0 + 1

abbrev pub decreases-none_oftener_among : goal.decreases-none_oftener_among
decreases-none_oftener_among l = 2 * bound l.us.now

abbrev pub invariant-none_oftener_among-loop-u : goal.invariant-none_oftener_among-loop-u
invariant-none_oftener_among-loop-u l =
    none_oftener_all (trees_of (trees_under l.bank l.ss)) (trees_of (trees_under l.bank l.ts)) (trees_of (terms_from l.bank l.us 0))
    ≡ none_oftener_all (trees_of (trees_under l.bank l.ss)) (trees_of (trees_under l.bank l.ts)) (trees_of (terms_from l.bank l.us l.u-index))
