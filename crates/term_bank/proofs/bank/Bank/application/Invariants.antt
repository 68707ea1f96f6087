-- What is counted so far, with what the rest has, is what all have.
use Rattle.std.proofs.Common.{◌≡◌, ◌+◌, max, drop, map}
use Rattle.fol_core.specs.Sizes.{sizes_of, depths_of, saturated}
use Rattle.fol_core.specs.Tree.{trees_of}
use Rattle.term_bank.specs.Bank.{tree_at}
use Rattle.term_bank.specs.declared.id.TermId.{TermId}
use Rattle.term_bank.proofs.bank.Bank.application.Given as goal

abbrev pub invariant-loop-argument : goal.invariant-loop-argument
invariant-loop-argument l =
    (saturated (sizes_of (trees_of (map (λ (k : TermId). tree_at l.self k.0) (drop l.argument-index l.arguments))) + l.size) ≡ saturated (sizes_of (trees_of (map (λ (k : TermId). tree_at l.self k.0) l.arguments)) + 1))
    × (max (depths_of (trees_of (map (λ (k : TermId). tree_at l.self k.0) (drop l.argument-index l.arguments)))) l.depth ≡ depths_of (trees_of (map (λ (k : TermId). tree_at l.self k.0) l.arguments)))
    × (saturated l.size ≡ l.size)
