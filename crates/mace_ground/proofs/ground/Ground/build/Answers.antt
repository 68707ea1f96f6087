use Rattle.std.proofs.Common.{map, arith}
use Rattle.mace_ground.proofs.Sums.{cells_both}
use Rattle.mace_ground.proofs.ground.Ground.build.Goals as goal

pub add_symbols-requires : goal.add_symbols-requires
add_symbols-requires c =
    let both = cells_both c.args.size c.args.symbols.now (map (λ s. s.0) c.args.clauses.now.symbols.items) (map (λ e. e.symbol.0) c.args.clauses.now.skolem.items) in
    rw (c.new-blocks.ensures, c.deref.ensures.value) (omega (arith, both, c.requires))

pub add_skolem-requires : goal.add_skolem-requires
add_skolem-requires c =
    let both = cells_both c.args.size c.args.symbols.now (map (λ s. s.0) c.args.clauses.now.symbols.items) (map (λ e. e.symbol.0) c.args.clauses.now.skolem.items) in
    rw (c.in_ok-add_symbols.ensures, c.new-blocks.ensures, c.deref.ensures.value, c.deref-2.ensures.value) (omega (arith, both, c.requires))
