use Rattle.std.proofs.Common.{◌≡◌, ℕ, ◌<◌, get_or, List, max, sym, ap, ap₂, ◌∙◌, subst, arith}
use Rattle.std.proofs.Math.ListN.{get_or-map}
use Rattle.cell_choice.proofs.Picking.{candidate, limit_is}
use Rattle.cell_choice.specs.Choosing.{IsLimit, index_by}
use Rattle.fol_core.specs.declared.symbols.Kind.TheVariants.{Function}
use Rattle.mace_cells.specs.declared.way.Candidates.TheVariants.{LeastIndex}
use Rattle.cell_choice.proofs.choice.limit.Goals as goal

pub returns : goal.returns
returns c =
    let t = c.args.trail.now in
    let first = c.in_ok-first.first in
    let foremost = c.in_ok-first.ensures in
    let ranked = foremost.1.0 in
    let here = candidate t foremost.0 ranked LeastIndex c.args.used first foremost.1.1.0 in
    let bytes : (k : ℕ) → index_by t k < 256 = (λ k. let small = ranked.bytes k in let same = ap (λ (xs : List ℕ). get_or xs k 0) ranked.indices in omega (arith, small, same)) in
    let index = sym (get_or-map (λ s. s.above) c.args.shapes.now first (record { kind = Function; above = 0 })) ∙ ap (λ (xs : List ℕ). get_or xs first 0) c.requires.indices in
    subst (IsLimit (index_by t) t c.args.candidates c.args.used) (sym (c.max.ensures ∙ ap₂ max c.index_up_to.ensures index))
    (limit_is t c.args.candidates c.args.used first here.0 here.1 bytes)
