-- What a board tells of its decisions.
use Rattle.std.proofs.Common.{◌≡◌, ℕ, zero, suc, ◌+◌, ◌<◌, Bool, true, false, max, List, [], map, length, replicate, refl, ap, ◌∙◌, arith}
use Rattle.std.proofs.lemmas.Option.{none-some}
use Rattle.mace_cells.proofs.Steps.{carried_itself}
use Rattle.std.proofs.lemmas.List.{length-map}
use Rattle.cell_choice.proofs.Shaping.{shapes_many}
use Rattle.cell_choice.specs.Shapes.{cell_shapes, ranking_of}
use Rattle.cell_choice.specs.declared.shape.CellShape.{CellShape}
use Rattle.mace_cells.specs.Choices.{Decision}
use Rattle.mace_cells.specs.Trails.{Partial, partial, counts_crossed}
use Rattle.mace_cells.specs.World.{World, IsBound, cell_of, many_cells}
use Rattle.model_tables.specs.Size.{AllBelow, bound_of}
use Rattle.cell_search.specs.Losses.{IsBoard}
use Rattle.cell_search.proofs.Bounding.{value_below}

-- every value is below the bound of the cell
pub bound_is : (w : World) (ds : List Decision) (k most end : ℕ) → 0 < w.size → k < many_cells w → end ≡ bound_of w.size (cell_of w k).kind → most + 1 ≡ end → IsBound w ds (cell_of w k) most
bound_is w ds k most end some within is same = λ m solves agrees. (m, (solves, (agrees, let below = value_below w m k some solves within in omega (arith, below, is, same)), carried_itself w.fixed m))

-- nothing is decided yet
pub board_at_first : (w : World) → 0 < w.size → IsBoard w (partial (many_cells w) (max w.size 2) (ranking_of w) [] [])
board_at_first w some = record {
  some = some;
  many = refl;
  stride = refl;
  ranking = refl;
  fresh = tt;
  present = λ m solves agrees. ((λ k v within given. absurd (none-some _ given)), (λ k v within fits struck here. let h : false ≡ true = struck in cc));
  before = tt;
  once = tt;
}

pub first_table : (w : World) (shapes : List CellShape) (is : List ℕ) (t : Partial) (stride : ℕ) (counts : Bool) → shapes ≡ cell_shapes w.size w.blocks → is ≡ map (λ s. s.above) shapes → stride ≡ max w.size 2 → counts ≡ counts_crossed w.way.measure
    → t ≡ partial (length is) stride (record { indices = is; counts = counts }) [] [] → t ≡ partial (many_cells w) (max w.size 2) (ranking_of w) [] []
first_table w shapes is t stride counts same above greatest counted made =
    let ranks : List ℕ = map (λ s. s.above) (cell_shapes w.size w.blocks) in
    let indices : is ≡ ranks = above ∙ ap (λ (ss : List CellShape). map (λ s. s.above) ss) same in
    let many : length ranks ≡ many_cells w = length-map (cell_shapes w.size w.blocks) (λ s. s.above) ∙ shapes_many w.size w.blocks in
    made ∙ ap (λ (xs : List ℕ). partial (length xs) stride (record { indices = xs; counts = counts }) [] []) indices ∙ ap (λ (n : ℕ). partial n stride (record { indices = ranks; counts = counts }) [] []) many
    ∙ ap (λ (n : ℕ). partial (many_cells w) n (record { indices = ranks; counts = counts }) [] []) greatest ∙ ap (λ (b : Bool). partial (many_cells w) (max w.size 2) (record { indices = ranks; counts = b }) [] []) counted

pub zeros_below : (n k : ℕ) → 0 < n → AllBelow n (replicate k 0)
zeros_below n zero some = tt
zeros_below n (suc k) some = (some, zeros_below n k some)
