-- The cells of the interpretations of a size: one for each symbol and list of arguments.
use Rattle.std.specs.Prelude.{ℕ, zero, suc, ◌+◌, ◌-◌, ◌/◌, ◌%◌, ◌^◌, ◌==◌, nat_lt, if◌then◌else◌, List, [], ◌∷◌, map, Option, Some, None}
use Rattle.fol_core.specs.Meaning.{Meaning}
use Rattle.fol_core.specs.SymbolTable.{Symbol, arity_at, kind_at}
use Rattle.fol_core.specs.declared.symbols.Kind.{Kind}
use Rattle.fol_core.specs.declared.symbols.Kind.TheVariants.{Function, Relation}

-- a symbol with a list of arguments
pub record Cell : Type 0 where
  pub kind : Kind
  pub symbol : ℕ
  pub arguments : List ℕ

abbrev pub cell : Kind → ℕ → List ℕ → Cell
cell kind symbol arguments = record { kind = kind; symbol = symbol; arguments = arguments }

-- what a symbol has at these arguments: of a relation it is 1 where it holds and 0 where it doesn't
abbrev pub value_of_kind : Meaning → Kind → ℕ → List ℕ → ℕ
value_of_kind m Function s xs = m.function s xs
value_of_kind m Relation s xs = if m.relation s xs then 1 else 0

abbrev pub value_at : Meaning → Cell → ℕ
value_at m c = value_of_kind m c.kind c.symbol c.arguments

-- the cells of one symbol
pub record Block : Type 0 where
  pub kind : Kind
  pub symbol : ℕ
  pub arity : ℕ

-- those of some symbols of a table
abbrev pub blocks_of : List Symbol → List ℕ → List Block
blocks_of table symbols =
    map (λ s. record { kind = kind_at table s; symbol = s; arity = arity_at table s }) symbols

-- how many cells there are, where there are n elements
abbrev pub cells_in : ℕ → List Block → ℕ
cells_in n [] = 0
cells_in n (b ∷ bs) = n ^ b.arity + cells_in n bs

-- the k-th list of so many elements, the last running fastest
abbrev pub digits : ℕ → ℕ → ℕ → List ℕ
digits n zero k = []
digits n (suc a) k = k / n ^ a ∷ digits n a (k % n ^ a)

-- the k-th cell: by symbol, and then by arguments
abbrev pub cell_at : ℕ → List Block → ℕ → Cell
cell_at n [] k = cell Function 0 []
cell_at n (b ∷ bs) k =
    if nat_lt k (n ^ b.arity) then cell b.kind b.symbol (digits n b.arity k)
    else cell_at n bs (k - n ^ b.arity)

-- where the cells of a symbol begin, the first block of all beginning at k, and its block
abbrev pub found_from : ℕ → ℕ → List Block → ℕ → Option (ℕ × Block)
found_from n k [] s = None
found_from n k (b ∷ bs) s =
    if s == b.symbol then Some (k, b) else found_from n (k + n ^ b.arity) bs s

abbrev pub found : ℕ → List Block → ℕ → Option (ℕ × Block)
found n bs s = found_from n 0 bs s
