-- Where the Skolem symbols of a problem stand.
use Rattle.std.specs.Prelude.{◌≡◌, ◌⊎◌, ◌≤◌, ◌<◌, ◌^◌, ℕ, suc, false, List, [], ◌∷◌, ◌++◌, length}
use Rattle.std.specs.List.{AllByRecursion}
use Rattle.clausify.specs.Input.{skolems, with_skolems, axioms_in_table}
use Rattle.clausify.specs.Names.{letter_numbered, is_named}
use Rattle.fol_core.specs.Literals.{equality}
use Rattle.fol_core.specs.SkolemAxioms.{SkolemAxiom}
use Rattle.fol_problem.specs.Stated.{Stated}
use Rattle.fol_core.specs.SymbolTable.{Symbol, FindsEach}
use Rattle.fol_core.specs.declared.symbols.Kind.TheVariants.{Function}

-- The symbols are functions whose numbers are n and those behind it, each for its witness, with an
-- argument for each of its variables.
abbrev pub AreFor : ℕ → List Symbol → List SkolemAxiom → Type 0
AreFor n [] [] = Unit {0}
AreFor n [] (w ∷ ws) = ⊥
AreFor n (s ∷ ss) [] = ⊥
AreFor n (s ∷ ss) (w ∷ ws) =
    (w.symbol ≡ n) × (s.kind ≡ Function) × (length w.variables ≡ s.arity) × AreFor (suc n) ss ws

-- named `c` or `f` with a number of at most 64 digits, as none of these symbols is
abbrev pub HasOwnName : List Symbol → Symbol → Type 0
HasOwnName table s =
    (is_named table s.name ≡ false)
    × ((letter n : ℕ) × ((letter ≡ 99) ⊎ (letter ≡ 102)) × (n < 10 ^ 64)
    × (s.name ≡ letter_numbered letter n))

-- The Skolem symbols stand behind all symbols of the problem, whose table they are entered into:
-- each for its witness, and with a name of its own. No two symbols are the same where no two of the
-- problem are.
pub record StandBehind (p : Stated) : Type 0 where
  pub table : with_skolems p.symbols p ≡ p.symbols ++ skolems p.symbols p.formulas
  pub witnesses : AreFor (length p.symbols) (skolems p.symbols p.formulas)
      (axioms_in_table p.symbols p)
  pub names : AllByRecursion (HasOwnName p.symbols) (skolems p.symbols p.formulas)
  pub different : FindsEach p.symbols → FindsEach (with_skolems p.symbols p)

-- so it is where there are no more of them than numbers of symbols
abbrev pub SkolemsStandBehind : Type 0
SkolemsStandBehind =
    (p : Stated) → length p.symbols ≤ equality → length (axioms_in_table p.symbols p) ≤ equality →
    StandBehind p
