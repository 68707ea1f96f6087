-- What was seen of terms, beside the definitions.
use Rattle.std.specs.Prelude.{◌≡◌, ℕ, Bool, false, ◌&&◌, ◌==◌, List, [], ◌∷◌, codes}
use Rattle.std.specs.Str.{bytes_eq}
use Rattle.fol_core.specs.NamesOnce.{with_name}
use Rattle.fol_core.specs.RawTree.{RawTree, named, quantified, no_raws, more_raws}
use Rattle.fol_core.specs.RawView.{raw_of}
use Rattle.ladr_formulas.specs.Formulas.{arity_of}
use Rattle.ladr_rules.specs.declared.attributes.Split.{Split}
use Rattle.ladr_rules.specs.declared.attributes.Split.TheVariants.{Joined, Alone}

-- whether `#` joins two parts
abbrev pub is_joined : RawTree → Bool
is_joined (named s ts) = arity_of ts == 2 && bytes_eq s (codes "#")
is_joined (quantified q x t) = false

-- the term is the two parts with `#` between them, or the other one
abbrev pub IsSplit : RawTree → Split → Type 0
IsSplit t (Joined a b) = t ≡ named (codes "#") (more_raws (raw_of a) (more_raws (raw_of b) no_raws))
IsSplit t (Alone a) = (raw_of a ≡ t) × (is_joined t ≡ false)

-- the names with those of a second list behind them, each once
abbrev pub with_names : List (List ℕ) → List (List ℕ) → List (List ℕ)
with_names names [] = names
with_names names (n ∷ ns) = with_names (with_name n names) ns
