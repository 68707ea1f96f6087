-- What terms and literals ask, by what is known of their arguments.
use Rattle.std.proofs.Common.{◌≡◌, ℕ, Bool, if◌then◌else◌, List, [], ◌∷◌, length, Option, None, Some, refl, sym, ap, ◌∙◌}
use Rattle.std.specs.Option.{option_map}
use Rattle.std.proofs.lemmas.Bool.{eq-eqb}
use Rattle.fol_core.specs.Literals.{literal, equality}
use Rattle.fol_core.specs.Tree.{Tree, app, Trees, trees_of}
use Rattle.fol_core.specs.Truth.{Assignment}
use Rattle.fol_core.specs.declared.symbols.Kind.TheVariants.{Function, Relation}
use Rattle.mace_cells.specs.World.{World}
use Rattle.mace_cells.specs.declared.trail.TrailEntry.{TrailEntry}
use Rattle.cell_search.specs.Known.{seen, cell_seen}
use Rattle.cell_search.specs.Telling.{both_of, sides_seen, equation_asked, ask_for, literal_asked}

module _ (w : World) (es : List TrailEntry) (e : Assignment) where
  pub both_there : (s : ℕ) (ts : Trees) (t : Tree) (k v : ℕ) → Some k ≡ cell_seen w es e Function s ts → Some v ≡ seen w es e t → Some (k, v) ≡ sides_seen w es e (app s ts) t
  both_there s ts t k v cell value =
      ap (λ (o : Option ℕ). both_of o (Some v)) cell ∙ ap (both_of (cell_seen w es e Function s ts)) value

  pub no_cell : (s : ℕ) (ts : Trees) (t : Tree) → None ≡ cell_seen w es e Function s ts → None ≡ sides_seen w es e (app s ts) t
  no_cell s ts t cell = ap (λ (o : Option ℕ). both_of o (seen w es e t)) cell

  -- an equation has two sides
  no_sides : (ts : List Tree) → (length ts ≡ 2 → ⊥) → equation_asked w es e (trees_of ts) ≡ None
  no_sides [] h = refl
  no_sides (s ∷ []) h = refl
  no_sides (s ∷ t ∷ []) h = absurd (h refl)
  no_sides (s ∷ t ∷ u ∷ us) h = refl

  pub no_equation_asked : (positive : Bool) (r : ℕ) (ts : List Tree) → r ≡ equality → (length ts ≡ 2 → ⊥) → None ≡ literal_asked w es e (literal positive (app r (trees_of ts)))
  no_equation_asked positive r ts is other =
      sym (ap (λ (b : Bool). option_map (ask_for positive) (if b then equation_asked w es e (trees_of ts) else option_map (λ k. (k, 1)) (cell_seen w es e Relation r (trees_of ts)))) (eq-eqb r equality is)
      ∙ ap (option_map (ask_for positive)) (no_sides ts other))
