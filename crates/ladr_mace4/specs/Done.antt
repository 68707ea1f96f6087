-- What a search has done of the plain search of a size.
use Rattle.std.specs.Prelude.{◌≡◌, ℕ, suc, List, [], ◌∷◌, ◌++◌, map}
use Rattle.cell_search.specs.Finites.{tables_over, finite_at}
use Rattle.fol_problem.specs.Stated.{Stated}
use Rattle.ladr_cells.specs.Worlds.{world_for}
use Rattle.ladr_mace4.specs.Skolems.{all_symbols}
use Rattle.mace_cells.specs.declared.way.Way.{Way}
use Rattle.model_tables.specs.Tables.{Finite}
use Rattle.plain_search.specs.Coming.{Event, choice, leaf, events, leaves_among}
use Rattle.plain_search.specs.Lefts.{ValuesLeft}

-- how many cells are chosen
abbrev pub choices_among : List Event → ℕ
choices_among [] = 0
choices_among (choice ∷ es) = suc (choices_among es)
choices_among (leaf q ∷ es) = choices_among es

-- the tables of a leaf, for all symbols of what is stated
abbrev pub tables_at : Stated → ℕ → Way → ValuesLeft → Finite
tables_at p n way q = tables_over (all_symbols p) (finite_at (world_for p n way) q)

-- those of the leaves among events, in their order
abbrev pub tables_among : Stated → ℕ → Way → List Event → List Finite
tables_among p n way es = map (tables_at p n way) (leaves_among es)

-- those of all leaves
abbrev pub leaf_models : Stated → ℕ → Way → List Finite
leaf_models p n way = tables_among p n way (events (world_for p n way))

-- Of all that the plain search of size n does, this is done, and that is still to come. What is
-- done finds these models and chooses so many cells.
pub record HasDone (p : Stated) (n : ℕ) (way : Way) (us : List Finite) (chosen : ℕ)
    (done rest : List Event) : Type 0 where
  pub parts : events (world_for p n way) ≡ done ++ rest
  pub models : us ≡ tables_among p n way done
  pub count : chosen ≡ choices_among done

-- All of it is done: the models are those of all leaves, in their order.
pub record HasDoneAll (p : Stated) (n : ℕ) (way : Way) (us : List Finite) (chosen : ℕ) : Type
    0 where
  pub models : us ≡ leaf_models p n way
  pub count : chosen ≡ choices_among (events (world_for p n way))

-- some of it, perhaps nothing or all
abbrev pub HasDoneSome : Stated → ℕ → Way → List Finite → ℕ → Type 0
HasDoneSome p n way us chosen =
    (done : List Event) × ((rest : List Event) × HasDone p n way us chosen done rest)

-- up to a choice of a cell, which comes next
abbrev pub ComesToChoice : Stated → ℕ → Way → List Finite → ℕ → Type 0
ComesToChoice p n way us chosen =
    (done : List Event) × ((rest : List Event) × HasDone p n way us chosen done (choice ∷ rest))

-- up to a leaf, which is found
abbrev pub ComesToLeaf : Stated → ℕ → Way → List Finite → ℕ → Type 0
ComesToLeaf p n way us chosen =
    (before : List Event)
    × ((q : ValuesLeft)
    × ((rest : List Event) × HasDone p n way us chosen (before ++ leaf q ∷ []) rest))
