-- What a search answers, and what is still to come.
use Rattle.std.specs.Prelude.{ℕ, suc, ◌≡◌, Bool, true, false, List, [], ◌∷◌, ◌++◌, replicate, Option, Some}
use Rattle.ladr_io.specs.Times.{Times}
use Rattle.mace_cells.specs.Choices.{Choice, decisions}
use Rattle.mace_cells.specs.Readings.{ReadsOn}
use Rattle.mace_cells.specs.World.{World}
use Rattle.mace_search.specs.declared.answer.SearchAnswer.{SearchAnswer}
use Rattle.mace_search.specs.declared.answer.SearchAnswer.TheVariants.{Model, Exhausted, MaxSeconds}
use Rattle.plain_search.specs.Coming.{Event, choice, leaf, closed_behind, leaves_among, to_come}
use Rattle.plain_search.specs.Lefts.{ValuesLeft}
use Rattle.plain_search.specs.Trying.{leaves}

-- Of what is to come so many choices are passed over: up to a leaf, which is the table behind the
-- choices that stand then, and the rest remains; up to the end; or to one more choice.
abbrev pub ComesTo : World → Bool → List Choice → SearchAnswer → List Choice → ℕ → Type 0
ComesTo w live cs Model cs' n =
    (p : ValuesLeft)
    × ((closed_behind w (decisions cs') ≡ Some p)
    × (to_come w live cs ≡ replicate n choice ++ leaf p ∷ to_come w false cs'))
ComesTo w live cs Exhausted cs' n = to_come w live cs ≡ replicate n choice
ComesTo w live cs (MaxSeconds last) cs' n =
    (es : List Event)
    × ((to_come w true cs' ≡ choice ∷ es) × (to_come w live cs ≡ replicate n choice ++ choice ∷ es))

-- the clock is read once for each choice, and once more where the time is over
abbrev pub readings : SearchAnswer → ℕ → ℕ
readings Model n = n
readings Exhausted n = n
readings (MaxSeconds last) n = suc n

abbrev pub ComesInTime : World → Option ℕ → Bool → List Choice → SearchAnswer → List Choice → Times →
    Times → Type 0
ComesInTime w stop live cs answer cs' t t' =
    (n : ℕ) × (ComesTo w live cs answer cs' n × ReadsOn stop (readings answer n) t t')

-- One model after the other comes: up to each so many choices are passed over, and it is the table
-- behind the choices that stand then, from which the search goes on.
abbrev pub ModelsCome : World → Bool → List Choice → List ValuesLeft → Bool → List Choice → Type 0
ModelsCome w live cs [] live' cs' = (live' ≡ live) × (cs' ≡ cs)
ModelsCome w live cs (p ∷ ps) live' cs' =
    (ds : List Choice)
    × ((n : ℕ)
    × ((closed_behind w (decisions ds) ≡ Some p)
    × (to_come w live cs ≡ replicate n choice ++ leaf p ∷ to_come w false ds)
    × ModelsCome w false ds ps live' cs'))

-- From the beginning on they are leaves of the plain search, the first ones, in their order,
abbrev pub ModelsAreLeaves : Type 0
ModelsAreLeaves =
    (w : World) (ps : List ValuesLeft) (live : Bool) (cs : List Choice)
    → ModelsCome w true [] ps live cs → leaves w ≡ ps ++ leaves_among (to_come w live cs)

-- and all of them where nothing but choices is to come.
abbrev pub AllModelsAreLeaves : Type 0
AllModelsAreLeaves =
    (w : World) (ps : List ValuesLeft) (live : Bool) (cs : List Choice) (n : ℕ)
    → ModelsCome w true [] ps live cs → to_come w live cs ≡ replicate n choice → leaves w ≡ ps
