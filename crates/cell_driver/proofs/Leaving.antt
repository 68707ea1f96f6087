-- The leaves among what is to come, model by model.
use Rattle.std.proofs.Common.{◌≡◌, ℕ, zero, suc, Bool, true, false, List, [], ◌∷◌, ◌++◌, replicate, refl, sym, ap, ◌∙◌}
use Rattle.std.proofs.lemmas.List.{append-nil}
use Rattle.mace_cells.specs.Choices.{Choice}
use Rattle.mace_cells.specs.World.{World}
use Rattle.plain_search.proofs.Coming.{all_is_to_come, leaves_are_found}
use Rattle.plain_search.specs.Coming.{Event, choice, leaf, leaves_among, to_come}
use Rattle.plain_search.specs.Lefts.{ValuesLeft}
use Rattle.cell_driver.specs.Comings.{AllModelsAreLeaves, ModelsAreLeaves, ModelsCome}

behind_choices : (n : ℕ) (es : List Event) → leaves_among (replicate n choice ++ es) ≡ leaves_among es
behind_choices zero es = refl
behind_choices (suc n) es = behind_choices n es

no_leaves : (n : ℕ) → leaves_among (replicate n choice) ≡ []
no_leaves zero = refl
no_leaves (suc n) = no_leaves n

leaves_come : (w : World) (ps : List ValuesLeft) (live : Bool) (cs : List Choice) (live' : Bool) (cs' : List Choice) → ModelsCome w live cs ps live' cs' → leaves_among (to_come w live cs) ≡ ps ++ leaves_among (to_come w live' cs')
leaves_come w [] live cs live' cs' h = sym (ap (λ (b : Bool). leaves_among (to_come w b cs')) h.0 ∙ ap (λ (ds : List Choice). leaves_among (to_come w live ds)) h.1)
leaves_come w (p ∷ ps) live cs live' cs' h =
    ap leaves_among h.1.1.1 ∙ behind_choices h.1.0 (leaf p ∷ to_come w false h.0) ∙ ap (λ (qs : List ValuesLeft). p ∷ qs) (leaves_come w ps false h.0 live' cs' h.1.1.2)

pub models_first : ModelsAreLeaves
models_first w ps live cs come = sym (leaves_are_found w) ∙ ap leaves_among (sym (all_is_to_come w)) ∙ leaves_come w ps true [] live cs come

pub models_all : AllModelsAreLeaves
models_all w ps live cs n come ends =
    models_first w ps live cs come ∙ ap (λ (qs : List ValuesLeft). ps ++ qs) (ap leaves_among ends ∙ no_leaves n) ∙ append-nil ps
