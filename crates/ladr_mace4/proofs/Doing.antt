-- What is done of the plain search of a size, event by event.
use Rattle.std.proofs.Common.{◌≡◌, ℕ, zero, suc, ◌+◌, List, [], ◌∷◌, ◌++◌, map, replicate, refl, sym, ap, subst, ◌∙◌, append_assoc, append-nil, arith}
use Rattle.std.proofs.lemmas.List.{map-append}
use Rattle.std.specs.List.{AllByRecursion}
use Rattle.fol_problem.specs.Stated.{Stated}
use Rattle.ladr_cells.specs.Worlds.{world_for}
use Rattle.ladr_mace4.specs.Done.{choices_among, tables_at, tables_among, leaf_models, HasDone, HasDoneAll}
use Rattle.ladr_mace4.specs.Models.{IsWholeModel, AreShown}
use Rattle.mace_search.specs.Complete.{AreDifferent, IsNewModel}
use Rattle.mace_cells.specs.declared.way.Way.{Way}
use Rattle.model_tables.specs.Tables.{Finite}
use Rattle.plain_search.specs.Coming.{Event, choice, leaf, events, leaves_among}
use Rattle.plain_search.specs.Lefts.{ValuesLeft}

pub leaves_both : (ds es : List Event) → leaves_among (ds ++ es) ≡ leaves_among ds ++ leaves_among es
leaves_both [] es = refl
leaves_both (choice ∷ ds) es = leaves_both ds es
leaves_both (leaf q ∷ ds) es = ap (λ (qs : List ValuesLeft). q ∷ qs) (leaves_both ds es)

pub choices_both : (ds es : List Event) → choices_among (ds ++ es) ≡ choices_among ds + choices_among es
choices_both [] es = omega arith
choices_both (choice ∷ ds) es = omega (arith, choices_both ds es)
choices_both (leaf q ∷ ds) es = choices_both ds es

choices_in : (n : ℕ) → choices_among (replicate n choice) ≡ n
choices_in zero = refl
choices_in (suc n) = omega (arith, choices_in n)

no_leaves : (n : ℕ) → leaves_among (replicate n choice) ≡ []
no_leaves zero = refl
no_leaves (suc n) = no_leaves n

-- models in front of others
shown_front : (p : Stated) (n : ℕ) (us vs : List Finite) → AreShown p n (us ++ vs) → AreShown p n us
shown_front p n us vs h = (whole us h.0, different us h.1)
  where
    whole : (us : List Finite) → AllByRecursion (IsWholeModel p n) (us ++ vs) → AllByRecursion (IsWholeModel p n) us
    whole [] h = tt
    whole (u ∷ us) h = (h.0, whole us h.1)

    new : (t : Finite) (us : List Finite) → IsNewModel t (us ++ vs) → IsNewModel t us
    new t [] h = tt
    new t (u ∷ us) h = (h.0, new t us h.1)

    different : (us : List Finite) → AreDifferent (us ++ vs) → AreDifferent us
    different [] h = tt
    different (u ∷ us) h = (new u us h.0, different us h.1)

module _ (p : Stated) (n : ℕ) (way : Way) where
  pub tables_both : (ds es : List Event) → tables_among p n way (ds ++ es) ≡ tables_among p n way ds ++ tables_among p n way es
  tables_both ds es = ap (λ (qs : List ValuesLeft). map (tables_at p n way) qs) (leaves_both ds es) ∙ map-append (tables_at p n way) (leaves_among ds) (leaves_among es)

  pub nothing_done : HasDone p n way [] 0 [] (events (world_for p n way))
  nothing_done = record { parts = refl; models = refl; count = refl }

  pub choices_done : (us : List Finite) (chosen many : ℕ) (done rest next : List Event) → HasDone p n way us chosen done rest → rest ≡ replicate many choice ++ next → HasDone p n way us (chosen + many) (done ++ replicate many choice) next
  choices_done us chosen many done rest next h e = record {
    parts = h.parts ∙ ap (λ (es : List Event). done ++ es) e ∙ sym (append_assoc done (replicate many choice) next);
    models = h.models ∙ sym (append-nil (tables_among p n way done)) ∙ ap (λ (qs : List ValuesLeft). tables_among p n way done ++ map (tables_at p n way) qs) (sym (no_leaves many)) ∙ sym (tables_both done (replicate many choice));
    count = omega (arith, h.count, choices_both done (replicate many choice), choices_in many);
  }

  pub leaf_done : (us : List Finite) (chosen : ℕ) (q : ValuesLeft) (done rest : List Event) → HasDone p n way us chosen done (leaf q ∷ rest) → HasDone p n way (us ++ tables_at p n way q ∷ []) chosen (done ++ leaf q ∷ []) rest
  leaf_done us chosen q done rest h = record {
    parts = h.parts ∙ sym (append_assoc done (leaf q ∷ []) rest);
    models = ap (λ (ts : List Finite). ts ++ tables_at p n way q ∷ []) h.models ∙ sym (tables_both done (leaf q ∷ []));
    count = omega (arith, h.count, choices_both done (leaf q ∷ []));
  }

  -- one choice
  pub choice_done : (us : List Finite) (chosen : ℕ) (done rest : List Event) → HasDone p n way us chosen done (choice ∷ rest) → HasDone p n way us (suc chosen) (done ++ choice ∷ []) rest
  choice_done us chosen done rest h = record {
    parts = h.parts ∙ sym (append_assoc done (choice ∷ []) rest);
    models = h.models ∙ sym (append-nil (tables_among p n way done)) ∙ sym (tables_both done (choice ∷ []));
    count = omega (arith, h.count, choices_both done (choice ∷ []));
  }

  -- nothing is left
  pub all_done : (us : List Finite) (chosen : ℕ) (done : List Event) → HasDone p n way us chosen done [] → HasDoneAll p n way us chosen
  all_done us chosen done h =
      let all : done ≡ events (world_for p n way) = sym (append-nil done) ∙ sym h.parts in
      record { models = h.models ∙ ap (tables_among p n way) all; count = h.count ∙ ap choices_among all }

  -- the models so far, where those of all leaves are shown
  pub done_shown : (us : List Finite) (chosen : ℕ) (done rest : List Event) → AreShown p n (leaf_models p n way) → HasDone p n way us chosen done rest → AreShown p n us
  done_shown us chosen done rest all h =
      let parts : leaf_models p n way ≡ tables_among p n way done ++ tables_among p n way rest = ap (tables_among p n way) h.parts ∙ tables_both done rest in
      subst (AreShown p n) (sym h.models) (shown_front p n (tables_among p n way done) (tables_among p n way rest) (subst (AreShown p n) parts all))
