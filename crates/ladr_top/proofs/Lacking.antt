-- Runs in which little was done.
use Rattle.std.proofs.Common.{◌≡◌, ℕ, false, List, [], ◌∷◌, ◌++◌, Err, inl, refl, sym, ◌∙◌}
use Rattle.std.proofs.lemmas.Bool.{true≢false}
use Rattle.ladr_check.specs.Shown.{ShowsProofs}
use Rattle.ladr_intake.specs.Command.{Runs}
use Rattle.ladr_intake.specs.declared.stops.Refused.{Refused}
use Rattle.ladr_intake.specs.declared.stops.Stop.{Stop}
use Rattle.ladr_intake.specs.declared.stops.Stop.TheVariants as stops
use Rattle.ladr_io.proofs.StreamLaws.{Gives-none, Takes-none}
use Rattle.ladr_io.specs.Streams.{Inflow, Outflow}
use Rattle.ladr_top.specs.Runs.{ShowsMace4, ShowsProver9}
use Rattle.ladr_words.specs.declared.task.ModelOptions.{ModelOptions}

-- memory was lacking before the command began
pub lacking : {A E : Type 0} (says : List ℕ → A → Type 0) (refuses : List ℕ → Refused → Type 0) (idle : Type 0) (goes : A → List ℕ → Type 0) (ends : A → E → List ℕ → Type 0) (a : Inflow) (b : Outflow) → idle → Runs says refuses idle goes ends a a b b (Err stops.Memory)
lacking says refuses idle goes ends a b i = record { bytes = []; taken = inl (Gives-none a); tells = ([], inl (refl, i), Takes-none b) }

-- no text stands in nothing
none_stands : (before text : List ℕ) (b : ℕ) → [] ≡ before ++ b ∷ text → ⊥
none_stands [] text b e = absurd cc
none_stands (x ∷ before) text b e = absurd cc

-- nothing was read or printed of a source that isn't over, so no model stands in the output
pub none_shown : (words : ModelOptions) (from : Inflow) (to : Outflow) → from.over ≡ false → ShowsMace4 words from from to to
none_shown words from to unread = record {
  bytes = [];
  taken = inl (Gives-none from);
  shows = λ x posed. record {
    written = [];
    wrote = (Takes-none to).took;
    models = λ before after lines e. absurd (none_stands before _ _ e);
    exhausted = λ n before small h u is. absurd (none_stands before _ _ h.1.1);
  };
  fronts = λ x posed read countable. absurd (true≢false (sym read.0.over ∙ unread));
}

-- nor does the line of a proof
pub none_accepted : (from : Inflow) (to : Outflow) → ShowsProofs from from to to
none_accepted from to = record {
  bytes = [];
  taken = inl (Gives-none from);
  written = [];
  wrote = (Takes-none to).took;
  accepted = λ k small h. absurd (none_stands h.0 _ _ h.1.1.1);
  all_accepted = λ n small h. absurd (none_stands h.0 _ _ h.1.1.1);
}

-- nor does a refutation
pub none_refuted : (from : Inflow) (to : Outflow) → ShowsProver9 from from to to
none_refuted from to = record {
  bytes = [];
  taken = inl (Gives-none from);
  written = [];
  wrote = (Takes-none to).took;
  shows = λ q asked. record {
    proofs = λ before after lines e. absurd (none_stands [] _ 37 e);
    proved = λ before after lines e. absurd (none_stands [] _ 37 e);
  };
}
