-- What is printed of a generated problem.
use Rattle.std.specs.Prelude.{ℕ, ◌≡◌, List, []}
use Rattle.std.specs.declared.result.Result.{Result}
use Rattle.ladr_io.specs.Streams.{Outflow}
use Rattle.ladr_made.specs.Chain.{assumptions_text, made_text}
use Rattle.ladr_made.specs.Modelling.{IsModelled}
use Rattle.ladr_made.specs.Proving.{IsProved}
use Rattle.ladr_made.specs.Summary.{summary_text}
use Rattle.ladr_made.specs.declared.parts.Modelled.{Modelled}
use Rattle.ladr_made.specs.declared.parts.Proved.{Proved}
use Rattle.ladr_output.specs.Telling.{Tells}
use Rattle.ladr_output.specs.declared.cut.Cut.{Cut}

-- the summary of the problem of n steps: what became of a search for its proofs, and of a search
-- for a model of it without its goal
pub record IsSummary (n : ℕ) (text : List ℕ) : Type 0 where
  pub proved : Proved
  pub is_proved : IsProved (made_text n) proved
  pub modelled : Modelled
  pub is_modelled : IsModelled (assumptions_text n) modelled
  pub text_is : text ≡ summary_text n proved modelled

-- A run of `made`: nothing is printed before the summary, which is the whole output.
abbrev pub Makes : ℕ → Outflow → Outflow → Result (Unit {0}) Cut → Type 0
Makes n = Tells (λ text. text ≡ []) (λ _ text. IsSummary n text)
