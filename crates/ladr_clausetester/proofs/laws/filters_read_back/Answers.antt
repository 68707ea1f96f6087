use Rattle.std.proofs.Common.{◌<◌, ◌^◌, ℕ, List, subst}
use Rattle.std.specs.List.{AllByRecursion}
use Rattle.ladr_commands.specs.ByName.{ByName}
use Rattle.ladr_formulas.specs.declared.styles.Mode.TheVariants.{Tester}
use Rattle.ladr_interpretations.specs.NamedText.{named_text}
use Rattle.ladr_models.specs.ReadsBack.{ReadsAs}
use Rattle.ladr_clausetester.proofs.laws.filters_read_back.Goals as goal

pub returns : goal.returns
returns c = λ bytes x h.
    subst (λ (its : List ByName). AllByRecursion (λ it. (j : ℕ) → j < 2 ^ 64 → ReadsAs (named_text it j) it) its) h.3 (c.interpretations_read_back.ensures Tester bytes h.0 h.1)
