-- What a rule comes to on clauses.
use Rattle.std.specs.Prelude.{ℕ, ◌≡◌, IsTrue, false, List, []}
use Rattle.std.specs.Option.{unwrap_or}
use Rattle.derivation.specs.Lines.{FirstWord, Inference, inference, inference_of}
use Rattle.derivation.specs.Rule.{InferenceRule, UnifiesFamily, Concludes}
use Rattle.derivation.specs.Words.{Clash, copy_rule}
use Rattle.derivation.specs.declared.words.Satellite.{Satellite}
use Rattle.fol_core.specs.Literals.{ClauseTree}
use Rattle.fol_core.specs.Renumbered.{renumbered}
use Rattle.inference.specs.declared.rules.Judged.{Judged}
use Rattle.inference.specs.declared.rules.Judged.TheVariants.{Unfit, Apart, Small, Large}
use Rattle.substitutions.specs.Apart.{Own, apart_of}
use Rattle.term_unifiers.specs.Renamed.{Equated}

-- the places of a clash
abbrev pub clash_of : Satellite → Clash
clash_of s = (s.place, s.literal)

-- the lines that a first word takes and its rule; of the four without a rule none, and any one
abbrev pub inference_by : FirstWord → Inference
inference_by w = unwrap_or (inference_of w) (inference [] copy_rule)

abbrev pub rule_by : FirstWord → InferenceRule
rule_by w = (inference_by w).rule

abbrev pub parents_by : FirstWord → List ℕ
parents_by w = (inference_by w).parents

-- pairs are what a rule wants equal in clauses renamed apart
abbrev pub Equates : InferenceRule → List ClauseTree → Equated → Type 0
Equates r cs e = e.pairs ≡ r.pairs (apart_of cs)

-- what it wants equal is so in some instances
abbrev pub CanUnify : InferenceRule → List ClauseTree → Type 0
CanUnify r cs = (own : Own) × UnifiesFamily r cs own

-- a clause, with its variables numbered where it is built; which that is the two types say
abbrev pub IsConclusion : ClauseTree → Judged → Type 0
IsConclusion c Unfit = ⊥
IsConclusion c Apart = ⊥
IsConclusion c (Small d) = d ≡ renumbered c
IsConclusion c (Large d) = d ≡ c

-- a rule: it doesn't fit, nothing unifies, or its conclusion
abbrev pub JudgedAs : InferenceRule → List ClauseTree → Judged → Type 0
JudgedAs r cs Unfit = r.fits cs ≡ false
JudgedAs r cs Apart = IsTrue (r.fits cs) × ((own : Own) → ¬ UnifiesFamily r cs own)
JudgedAs r cs (Small c) = IsTrue (r.fits cs) × Concludes r cs c
JudgedAs r cs (Large c) = IsTrue (r.fits cs) × Concludes r cs (renumbered c)
