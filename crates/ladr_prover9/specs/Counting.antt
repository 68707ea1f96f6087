-- What a search for proofs has counted where it ends.
use Rattle.std.specs.Prelude.{ℕ, ◌≡◌, ◌⊎◌, length, List, [], ◌∷◌, ◌++◌, Option}
use Rattle.std.specs.declared.result.Result.{Result}
use Rattle.clause_store.specs.Ancestors.{AreAncestors}
use Rattle.clause_store.specs.Lines.{PlainLine, plain_trees}
use Rattle.ladr_formulas.specs.declared.styles.Mode.TheVariants.{Prover}
use Rattle.ladr_intake.specs.Command.{Runs}
use Rattle.ladr_intake.specs.Refusals.{refuses}
use Rattle.ladr_intake.specs.declared.stops.Stop.{Stop}
use Rattle.ladr_io.specs.Streams.{Inflow, Outflow}
use Rattle.ladr_io.specs.Times.{Times}
use Rattle.ladr_prover9.specs.Finding.{KeepsLimits, Proves, Proving}
use Rattle.ladr_prover9.specs.Lines.{closing_lines}
use Rattle.ladr_prover9.specs.Quests.{Quest, asks, quest_lines, quest_seconds}
use Rattle.ladr_prover9.specs.Story.{ProofsCome}
use Rattle.ladr_prover9.specs.declared.ends.ProverEnd.{ProverEnd}
use Rattle.ladr_prover9.specs.declared.ends.ProverEnd.TheVariants.{ClauseLimit}
use Rattle.ladr_prover9.specs.declared.ends.ProverOver.{ProverOver}
use Rattle.prover_proofs.specs.Levels.{level_in}
use Rattle.prover_steps.specs.Searching.{FoundProof, SearchState}

-- the proof that ends with this line has so many lines, those that it rests on, and this level
abbrev pub HasExtent : List PlainLine → ℕ → ℕ → ℕ → Type 0
HasExtent all line many level =
    (lines : List PlainLine) × AreAncestors all line lines × (many ≡ length lines)
    × (level ≡ level_in (plain_trees lines) line)

-- the first of these proofs has so many lines and this level; without a proof both are 0
abbrev pub IsFirstProof : List PlainLine → List FoundProof → ℕ → ℕ → Type 0
IsFirstProof all [] many level = (many ≡ 0) × (level ≡ 0)
IsFirstProof all (p ∷ ps) many level = HasExtent all p.line many level

-- these are the numbers of a state
pub record Counts (q : Quest) (t : SearchState) (over : ProverOver) : Type 0 where
  pub given : over.given ≡ t.given
  pub kept : over.kept ≡ t.kept
  pub proofs : over.proofs ≡ length t.proofs
  pub first : IsFirstProof (quest_lines q t) t.proofs over.length over.level

-- nothing is searched, and nothing counted
abbrev pub uncounted : ProverEnd → ProverOver
uncounted end = record { end = end; given = 0; kept = 0; proofs = 0; length = 0; level = 0 }

-- a search comes to its end in a state with these numbers, and the text is the whole output
pub record ComesCounted (q : Quest) (seconds : Option ℕ) (times : Times) (over : ProverOver)
    (text : List ℕ) : Type 0 where
  pub within : KeepsLimits q
  pub state : SearchState
  pub front : List ℕ
  pub comes : ProofsCome q seconds times over.end state front
  pub text_is : text ≡ front ++ closing_lines state over.end
  pub counts : Counts q state over

-- So it ends with these numbers: a formula has too many clauses, or a search comes to its end.
abbrev pub ProvesCounted : Quest → Option ℕ → Times → ProverOver → List ℕ → Type 0
ProvesCounted q seconds times over text =
    ((formula : ℕ) × (over ≡ uncounted (ClauseLimit formula))
    × Proves q seconds times (ClauseLimit formula) text)
    ⊎ ComesCounted q seconds times over text

-- A run of `prover9` of which the numbers are told.
abbrev pub RefutesCounted : Option ℕ → Inflow → Inflow → Outflow → Outflow → Times →
    Result ProverOver Stop → Type 0
RefutesCounted word from from' to to' times =
    Runs asks (refuses Prover) (times.count ≡ 0)
    (λ q. Proving q (quest_seconds word q) times)
    (λ q. ProvesCounted q (quest_seconds word q) times) from from' to to'
