-- The blocks of which the output of a search is made.
use Rattle.std.proofs.Common.{◌≡◌, ◌⊎◌, ℕ, ◌^◌, ◌<◌, true, List, [], ◌∷◌, ◌++◌}
use Rattle.fol_problem.specs.Stated.{Stated}
use Rattle.ladr_intake.specs.Refusals.{refusal_text, read_fault_line}
use Rattle.ladr_intake.specs.declared.stops.Refused.TheVariants.{TooLarge}
use Rattle.ladr_mace4.specs.Lines.{size_line, skipped_line, exhausted_line, end_text}
use Rattle.ladr_mace4.specs.Shown.{IsShown}
use Rattle.ladr_mace4.specs.Skolems.{all_symbols}
use Rattle.ladr_mace4.specs.declared.ends.SearchEnd.{SearchEnd}
use Rattle.ladr_lex.specs.declared.limits.TheConstants.{MOST_BYTES}
use Rattle.ladr_problem.specs.Names.{are_named}
use Rattle.ladr_problem.specs.declared.refusal.Limit.TheVariants as limits
use Rattle.mace_search.specs.Models.{IsModel}
use Rattle.model_tables.specs.ModelText.{model_text}
use Rattle.model_tables.specs.Isomorphism.{IsIsomorphism}
use Rattle.model_tables.specs.Tables.{Finite}

-- what a search prints before its last lines: the lines of a size, and the text of model k of size n
pub data SearchBlock : Type 0 where
  begins : ℕ → SearchBlock
  skips : ℕ → SearchBlock
  shows : ℕ → ℕ → Finite → SearchBlock
  exhausts : ℕ → SearchBlock

abbrev pub block_text : Stated → SearchBlock → List ℕ
block_text p (begins n) = size_line n
block_text p (skips n) = skipped_line n
block_text p (shows n k t) = model_text (all_symbols p) k t
block_text p (exhausts n) = exhausted_line n

abbrev pub blocks_text : Stated → List SearchBlock → List ℕ
blocks_text p [] = []
blocks_text p (b ∷ bs) = block_text p b ++ blocks_text p bs

-- one of these is a model of size n, with these tables
abbrev pub IsShownAmong : ℕ → Finite → List SearchBlock → Type 0
IsShownAmong n t [] = ⊥
IsShownAmong n t (b ∷ bs) = ((k : ℕ) × (b ≡ shows n k t)) ⊎ IsShownAmong n t bs

-- u with its elements renamed is among them
abbrev pub IsAmongRenamed : Stated → ℕ → Finite → List SearchBlock → Type 0
IsAmongRenamed p n u bs = (t : Finite) × IsShownAmong n t bs × ((r : ℕ → ℕ) × IsIsomorphism n p r u t)

-- A model is shown as it should be, and no name breaks a line. Where a size is exhausted, the blocks before show each of its models,
-- renamed.
abbrev pub IsGood : Stated → List SearchBlock → SearchBlock → Type 0
IsGood p before (shows n k t) = IsShown p n k t × (are_named (all_symbols p) ≡ true)
IsGood p before (exhausts n) = (n < 2 ^ 64) × ((u : Finite) → IsModel p n u → IsAmongRenamed p n u before)
IsGood p before (begins n) = Unit {0}
IsGood p before (skips n) = Unit {0}

-- so are all of these, behind those before
abbrev pub AreGood : Stated → List SearchBlock → List SearchBlock → Type 0
AreGood p before [] = Unit {0}
AreGood p before (b ∷ bs) = IsGood p before b × AreGood p (before ++ b ∷ []) bs

-- what is printed behind all blocks: nothing, the last lines of a search, or the line of an input that is too large or isn't read
pub data Last : Type 0 where
  nothing : Last
  ends : ℕ → SearchEnd → Last
  grows : Last
  fails : Last

abbrev pub last_text : Last → List ℕ
last_text nothing = []
last_text (ends k end) = end_text k end
last_text grows = refusal_text (TooLarge MOST_BYTES limits.Input)
last_text fails = read_fault_line
