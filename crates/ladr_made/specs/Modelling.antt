-- What becomes of a search for a model of what bytes pose, at one size after the other.
use Rattle.std.specs.Prelude.{ℕ, ◌≡◌, ◌≤◌, ◌<◌, ◌⊎◌, List, Option, Some, None}
use Rattle.ladr_formulas.specs.declared.styles.Mode.TheVariants.{Mace}
use Rattle.ladr_intake.specs.Posed.{Posed, poses}
use Rattle.ladr_intake.specs.Refusals.{refuses}
use Rattle.ladr_intake.specs.declared.stops.Refused.{Refused}
use Rattle.ladr_io.specs.Times.{Times}
use Rattle.ladr_made.specs.declared.parts.Modelled.{Modelled}
use Rattle.ladr_mace4.specs.Finding.{Sought}
use Rattle.ladr_mace4.specs.Plans.{plan_of}
use Rattle.ladr_mace4.specs.Statuses.{end_status}
use Rattle.ladr_mace4.specs.declared.ends.SearchEnd.{SearchEnd}
use Rattle.ladr_mace4.specs.declared.ends.SearchEnd.TheVariants.{MaxModels, Exhausted}
use Rattle.ladr_words.specs.declared.task.ModelOptions.{ModelOptions}

-- one model is wanted, of size n
abbrev pub one_of_size : ℕ → ModelOptions
one_of_size n = record {
  start_size = Some n;
  end_size = Some n;
  max_models = Some 1;
  max_seconds = None;
}

-- the search for it comes to this end, if a clock is read so where the bytes set a time
pub record Seeks (bytes : List ℕ) (n : ℕ) (end : SearchEnd) : Type 0 where
  pub posed : Posed
  pub says : poses Mace bytes posed
  pub times : Times
  pub text : List ℕ
  pub sought : Sought posed.stated (plan_of (one_of_size n) posed.options) times end text

-- the first size and the last
abbrev pub first_size : ℕ
first_size = 2

abbrev pub last_size : ℕ
last_size = 10

-- what is told of a size where the search ends; it goes on behind a size that is exhausted
abbrev pub modelled_at : ℕ → SearchEnd → Option Modelled
modelled_at n Exhausted = None
modelled_at n MaxModels = Some (record { status = 0; size = n })
modelled_at n end = Some (record { status = end_status end; size = 0 })

-- each size before this one is exhausted
abbrev pub AreExhaustedBefore : List ℕ → ℕ → Type 0
AreExhaustedBefore bytes n = (k : ℕ) → first_size ≤ k → k < n → Seeks bytes k Exhausted

-- this is told of the first size that isn't exhausted
pub record IsModelledAt (bytes : List ℕ) (n : ℕ) (m : Modelled) : Type 0 where
  pub from_first : first_size ≤ n
  pub to_last : n ≤ last_size
  pub before : AreExhaustedBefore bytes n
  pub end : SearchEnd
  pub seeks : Seeks bytes n end
  pub told : modelled_at n end ≡ Some m

-- what is told where all sizes are exhausted, and of bytes that are refused
abbrev pub exhausted : Modelled
exhausted = record { status = 2; size = 0 }

abbrev pub unmodelled : Modelled
unmodelled = record { status = 1; size = 0 }

-- so it is of the bytes
abbrev pub IsModelled : List ℕ → Modelled → Type 0
IsModelled bytes m =
    ((why : Refused) × refuses Mace bytes why × (m ≡ unmodelled))
    ⊎ (((n : ℕ) × IsModelledAt bytes n m)
    ⊎ ((m ≡ exhausted) × ((k : ℕ) → first_size ≤ k → k ≤ last_size → Seeks bytes k Exhausted)))
