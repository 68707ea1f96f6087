-- The task that words are.
use Rattle.std.specs.Prelude.{ℕ, ◌==◌, ◌&&◌, ◌^◌, ◌-◌, ◌≤◌, if◌then◌else◌, nat_le, Bool, false, List, length, Option, Some, None, option_and_then, option_map, IfSome, codes}
use Rattle.std.specs.Option.{option_map_or}
use Rattle.std.specs.Str.{bytes_eq}
use Rattle.std.specs.Str.Parse.{digits_value, without_leading_plus}
use Rattle.clap.specs.Walk.{Row, one_of}
use Rattle.clap.specs.Simple.{subcommand_of}
use Rattle.clap.specs.Faults.{fault_of}
use Rattle.clap.specs.ValueTests.{is_unsigned_in}
use Rattle.ladr_words.specs.Commands.{ladr_app}
use Rattle.ladr_words.specs.declared.task.Task.{Task}
use Rattle.ladr_words.specs.declared.task.Task.TheVariants.{Check, Clausetester, Mace4, Made, Prover9}
use Rattle.ladr_words.specs.declared.task.ModelOptions.{ModelOptions}

-- the number that a text writes in decimal digits, with a plus before them or not; it has at most
-- 64 bits
abbrev pub number_written : List ℕ → Option ℕ
number_written text =
    if is_unsigned_in 0 (2 ^ 64 - 1) text then Some (digits_value 10 (without_leading_plus text))
    else None

-- the number, if it is from least to most
abbrev pub within : ℕ → ℕ → ℕ → Option ℕ
within least most n = if nat_le least n && nat_le n most then Some n else None

-- the number of an option, where it is given
abbrev pub number_given : List ℕ → List Row → Option ℕ
number_given name rows = option_and_then number_written (one_of name rows)

abbrev pub number_within : List ℕ → ℕ → ℕ → List Row → Option ℕ
number_within name least most rows = option_and_then (within least most) (number_given name rows)

-- whether a flag is given
abbrev pub flag_given : List ℕ → List Row → Bool
flag_given name rows =
    option_map_or (λ text. bytes_eq text (codes "true")) (one_of name rows) false

-- the options of a search for models
abbrev pub model_options : List Row → ModelOptions
model_options rows = record {
  start_size = number_within (codes "start_size") 1 200 rows;
  end_size = number_within (codes "end_size") 1 200 rows;
  max_models = number_within (codes "max_models") 1 2147483647 rows;
  max_seconds = number_within (codes "max_seconds") 0 2147483647 rows;
}

-- the size of a generated problem
abbrev pub made_size : List Row → Option ℕ
made_size rows = number_within (codes "size") 1 1000 rows

-- the seconds of a search for proofs, where they are given
abbrev pub prover_seconds : List Row → Option ℕ
prover_seconds rows = number_within (codes "max_seconds") 0 2147483647 rows

-- the task of a command's name and of what clap found of its arguments
abbrev pub task_named : List ℕ → List Row → Option Task
task_named name rows =
    if bytes_eq name (codes "check") then Some Check
    else (if bytes_eq name (codes "clausetester") then Some (Clausetester (flag_given (codes "filter") rows))
    else (if bytes_eq name (codes "mace4") then Some (Mace4 (model_options rows))
    else (if bytes_eq name (codes "made") then option_map Made (made_size rows)
    else (if bytes_eq name (codes "prover9") then Some (Prover9 (prover_seconds rows)) else None))))

-- the task of the words: none where clap has an error for them
unfoldable pub task_of : List (List ℕ) → Option Task
task_of words =
    if length (fault_of ladr_app words) == 0
    then option_and_then (λ found. task_named found.0 found.1) (subcommand_of ladr_app words)
    else None

-- a number that is given is from least to most
abbrev pub IsFrom : ℕ → ℕ → Option ℕ → Type 0
IsFrom least most given = IfSome given (λ n. (least ≤ n) × (n ≤ most))

-- each number of a task is in its range
abbrev pub HasRanges : Task → Type 0
HasRanges Check = Unit {0}
HasRanges (Clausetester filter) = Unit {0}
HasRanges (Mace4 options) =
    IsFrom 1 200 options.start_size × IsFrom 1 200 options.end_size
    × IsFrom 1 2147483647 options.max_models × IsFrom 0 2147483647 options.max_seconds
HasRanges (Made size) = (1 ≤ size) × (size ≤ 1000)
HasRanges (Prover9 max_seconds) = IsFrom 0 2147483647 max_seconds
