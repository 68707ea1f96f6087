-- What is asked of a search is in range.
use Rattle.std.proofs.Common.{◌≡◌, ℕ, zero, suc, ◌≤◌, ◌==◌, ◌||◌, Bool, true, false, if◌then◌else◌, Option, None, Some, unwrap_or, refl, arith}
use Rattle.std.specs.Prelude.{is_some}
use Rattle.std.proofs.lemmas.Bool.{true≢false}
use Rattle.ladr_mace4.specs.Plans.{plan_of}
use Rattle.ladr_options.specs.Ranges.{AreInRange}
use Rattle.ladr_options.specs.declared.options.Options.{Options}
use Rattle.ladr_words.specs.Tasks.{HasRanges, IsFrom}
use Rattle.ladr_words.specs.declared.task.ModelOptions.{ModelOptions}
use Rattle.ladr_words.specs.declared.task.Task.TheVariants.{Mace4}

some_size : (a b : Bool) (size : ℕ) → (a || b || size == 0) ≡ false → 1 ≤ size
some_size true b size e = absurd (true≢false e)
some_size false true size e = absurd (true≢false e)
some_size false false zero e = absurd (true≢false e)
some_size false false (suc n) e = omega arith

only_or : (b : Bool) (size other : ℕ) → (b ≡ false → 1 ≤ size) → 1 ≤ other → 1 ≤ unwrap_or (if b then None else Some size) other
only_or true size other h k = k
only_or false size other h k = h refl

from_or : (most : ℕ) (x : Option ℕ) (other : ℕ) → IsFrom 1 most x → 1 ≤ other → 1 ≤ unwrap_or x other
from_or most None other h k = k
from_or most (Some n) other h k = h.0

pub plan_in_range : (words : ModelOptions) (o : Options) → HasRanges (Mace4 words) → AreInRange o → (1 ≤ (plan_of words o).start) × (1 ≤ (plan_of words o).step) × (1 ≤ (plan_of words o).wanted)
plan_in_range words o h range = (
  only_or (is_some words.start_size || is_some words.end_size || o.domain_size == 0) o.domain_size (unwrap_or words.start_size o.start_size) (some_size (is_some words.start_size) (is_some words.end_size) o.domain_size) (from_or 200 words.start_size o.start_size h.0 range.start_size.0),
  range.increment.0,
  from_or 2147483647 words.max_models o.max_models h.2 range.max_models,
)
