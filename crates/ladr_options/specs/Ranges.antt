-- The ranges of the options that tell sizes and how many models are wanted.
use Rattle.std.specs.Prelude.{ℕ, ◌≤◌}
use Rattle.ladr_options.specs.declared.options.Options.{Options}

-- a size, or a step from one to the next, is from 1 to 200
abbrev pub IsSize : ℕ → Type 0
IsSize n = (1 ≤ n) × (n ≤ 200)

-- each of these options has one of its values; a domain size of 0 stands for none
abbrev pub AreInRange : Options → Type 0
AreInRange o = record {
  start_size : IsSize o.start_size;
  end_size : IsSize o.end_size;
  increment : IsSize o.increment;
  domain_size : o.domain_size ≤ 200;
  max_models : 1 ≤ o.max_models;
}
