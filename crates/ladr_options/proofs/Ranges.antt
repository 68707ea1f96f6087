-- What changes the options keeps them in range.
use Rattle.std.proofs.Common.{◌≡◌, ℕ, Bool, true, false, List, Option, Some, None, Result, Ok, Err, IfOk, ◌&&◌, nat_le, if◌then◌else◌, refl, arith}
use Rattle.std.proofs.lemmas.Result.{IfOk-at_ok}
use Rattle.std.specs.Option.{option_map_or}
use Rattle.std.specs.Str.{bytes_eq}
use Rattle.std.specs.Prelude.{codes}
use Rattle.ladr_options.specs.Options.{with_flag, with_value, allows, flagged, flag_named, is_idle_flag, numbered, with_number, with_stored, stored, symbolized, ordered, order_named, parameter_named, takes_symbols, is_among, idle_parameters}
use Rattle.ladr_options.specs.Ranges.{IsSize, AreInRange}
use Rattle.ladr_options.specs.declared.names.Flag.{Flag}
use Rattle.ladr_options.specs.declared.names.Flag.TheVariants.{Auto, UnitDeletion, BackSubsume, BackDemod, Lnh, BinaryResolution, HyperResolution, UrResolution, Factor, Paramodulation, PrologStyleVariables}
use Rattle.ladr_options.specs.declared.names.Parameter.{Parameter}
use Rattle.ladr_options.specs.declared.names.Parameter.TheVariants.{MaxWeight, SosLimit, MaxGiven, MaxKept, MaxSeconds, MaxMegs, MaxProofs, MaxModels, DemodStepLimit, AgePart, WeightPart, FalsePart, TruePart, PickGivenRatio, DomainSize, StartSize, EndSize, Increment, SelectionOrder, SelectionMeasure, ProofFormat, EvalLimit}
use Rattle.ladr_options.specs.declared.options.OptionError.{OptionError}
use Rattle.ladr_options.specs.declared.options.OptionError.TheVariants.{Unknown, NotAValue}
use Rattle.ladr_options.specs.declared.options.Options.{Options}

-- a choice, whose two answers keep them
either_way : (b : Bool) (r q : Result Options OptionError) → IfOk r AreInRange → IfOk q AreInRange → IfOk (if b then r else q) AreInRange
either_way true r q h k = h
either_way false r q h k = k

-- an answer for each thing that there may be
if_there : {T : Type 0} (f : T → Result Options OptionError) (x : Option T) (e : OptionError) → ((y : T) → IfOk (f y) AreInRange) → IfOk (option_map_or f x (Err e)) AreInRange
if_there f (Some y) e h = h y
if_there f None e h = tt

with_flag_in_range : (flag : Flag) (on : Bool) (s : Options) → AreInRange s → AreInRange (with_flag flag on s)
with_flag_in_range Auto on s h = h
with_flag_in_range UnitDeletion on s h = h
with_flag_in_range BackSubsume on s h = h
with_flag_in_range BackDemod on s h = h
with_flag_in_range Lnh on s h = h
with_flag_in_range BinaryResolution on s h = h
with_flag_in_range HyperResolution on s h = h
with_flag_in_range UrResolution on s h = h
with_flag_in_range Factor on s h = h
with_flag_in_range Paramodulation on s h = h
with_flag_in_range PrologStyleVariables on s h = h

pub flagged_in_range : (name : List ℕ) (on : Bool) (s t : Options) → flagged name on s ≡ Ok t → AreInRange s → AreInRange t
flagged_in_range name on s t e h =
    IfOk-at_ok AreInRange e
    (either_way (is_idle_flag name) (Ok s) _ h (if_there (λ flag. Ok (with_flag flag on s)) (flag_named name) Unknown (λ flag. with_flag_in_range flag on s h)))

size_of : (v : ℕ) → (nat_le 1 v && nat_le v 200) ≡ true → IsSize v
size_of v e = grind arith

with_value_in_range : (p : Parameter) (v : ℕ) (s : Options) → allows p v ≡ true → AreInRange s → AreInRange (with_value p v s)
with_value_in_range MaxWeight v s e h = h
with_value_in_range SosLimit v s e h = h
with_value_in_range MaxGiven v s e h = h
with_value_in_range MaxKept v s e h = h
with_value_in_range MaxSeconds v s e h = h
with_value_in_range MaxMegs v s e h = h
with_value_in_range MaxProofs v s e h = h
with_value_in_range MaxModels v s e h = record { start_size = h.start_size; end_size = h.end_size; increment = h.increment; domain_size = h.domain_size; max_models = grind arith }
with_value_in_range DemodStepLimit v s e h = h
with_value_in_range AgePart v s e h = h
with_value_in_range WeightPart v s e h = h
with_value_in_range FalsePart v s e h = h
with_value_in_range TruePart v s e h = h
with_value_in_range PickGivenRatio v s e h = h
with_value_in_range DomainSize v s e h = record { start_size = h.start_size; end_size = h.end_size; increment = h.increment; domain_size = grind arith; max_models = h.max_models }
with_value_in_range StartSize v s e h = record { start_size = size_of v e; end_size = h.end_size; increment = h.increment; domain_size = h.domain_size; max_models = h.max_models }
with_value_in_range EndSize v s e h = record { start_size = h.start_size; end_size = size_of v e; increment = h.increment; domain_size = h.domain_size; max_models = h.max_models }
with_value_in_range Increment v s e h = record { start_size = h.start_size; end_size = h.end_size; increment = size_of v e; domain_size = h.domain_size; max_models = h.max_models }
with_value_in_range SelectionOrder v s e h = h
with_value_in_range SelectionMeasure v s e h = h
with_value_in_range ProofFormat v s e h = h
with_value_in_range EvalLimit v s e h = h

stored_in_range : (allowed : Bool) (p : Parameter) (v : ℕ) (s : Options) → allows p v ≡ allowed → AreInRange s → IfOk (if allowed then Ok (with_value p v s) else Err NotAValue) AreInRange
stored_in_range true p v s e h = with_value_in_range p v s e h
stored_in_range false p v s e h = tt

number_in_range : (negative : Bool) (n : ℕ) (s : Options) → AreInRange s → (p : Parameter) → IfOk (with_number negative n s p) AreInRange
number_in_range negative n s h p = if_there (with_stored p s) (stored negative n) NotAValue (λ v. stored_in_range (allows p v) p v s refl h)

pub numbered_in_range : (name : List ℕ) (negative : Bool) (n : ℕ) (s t : Options) → numbered name negative n s ≡ Ok t → AreInRange s → AreInRange t
numbered_in_range name negative n s t e h =
    IfOk-at_ok AreInRange e
    (either_way (is_among idle_parameters name) (Ok s) _ h
    (either_way (takes_symbols name) (Err NotAValue) _ tt
    (if_there (with_number negative n s) (parameter_named name) Unknown (number_in_range negative n s h))))

pub symbolized_in_range : (name text : List ℕ) (s t : Options) → symbolized name text s ≡ Ok t → AreInRange s → AreInRange t
symbolized_in_range name text s t e h =
    IfOk-at_ok AreInRange e
    (either_way (is_among idle_parameters name) (Ok s) _ h
    (either_way (bytes_eq name (codes "order")) _ _ (if_there (ordered s) (order_named text) NotAValue (λ o. h))
    (either_way (bytes_eq name (codes "eq_defs")) _ _ (either_way (bytes_eq text (codes "pass")) (Ok s) (Err NotAValue) h tt)
    (if_there (λ p. Err NotAValue) (parameter_named name) Unknown (λ p. tt)))))
