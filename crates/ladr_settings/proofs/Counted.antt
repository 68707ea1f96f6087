-- How many models are wanted is a number of 32 bits.
use Rattle.std.proofs.Common.{◌≡◌, ℕ, ◌<◌, ◌^◌, Bool, true, false, List, Option, Some, None, if◌then◌else◌, refl, arith}
use Rattle.std.specs.Prelude.{IfOk, codes}
use Rattle.std.specs.Option.{option_map_or}
use Rattle.std.specs.Str.{bytes_eq}
use Rattle.std.specs.declared.result.Result.{Result}
use Rattle.std.specs.declared.result.Result.TheVariants.{Ok, Err}
use Rattle.ladr_options.specs.Options.{with_flag, with_value, allows, flagged, flag_named, is_idle_flag, numbered, with_number, with_stored, stored, symbolized, ordered, order_named, parameter_named, takes_symbols, is_among, idle_parameters}
use Rattle.ladr_options.specs.declared.names.Flag.{Flag}
use Rattle.ladr_options.specs.declared.names.Flag.TheVariants.{Auto, UnitDeletion, BackSubsume, BackDemod, Lnh, BinaryResolution, HyperResolution, UrResolution, Factor, Paramodulation, PrologStyleVariables}
use Rattle.ladr_options.specs.declared.names.Parameter.{Parameter}
use Rattle.ladr_options.specs.declared.names.Parameter.TheVariants.{MaxWeight, SosLimit, MaxGiven, MaxKept, MaxSeconds, MaxMegs, MaxProofs, MaxModels, DemodStepLimit, AgePart, WeightPart, FalsePart, TruePart, PickGivenRatio, DomainSize, StartSize, EndSize, Increment, SelectionOrder, SelectionMeasure, ProofFormat, EvalLimit}
use Rattle.ladr_options.specs.declared.options.OptionError.{OptionError}
use Rattle.ladr_options.specs.declared.options.OptionError.TheVariants.{Unknown, NotAValue}
use Rattle.ladr_options.specs.declared.options.Options.{Options}

abbrev pub IsCounted : Options → Type 0
IsCounted o = o.max_models < 2 ^ 32

-- a choice whose answers keep it so
either_way : {T E : Type 0} (P : T → Type 0) (b : Bool) (r q : Result T E) → IfOk r P → IfOk q P → IfOk (if b then r else q) P
either_way P true r q h k = h
either_way P false r q h k = k

if_there : {T S E : Type 0} (P : S → Type 0) (f : T → Result S E) (o : Option T) (e : E) → ((x : T) → o ≡ Some x → IfOk (f x) P) → IfOk (option_map_or f o (Err e)) P
if_there P f (Some x) e h = h x refl
if_there P f None e h = tt

flag_counted : (flag : Flag) (on : Bool) (s : Options) → IsCounted s → IsCounted (with_flag flag on s)
flag_counted Auto on s h = h
flag_counted UnitDeletion on s h = h
flag_counted BackSubsume on s h = h
flag_counted BackDemod on s h = h
flag_counted Lnh on s h = h
flag_counted BinaryResolution on s h = h
flag_counted HyperResolution on s h = h
flag_counted UrResolution on s h = h
flag_counted Factor on s h = h
flag_counted Paramodulation on s h = h
flag_counted PrologStyleVariables on s h = h

parameter_counted : (p : Parameter) (v : ℕ) (s : Options) → v < 2 ^ 32 → IsCounted s → IsCounted (with_value p v s)
parameter_counted MaxWeight v s l h = h
parameter_counted SosLimit v s l h = h
parameter_counted MaxGiven v s l h = h
parameter_counted MaxKept v s l h = h
parameter_counted MaxSeconds v s l h = h
parameter_counted MaxMegs v s l h = h
parameter_counted MaxProofs v s l h = h
parameter_counted MaxModels v s l h = l
parameter_counted DemodStepLimit v s l h = h
parameter_counted AgePart v s l h = h
parameter_counted WeightPart v s l h = h
parameter_counted FalsePart v s l h = h
parameter_counted TruePart v s l h = h
parameter_counted PickGivenRatio v s l h = h
parameter_counted DomainSize v s l h = h
parameter_counted StartSize v s l h = h
parameter_counted EndSize v s l h = h
parameter_counted Increment v s l h = h
parameter_counted SelectionOrder v s l h = h
parameter_counted SelectionMeasure v s l h = h
parameter_counted ProofFormat v s l h = h
parameter_counted EvalLimit v s l h = h

-- what is stored has 32 bits
stored_small : (negative : Bool) (n v : ℕ) → stored negative n ≡ Some v → v < 2 ^ 32
stored_small negative n v e = grind arith

pub flagged_counted : (name : List ℕ) (on : Bool) (s : Options) → IsCounted s → IfOk (flagged name on s) IsCounted
flagged_counted name on s h = either_way IsCounted (is_idle_flag name) (Ok s) _ h (if_there IsCounted (λ flag. Ok (with_flag flag on s)) (flag_named name) Unknown (λ flag e. flag_counted flag on s h))

number_counted : (negative : Bool) (n : ℕ) (s : Options) (p : Parameter) → IsCounted s → IfOk (with_number negative n s p) IsCounted
number_counted negative n s p h =
    if_there IsCounted (with_stored p s) (stored negative n) NotAValue (λ v e. either_way IsCounted (allows p v) (Ok (with_value p v s)) (Err NotAValue) (parameter_counted p v s (stored_small negative n v e) h) tt)

pub numbered_counted : (name : List ℕ) (negative : Bool) (n : ℕ) (s : Options) → IsCounted s → IfOk (numbered name negative n s) IsCounted
numbered_counted name negative n s h =
    either_way IsCounted (is_among idle_parameters name) (Ok s) _ h
    (either_way IsCounted (takes_symbols name) (Err NotAValue) _ tt
    (if_there IsCounted (with_number negative n s) (parameter_named name) Unknown (λ p e. number_counted negative n s p h)))

pub symbolized_counted : (name text : List ℕ) (s : Options) → IsCounted s → IfOk (symbolized name text s) IsCounted
symbolized_counted name text s h =
    either_way IsCounted (is_among idle_parameters name) (Ok s) _ h
    (either_way IsCounted (bytes_eq name (codes "order")) _ _ (if_there IsCounted (ordered s) (order_named text) NotAValue (λ o e. h))
    (either_way IsCounted (bytes_eq name (codes "eq_defs")) _ _ (either_way IsCounted (bytes_eq text (codes "pass")) (Ok s) (Err NotAValue) h tt)
    (if_there IsCounted (λ p. Err NotAValue) (parameter_named name) Unknown (λ p e. tt))))
