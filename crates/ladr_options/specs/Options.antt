-- The options of an input, their values at the start, and what changes them.
use Rattle.std.specs.Prelude.{ℕ, Bool, true, false, not, ◌&&◌, ◌||◌, ◌==◌, nat_le, if◌then◌else◌, List, [], ◌∷◌, Option, Some, None, codes}
use Rattle.std.specs.List.{list_any}
use Rattle.std.specs.Option.{option_map_or, option_or}
use Rattle.std.specs.Str.{bytes_eq}
use Rattle.std.specs.declared.result.Result.{Result}
use Rattle.std.specs.declared.result.Result.TheVariants.{Ok, Err}
use Rattle.ladr_options.specs.declared.options.Options.{Options}
use Rattle.ladr_options.specs.declared.options.Order.{Order}
use Rattle.ladr_options.specs.declared.options.Order.TheVariants.{Lpo, Kbo}
use Rattle.ladr_options.specs.declared.options.OptionError.{OptionError}
use Rattle.ladr_options.specs.declared.options.OptionError.TheVariants.{Unknown, NotAValue}
use Rattle.ladr_options.specs.declared.names.Flag.{Flag}
use Rattle.ladr_options.specs.declared.names.Flag.TheVariants.{Auto, UnitDeletion, BackSubsume, BackDemod, Lnh, BinaryResolution, HyperResolution, UrResolution, Factor, Paramodulation, PrologStyleVariables}
use Rattle.ladr_options.specs.declared.names.Parameter.{Parameter}
use Rattle.ladr_options.specs.declared.names.Parameter.TheVariants.{MaxWeight, SosLimit, MaxGiven, MaxKept, MaxSeconds, MaxMegs, MaxProofs, MaxModels, DemodStepLimit, AgePart, WeightPart, FalsePart, TruePart, PickGivenRatio, DomainSize, StartSize, EndSize, Increment, SelectionOrder, SelectionMeasure, ProofFormat, EvalLimit}

-- the flags by name
abbrev pub flag_named : List ℕ → Option Flag
flag_named name =
    if bytes_eq name (codes "auto") then Some Auto
    else (if bytes_eq name (codes "unit_deletion") then Some UnitDeletion
    else (if bytes_eq name (codes "back_subsume") then Some BackSubsume
    else (if bytes_eq name (codes "back_demod") then Some BackDemod
    else (if bytes_eq name (codes "lnh") then Some Lnh
    else (if bytes_eq name (codes "binary_resolution") then Some BinaryResolution
    else (if bytes_eq name (codes "hyper_resolution") then Some HyperResolution
    else (if bytes_eq name (codes "ur_resolution") then Some UrResolution
    else (if bytes_eq name (codes "factor") then Some Factor
    else (if bytes_eq name (codes "paramodulation") then Some Paramodulation
    else (if bytes_eq name (codes "prolog_style_variables") then Some PrologStyleVariables
    else None))))))))))

-- limits of the prover
abbrev pub limit_named : List ℕ → Option Parameter
limit_named name =
    if bytes_eq name (codes "max_weight") then Some MaxWeight
    else (if bytes_eq name (codes "sos_limit") then Some SosLimit
    else (if bytes_eq name (codes "max_given") then Some MaxGiven
    else (if bytes_eq name (codes "max_kept") then Some MaxKept
    else (if bytes_eq name (codes "max_seconds") then Some MaxSeconds
    else (if bytes_eq name (codes "max_megs") then Some MaxMegs
    else (if bytes_eq name (codes "demod_step_limit") then Some DemodStepLimit
    else None))))))

-- how many proofs or models are wanted
abbrev pub count_named : List ℕ → Option Parameter
count_named name =
    if bytes_eq name (codes "max_proofs") then Some MaxProofs
    else (if bytes_eq name (codes "max_models") then Some MaxModels
    else None)

-- the parts of the cycle
abbrev pub part_named : List ℕ → Option Parameter
part_named name =
    if bytes_eq name (codes "age_part") then Some AgePart
    else (if bytes_eq name (codes "weight_part") then Some WeightPart
    else (if bytes_eq name (codes "false_part") then Some FalsePart
    else (if bytes_eq name (codes "true_part") then Some TruePart
    else (if bytes_eq name (codes "pick_given_ratio") then Some PickGivenRatio
    else None))))

-- sizes
abbrev pub size_named : List ℕ → Option Parameter
size_named name =
    if bytes_eq name (codes "domain_size") then Some DomainSize
    else (if bytes_eq name (codes "start_size") then Some StartSize
    else (if bytes_eq name (codes "end_size") then Some EndSize
    else (if bytes_eq name (codes "increment") then Some Increment
    else None)))

-- how cells are selected
abbrev pub selection_named : List ℕ → Option Parameter
selection_named name =
    if bytes_eq name (codes "selection_order") then Some SelectionOrder
    else (if bytes_eq name (codes "selection_measure") then Some SelectionMeasure
    else None)

-- how proofs are printed, and how far terms are worked out
abbrev pub form_named : List ℕ → Option Parameter
form_named name =
    if bytes_eq name (codes "proof_format") then Some ProofFormat
    else (if bytes_eq name (codes "eval_limit") then Some EvalLimit
    else None)

-- the parameters by name
abbrev pub parameter_named : List ℕ → Option Parameter
parameter_named name =
    option_or
    (option_or
    (option_or (option_or (option_or (limit_named name) (count_named name)) (part_named name))
    (size_named name)) (selection_named name)) (form_named name)

-- what is read without effect, whatever its value
abbrev pub is_among : List (List ℕ) → List ℕ → Bool
is_among names name = list_any (λ n. bytes_eq name n) names

abbrev pub printing_flags : List (List ℕ)
printing_flags =
    codes "print_given" ∷ codes "print_kept" ∷ codes "print_gen" ∷ codes "print_proofs"
    ∷ codes "print_initial_clauses" ∷ codes "print_models" ∷ codes "print_models_tabular"
    ∷ codes "echo_input" ∷ []

abbrev pub plain_flags : List (List ℕ)
plain_flags =
    codes "ignore_option_dependencies" ∷ codes "quiet" ∷ codes "bell" ∷ codes "verbose"
    ∷ codes "trace" ∷ codes "negprop" ∷ []

abbrev pub automatic_flags : List (List ℕ)
automatic_flags =
    codes "auto2" ∷ codes "auto_inference" ∷ codes "auto_setup" ∷ codes "auto_limits"
    ∷ codes "auto_denials" ∷ codes "auto_process" ∷ codes "process_initial_sos" ∷ []

abbrev pub rule_flags : List (List ℕ)
rule_flags =
    codes "neg_binary_resolution" ∷ codes "pos_hyper_resolution" ∷ codes "neg_hyper_resolution"
    ∷ codes "pos_ur_resolution" ∷ codes "neg_ur_resolution" ∷ []

abbrev pub is_idle_flag : List ℕ → Bool
is_idle_flag name =
    is_among printing_flags name || is_among plain_flags name || is_among automatic_flags name
    || is_among rule_flags name

abbrev pub idle_parameters : List (List ℕ)
idle_parameters =
    codes "report" ∷ codes "report_stderr" ∷ codes "stats" ∷ codes "lrs_ticks"
    ∷ codes "min_sos_limit" ∷ codes "hints_part" ∷ []

-- at the start, where 4,294,967,295 stands for -1
abbrev pub start : Options
start =
    record {
      auto = true;
      unit_deletion = true;
      back_subsume = true;
      back_demod = true;
      lnh = true;
      binary_resolution = false;
      hyper_resolution = false;
      ur_resolution = false;
      factor = false;
      paramodulation = false;
      prolog_style_variables = false;
      order = Lpo;
      max_weight = 100;
      sos_limit = 20000;
      max_given = 4294967295;
      max_kept = 4294967295;
      max_seconds = 4294967295;
      max_megs = 500;
      max_proofs = 1;
      max_models = 1;
      demod_step_limit = 1000;
      age_part = 1;
      weight_part = 0;
      false_part = 4;
      true_part = 4;
      domain_size = 0;
      start_size = 2;
      end_size = 10;
      increment = 1;
      selection_order = 2;
      selection_measure = 4;
      proof_format = 1;
      eval_limit = 1024;
    }

-- -1 stands as 4,294,967,295, and no other number below 0 is a value
abbrev pub stored : Bool → ℕ → Option ℕ
stored negative n =
    if negative then (if n == 0 then Some 0 else (if n == 1 then Some 4294967295 else None))
    else (if nat_le n 2147483647 then Some n else None)

-- the values of a parameter, among those that are stored
abbrev pub allows : Parameter → ℕ → Bool
allows MaxWeight v = true
allows SosLimit v = true
allows MaxGiven v = true
allows MaxKept v = true
allows MaxSeconds v = true
allows MaxMegs v = true
allows MaxProofs v = not (v == 0)
allows MaxModels v = not (v == 0)
allows DemodStepLimit v = true
allows AgePart v = nat_le v 1000
allows WeightPart v = nat_le v 1000
allows FalsePart v = nat_le v 1000
allows TruePart v = nat_le v 1000
allows PickGivenRatio v = nat_le v 1000
allows DomainSize v = nat_le v 200
allows StartSize v = nat_le 1 v && nat_le v 200
allows EndSize v = nat_le 1 v && nat_le v 200
allows Increment v = nat_le 1 v && nat_le v 200
allows SelectionOrder v = nat_le v 2
allows SelectionMeasure v = nat_le v 4
allows ProofFormat v = nat_le 1 v && nat_le v 2
allows EvalLimit v = nat_le v 1000000

-- the options with a flag set or cleared
abbrev pub with_flag : Flag → Bool → Options → Options
with_flag Auto on s = record s { auto = on }
with_flag UnitDeletion on s = record s { unit_deletion = on }
with_flag BackSubsume on s = record s { back_subsume = on }
with_flag BackDemod on s = record s { back_demod = on }
with_flag Lnh on s = record s { lnh = on }
with_flag BinaryResolution on s = record s { binary_resolution = on }
with_flag HyperResolution on s = record s { hyper_resolution = on }
with_flag UrResolution on s = record s { ur_resolution = on }
with_flag Factor on s = record s { factor = on }
with_flag Paramodulation on s = record s { paramodulation = on }
with_flag PrologStyleVariables on s = record s { prolog_style_variables = on }

-- the options with a value of a parameter; `pick_given_ratio` n sets the parts 1, n, 0 and 0
abbrev pub with_value : Parameter → ℕ → Options → Options
with_value MaxWeight n s = record s { max_weight = n }
with_value SosLimit n s = record s { sos_limit = n }
with_value MaxGiven n s = record s { max_given = n }
with_value MaxKept n s = record s { max_kept = n }
with_value MaxSeconds n s = record s { max_seconds = n }
with_value MaxMegs n s = record s { max_megs = n }
with_value MaxProofs n s = record s { max_proofs = n }
with_value MaxModels n s = record s { max_models = n }
with_value DemodStepLimit n s = record s { demod_step_limit = n }
with_value AgePart n s = record s { age_part = n }
with_value WeightPart n s = record s { weight_part = n }
with_value FalsePart n s = record s { false_part = n }
with_value TruePart n s = record s { true_part = n }
with_value PickGivenRatio n s =
    record s { age_part = 1; weight_part = n; false_part = 0; true_part = 0 }
with_value DomainSize n s = record s { domain_size = n }
with_value StartSize n s = record s { start_size = n }
with_value EndSize n s = record s { end_size = n }
with_value Increment n s = record s { increment = n }
with_value SelectionOrder n s = record s { selection_order = n }
with_value SelectionMeasure n s = record s { selection_measure = n }
with_value ProofFormat n s = record s { proof_format = n }
with_value EvalLimit n s = record s { eval_limit = n }

-- what a flag that is set or cleared makes of the options
abbrev pub flagged : List ℕ → Bool → Options → Result Options OptionError
flagged name on s =
    if is_idle_flag name then Ok s
    else option_map_or (λ flag. Ok (with_flag flag on s)) (flag_named name) (Err Unknown)

-- what a parameter's value makes of the options, where it is a number, and where it is a symbol
abbrev pub with_stored : Parameter → Options → ℕ → Result Options OptionError
with_stored p s v = if allows p v then Ok (with_value p v s) else Err NotAValue

abbrev pub with_number : Bool → ℕ → Options → Parameter → Result Options OptionError
with_number negative n s p = option_map_or (with_stored p s) (stored negative n) (Err NotAValue)

-- the parameters whose values are symbols
abbrev pub takes_symbols : List ℕ → Bool
takes_symbols name = bytes_eq name (codes "order") || bytes_eq name (codes "eq_defs")

abbrev pub numbered : List ℕ → Bool → ℕ → Options → Result Options OptionError
numbered name negative n s =
    if is_among idle_parameters name then Ok s
    else (if takes_symbols name then Err NotAValue
    else option_map_or (with_number negative n s) (parameter_named name) (Err Unknown))

abbrev pub order_named : List ℕ → Option Order
order_named text =
    if bytes_eq text (codes "lpo") then Some Lpo
    else (if bytes_eq text (codes "kbo") then Some Kbo else None)

abbrev pub ordered : Options → Order → Result Options OptionError
ordered s o = Ok (record s { order = o })

abbrev pub symbolized : List ℕ → List ℕ → Options → Result Options OptionError
symbolized name text s =
    if is_among idle_parameters name then Ok s
    else (if bytes_eq name (codes "order")
    then option_map_or (ordered s) (order_named text) (Err NotAValue)
    else (if bytes_eq name (codes "eq_defs")
    then (if bytes_eq text (codes "pass") then Ok s else Err NotAValue)
    else option_map_or (λ p. Err NotAValue) (parameter_named name) (Err Unknown)))
