-- Inputs that are refused, and what is printed of them.
use Rattle.std.specs.Prelude.{◌≡◌, ℕ, List, [], ◌++◌, codes, ◌⊎◌}
use Rattle.std.specs.Fmt.{decimal}
use Rattle.ladr_intake.specs.Input.{AreTaken, IsAllRead, IsTooLong, IsFailed}
use Rattle.ladr_intake.specs.declared.stops.Refused.{Refused}
use Rattle.ladr_intake.specs.declared.stops.Refused.TheVariants.{Unreadable, Misuse, TooLarge}
use Rattle.ladr_intake.specs.declared.stops.Stop.{Stop}
use Rattle.ladr_intake.specs.declared.stops.Stop.TheVariants as stops
use Rattle.ladr_io.specs.Streams.{Inflow, Outflow, Takes}
use Rattle.ladr_lex.specs.Misuses.{misuse_row}
use Rattle.ladr_output.specs.Telling.{as_line, PieceTells}
use Rattle.ladr_output.specs.declared.cut.Cut.{Cut}
use Rattle.ladr_output.specs.declared.cut.Cut.TheVariants.{WriteFault, Memory}
use Rattle.ladr_lex.specs.declared.limits.TheConstants.{MOST_BYTES}
use Rattle.ladr_problem.specs.File.{Says, unreadable, misused, too_large}
use Rattle.ladr_problem.specs.Places.{IsPlace}
use Rattle.ladr_problem.specs.declared.refusal.Limit.{Limit}
use Rattle.ladr_problem.specs.declared.refusal.Limit.TheVariants as limits
use Rattle.ladr_problem.specs.declared.refusal.ReadError.{ReadError}
use Rattle.ladr_problem.specs.declared.refusal.ReadError.TheVariants as errors
use Rattle.ladr_formulas.specs.declared.styles.Mode.{Mode}

abbrev pub limit_text : Limit → List ℕ
limit_text limits.Input = codes "input"
limit_text limits.Nesting = codes "nesting"
limit_text limits.Symbols = codes "symbols"
limit_text limits.Arity = codes "arity"
limit_text limits.Distinct = codes "distinct"

-- what couldn't be read: the place of a byte, its line and column, and what stands there
abbrev pub unreadable_line : ℕ → ℕ → ℕ → List ℕ → List ℕ
unreadable_line byte row column token =
    as_line (codes "ladr: unreadable at byte " ++ decimal byte ++ codes ", line " ++ decimal row
    ++ codes ", column " ++ decimal column ++ codes ": " ++ token)

-- the row of misuse that is broken, and where
abbrev pub misuse_line : ℕ → ℕ → ℕ → ℕ → List ℕ
misuse_line broken byte row column =
    as_line (codes "ladr: misuse " ++ decimal broken ++ codes " at byte " ++ decimal byte
    ++ codes ", line " ++ decimal row ++ codes ", column " ++ decimal column)

-- what was too large, and where
abbrev pub too_large_line : ℕ → List ℕ → List ℕ
too_large_line byte what =
    as_line (codes "ladr: too large at byte " ++ decimal byte ++ codes ": " ++ what)

abbrev pub read_fault_line : List ℕ
read_fault_line = as_line (codes "ladr: read fault")

-- a formula has too many clauses, for a command that makes clauses
abbrev pub clause_limit_line : ℕ → List ℕ
clause_limit_line formula = as_line (codes "ladr: clause limit at formula " ++ decimal formula)

-- the line of a refusal
abbrev pub refusal_text : Refused → List ℕ
refusal_text (Unreadable place) = unreadable_line place.byte place.line place.column place.token
refusal_text (Misuse place why) = misuse_line (misuse_row why) place.byte place.line place.column
refusal_text (TooLarge byte what) = too_large_line byte (limit_text what)

-- Bytes are refused to a program for what they say, at a place or at the first byte of an item.
abbrev pub refuses : Mode → List ℕ → Refused → Type 0
refuses m bytes (Unreadable place) = Says m bytes (unreadable place.byte) × IsPlace bytes place
refuses m bytes (Misuse place why) = Says m bytes (misused place.byte why) × IsPlace bytes place
refuses m bytes (TooLarge byte what) = Says m bytes (too_large byte what)

-- nothing is refused for what it says
abbrev pub refuses_none : List ℕ → Refused → Type 0
refuses_none bytes why = ⊥

-- An input is refused: it was read, and is refused by a language; or one byte too many was read.
abbrev pub IsRefused : (List ℕ → Refused → Type 0) → Inflow → Inflow → List ℕ → Refused → Type 0
IsRefused refuses old new bytes why =
    (IsAllRead old new bytes × refuses bytes why)
    ⊎ (IsTooLong old new bytes × (why ≡ TooLarge MOST_BYTES limits.Input))

-- there is no input to go on with, for this reason; nothing is said of memory
abbrev pub IsNoInput : (List ℕ → Refused → Type 0) → Inflow → Inflow → List ℕ → Stop → Type 0
IsNoInput refuses old new bytes (stops.Refused why) = IsRefused refuses old new bytes why
IsNoInput refuses old new bytes stops.ReadFault = IsFailed old new bytes
IsNoInput refuses old new bytes stops.WriteFault = ⊥
IsNoInput refuses old new bytes stops.Memory = AreTaken old new bytes

-- what was read is refused so
abbrev pub stop_of_error : ReadError → Stop
stop_of_error (errors.Unreadable place) = stops.Refused (Unreadable place)
stop_of_error (errors.Misuse place why) = stops.Refused (Misuse place why)
stop_of_error (errors.TooLarge byte what) = stops.Refused (TooLarge byte what)
stop_of_error errors.Memory = stops.Memory

-- the output was cut off
abbrev pub stop_of_cut : Cut → Stop
stop_of_cut WriteFault = stops.WriteFault
stop_of_cut Memory = stops.Memory

-- It is told so: the line is printed, or what cut it off stands for it. Where memory was lacking
-- before, nothing is printed.
abbrev pub IsToldBy : Stop → Outflow → Outflow → Stop → Type 0
IsToldBy (stops.Refused why) old new stop =
    PieceTells (stops.Refused why) stop_of_cut (refusal_text why) old new stop
IsToldBy stops.ReadFault old new stop =
    PieceTells stops.ReadFault stop_of_cut read_fault_line old new stop
IsToldBy stops.WriteFault old new stop = ⊥
IsToldBy stops.Memory old new stop = (stop ≡ stops.Memory) × Takes old new []

-- no input is taken in: there is none to go on with, and it is told so
abbrev pub IsNoneTaken : (List ℕ → Refused → Type 0) → Inflow → Inflow → Outflow → Outflow → Stop →
    Type 0
IsNoneTaken refuses from from' to to' stop =
    (why : Stop) × ((bytes : List ℕ) × IsNoInput refuses from from' bytes why)
    × IsToldBy why to to' stop
