-- What a file says to a program: its items are taken one behind the other.
use Rattle.std.specs.Prelude.{◌≡◌, ℕ, ◌<◌, ◌≤◌, ◌==◌, List, [], ◌∷◌, length, map, Option, Some, None, is_some, IsTrue, if◌then◌else◌}
use Rattle.std.specs.Option.{option_map_or}
use Rattle.std.specs.List.{list_all, slice_get}
use Rattle.std.specs.declared.result.Result.TheVariants.{Ok, Err}
use Rattle.fol_core.specs.SymbolTable.{Symbol}
use Rattle.fol_problem.specs.declared.problem.Role.{Role}
use Rattle.ladr_lex.specs.declared.misuse.Misuse.{Misuse}
use Rattle.ladr_lex.specs.declared.misuse.Misuse.TheVariants.{Uncovered}
use Rattle.ladr_commands.specs.ByName.{ByName}
use Rattle.ladr_interpretations.specs.Covers.{covers}
use Rattle.ladr_problem.specs.Items.{items_of, lexemes}
use Rattle.ladr_lex.specs.declared.limits.TheConstants.{MOST_BYTES}
use Rattle.ladr_lex.specs.Cuts.{Piece, Cuts}
use Rattle.ladr_interpretations.specs.Good.{tables_for}
use Rattle.ladr_problem.specs.Adding.{FileItem, IsItemRead, IsUnreadable, after_item}
use Rattle.ladr_problem.specs.Sofar.{Sofar, Listed, nothing_read}
use Rattle.ladr_problem.specs.declared.refusal.Limit.{Limit}
use Rattle.ladr_problem.specs.declared.refusal.Limit.TheVariants as limit
use Rattle.ladr_problem.specs.declared.refusal.Refusal.{Refusal}
use Rattle.ladr_problem.specs.declared.refusal.Refusal.TheVariants.{Bad, Large, Misused, Memory}
use Rattle.ladr_formulas.specs.declared.styles.Mode.{Mode}
use Rattle.model_tables.specs.Tables.{Finite}
use Rattle.ladr_formulas.specs.declared.styles.Mode.TheVariants.{Prover, Mace, Tester}

-- A file says this: a problem with its settings; or it is refused at a byte, where something can't
-- be read, a row of misuse is broken, or a limit is passed.
pub data Outcome : Type 0 where
  problem : Sofar → Outcome
  unreadable : ℕ → Outcome
  misused : ℕ → Misuse → Outcome
  too_large : ℕ → Limit → Outcome

-- where token k of an item begins; behind the last one the input ends
abbrev pub start_at : ℕ → List Piece → ℕ → ℕ
start_at end ts k = option_map_or (λ t. t.start) (slice_get ts k) end

-- the refusal of an item that begins at a byte
abbrev pub refused_at : ℕ → Refusal → Outcome
refused_at byte (Bad k) = unreadable byte
refused_at byte (Large what) = too_large byte what
refused_at byte (Misused k) = misused byte k
refused_at byte Memory = unreadable byte

-- The fold of the items of an input that ends at a byte: they are taken up to the first that is
-- refused. A list or a block that is open at the end is unreadable there.
pub data File (m : Mode) (end : ℕ) : Sofar → List (List Piece) → Outcome → Type 0 where
  ends : {s : Sofar} → s.settings.list ≡ None → s.settings.block ≡ None →
      File m end s [] (problem s)
  open_list : {s : Sofar} → IsTrue (is_some s.settings.list) → File m end s [] (unreadable end)
  open_block : {s : Sofar} → IsTrue (is_some s.settings.block) → File m end s [] (unreadable end)
  bad :
      {s : Sofar} {ts : List Piece} {items : List (List Piece)} (k : ℕ) →
      IsUnreadable m s (lexemes ts) k → File m end s (ts ∷ items) (unreadable (start_at end ts k))
  breaks :
      {s : Sofar} {ts : List Piece} {items : List (List Piece)} (i : FileItem) (why : Refusal) →
      IsItemRead m s (lexemes ts) i → after_item m (start_at end ts 0) s (lexemes ts) i ≡ Err why →
      File m end s (ts ∷ items) (refused_at (start_at end ts 0) why)
  goes_on :
      {s : Sofar} {ts : List Piece} {items : List (List Piece)} {o : Outcome} (i : FileItem)
      (t : Sofar) →
      IsItemRead m s (lexemes ts) i → after_item m (start_at end ts 0) s (lexemes ts) i ≡ Ok t →
      File m end t items o → File m end s (ts ∷ items) o

-- where the first formula begins that has a symbol or an element which some of the tables lack
abbrev pub first_lacking : List Finite → List (Role × Listed) → Option ℕ
first_lacking ts [] = None
first_lacking ts (f ∷ fs) =
    if list_all (λ t. covers t f.1.formula) ts then first_lacking ts fs else Some f.1.byte

-- the tables of each interpretation
abbrev pub all_tables : List ByName → List Symbol → List Finite
all_tables its symbols = map (λ it. tables_for it symbols) its

-- a formula that isn't covered is row 18
abbrev pub covered : Sofar → List ByName → Outcome
covered s its =
    option_map_or (λ byte. misused byte Uncovered)
    (first_lacking (all_tables its s.symbols) s.formulas) (problem s)

-- for a program that tests interpretations: no interpretation is row 18 at the end
abbrev pub tested : ℕ → Outcome → Outcome
tested end (problem s) =
    if length s.settings.interpretations == 0 then misused end Uncovered
    else covered s s.settings.interpretations
tested end (unreadable byte) = unreadable byte
tested end (misused byte row) = misused byte row
tested end (too_large byte what) = too_large byte what

abbrev pub at_file_end : Mode → ℕ → Outcome → Outcome
at_file_end Prover end o = o
at_file_end Mace end o = o
at_file_end Tester end o = tested end o

-- the bytes say this to the program
pub data Says (m : Mode) (bytes : List ℕ) : Outcome → Type 0 where
  too_long : MOST_BYTES < length bytes → Says m bytes (too_large MOST_BYTES limit.Input)
  items :
      {o : Outcome} (tokens : List Piece) → length bytes ≤ MOST_BYTES → Cuts 0 bytes tokens →
      File m (length bytes) nothing_read (items_of tokens) o →
      Says m bytes (at_file_end m (length bytes) o)
