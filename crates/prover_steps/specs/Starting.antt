-- Where a search begins: the lines of a problem, and its input clauses in the queue.
use Rattle.std.specs.Prelude.{ℕ, suc, ◌≡◌, Bool, true, false, ◌+◌, if◌then◌else◌, length, List, [], ◌∷◌, ◌++◌, Some, None, is_some}
use Rattle.std.specs.List.{AllByRecursion}
use Rattle.std.specs.Option.{option_map_or}
use Rattle.fol_problem.specs.Stated.{Said}
use Rattle.fol_problem.specs.declared.problem.Role.{Role}
use Rattle.fol_problem.specs.declared.problem.Role.TheVariants.{Assumption, Usable, Demodulator, Goal}
use Rattle.derivation.specs.Lines.{assumed, wanted, clausified, denied, InputRow, LineTree, formula, clause, is_goal, said_at}
use Rattle.proof_words.specs.Written.{by_copy}
use Rattle.fol_core.specs.Literals.{ClauseTree}
use Rattle.fol_core.specs.Renumbered.{renumbered}
use Rattle.prover_steps.specs.Clashing.{Held}
use Rattle.prover_steps.specs.Rewriting.{is_rule_clause}
use Rattle.prover_steps.specs.SearchLaws.{Begins}
use Rattle.prover_steps.specs.Searching.{Queued, SearchState}

-- formulas are lines 1, 2, .., as assumptions or as goals
abbrev pub said_line : ℕ → Said → LineTree
said_line n s = record {
  number = n;
  content = formula s.formula;
  first = if is_goal s.role then wanted else assumed;
  later = [];
}

abbrev pub said_lines : ℕ → List Said → List LineTree
said_lines n [] = []
said_lines n (s ∷ ss) = said_line n s ∷ said_lines (suc n) ss

-- what the formula of a row is
abbrev pub role_of : List Said → InputRow → Role
role_of ss r = option_map_or (λ s. s.role) (said_at ss r.0) Assumption

-- input clauses are the lines behind them
abbrev pub input_line : List Said → ℕ → InputRow → LineTree
input_line ss n r = record {
  number = n;
  content = clause r.1;
  first = if is_goal (role_of ss r) then denied r.0 else clausified r.0;
  later = [];
}

abbrev pub input_lines : List Said → ℕ → List InputRow → List LineTree
input_lines ss n [] = []
input_lines ss n (r ∷ rows) = input_line ss n r ∷ input_lines ss (suc n) rows

abbrev pub problem_lines : List Said → List InputRow → List LineTree
problem_lines ss rows = said_lines 1 ss ++ input_lines ss (suc (length ss)) rows

-- a clause of the queue, under its number
abbrev pub queued_as : Bool → ℕ → InputRow → Queued
queued_as usable n r =
    record { clause = r.1; first = by_copy n; later = []; input = Some n; usable = usable }

-- one of a usable formula is to be used at once, and one of a demodulator isn't processed
abbrev pub queued_input : Role → ℕ → InputRow → List Queued
queued_input Assumption n r = queued_as false n r ∷ []
queued_input Usable n r = queued_as true n r ∷ []
queued_input Demodulator n r = []
queued_input Goal n r = queued_as false n r ∷ []

abbrev pub queued_inputs : List Said → ℕ → List InputRow → List Queued
queued_inputs ss n [] = []
queued_inputs ss n (r ∷ rows) = queued_input (role_of ss r) n r ++ queued_inputs ss (suc n) rows

-- a demodulator's clause is a rule
abbrev pub held_rule : Role → ℕ → InputRow → List Held
held_rule Assumption n r = []
held_rule Usable n r = []
held_rule Demodulator n r = record { number = n; clause = r.1 } ∷ []
held_rule Goal n r = []

abbrev pub rules_of : List Said → ℕ → List InputRow → List Held
rules_of ss n [] = []
rules_of ss n (r ∷ rows) = held_rule (role_of ss r) n r ++ rules_of ss (suc n) rows

-- the state in which a search begins
abbrev pub start_state : List Said → List InputRow → SearchState
start_state ss rows = record {
  waiting = [];
  usable = [];
  rules = rules_of ss (suc (length ss)) rows;
  queue = queued_inputs ss (suc (length ss)) rows;
  lines = [];
  next = suc (length ss + length rows);
  turn = 0;
  given = 0;
  generated = 0;
  kept = 0;
  large = 0;
  symbols = 0;
  proofs = [];
  ended = None;
}

-- a demodulator's clause is a rule
abbrev pub IsRuleOf : Role → ClauseTree → Type 0
IsRuleOf Assumption c = Unit {0}
IsRuleOf Usable c = Unit {0}
IsRuleOf Demodulator c = is_rule_clause c ≡ true
IsRuleOf Goal c = Unit {0}

-- a row is one of a formula, with its variables numbered
pub record IsRowOfSaid (ss : List Said) (r : InputRow) : Type 0 where
  pub there : is_some (said_at ss r.0) ≡ true
  pub numbered : renumbered r.1 ≡ r.1
  pub rule : IsRuleOf (role_of ss r) r.1

abbrev pub AreRowsOf : List Said → List InputRow → Type 0
AreRowsOf ss rows = AllByRecursion (IsRowOfSaid ss) rows

-- a search from there begins with a derivation, and with clauses that it has
abbrev pub StartsWell : Type 0
StartsWell =
    (ss : List Said) (rows : List InputRow)
    → AreRowsOf ss rows → Begins ss rows (problem_lines ss rows) (start_state ss rows)
