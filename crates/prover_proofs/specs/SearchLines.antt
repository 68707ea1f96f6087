-- All lines of a search, as they are written: those of the problem, and those that were made.
use Rattle.std.specs.Prelude.{ℕ, suc, if◌then◌else◌, length, List, [], ◌∷◌, ◌++◌, map}
use Rattle.std.specs.Option.{option_map_or}
use Rattle.clause_store.specs.Lines.{PlainLine, plain_clause, line_under, formula_lines}
use Rattle.derivation.specs.Lines.{InputRow, is_goal, said_at}
use Rattle.fol_problem.specs.Stated.{Said, all_said}
use Rattle.fol_problem.specs.declared.problem.Role.{Role}
use Rattle.fol_problem.specs.declared.problem.Role.TheVariants.{Assumption}
use Rattle.held_clauses.specs.declared.made.MadeLine as made
use Rattle.proof_words.specs.Written.{WrittenFirst, by_clausify, by_deny, written, written_of}
use Rattle.prover_proofs.specs.declared.lines.SearchLines.{SearchLines}
use Rattle.prover_steps.specs.Searching.{MadeLine, SearchState}

-- the role of the formula of a number, counted from 1
abbrev pub role_at : List Said → ℕ → Role
role_at ss n = option_map_or (λ s. s.role) (said_at ss n) Assumption

-- the line of an input clause: one of an assumption, or of the denial of a goal
abbrev pub clausal_word_at : List Said → ℕ → WrittenFirst
clausal_word_at ss n = if is_goal (role_at ss n) then by_deny n else by_clausify n

abbrev pub clausal_line : List Said → ℕ → InputRow → PlainLine
clausal_line ss n r = line_under n (plain_clause r.1) (written (clausal_word_at ss r.0) [])

abbrev pub clausal_lines : List Said → ℕ → List InputRow → List PlainLine
clausal_lines ss n [] = []
clausal_lines ss n (r ∷ rows) = clausal_line ss n r ∷ clausal_lines ss (suc n) rows

-- the lines of a problem: those of its formulas, and behind them those of its clauses
abbrev pub stated_lines : List PlainLine → List Said → List InputRow → List PlainLine
stated_lines formulas ss rows = formulas ++ clausal_lines ss (suc (length formulas)) rows

-- a line that was made
abbrev pub made_plain : MadeLine → PlainLine
made_plain l = line_under l.number (plain_clause l.clause) (written l.first l.later)

-- all lines of a state
abbrev pub lines_at : List PlainLine → SearchState → List PlainLine
lines_at base t = base ++ map made_plain t.lines

-- lines that the code made, numbered one by one from a number on
abbrev pub numbered_line : ℕ → made.MadeLine → PlainLine
numbered_line n l = line_under n (plain_clause l.clause.value) (written_of l.just.value)

abbrev pub numbered_lines : ℕ → List made.MadeLine → List PlainLine
numbered_lines n [] = []
numbered_lines n (l ∷ ls) = numbered_line n l ∷ numbered_lines (suc n) ls

-- lines, and behind them those that were made
abbrev pub with_made : List PlainLine → List made.MadeLine → List PlainLine
with_made base ls = base ++ numbered_lines (suc (length base)) ls

-- all lines of a search, where the code has them
abbrev pub lines_in : SearchLines → List PlainLine
lines_in s =
    with_made (stated_lines (formula_lines 1 s.inputs.now) (all_said s.inputs.now) s.clauses.now)
    s.made.now
