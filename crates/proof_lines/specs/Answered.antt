-- Clauses with answers behind them, `clause # answer(n,t1,..,tj) # ..`, as they are read: the word and
-- the number of an answer are marked as names.
use Rattle.std.specs.Prelude.{ℕ, Bool, false, ◌&&◌, ◌==◌, nat_le, length, ◌-◌, take, if◌then◌else◌, List, [], ◌∷◌, ◌++◌, Option, Some, None, option_map, is_some, map, codes}
use Rattle.std.specs.List.{list_all}
use Rattle.std.specs.Str.{bytes_eq}
use Rattle.fol_core.specs.RawTree.{RawTree, named, quantified, RawTrees, no_raws, more_raws, raws_of, depth, depth_of}
use Rattle.ladr_lex.specs.Numeral.{whole_number}
use Rattle.ladr_formulas.specs.Formulas.{arity_of}
use Rattle.ladr_reader.specs.Capped.{disjuncts, is_bar}
use Rattle.ladr_reader.specs.Marks.{in_quotes}
use Rattle.ladr_rules.specs.Attributes.{attributed}
use Rattle.proof_lines.specs.Literals.{read_as_clause}
use Rattle.proof_lines.specs.declared.answered.RawAnswer.{RawAnswer}
use Rattle.proof_lines.specs.declared.answered.TheConstants.{MOST_ANSWERED_LEVELS}
use Rattle.proof_lines.specs.declared.literals.TheConstants.{MOST_ATOM_LEVELS}

-- an answer as it is read: the number of its goal's line, and its terms
pub record ReadAnswer : Type 0 where
  pub goal : ℕ
  pub terms : RawTrees

-- an answer of the code
abbrev pub answer_view : RawAnswer → ReadAnswer
answer_view a = record { goal = a.goal; terms = raws_of a.terms }

abbrev pub answer_views : List RawAnswer → List ReadAnswer
answer_views us = map answer_view us

-- the number whose marked name this is
abbrev pub number_marked : List ℕ → Option ℕ
number_marked [] = None
number_marked (b ∷ bs) =
    if b == 34 then whole_number (take (length bs - 1) bs) else None

abbrev pub number_read : RawTree → Option ℕ
number_read (named s no_raws) = number_marked s
number_read (named s (more_raws t ts)) = None
number_read (quantified q x t) = None

-- `answer(n,t1,..,tj)`, with one term at least
abbrev pub answer_read : RawTree → Option ReadAnswer
answer_read (named s (more_raws n (more_raws t ts))) =
    if bytes_eq s (in_quotes (codes "answer"))
    then option_map (λ goal. record { goal = goal; terms = more_raws t ts }) (number_read n)
    else None
answer_read (named s no_raws) = None
answer_read (named s (more_raws n no_raws)) = None
answer_read (quantified q x t) = None

-- the number in front of its arguments, two at least
abbrev pub goal_in : List RawTree → Option ℕ
goal_in [] = None
goal_in (n ∷ []) = None
goal_in (n ∷ t ∷ ts) = number_read n

-- the number of its goal's line
abbrev pub goal_read : RawTree → Option ℕ
goal_read t = option_map (λ a. a.goal) (answer_read t)

-- one more answer, if all are some
abbrev pub with_answer : Option ReadAnswer → Option (List ReadAnswer) → Option (List ReadAnswer)
with_answer (Some a) (Some us) = Some (a ∷ us)
with_answer a us = None

abbrev pub all_answers : List RawTree → Option (List ReadAnswer)
all_answers [] = Some []
all_answers (t ∷ ts) = with_answer (answer_read t) (all_answers ts)

-- answers with further ones behind them, if these are some
abbrev pub continued : List ReadAnswer → Option (List ReadAnswer) → Option (List ReadAnswer)
continued us bs = option_map (λ cs. us ++ cs) bs

-- the answers behind a clause, one at least
abbrev pub some_answers : List RawTree → Option (List ReadAnswer)
some_answers [] = None
some_answers (t ∷ ts) = all_answers (t ∷ ts)

abbrev pub answers_read : RawTree → Option (List ReadAnswer)
answers_read t = some_answers (attributed t).attributes

-- those behind a term of at most 2,000 levels, where each disjunct and each answer is a level
abbrev pub answers_behind : RawTree → Option (List ReadAnswer)
answers_behind t = if nat_le (depth t) MOST_ANSWERED_LEVELS then answers_read t else None

-- whether `|` joins two disjuncts
abbrev pub is_disjoined : RawTree → Bool
is_disjoined (named s ts) = arity_of ts == 2 && is_bar s
is_disjoined (quantified q x t) = false

-- the clause without them
abbrev clause_before : Option (List ReadAnswer) → RawTree → RawTree
clause_before None t = t
clause_before (Some us) t = (attributed t).formula

abbrev pub clause_part : RawTree → RawTree
clause_part t = clause_before (answers_read t) t

-- whether a term stands as a clause with answers
abbrev pub is_answered : RawTree → Bool
is_answered t = is_some (answers_behind t) && read_as_clause (disjuncts (clause_part t))

-- whether no term of answers has more than 1,000 levels
abbrev pub are_shallow_answers : List ReadAnswer → Bool
are_shallow_answers us = list_all (λ a. nat_le (depth_of a.terms) MOST_ATOM_LEVELS) us
