-- Answers, with their terms put in and numbered behind the literals of a clause.
use Rattle.std.specs.Prelude.{ℕ, suc, Bool, ◌≡◌, ◌==◌, ◌&&◌, if◌then◌else◌, true, max, List, [], ◌∷◌, ◌++◌, map}
use Rattle.std.specs.List.{list_any}
use Rattle.fol_core.specs.Literals.{ClauseTree, literal}
use Rattle.fol_core.specs.Renumbered.{clause_variables, by_place, renumbered}
use Rattle.fol_core.specs.Substitutions.{Substitution, substitute_all}
use Rattle.fol_core.specs.Tree.{Trees, none, more}
use Rattle.substitutions.specs.Instances.{substitute_clause}
use Rattle.unifiers.specs.Matching.{same_trees}

-- terms for what the goal of the line of this number asks for
pub record Answer : Type 0 where
  pub goal : ℕ
  pub terms : Trees

abbrev pub answer : ℕ → Trees → Answer
answer goal terms = record { goal = goal; terms = terms }

abbrev pub substitute_answer : Substitution → Answer → Answer
substitute_answer s a = answer a.goal (substitute_all s a.terms)

abbrev pub substitute_answers : Substitution → List Answer → List Answer
substitute_answers s us = map (substitute_answer s) us

abbrev pub same_answer : Answer → Answer → Bool
same_answer a b = a.goal == b.goal && same_trees a.terms b.terms

-- an answer that stands before is left out
abbrev pub added : List Answer → Answer → List Answer
added us a = if list_any (same_answer a) us then us else us ++ a ∷ []

abbrev pub all_added : List Answer → List Answer → List Answer
all_added us [] = us
all_added us (b ∷ bs) = all_added (added us b) bs

-- answers, each once
abbrev pub each_once : List Answer → List Answer
each_once us = all_added [] us

-- their terms as literals: so a clause with answers is a clause for all that counts terms
abbrev pub literals_of : Trees → ClauseTree
literals_of none = []
literals_of (more t ts) = literal true t ∷ literals_of ts

abbrev pub riders : List Answer → ClauseTree
riders [] = []
riders (a ∷ us) = literals_of a.terms ++ riders us

abbrev pub whole : ClauseTree → List Answer → ClauseTree
whole c us = c ++ riders us

-- variables by their places, those of the literals first
abbrev pub numbering : ClauseTree → List Answer → Substitution
numbering c us = by_place (clause_variables (whole c us))

abbrev pub numbered_clause : ClauseTree → List Answer → ClauseTree
numbered_clause c us = substitute_clause (numbering c us) c

abbrev pub numbered_answers : ClauseTree → List Answer → List Answer
numbered_answers c us = substitute_answers (numbering c us) us

-- a clause with answers is another one, but for the numbers of variables
abbrev pub IsSame : ClauseTree → List Answer → ClauseTree → List Answer → Type 0
IsSame c us d bs =
    (numbered_clause c us ≡ numbered_clause d bs) × (numbered_answers c us ≡ numbered_answers d bs)

-- a number above all variables
abbrev pub above_all : List ℕ → ℕ
above_all [] = 0
above_all (x ∷ xs) = max (suc x) (above_all xs)

abbrev pub fresh_for : ClauseTree → List Answer → ℕ
fresh_for c us = above_all (clause_variables (whole c us))

-- with any answers a clause is numbered as without
abbrev pub LiteralsStay : Type 0
LiteralsStay = (c : ClauseTree) (us : List Answer) → numbered_clause c us ≡ renumbered c
