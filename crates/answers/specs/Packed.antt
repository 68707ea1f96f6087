-- Answers as literals, while they stand behind those of a clause.
use Rattle.std.specs.Prelude.{true, List, [], ◌∷◌, ◌++◌, map}
use Rattle.fol_core.specs.Literals.{ClauseTree, literal}
use Rattle.fol_core.specs.Tree.{Tree, var, elem, app}
use Rattle.answers.specs.AnswerTrees.{Answer, answer}

-- each is an atom, with the number of its goal's line for a symbol
abbrev pub packed : List Answer → ClauseTree
packed us = map (λ a. literal true (app a.goal a.terms)) us

-- the answer that an atom is
abbrev pub answer_in : Tree → List Answer
answer_in (var x) = []
answer_in (elem k) = []
answer_in (app n ts) = answer n ts ∷ []

abbrev pub unpacked : ClauseTree → List Answer
unpacked [] = []
unpacked (l ∷ c) = answer_in l.atom ++ unpacked c
