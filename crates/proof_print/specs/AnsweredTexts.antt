-- The text of a clause with answers behind it.
use Rattle.std.specs.Prelude.{ℕ, List, [], ◌∷◌, ◌++◌, codes}
use Rattle.std.specs.Fmt.{decimal}
use Rattle.answers.specs.AnswerTrees.{Answer}
use Rattle.fol_core.specs.Literals.{ClauseTree}
use Rattle.fol_core.specs.RawTree.{RawTree, named, no_raws, more_raws}
use Rattle.fol_core.specs.SymbolTable.{Symbol}
use Rattle.ladr_print.specs.ClauseText.{clause_raw, clause_bytes, clause_in_front}
use Rattle.ladr_print.specs.FormulaText.{two}
use Rattle.ladr_print.specs.RawText.{further, printed_all}
use Rattle.ladr_print.specs.TermText.{Naming, terms_raw}
use Rattle.ladr_reader.specs.Marks.{in_quotes}
use Rattle.ladr_reader.specs.Table.{OperatorTable}

-- an answer, with the number of its goal's line in front of its terms
abbrev pub answer_bytes : OperatorTable → List Symbol → Naming → Answer → List ℕ
answer_bytes g table v a =
    codes "answer("
    ++ (decimal a.goal ++ (further (printed_all g (terms_raw table v a.terms)) ++ codes ")"))

-- answers, each behind a `#`
abbrev pub answers_bytes : OperatorTable → List Symbol → Naming → List Answer → List ℕ
answers_bytes g table v [] = []
answers_bytes g table v (a ∷ us) =
    codes " # " ++ (answer_bytes g table v a ++ answers_bytes g table v us)

-- a clause with its answers
abbrev pub answered_bytes : OperatorTable → List Symbol → Naming → ClauseTree → List Answer → List ℕ
answered_bytes g table v c [] = clause_bytes g table v c
answered_bytes g table v c (a ∷ us) =
    clause_in_front g table v c ++ answers_bytes g table v (a ∷ us)

-- the terms that these are read as: the word and the number of an answer are names, whatever
-- operators there are
abbrev pub answer_raw : List Symbol → Naming → Answer → RawTree
answer_raw table v a =
    named (in_quotes (codes "answer"))
    (more_raws (named (in_quotes (decimal a.goal)) no_raws) (terms_raw table v a.terms))

abbrev pub answers_raw : List Symbol → Naming → Answer → List Answer → RawTree
answers_raw table v a [] = answer_raw table v a
answers_raw table v a (b ∷ us) =
    two (codes "#") (answer_raw table v a) (answers_raw table v b us)

abbrev pub answered_raw : List Symbol → Naming → ClauseTree → List Answer → RawTree
answered_raw table v c [] = clause_raw table v c
answered_raw table v c (a ∷ us) = two (codes "#") (clause_raw table v c) (answers_raw table v a us)
