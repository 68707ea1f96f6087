-- Laws of derivations with answers: what steps make of them, and what they are without.
use Rattle.std.specs.Prelude.{ℕ, suc, ◌≡◌, ◌+◌, ◌<◌, ◌↔◌, Bool, false, IsTrue, List, [], ◌∷◌, ◌++◌, map, length, Option, Some, None}
use Rattle.std.specs.List.{AllByRecursion, flat_map, list_any}
use Rattle.answers.specs.AnswerTrees.{Answer, substitute_answers, each_once, numbered_clause, numbered_answers, whole, fresh_for, IsSame}
use Rattle.answered_lines.specs.Lines.{Asked, all_said_in, AnsweredRow, plain_rows, AnsweredLine, plain_lines, answers_of_line, IsInferredWith, IsInstanceWith, AreLinesWith, IsRefutationWith}
use Rattle.answered_lines.specs.Refused.{IsRefusedWith, IsAcceptedWith, IsFaultWith}
use Rattle.answered_lines.specs.Steps.{together, IsMostGeneralWith, ConcludesWith, Joins}
use Rattle.derivation.specs.Apart.{lefts, rights}
use Rattle.derivation.specs.Later.{LaterWord, later_parents}
use Rattle.derivation.specs.Lines.{FirstWord, Inference, inference_of, clause, IsInferred, IsInstance, IsDerivation, IsRefutation}
use Rattle.derivation.specs.Refused.{all_parents, IsFault}
use Rattle.derivation.specs.Rule.{InferenceRule}
use Rattle.derivation.specs.declared.row.Row.{Row}
use Rattle.fol_core.specs.Literals.{ClauseTree}
use Rattle.fol_core.specs.Substitutions.{Substitution, substitute}
use Rattle.fol_core.specs.Tree.{Tree, var}
use Rattle.substitutions.specs.Apart.{Own, instances, interleaved, AreRenamedApart}
use Rattle.substitutions.specs.Bindings.{Binding}
use Rattle.substitutions.specs.Instances.{substitute_clause, followed}
use Rattle.substitutions.specs.Occurring.{has_variable, have_variable, occurs_in_clause}
use Rattle.unifiers.specs.Unifier.{IsMostGeneral}

-- a rule has one conclusion, with one list of answers
abbrev pub OneConclusionWith : Type 0
OneConclusionWith =
    (w : FirstWord) (i : Inference) (cs : List ClauseTree) (answers : List (List Answer))
    (c d : ClauseTree) (us vs : List Answer) → inference_of w ≡ Some i → IsTrue (i.rule.fits cs)
    → ConcludesWith i.rule cs answers c us → ConcludesWith i.rule cs answers d vs →
    (c ≡ d) × (us ≡ vs)

-- and a line that is inferred one content and one list of answers, but for the numbers of their
-- variables
abbrev pub OneContentWith : Type 0
OneContentWith =
    (ls : List AnsweredLine) (w : FirstWord) (i : Inference) (ws : List LaterWord)
    (c d : ClauseTree) (us vs : List Answer)
    → inference_of w ≡ Some i
    → IsInferredWith ls i ws (clause c) us → IsInferredWith ls i ws (clause d) vs →
    IsSame c us d vs

-- whether some answer has the variable
abbrev pub stands_in : ℕ → List Answer → Bool
stands_in x us = list_any (λ a. have_variable x a.terms) us

-- a word brings what any match makes of the answers that gives new variables to the others
abbrev pub MatchBrings : Type 0
MatchBrings =
    (general special : Tree) (c : ClauseTree) (us bs : List Answer) (s : Substitution) →
    substitute s general ≡ special
    → ((x : ℕ) → IsTrue (stands_in x bs) → has_variable x general ≡ false
    → s x ≡ var (x + fresh_for c us))
    → Joins general special c us bs (each_once (us ++ substitute_answers s bs))

-- and they are new: the variables of the clause and its answers have lower numbers
abbrev pub NewAreAbove : Type 0
NewAreAbove =
    (c : ClauseTree) (us : List Answer) (x : ℕ) → IsTrue (occurs_in_clause x (whole c us)) →
    x < fresh_for c us

-- clauses with answers are renamed apart where one substitution makes of both what any family, one
-- for each clause with its answers, makes of them
abbrev pub AreApartWith : List ClauseTree → List (List Answer) → Own → Type 0
AreApartWith cs answers apart =
    (other : Own) → (s : Substitution)
    × (instances other cs ≡ map (substitute_clause s) (instances apart cs))
    × (together other answers ≡ substitute_answers s (together apart answers))

-- clauses with the terms of their answers as literals behind, for as many as have both
abbrev pub wholes : List ClauseTree → List (List Answer) → List ClauseTree
wholes (c ∷ cs) (us ∷ answers) = whole c us ∷ wholes cs answers
wholes cs answers = []

abbrev pub AreAsMany : List ClauseTree → List (List Answer) → Type 0
AreAsMany [] [] = Unit {0}
AreAsMany (c ∷ cs) (us ∷ answers) = AreAsMany cs answers
AreAsMany cs answers = ⊥

-- they are renamed apart where the whole clauses are
abbrev pub WholesApart : Type 0
WholesApart =
    (cs : List ClauseTree) (answers : List (List Answer)) (apart : Own) → AreAsMany cs answers
    → AreRenamedApart (wholes cs answers) apart → AreApartWith cs answers apart

-- so clauses with answers are whose variables are interleaved
abbrev pub InterleavedAreApart : Type 0
InterleavedAreApart =
    (cs : List ClauseTree) (answers : List (List Answer)) → AreAsMany cs answers
    → AreApartWith cs answers (interleaved (length cs))

-- a most general unifier behind their new names is a most general family for both
abbrev pub UnifierIsFamilyWith : Type 0
UnifierIsFamilyWith =
    (w : FirstWord) (i : Inference) (cs : List ClauseTree) (answers : List (List Answer))
    (apart : Own) (s : Substitution)
    → inference_of w ≡ Some i → AreApartWith cs answers apart → IsTrue (i.rule.fits cs)
    → IsMostGeneral s (lefts (i.rule.pairs (instances apart cs)))
    (rights (i.rule.pairs (instances apart cs)))
    → IsMostGeneralWith i.rule cs answers (λ k. followed (apart k) s)

-- so what it makes of them, numbered, is the rule's conclusion
abbrev pub UnifierConcludesWith : Type 0
UnifierConcludesWith =
    (w : FirstWord) (i : Inference) (cs : List ClauseTree) (answers : List (List Answer))
    (apart : Own) (s : Substitution)
    → inference_of w ≡ Some i → AreApartWith cs answers apart → IsTrue (i.rule.fits cs)
    → IsMostGeneral s (lefts (i.rule.pairs (instances apart cs)))
    (rights (i.rule.pairs (instances apart cs)))
    → ConcludesWith i.rule cs answers
    (numbered_clause (substitute_clause s (i.rule.rest (instances apart cs)))
    (substitute_answers s (together apart answers)))
    (each_once (numbered_answers (substitute_clause s (i.rule.rest (instances apart cs)))
    (substitute_answers s (together apart answers))))

-- the answers of each clause under its own substitution
abbrev pub instances_of_answers : Own → List (List Answer) → List (List Answer)
instances_of_answers own [] = []
instances_of_answers own (us ∷ answers) =
    substitute_answers (own 0) us ∷ instances_of_answers (λ k. own (suc k)) answers

-- a rule concludes the same of the instances that a most general family makes, under whatever
-- names: `to` leads to these from the parents, and `back` from these to the family's
abbrev pub InstancesConclude : Type 0
InstancesConclude =
    (r : InferenceRule) (cs : List ClauseTree) (answers : List (List Answer)) (own to back : Own)
    → IsMostGeneralWith r cs answers own
    → instances back (instances to cs) ≡ instances own cs
    → together back (instances_of_answers to answers) ≡ together own answers
    → ConcludesWith r (instances to cs) (instances_of_answers to answers)
    (numbered_clause (r.rest (instances own cs)) (together own answers))
    (each_once (numbered_answers (r.rest (instances own cs)) (together own answers)))

-- answers change nothing of what is derived: lines with them are lines without
abbrev pub LinesArePlain : Type 0
LinesArePlain =
    (ss : List Asked) (rows : List AnsweredRow) (ls : List AnsweredLine) →
    AreLinesWith ss rows [] None ls
    → IsDerivation (all_said_in ss) (plain_rows rows) (plain_lines ls)

abbrev pub RefutationsArePlain : Type 0
RefutationsArePlain =
    (ss : List Asked) (rows : List AnsweredRow) (ls : List AnsweredLine) →
    IsRefutationWith ss rows ls
    → IsRefutation (all_said_in ss) (plain_rows rows) (plain_lines ls)

-- the lines of these numbers have no answers
abbrev pub AnswerNothing : List AnsweredLine → List ℕ → Type 0
AnswerNothing ls ns = AllByRecursion (λ n. answers_of_line ls n ≡ []) ns

-- where a line's parents have none, it has none of its own, if it is inferred, or an instance
abbrev pub NothingInferred : Type 0
NothingInferred =
    (ls : List AnsweredLine) (w : FirstWord) (i : Inference) (ws : List LaterWord) (c : ClauseTree)
    (us : List Answer)
    → inference_of w ≡ Some i → AnswerNothing ls (all_parents i ws)
    → IsInferred (plain_lines ls) i ws (clause c) → IsInferredWith ls i ws (clause c) us ↔ us ≡ []

abbrev pub NothingPutIn : Type 0
NothingPutIn =
    (ls : List AnsweredLine) (n : ℕ) (es : List Binding) (ws : List LaterWord) (c : ClauseTree)
    (us : List Answer)
    → AnswerNothing ls (n ∷ flat_map later_parents ws)
    → IsInstance (plain_lines ls) n es ws (clause c)
    → IsInstanceWith ls n es ws (clause c) us ↔ us ≡ []

-- no line asks for something or has answers
abbrev pub HaveNone : List AnsweredLine → Type 0
HaveNone [] = Unit {0}
HaveNone (l ∷ ls) = (l.asks ≡ None) × (l.answers ≡ []) × HaveNone ls

-- such lines are lines with answers where they are without, whatever the problem's goals ask for
abbrev pub PlainLinesStay : Type 0
PlainLinesStay =
    (ss : List Asked) (rows : List AnsweredRow) (ls : List AnsweredLine) → HaveNone ls
    → IsDerivation (all_said_in ss) (plain_rows rows) (plain_lines ls)
    → AreLinesWith ss rows [] None ls

abbrev pub PlainRefutationsStay : Type 0
PlainRefutationsStay =
    (ss : List Asked) (rows : List AnsweredRow) (ls : List AnsweredLine) → HaveNone ls
    → IsRefutation (all_said_in ss) (plain_rows rows) (plain_lines ls)
    → IsRefutationWith ss rows ls

-- a line that is refused behind earlier ones is none, and is refused by one row
abbrev pub RefusedIsNoneWith : Type 0
RefusedIsNoneWith =
    (ss : List Asked) (rows : List AnsweredRow) (ls : List AnsweredLine) (last : Option ℕ)
    (l : AnsweredLine) (row : Row)
    → IsRefusedWith ss rows ls last l row → ¬ IsAcceptedWith ss rows ls last l

abbrev pub RefusedByOneRowWith : Type 0
RefusedByOneRowWith =
    (ss : List Asked) (rows : List AnsweredRow) (ls : List AnsweredLine) (last : Option ℕ)
    (l : AnsweredLine) (row other : Row)
    → IsRefusedWith ss rows ls last l row → IsRefusedWith ss rows ls last l other → row ≡ other

-- lines that have a fault are no refutation, and the fault is one
abbrev pub FaultIsNoneWith : Type 0
FaultIsNoneWith =
    (ss : List Asked) (rows : List AnsweredRow) (ls : List AnsweredLine) (number : ℕ) (row : Row)
    → IsFaultWith ss rows ls number row → ¬ IsRefutationWith ss rows ls

abbrev pub FaultIsOneWith : Type 0
FaultIsOneWith =
    (ss : List Asked) (rows : List AnsweredRow) (ls : List AnsweredLine)
    (number : ℕ) (row : Row) (other_number : ℕ) (other_row : Row)
    → IsFaultWith ss rows ls number row → IsFaultWith ss rows ls other_number other_row →
    (number ≡ other_number) × (row ≡ other_row)

-- where no line asks for something or has answers, the fault of the plain lines is theirs
abbrev pub PlainFaultsStay : Type 0
PlainFaultsStay =
    (ss : List Asked) (rows : List AnsweredRow) (ls : List AnsweredLine) (number : ℕ) (row : Row)
    → HaveNone ls → IsFault (all_said_in ss) (plain_rows rows) (plain_lines ls) number row
    → IsFaultWith ss rows ls number row
