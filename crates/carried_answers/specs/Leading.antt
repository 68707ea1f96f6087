-- Laws for who goes along the words of a line with a clause and its answers, under whatever numbers of variables.
use Rattle.std.specs.Prelude.{ℕ, ◌≡◌, ◌<◌, ◌↔◌, false, true, List, ◌∷◌, ◌++◌, length, Option, Some, None}
use Rattle.answered_lines.specs.Lines.{AnsweredLine, plain_lines, answers_at, AfterWith, IsInferredWith}
use Rattle.answers.specs.AnswerTrees.{Answer, IsSame}
use Rattle.carried_answers.specs.Carried.{Carried, FirstAs, LedBy}
use Rattle.derivation.specs.Later.{LaterWord, flipped, merged, reflexive, unit_deleted, rewritten, later_parents, later_fits, Leads}
use Rattle.derivation.specs.Lines.{FirstWord, Inference, inference_of, ContentTree, AreClauses}
use Rattle.fol_core.specs.Literals.{ClauseTree}

-- what words lead to doesn't depend on the numbers
abbrev pub AfterAlike : Type 0
AfterAlike =
    (ls : List AnsweredLine) (ws : List LaterWord) (d e : ClauseTree) (bs cs : List Answer)
    (content : ContentTree) (us : List Answer)
    → IsSame d bs e cs → AfterWith ls ws d bs content us → AfterWith ls ws e cs content us

-- a line is inferred where its words lead to it from what its rule makes
abbrev pub FirstLeads : Type 0
FirstLeads =
    (ls : List AnsweredLine) (w : FirstWord) (i : Inference) (ws : List LaterWord)
    (content : ContentTree) (us : List Answer) (ps : List ClauseTree) (a : Carried)
    → inference_of w ≡ Some i → AreClauses (plain_lines ls) i.parents ps
    → FirstAs i.rule ps (answers_at ls i.parents) (Some a)
    → IsInferredWith ls i ws content us ↔ AfterWith ls ws a.clause a.answers content us

abbrev pub FirstStops : Type 0
FirstStops =
    (ls : List AnsweredLine) (i : Inference) (ws : List LaterWord) (content : ContentTree)
    (us : List Answer) (ps : List ClauseTree)
    → AreClauses (plain_lines ls) i.parents ps
    → FirstAs i.rule ps (answers_at ls i.parents) None → ¬ IsInferredWith ls i ws content us

-- and words lead to it where those behind the first do from what that makes
abbrev pub WordLeads : Type 0
WordLeads =
    (ls : List AnsweredLine) (w : LaterWord) (ws : List LaterWord) (content : ContentTree)
    (us : List Answer) (ps : List ClauseTree) (a b : Carried)
    → AreClauses (plain_lines ls) (later_parents w) ps
    → LedBy w a ps (answers_at ls (later_parents w)) b true
    → AfterWith ls (w ∷ ws) a.clause a.answers content us
    ↔ AfterWith ls ws b.clause b.answers content us

abbrev pub WordStops : Type 0
WordStops =
    (ls : List AnsweredLine) (w : LaterWord) (ws : List LaterWord) (content : ContentTree)
    (us : List Answer) (ps : List ClauseTree) (a b : Carried)
    → AreClauses (plain_lines ls) (later_parents w) ps
    → LedBy w a ps (answers_at ls (later_parents w)) b false
    → ¬ AfterWith ls (w ∷ ws) a.clause a.answers content us

-- the place of a word's literal
abbrev pub place_of : LaterWord → ℕ
place_of (flipped a) = a
place_of (merged a) = a
place_of (reflexive a) = a
place_of (unit_deleted a n) = a
place_of (rewritten n a path) = a

-- with more literals behind a clause a word at a place of the clause fits where it did, and leads to
-- what it led to, with the same behind
abbrev pub FitsBefore : Type 0
FitsBefore =
    (w : LaterWord) (c r : ClauseTree) (ps : List ClauseTree) → place_of w < length c
    → later_fits w (c ++ r) ps ≡ later_fits w c ps

abbrev pub LeadsBefore : Type 0
LeadsBefore =
    (w : LaterWord) (c r : ClauseTree) (ps : List ClauseTree) (d : ClauseTree) →
    place_of w < length c
    → Leads w (c ++ r) ps d ↔ ((e : ClauseTree) × Leads w c ps e × (d ≡ e ++ r))
