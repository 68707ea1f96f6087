-- What is found of a line: nothing against it, or the row.
use Rattle.std.specs.Prelude.{ℕ, ◌≡◌, Bool, false, ◌⊎◌, List, [], drop, map, Option, MatchOption}
use Rattle.std.specs.List.{flat_map}
use Rattle.answered_lines.specs.Lines.{Asked, AnsweredRow, AnsweredLine, IsInferredWith, IsInstanceWith, IsStatedWith, IsInputWith, IsLineWith}
use Rattle.answered_lines.specs.Refused.{StatedFailsWith, InputFailsWith, InferenceFailsWith, InstanceFailsWith, LineFailsWith, IsRefusedWith, IsAcceptedWith}
use Rattle.answers.specs.AnswerTrees.{Answer}
use Rattle.fol_core.specs.Literals.{ClauseTree}
use Rattle.derivation.specs.Later.{LaterWord, later_parents}
use Rattle.derivation.specs.Lines.{FirstWord, ContentTree, LineTree, After, IsInferred, IsInstance}
use Rattle.derivation.specs.Refused.{Fails, are_there, InferenceFails, InstanceFails}
use Rattle.derivation.specs.View.{later_of}
use Rattle.derivation.specs.declared.row.Row.{Row}
use Rattle.derivation.specs.declared.row.Row.TheVariants.{NoParent}
use Rattle.derivation.specs.declared.words.Later.{Later}
use Rattle.inference.specs.Judged.{inference_by}
use Rattle.substitutions.specs.Bindings.{Binding}

-- the words from one on
abbrev pub words_from : List Later → ℕ → List LaterWord
words_from ws i = map later_of (drop i ws)

-- of the words behind a clause; also where a clause that they take isn't there
abbrev pub AfterAs : List LineTree → List LaterWord → ClauseTree → ContentTree → Option Row → Type 0
AfterAs ls ws d content o =
    MatchOption o (After ls ws d content)
    (λ row. Fails ls ws d content row
    ⊎ ((row ≡ NoParent) × (are_there ls (flat_map later_parents ws) ≡ false)))

-- of a rule with its words
abbrev pub InferredAs : List LineTree → FirstWord → List LaterWord → ContentTree → Option Row →
    Type 0
InferredAs ls w ws content o =
    MatchOption o (IsInferred ls (inference_by w) ws content)
    (λ row. InferenceFails ls (inference_by w) ws content row)

-- and of an instance with its words
abbrev pub InstanceAs : List LineTree → ℕ → List Binding → List LaterWord → ContentTree → Option Row →
    Type 0
InstanceAs ls n es ws content o =
    MatchOption o (IsInstance ls n es ws content) (λ row. InstanceFails ls n es ws content row)

-- so with the answers of its clause
abbrev pub InferredWithAs : List AnsweredLine → FirstWord → List LaterWord → ContentTree →
    List Answer → Option Row → Type 0
InferredWithAs ls w ws content us o =
    MatchOption o (IsInferredWith ls (inference_by w) ws content us)
    (λ row. InferenceFailsWith ls (inference_by w) ws content us row)

abbrev pub InstanceWithAs : List AnsweredLine → ℕ → List Binding → List LaterWord → ContentTree →
    List Answer → Option Row → Type 0
InstanceWithAs ls n es ws content us o =
    MatchOption o (IsInstanceWith ls n es ws content us)
    (λ row. InstanceFailsWith ls n es ws content us row)

-- of a formula, with what its line asks for
abbrev pub StatedAs : Bool → List Asked → List LaterWord → ContentTree → Option (List ℕ) →
    Option Row → Type 0
StatedAs goal ss ws content asks o =
    MatchOption o (IsStatedWith goal content asks ss × (ws ≡ []))
    (λ row. StatedFailsWith goal ss ws content asks row)

-- of a clause of one, with its answers
abbrev pub InputAs : List Asked → List AnsweredRow → List AnsweredLine → Bool → ℕ → List LaterWord →
    ContentTree → List Answer → Option Row → Type 0
InputAs ss rows ls goal n ws content us o =
    MatchOption o (IsInputWith ss rows ls goal n content us × (ws ≡ []))
    (λ row. InputFailsWith ss rows ls goal n ws content us row)

-- of the words of a line
abbrev pub LineAs : List Asked → List AnsweredRow → List AnsweredLine → FirstWord → List LaterWord →
    ContentTree → Option (List ℕ) → List Answer → Option Row → Type 0
LineAs ss rows ls w ws content asks us o =
    MatchOption o (IsLineWith ss rows ls w ws content asks us)
    (λ row. LineFailsWith ss rows ls w ws content asks us row)

-- and of a line
abbrev pub FoundWith : List Asked → List AnsweredRow → List AnsweredLine → Option ℕ → AnsweredLine →
    Option Row → Type 0
FoundWith ss rows ls last l o =
    MatchOption o (IsAcceptedWith ss rows ls last l) (λ row. IsRefusedWith ss rows ls last l row)
