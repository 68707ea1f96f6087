-- What a run tells of its output.
use Rattle.std.specs.Prelude.{◌≡◌, ℕ, List, [], ◌∷◌, ◌++◌, ◌⊎◌}
use Rattle.std.specs.declared.result.Result.{Result}
use Rattle.std.specs.declared.result.Result.TheVariants.{Ok, Err}
use Rattle.ladr_io.specs.Streams.{Outflow, Takes, TakesFront}
use Rattle.ladr_output.specs.declared.cut.Cut.{Cut}
use Rattle.ladr_output.specs.declared.cut.Cut.TheVariants.{WriteFault, Memory}

-- a line of text with its end
abbrev pub as_line : List ℕ → List ℕ
as_line text = text ++ 10 ∷ []

-- a piece was printed whole; or a write of it failed; or memory was lacking, and none of it was
-- printed
abbrev pub IsPiece : {T : Type 0} → List ℕ → Outflow → Outflow → Result T Cut → Type 0
IsPiece text old new (Ok _) = Takes old new text
IsPiece text old new (Err WriteFault) = TakesFront old new text
IsPiece text old new (Err Memory) = Takes old new []

-- A piece tells what becomes of a run: one thing where it was printed, and another by what cut it
-- off.
abbrev pub result_of_piece : {S : Type 0} → S → (Cut → S) → Result (Unit {0}) Cut → S
result_of_piece printed cut_off (Ok _) = printed
result_of_piece printed cut_off (Err cut) = cut_off cut

abbrev pub PieceTells : {S : Type 0} → S → (Cut → S) → List ℕ → Outflow → Outflow → S → Type 0
PieceTells printed cut_off text old new s =
    (r : Result (Unit {0}) Cut) × IsPiece text old new r × (s ≡ result_of_piece printed cut_off r)

-- What a failed write leaves: the sink took a text that may stand while the run goes on, and then a
-- front of one text more, with which the first may stand too or is a whole output.
pub record IsCutOff {E : Type 0} (goes : List ℕ → Type 0) (ends : E → List ℕ → Type 0)
    (old new : Outflow) : Type 0 where
  pub before : List ℕ
  pub piece : List ℕ
  pub middle : Outflow
  pub stood : goes before
  pub meant : goes (before ++ piece) ⊎ ((e : E) × ends e (before ++ piece))
  pub took : Takes old middle before
  pub front : TakesFront middle new piece

-- The output of a run, by the texts that may stand while it goes on and those that it ends with:
-- the sink took all of it; a write failed in a piece of it; or memory was lacking for the next
-- piece.
abbrev pub Tells : {E : Type 0} → (List ℕ → Type 0) → (E → List ℕ → Type 0) → Outflow → Outflow →
    Result E Cut → Type 0
Tells goes ends old new (Ok e) = (text : List ℕ) × ends e text × Takes old new text
Tells goes ends old new (Err WriteFault) = IsCutOff goes ends old new
Tells goes ends old new (Err Memory) = (text : List ℕ) × goes text × Takes old new text

-- this end, with this text
abbrev pub IsEnd : {E : Type 0} → E → List ℕ → E → List ℕ → Type 0
IsEnd end text e t = (e ≡ end) × (t ≡ text)
