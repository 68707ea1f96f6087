-- Items of a search that were printed.
use Rattle.std.proofs.Common.{◌≡◌, List, ℕ, [], Result, Ok, Err, IfOk, OnErr, inl, inr, subst, refl}
use Rattle.std.specs.Global.{Vec}
use Rattle.std.specs.declared.alloc.AllocError.{AllocError}
use Rattle.ladr_io.specs.Streams.{Outflow, Takes, TakesFront}
use Rattle.ladr_mace4.specs.ItemTexts.{IsPrinted}
use Rattle.ladr_output.specs.Telling.{IsPiece}
use Rattle.ladr_output.specs.declared.cut.Cut.{Cut}
use Rattle.ladr_output.specs.declared.cut.Cut.TheVariants.{WriteFault, Memory}

-- a line
pub line_printed : (line : List ℕ) (a b : Outflow) → IsPrinted (λ text. text ≡ line) a b (Ok tt) → Takes a b line
line_printed line a b (inl (text, is, took)) = subst (Takes a b) is took
line_printed line a b (inr (e, took)) = absurd cc

pub line_cut : (T : Type 0) (line : List ℕ) (a b : Outflow) (cut : Cut) → IsPrinted (λ text. text ≡ line) a b (Err cut) → IsPiece {T = T} line a b (Err cut)
line_cut T line a b WriteFault (inl (text, is, front)) = subst (TakesFront a b) is front
line_cut T line a b Memory (inl (text, is, nothing)) = nothing
line_cut T line a b WriteFault (inr (e, took)) = absurd cc
line_cut T line a b Memory (inr (e, took)) = took

-- a text that was made, and printed
pub text_printed : (IsText : List ℕ → Type 0) (made : Result (Vec ℕ) AllocError) (a b : Outflow) (r : Result (Unit {0}) Cut) → IfOk made (λ v. IsText v.items) → ((text : List ℕ) → IfOk made (λ v. v.items ≡ text) → IsPiece text a b r) → OnErr made (r ≡ Err Memory) → IsPrinted IsText a b r
text_printed IsText (Ok v) a b r is piece lacking = inl (v.items, is, piece v.items refl)
text_printed IsText (Err e) a b r is piece lacking = inr (lacking, subst (λ (x : Result (Unit {0}) Cut). IsPiece [] a b x) lacking (piece [] tt))
