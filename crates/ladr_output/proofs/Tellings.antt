-- Outputs, one part behind the other.
use Rattle.std.proofs.Common.{◌≡◌, ℕ, List, [], ◌++◌, Result, Ok, Err, inl, inr, refl, subst, sym, append_assoc}
use Rattle.std.specs.Prelude.{◌⊎◌}
use Rattle.ladr_io.proofs.StreamLaws.{Takes-none, Takes-append, TakesFront-append}
use Rattle.ladr_io.specs.Streams.{Outflow, Takes, TakesFront}
use Rattle.ladr_output.specs.Telling.{IsPiece, IsCutOff, Tells, IsEnd}
use Rattle.ladr_output.specs.declared.cut.Cut.{Cut}
use Rattle.ladr_output.specs.declared.cut.Cut.TheVariants.{WriteFault, Memory}

-- behind a text that the sink took
pub told_behind : {E : Type 0} (goes : List ℕ → Type 0) (ends : E → List ℕ → Type 0) (a b c : Outflow) (front : List ℕ) (r : Result E Cut) → Takes a b front → Tells (λ t. goes (front ++ t)) (λ e t. ends e (front ++ t)) b c r → Tells goes ends a c r
told_behind goes ends a b c front (Ok e) took h = (front ++ h.0, h.1, Takes-append a b c front h.0 took h.2)
told_behind {E} goes ends a b c front (Err WriteFault) took h = record {
  before = front ++ h.before;
  piece = h.piece;
  middle = h.middle;
  stood = h.stood;
  meant = subst (λ (t : List ℕ). goes t ⊎ ((e : E) × ends e t)) (sym (append_assoc front h.before h.piece)) h.meant;
  took = Takes-append a b h.middle front h.before took h.took;
  front = h.front;
}
told_behind goes ends a b c front (Err Memory) took h = (front ++ h.0, h.1, Takes-append a b c front h.0 took h.2)

-- what was meant to stand at a failed write, and the text that it left a front of
meant_weaker : {E : Type 0} (goes goes' : List ℕ → Type 0) (ends ends' : E → List ℕ → Type 0) → ((t : List ℕ) → goes t → goes' t) → ((e : E) (t : List ℕ) → ends e t → ends' e t) → (t : List ℕ) → goes t ⊎ ((e : E) × ends e t) → goes' t ⊎ ((e : E) × ends' e t)
meant_weaker goes goes' ends ends' g k t (inl x) = inl (g t x)
meant_weaker goes goes' ends ends' g k t (inr x) = inr (x.0, k x.0 t x.1)

pub cut_text : {E : Type 0} (goes : List ℕ → Type 0) (ends : E → List ℕ → Type 0) (a b : Outflow) → IsCutOff goes ends a b → (text : List ℕ) × (goes text ⊎ ((e : E) × ends e text)) × TakesFront a b text
cut_text goes ends a b h = (h.before ++ h.piece, h.meant, TakesFront-append a h.middle b h.before h.piece h.took h.front)

-- the first piece is cut off
pub first_cut : {E : Type 0} (goes : List ℕ → Type 0) (ends : E → List ℕ → Type 0) (text : List ℕ) (a b : Outflow) → goes [] → goes text ⊎ ((e : E) × ends e text) → TakesFront a b text → IsCutOff goes ends a b
first_cut goes ends text a b none meant h = record { before = []; piece = text; middle = a; stood = none; meant = meant; took = Takes-none a; front = h }

pub end_cut : {E : Type 0} (end : E) (text : List ℕ) (a b : Outflow) → TakesFront a b text → IsCutOff (λ u. u ≡ []) (IsEnd end text) a b
end_cut end text a b h = first_cut (λ u. u ≡ []) (IsEnd end text) text a b refl (inr (end, (refl, refl))) h

-- under a weaker claim
pub told_weaker : {E : Type 0} (goes goes' : List ℕ → Type 0) (ends ends' : E → List ℕ → Type 0) (a b : Outflow) (r : Result E Cut) → ((t : List ℕ) → goes t → goes' t) → ((e : E) (t : List ℕ) → ends e t → ends' e t) → Tells goes ends a b r → Tells goes' ends' a b r
told_weaker goes goes' ends ends' a b (Ok e) g k h = (h.0, k e h.0 h.1, h.2)
told_weaker goes goes' ends ends' a b (Err WriteFault) g k h = record {
  before = h.before;
  piece = h.piece;
  middle = h.middle;
  stood = g h.before h.stood;
  meant = meant_weaker goes goes' ends ends' g k (h.before ++ h.piece) h.meant;
  took = h.took;
  front = h.front;
}
told_weaker goes goes' ends ends' a b (Err Memory) g k h = (h.0, g h.0 h.1, h.2)

-- the last text alone, where nothing may stand yet
pub ended_by : {E : Type 0} (goes : List ℕ → Type 0) (ends : E → List ℕ → Type 0) (end : E) (text : List ℕ) (a b : Outflow) (r : Result E Cut) → goes [] → ends end text → Tells (λ u. u ≡ []) (IsEnd end text) a b r → Tells goes ends a b r
ended_by {E} goes ends end text a b r none whole h =
    told_weaker (λ u. u ≡ []) goes (IsEnd end text) ends a b r (λ t e. subst goes (sym e) none) (λ e t is. subst (λ (x : E). ends x t) (sym is.0) (subst (ends end) (sym is.1) whole)) h

-- a piece that cut the output off
pub cut_by : (T : Type 0) {E : Type 0} (goes : List ℕ → Type 0) (ends : E → List ℕ → Type 0) (text : List ℕ) (a b : Outflow) (why : Cut) → goes [] → goes text → IsPiece {T = T} text a b (Err why) → Tells goes ends a b (Err why)
cut_by T goes ends text a b WriteFault none whole h = first_cut goes ends text a b none (inl whole) h
cut_by T goes ends text a b Memory none whole h = ([], none, h)

-- a piece that was cut off, whatever would have been answered
pub cut_again : (T U : Type 0) (text : List ℕ) (a b : Outflow) (why : Cut) → IsPiece {T = T} text a b (Err why) → IsPiece {T = U} text a b (Err why)
cut_again T U text a b WriteFault h = h
cut_again T U text a b Memory h = h
