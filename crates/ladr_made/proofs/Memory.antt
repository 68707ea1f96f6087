-- Runs over streams in memory.
use Rattle.std.proofs.Common.{◌≡◌, ℕ, ◌<◌, inl, inr, List, [], ◌++◌, length, sym, ap, ◌∙◌, subst, arith, length-append}
use Rattle.std.proofs.lemmas.List.{append-nil}
use Rattle.ladr_formulas.specs.declared.styles.Mode.{Mode}
use Rattle.ladr_intake.specs.Input.{IsAllRead}
use Rattle.ladr_intake.specs.Refusals.{IsRefused, refuses}
use Rattle.ladr_intake.specs.declared.stops.Refused.{Refused}
use Rattle.ladr_io.specs.Memory.{SourceState, SinkState, inflow_of, outflow_of}
use Rattle.ladr_io.specs.Streams.{Takes}
use Rattle.ladr_lex.specs.declared.limits.TheConstants.{MOST_BYTES}
use Rattle.ladr_problem.specs.File.{too_long}

-- a source that is read whole gave what it had
pub read_whole : (s t : SourceState) (bytes : List ℕ) → IsAllRead (inflow_of s) (inflow_of t) bytes → bytes ≡ s.left
read_whole s t bytes h = sym (h.0.gives.gave ∙ ap (λ (l : List ℕ). bytes ++ l) h.0.drained ∙ append-nil bytes)

-- what is refused of it is refused
pub refused_whole : (m : Mode) (s t : SourceState) (bytes : List ℕ) (why : Refused) → IsRefused (refuses m) (inflow_of s) (inflow_of t) bytes why → refuses m s.left why
refused_whole m s t bytes why (inl h) = subst (λ (b : List ℕ). refuses m b why) (read_whole s t bytes h.0) h.1
refused_whole m s t bytes why (inr h) =
    let split : length s.left ≡ length (bytes ++ t.left) = ap length h.0.0.gave in
    let many : MOST_BYTES < length s.left = omega (arith, split, length-append bytes t.left, h.0.1) in
    subst (λ (w : Refused). refuses m s.left w) (sym h.1) (too_long many)

-- a sink that held nothing holds what it took
pub held_whole : (k l : SinkState) (text : List ℕ) → k.held ≡ [] → Takes (outflow_of k) (outflow_of l) text → text ≡ l.held
held_whole k l text empty h = sym (h.took ∙ ap (λ (u : List ℕ). u ++ text) empty)
