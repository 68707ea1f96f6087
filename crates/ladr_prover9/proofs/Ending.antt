-- A run whose numbers are told is one whose end is told.
use Rattle.std.proofs.Common.{◌≡◌, ◌⊎◌, ℕ, inl, inr, sym, subst, Ok, Err, Option, List, ◌++◌}
use Rattle.ladr_formulas.specs.declared.styles.Mode.TheVariants.{Prover}
use Rattle.ladr_intake.specs.Command.{End, own, refused, read_fault, end_of, MayStand, EndsBy}
use Rattle.ladr_intake.specs.Refusals.{refuses}
use Rattle.ladr_intake.specs.declared.stops.Stop.{Stop}
use Rattle.ladr_intake.specs.declared.stops.Stop.TheVariants as stops
use Rattle.ladr_io.specs.Streams.{Inflow, Outflow}
use Rattle.ladr_io.specs.Times.{Times}
use Rattle.ladr_output.specs.Telling.{Tells}
use Rattle.ladr_prover9.proofs.Telling.{proves_by}
use Rattle.ladr_prover9.specs.Counting.{ProvesCounted, RefutesCounted}
use Rattle.ladr_prover9.specs.Finding.{Proves, Proving, Refutes}
use Rattle.ladr_prover9.specs.Nothing.{HasNothing}
use Rattle.ladr_prover9.specs.Quests.{Quest, asks, quest_seconds, IsHad}
use Rattle.ladr_prover9.specs.declared.ends.ProverEnd.{ProverEnd}
use Rattle.ladr_prover9.specs.declared.ends.ProverOver.{ProverOver}

-- it comes to its end
pub proves_so : (q : Quest) (seconds : Option ℕ) (times : Times) (over : ProverOver) (text : List ℕ) → ProvesCounted q seconds times over text → Proves q seconds times over.end text
proves_so q seconds times over text (inl h) = subst (λ (o : ProverOver). Proves q seconds times o.end text) (sym h.1) h.2
proves_so q seconds times over text (inr h) = subst (λ (u : List ℕ). Proves q seconds times over.end u) (sym h.text_is) (proves_by q seconds times over.end h.state h.front h.within h.comes)

module _ (word : Option ℕ) (a b : Inflow) (c d : Outflow) (times : Times) where
  abbrev Goes : Quest → List ℕ → Type 0
  Goes q = Proving q (quest_seconds word q) times

  abbrev Ends : Quest → ProverEnd → List ℕ → Type 0
  Ends q = Proves q (quest_seconds word q) times

  abbrev EndsCounted : Quest → ProverOver → List ℕ → Type 0
  EndsCounted q = ProvesCounted q (quest_seconds word q) times

  abbrev Stood : {E : Type 0} → (Quest → E → List ℕ → Type 0) → List ℕ → List ℕ → Type 0
  Stood ends bytes = MayStand asks (refuses Prover) (times.count ≡ 0) Goes ends a b bytes

  abbrev By : {E : Type 0} → (Quest → E → List ℕ → Type 0) → List ℕ → End E → List ℕ → Type 0
  By ends bytes = EndsBy asks (refuses Prover) (times.count ≡ 0) Goes ends a b bytes

  stood_so : (bytes text : List ℕ) → Stood EndsCounted bytes text → Stood Ends bytes text
  stood_so bytes text (inl h) = inl h
  stood_so bytes text (inr h) = inr h

  end_so : (bytes : List ℕ) (e : End ProverOver) (text : List ℕ) → By EndsCounted bytes e text → (f : End ProverEnd) × By Ends bytes f text
  end_so bytes (own over) text (read, (q, asked, proves)) = (own over.end, (read, (q, asked, proves_so q (quest_seconds word q) times over text proves)))
  end_so bytes (refused why) text h = (refused why, h)
  end_so bytes read_fault text h = (read_fault, h)

  meant_so : (bytes text : List ℕ) → Stood EndsCounted bytes text ⊎ ((e : End ProverOver) × By EndsCounted bytes e text) → Stood Ends bytes text ⊎ ((e : End ProverEnd) × By Ends bytes e text)
  meant_so bytes text (inl h) = inl (stood_so bytes text h)
  meant_so bytes text (inr h) = inr (end_so bytes h.0 text h.1)

  abbrev pub ends_alone : (over : ProverOver) → RefutesCounted word a b c d times (Ok over) → Refutes word a b c d times (Ok over.end)
  ends_alone over run = record {
    bytes = run.bytes;
    taken = run.taken;
    tells = (let told = run.tells in (told.0, (told.1.0, (told.1.1.0, told.1.1.1, proves_so told.1.1.0 (quest_seconds word told.1.1.0) times over told.0 told.1.1.2)), told.2));
  }

  pub told_so : (bytes : List ℕ) (stop : Stop) → Tells (Stood EndsCounted bytes) (By EndsCounted bytes) c d (end_of {E = ProverOver} (Err stop)) → Tells (Stood Ends bytes) (By Ends bytes) c d (end_of {E = ProverEnd} (Err stop))
  told_so bytes (stops.Refused why) told = told
  told_so bytes stops.ReadFault told = told
  told_so bytes stops.WriteFault told = record {
    before = told.before;
    piece = told.piece;
    middle = told.middle;
    stood = stood_so bytes told.before told.stood;
    meant = meant_so bytes (told.before ++ told.piece) told.meant;
    took = told.took;
    front = told.front;
  }
  told_so bytes stops.Memory told = (told.0, stood_so bytes told.0 told.1, told.2)

  abbrev pub stops_alone : (stop : Stop) → RefutesCounted word a b c d times (Err stop) → Refutes word a b c d times (Err stop)
  stops_alone stop run = record { bytes = run.bytes; taken = run.taken; tells = told_so run.bytes stop run.tells }

-- what was had of the input, where a run comes to its end
pub had_of : (bytes : List ℕ) → IsHad bytes ⊎ ⊥ → IsHad bytes
had_of bytes (inl had) = had
had_of bytes (inr none) = absurd none

-- or what is known where it doesn't, whatever is told of ends
none_so : (c d : Outflow) (stop : Stop) → HasNothing {E = ProverOver} c d (Err stop) → HasNothing {E = ProverEnd} c d (Err stop)
none_so c d (stops.Refused why) h = h
none_so c d stops.ReadFault h = h
none_so c d stops.WriteFault h = h
none_so c d stops.Memory h = h

pub known_so : (c d : Outflow) (stop : Stop) (bytes : List ℕ) → IsHad bytes ⊎ HasNothing {E = ProverOver} c d (Err stop) → IsHad bytes ⊎ HasNothing {E = ProverEnd} c d (Err stop)
known_so c d stop bytes (inl had) = inl had
known_so c d stop bytes (inr none) = inr (none_so c d stop none)
