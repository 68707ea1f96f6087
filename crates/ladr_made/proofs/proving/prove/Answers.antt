-- What the search in memory has told, or why its text is refused.
use Rattle.std.proofs.Common.{◌<◌, inl, List, ℕ, None, Err, sym, subst}
use Rattle.std.specs.Prelude.{IfOk}
use Rattle.accepted_output.specs.Accepted.{AreAllAccepted}
use Rattle.ladr_formulas.specs.declared.styles.Mode.TheVariants.{Prover}
use Rattle.ladr_intake.specs.Refusals.{refuses}
use Rattle.ladr_intake.specs.declared.stops.Stop.{Stop}
use Rattle.ladr_io.specs.Memory.{inflow_of, outflow_of}
use Rattle.ladr_made.proofs.Accepting.{accepted, finds, proved_so}
use Rattle.ladr_made.proofs.Memory.{refused_whole}
use Rattle.ladr_made.proofs.proving.prove.Goals as goal
use Rattle.ladr_made.specs.Proving.{Finds, IsToldOf}
use Rattle.ladr_prover9.specs.Counting.{RefutesCounted}

pub checked-requires : goal.checked-requires
checked-requires c = λ some.
    let all = accepted c.new-source.result c.prove_counted.new.source c.new-sink.result c.prove_counted.new.sink _ c.in-Ok.over c.new-sink.ensures.held c.in-Ok.ensures.0 c.outputs_are_accepted.ensures.accepted c.in-Ok.ensures.1 some in
    (c.new-source.result.left, (all.0, subst (λ (t : List ℕ). AreAllAccepted c.new-source.result.left t all.0) (sym c.bytes.ensures) all.1))

pub returns-in-Ok : goal.returns-in-Ok
returns-in-Ok c =
    let s = c.new-source.result in
    let t = c.prove_counted.new.source in
    let k = c.new-sink.result in
    let l = c.prove_counted.new.sink in
    let over = c.in-Ok.over in
    let left = c.new-source.ensures.left in
    let run = c.in-Ok.ensures.0 in
    proved_so c.args.bytes.items l.held over c.one_end.ensures (subst (λ (b : List ℕ). Finds b over l.held) left (finds s t k l _ over c.new-sink.ensures.held run))
    (λ (some : 0 < over.proofs). subst (λ (b : List ℕ). (n : ℕ) × AreAllAccepted b l.held n) left (accepted s t k l _ over c.new-sink.ensures.held run c.outputs_are_accepted.ensures.accepted c.in-Ok.ensures.1 some)) c.checked.result
    (subst (λ (t : List ℕ). IfOk c.checked.result (IsToldOf over t)) c.bytes.ensures c.checked.ensures)

pub returns-in-Err-Refused : goal.returns-in-Err-Refused
returns-in-Err-Refused c =
    let why = c.in-Err-Refused._why in
    let run = subst (λ (x : Stop). RefutesCounted None (inflow_of c.new-source.result) (inflow_of c.prove_counted.new.source) (outflow_of c.new-sink.result) (outflow_of c.prove_counted.new.sink) c.prove_counted.new.clock.times (Err x)) c.in-Err-Refused.field-0-is c.in-Err-Refused.ensures.0 in
    inl (why, subst (λ (b : List ℕ). refuses Prover b why) c.new-source.ensures.left (refused_whole Prover c.new-source.result c.prove_counted.new.source run.bytes why run.tells.1.0), c.unproved.ensures)
