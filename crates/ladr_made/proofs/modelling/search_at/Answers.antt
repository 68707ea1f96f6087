-- What the search in memory has come to, or why its text is refused.
use Rattle.std.proofs.Common.{List, ℕ, Ok, Err, subst}
use Rattle.ladr_formulas.specs.declared.styles.Mode.TheVariants.{Mace}
use Rattle.ladr_intake.specs.Posed.{poses}
use Rattle.ladr_intake.specs.Refusals.{refuses}
use Rattle.ladr_intake.specs.declared.stops.Stop.{Stop}
use Rattle.ladr_io.specs.Memory.{inflow_of, outflow_of}
use Rattle.ladr_made.proofs.Memory.{refused_whole}
use Rattle.ladr_made.proofs.Sizes.{seeks}
use Rattle.ladr_made.proofs.modelling.search_at.Goals as goal
use Rattle.ladr_made.specs.Modelling.{Seeks}
use Rattle.ladr_mace4.specs.Finding.{Searches}
use Rattle.ladr_words.specs.declared.task.ModelOptions.{ModelOptions}

pub returns-in-Ok : goal.returns-in-Ok
returns-in-Ok c =
    let s = c.new-source.result in
    let t = c.mace4.new.source in
    let end = c.in-Ok.end in
    let run = subst (λ (o : ModelOptions). Searches (poses Mace) (refuses Mace) o (inflow_of s) (inflow_of t) (outflow_of c.new-sink.result) (outflow_of c.mace4.new.sink) c.mace4.new.clock.times (Ok end)) c.one_of_size-options.ensures c.in-Ok.ensures in
    subst (λ (b : List ℕ). Seeks b c.args.n end) c.new-source.ensures.left (seeks s t c.new-sink.result c.mace4.new.sink c.mace4.new.clock.times c.args.n end run)

pub returns-in-Err-Refused : goal.returns-in-Err-Refused
returns-in-Err-Refused c =
    let why = c.in-Err-Refused._why in
    let run = subst (λ (x : Stop). Searches (poses Mace) (refuses Mace) c.one_of_size-options.result (inflow_of c.new-source.result) (inflow_of c.mace4.new.source) (outflow_of c.new-sink.result) (outflow_of c.mace4.new.sink) c.mace4.new.clock.times (Err x)) c.in-Err-Refused.field-0-is c.in-Err-Refused.ensures in
    (why, subst (λ (b : List ℕ). refuses Mace b why) c.new-source.ensures.left (refused_whole Mace c.new-source.result c.mace4.new.source run.bytes why run.tells.1.0))
