-- What the bytes ask for is searched, or there is no input.
use Rattle.std.proofs.Common.{◌≡◌, ◌∙◌, ℕ, List, Ok, Err, refl, subst}
use Rattle.ladr_formulas.specs.declared.styles.Mode.TheVariants.{Prover}
use Rattle.ladr_intake.proofs.Commands.{in_every_language}
use Rattle.ladr_intake.proofs.Readings.{problem_refused}
use Rattle.ladr_intake.specs.Refusals.{refuses}
use Rattle.ladr_problem.specs.File.{Says, problem}
use Rattle.ladr_problem.specs.Sofar.{Sofar}
use Rattle.ladr_problem.specs.Whole.{IsOf}
use Rattle.ladr_prover9.proofs.Nothing.{nothing_run, had_run}
use Rattle.ladr_prover9.proofs.Reading.{read_asks, read_had}
use Rattle.ladr_prover9.proofs.Telling.{told_read}
use Rattle.ladr_prover9.proofs.commanding.prove_counted.Goals as goal
use Rattle.ladr_prover9.specs.Counting.{ProvesCounted}
use Rattle.ladr_prover9.specs.Finding.{Proving}
use Rattle.ladr_prover9.specs.Quests.{quest_in, quest_seconds}
use Rattle.ladr_prover9.specs.declared.ends.ProverOver.{ProverOver}

pub returns-in_err-bytes : goal.returns-in_err-bytes
returns-in_err-bytes g c =
    let t = g.C.Clock.times c.args.clock.now in
    nothing_run ProverOver _ _ (t.count ≡ 0) (λ q. Proving q (quest_seconds c.args.max_seconds q) t) (λ q. ProvesCounted q (quest_seconds c.args.max_seconds q) t) _ _ c.in_err-bytes.field-0.0 c.from_residual.result c.requires.unread (in_every_language (refuses Prover) _ _ _ _ _ c.in_err-bytes.ensures.none) c.from_residual.ensures.1

pub returns-in_err-read : goal.returns-in_err-read
returns-in_err-read g c =
    let t = g.C.Clock.times c.args.clock.now in
    nothing_run ProverOver _ _ (t.count ≡ 0) (λ q. Proving q (quest_seconds c.args.max_seconds q) t) (λ q. ProvesCounted q (quest_seconds c.args.max_seconds q) t) _ _ c.in_err-read.field-0.0 c.from_residual-in_err-read.result c.requires.unread
    (problem_refused Prover _ _ c.in_ok-bytes.bytes.items c.as_slice-input.result.now _ _ _ c.read_problem.result _ c.in_ok-bytes.ensures.read c.as_slice-input.ensures.value c.read_problem.ensures.refused c.in_ok-bytes.ensures.kept c.in_err-read.ensures.refused) c.from_residual-in_err-read.ensures.1

pub prove-requires-clause-well_formed : goal.prove-requires-clause-well_formed
prove-requires-clause-well_formed g c =
    let well_formed = c.read_problem.ensures.well_formed in
    rw c.in_ok-read.ensures.read at well_formed

pub prove-requires-clause-sound : goal.prove-requires-clause-sound
prove-requires-clause-sound g c =
    let input = c.as_slice-input.result.now in
    let read = c.in_ok-read.read in
    let has = c.read_problem.ensures.read in
    let is = rw c.in_ok-read.ensures.read at has in
    c.quests_are_sound.ensures input (quest_in input read) (read_asks input is.0 read is.1 is.2)

pub returns-in_err-prove : goal.returns-in_err-prove
returns-in_err-prove g c =
    let t = g.C.Clock.times c.prove.new.clock in
    let bytes = c.in_ok-bytes.bytes.items in
    let input = c.as_slice-input.result.now in
    let same = c.as_slice-input.ensures.value in
    let read = c.in_ok-read.read in
    let has = c.read_problem.ensures.read in
    let is = rw c.in_ok-read.ensures.read at has in
    let said = subst (λ (bs : List ℕ). (s : Sofar) × Says Prover bs (problem s) × IsOf s read) same is in
    had_run ProverOver _ _ (t.count ≡ 0) (λ q. Proving q (quest_seconds c.args.max_seconds q) t) (λ q. ProvesCounted q (quest_seconds c.args.max_seconds q) t) _ _ bytes (quest_in bytes read) _ (Err c.in_err-prove.field-0.0) c.from_residual-in_err-prove.result (c.in_ok-read.ensures.kept ∙ c.in_ok-bytes.ensures.kept) c.in_ok-bytes.ensures.read (read_asks bytes said.0 read said.1 said.2) c.from_residual-in_err-prove.ensures.1
    (told_read input bytes same read c.args.max_seconds t _ _ (Err c.in_err-prove.field-0.0) c.in_err-prove.ensures) (read_had bytes read c.few_wanted.ensures said)

pub returns : goal.returns
returns g c =
    let t = g.C.Clock.times c.prove.new.clock in
    let bytes = c.in_ok-bytes.bytes.items in
    let input = c.as_slice-input.result.now in
    let same = c.as_slice-input.ensures.value in
    let read = c.in_ok-read.read in
    let has = c.read_problem.ensures.read in
    let is = rw c.in_ok-read.ensures.read at has in
    let said = subst (λ (bs : List ℕ). (s : Sofar) × Says Prover bs (problem s) × IsOf s read) same is in
    had_run ProverOver _ _ (t.count ≡ 0) (λ q. Proving q (quest_seconds c.args.max_seconds q) t) (λ q. ProvesCounted q (quest_seconds c.args.max_seconds q) t) _ _ bytes (quest_in bytes read) _ (Ok c.in_ok-prove.field-0) _ (c.in_ok-read.ensures.kept ∙ c.in_ok-bytes.ensures.kept) c.in_ok-bytes.ensures.read (read_asks bytes said.0 read said.1 said.2) refl
    (told_read input bytes same read c.args.max_seconds t _ _ (Ok c.in_ok-prove.field-0) c.in_ok-prove.ensures) (read_had bytes read c.few_wanted.ensures said)
