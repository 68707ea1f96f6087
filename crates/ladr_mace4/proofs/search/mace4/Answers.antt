use Rattle.std.proofs.Common.{◌≡◌, ◌∙◌, ℕ, List, Ok, Err, refl, subst}
use Rattle.ladr_cells.specs.Fitting.{FitsTable}
use Rattle.ladr_formulas.specs.declared.styles.Mode.TheVariants.{Mace}
use Rattle.ladr_intake.proofs.Commands.{in_every_language, none_runs, own_runs}
use Rattle.ladr_intake.proofs.Readings.{poses_read, problem_refused, same_stated}
use Rattle.ladr_intake.specs.Posed.{poses, posed_by}
use Rattle.ladr_intake.specs.Refusals.{refuses}
use Rattle.ladr_mace4.specs.Finding.{Sought, Seeks}
use Rattle.ladr_mace4.specs.Plans.{plan_of}
use Rattle.ladr_mace4.proofs.search.mace4.Goals as goal

pub returns-in_err-bytes : goal.returns-in_err-bytes
returns-in_err-bytes g c =
    let t = g.C.Clock.times c.args.clock.now in
    none_runs (poses Mace) (refuses Mace) (t.count ≡ 0) (λ x. Seeks x.stated (plan_of c.args.words x.options) t) (λ x. Sought x.stated (plan_of c.args.words x.options) t) _ _ _ _ c.in_err-bytes.field-0.0 c.from_residual.result c.requires.unread (in_every_language (refuses Mace) _ _ _ _ _ c.in_err-bytes.ensures.none) c.from_residual.ensures.1

pub returns-in_err-read : goal.returns-in_err-read
returns-in_err-read g c =
    let t = g.C.Clock.times c.args.clock.now in
    none_runs (poses Mace) (refuses Mace) (t.count ≡ 0) (λ x. Seeks x.stated (plan_of c.args.words x.options) t) (λ x. Sought x.stated (plan_of c.args.words x.options) t) _ _ _ _ c.in_err-read.field-0.0 c.from_residual-in_err-read.result c.requires.unread
    (problem_refused Mace _ _ c.in_ok-bytes.bytes.items c.deref.result.now _ _ _ c.read_problem.result _ c.in_ok-bytes.ensures.read c.deref.ensures.value c.read_problem.ensures.refused c.in_ok-bytes.ensures.kept c.in_err-read.ensures.refused) c.from_residual-in_err-read.ensures.1

pub find-requires-clause-well_formed : goal.find-requires-clause-well_formed
find-requires-clause-well_formed g c =
    let well_formed = c.read_problem.ensures.well_formed in
    rw c.in_ok-read.ensures.read at well_formed

pub find-requires-clause-ranged : goal.find-requires-clause-ranged
find-requires-clause-ranged g c =
    let ranged = c.read_problem.ensures.ranged in
    rw c.in_ok-read.ensures.read at ranged

pub find-requires-clause-fits : goal.find-requires-clause-fits
find-requires-clause-fits g c =
    let read = c.read_problem.ensures.read in
    let said = rw c.in_ok-read.ensures.read at read in
    subst FitsTable (same_stated said.0 c.in_ok-read.read said.2) (c.problems_fit.ensures Mace said.0 (c.problems_grow.ensures Mace c.deref.result.now said.0 said.1))

pub returns-in_err-find : goal.returns-in_err-find
returns-in_err-find g c =
    let t = g.C.Clock.times c.find.new.clock in
    let read = c.read_problem.ensures.read in
    let posed = poses_read Mace c.deref.result.now c.in_ok-read.read (rw c.in_ok-read.ensures.read at read) in
    own_runs (poses Mace) (refuses Mace) (t.count ≡ 0) (λ x. Seeks x.stated (plan_of c.args.words x.options) t) (λ x. Sought x.stated (plan_of c.args.words x.options) t) _ _ c.in_ok-bytes.bytes.items (posed_by c.in_ok-read.read) _ _ _ (Err c.in_err-find.field-0.0) c.from_residual-in_err-find.result (c.in_ok-read.ensures.kept ∙ c.in_ok-bytes.ensures.kept) c.in_ok-bytes.ensures.read
    (subst (λ (bytes : List ℕ). poses Mace bytes (posed_by c.in_ok-read.read)) c.deref.ensures.value posed) c.from_residual-in_err-find.ensures.1 c.in_err-find.ensures

pub returns : goal.returns
returns g c =
    let t = g.C.Clock.times c.find.new.clock in
    let read = c.read_problem.ensures.read in
    let posed = poses_read Mace c.deref.result.now c.in_ok-read.read (rw c.in_ok-read.ensures.read at read) in
    own_runs (poses Mace) (refuses Mace) (t.count ≡ 0) (λ x. Seeks x.stated (plan_of c.args.words x.options) t) (λ x. Sought x.stated (plan_of c.args.words x.options) t) _ _ c.in_ok-bytes.bytes.items (posed_by c.in_ok-read.read) _ _ _ (Ok c.in_ok-find.field-0) _ (c.in_ok-read.ensures.kept ∙ c.in_ok-bytes.ensures.kept) c.in_ok-bytes.ensures.read
    (subst (λ (bytes : List ℕ). poses Mace bytes (posed_by c.in_ok-read.read)) c.deref.ensures.value posed) refl c.in_ok-find.ensures
