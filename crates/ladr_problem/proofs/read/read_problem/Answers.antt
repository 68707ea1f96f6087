use Rattle.std.proofs.Common.{◌≡◌, ◌≤◌, List, length, ap, sym, subst, arith}
use Rattle.std.proofs.lemmas.Result.{err_from_is_err_and}
use Rattle.ladr_formulas.specs.declared.styles.Mode.{Mode}
use Rattle.fol_problem.specs.Stated.{AreWellFormed, all_said}
use Rattle.fol_core.specs.SymbolTable.{Symbol}
use Rattle.fol_problem.specs.declared.problem.Input.{Input}
use Rattle.ladr_problem.specs.Items.{items_of}
use Rattle.ladr_lex.specs.Lexed.{lexed}
use Rattle.ladr_lex.proofs.Lexing.{cuts_text}
use Rattle.ladr_lex.specs.declared.limits.TheConstants.{MOST_SYMBOLS}
use Rattle.ladr_problem.specs.Draft.{sofar_of}
use Rattle.ladr_options.specs.Ranges.{AreInRange}
use Rattle.ladr_problem.specs.File as file
use Rattle.ladr_problem.specs.File.{Outcome, File, Says, too_long, problem}
use Rattle.ladr_problem.specs.Names.{AreTellable}
use Rattle.ladr_problem.specs.Proper.{IsProper}
use Rattle.ladr_problem.specs.Sofar.{Sofar, stated_in, nothing_read}
use Rattle.ladr_problem.specs.Stops.{IsStop}
use Rattle.ladr_problem.specs.Whole.{IsFinished}
use Rattle.ladr_problem.proofs.Files.{stop_along}
use Rattle.ladr_problem.proofs.Endings.{has_interpretation}
use Rattle.ladr_problem.proofs.Good.{grown_proper, said_same}
use Rattle.ladr_problem.proofs.Growing.{says_grows}
use Rattle.ladr_problem.specs.Growth.{Grown}
use Rattle.ladr_problem.proofs.Live.{are_live}
use Rattle.ladr_problem.proofs.Readings.{says_of, placed_error}
use Rattle.ladr_problem.proofs.read.read_problem.Goals as goal

finished : (c : goal.After-finish)
    → IsFinished c.args.program (length c.args.bytes.now) nothing_read (items_of (lexed c.args.bytes.now)) (problem (sofar_of c.take_file.new.draft))
finished c =
    subst (λ (s : Sofar). IsFinished c.args.program (length c.args.bytes.now) s (items_of (lexed c.args.bytes.now)) (problem (sofar_of c.take_file.new.draft))) c.in_ok-draft.ensures
    c.in-Ok.ensures.ok

pub returns-in-Ok-clause-read : goal.returns-in-Ok-clause-read
returns-in-Ok-clause-read c =
    (sofar_of c.take_file.new.draft, says_of c.args.program c.args.bytes.now (lexed c.args.bytes.now) c.if-bytes-gt-MOST_BYTES.false (cuts_text c.args.bytes.now) _ (finished c), c.finish.ensures.of)

grown : (c : goal.After-finish) → Grown c.args.program (sofar_of c.take_file.new.draft)
grown c =
    says_grows c.args.program c.args.bytes.now (sofar_of c.take_file.new.draft)
    (says_of c.args.program c.args.bytes.now (lexed c.args.bytes.now) c.if-bytes-gt-MOST_BYTES.false (cuts_text c.args.bytes.now) _ (finished c))

proper : (c : goal.After-finish) → IsProper (stated_in (sofar_of c.take_file.new.draft)) c.take_file.new.draft.settings.options
proper c = grown_proper c.args.program (sofar_of c.take_file.new.draft) (grown c)

pub returns-in-Ok-clause-few : goal.returns-in-Ok-clause-few
returns-in-Ok-clause-few c = subst (λ (t : List Symbol). length t ≤ MOST_SYMBOLS) (sym c.finish.ensures.of.symbols) (proper c).few

pub returns-in-Ok-clause-tellable : goal.returns-in-Ok-clause-tellable
returns-in-Ok-clause-tellable c = subst AreTellable (sym c.finish.ensures.of.symbols) (proper c).tellable

pub returns-in-Ok-clause-ranged : goal.returns-in-Ok-clause-ranged
returns-in-Ok-clause-ranged c = subst AreInRange (sym c.finish.ensures.of.options) (proper c).ranged

pub returns-in-Ok-clause-asks : goal.returns-in-Ok-clause-asks
returns-in-Ok-clause-asks c = are_live c.args.program (sofar_of c.take_file.new.draft) (grown c) c.finish.result.problem.inputs.items c.finish.ensures.of.formulas

pub returns-in-Ok-clause-interpreted : goal.returns-in-Ok-clause-interpreted
returns-in-Ok-clause-interpreted c = λ tests.
    let f = finished c in
    let s = sofar_of c.take_file.new.draft in
    let some = has_interpretation (length c.args.bytes.now) f.0 s (subst (λ (m : Mode). file.at_file_end m (length c.args.bytes.now) f.0 ≡ problem s) tests f.2) in
    omega (arith, some, ap length c.finish.ensures.of.interpretations)

pub returns-in-Ok-clause-well_formed : goal.returns-in-Ok-clause-well_formed
returns-in-Ok-clause-well_formed c =
    let draft = c.take_file.new.draft in
    let well_formed = subst (AreWellFormed (length draft.symbols)) (said_same draft.inputs.items) (proper c).well_formed in
    subst (λ (is : List Input). AreWellFormed (length c.finish.result.problem.symbols) (all_said is)) (sym c.finish.ensures.inputs)
    (subst (λ (t : List Symbol). AreWellFormed (length t) (all_said draft.inputs.items)) (sym c.finish.ensures.of.symbols) well_formed)

pub returns-in-Err-clause-refused : goal.returns-in-Err-clause-refused
returns-in-Err-clause-refused c =
    let stop = subst (λ (s : Sofar). IsStop (IsFinished c.args.program (length c.args.bytes.now) s (items_of (lexed c.args.bytes.now))) c.in-Err.stop) c.in_ok-draft.ensures
    c.in-Err.ensures.stop in
    placed_error c.args.program c.args.bytes.now c.in-Err.stop c.placed.result
    (stop_along (IsFinished c.args.program (length c.args.bytes.now) nothing_read (items_of (lexed c.args.bytes.now))) (Says c.args.program c.args.bytes.now)
    (λ o h. says_of c.args.program c.args.bytes.now (lexed c.args.bytes.now) c.if-bytes-gt-MOST_BYTES.false (cuts_text c.args.bytes.now) o h) c.in-Err.stop stop)
    c.placed.ensures

pub returns-in_err-draft-clause-refused : goal.returns-in_err-draft-clause-refused
returns-in_err-draft-clause-refused c = let p = err_from_is_err_and c.from_residual.result c.from_residual.ensures.1 in rw (p.1, p.2) tt

pub returns-then-bytes-gt-MOST_BYTES-clause-refused : goal.returns-then-bytes-gt-MOST_BYTES-clause-refused
returns-then-bytes-gt-MOST_BYTES-clause-refused c = too_long c.if-bytes-gt-MOST_BYTES.true

pub placed-requires-clause-cut : goal.placed-requires-clause-cut
placed-requires-clause-cut c = cuts_text c.args.bytes.now
