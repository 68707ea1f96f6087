-- What a run of either command amounts to, by what its end tells.
use Rattle.std.proofs.Common.{◌≡◌, ℕ, List, [], Result, subst}
use Rattle.ladr_clausetester.specs.declared.testing.Tested.{Tested}
use Rattle.ladr_intake.proofs.Commands.{IsHandedOn, own_runs}
use Rattle.ladr_intake.proofs.Readings.{interprets_read}
use Rattle.ladr_intake.specs.Command.{Runs}
use Rattle.ladr_intake.specs.Input.{IsAllRead}
use Rattle.ladr_intake.specs.Posed.{Interpreted, interprets, interpreted_by}
use Rattle.ladr_intake.specs.Refusals.{refuses}
use Rattle.ladr_intake.specs.declared.stops.Stop.{Stop}
use Rattle.ladr_io.specs.Streams.{Inflow, Outflow}
use Rattle.ladr_output.specs.Telling.{Tells}
use Rattle.ladr_output.specs.declared.cut.Cut.{Cut}
use Rattle.ladr_problem.specs.File.{Says, problem}
use Rattle.ladr_problem.specs.Sofar.{Sofar}
use Rattle.ladr_problem.specs.Whole.{IsOf}
use Rattle.ladr_problem.specs.declared.read.FileRead.{FileRead}
use Rattle.ladr_formulas.specs.declared.styles.Mode.TheVariants.{Tester}

pub runs_by : (ends : Interpreted → Tested → List ℕ → Type 0) (read : FileRead) (a b : Inflow) (bytes shown : List ℕ) (c c' d : Outflow) (r : Result Tested Cut) (r' : Result Tested Stop)
    → IsAllRead a b bytes → shown ≡ bytes → (s : Sofar) × Says Tester shown (problem s) × IsOf s read → c' ≡ c → Tells (λ text. text ≡ []) (ends (interpreted_by read)) c' d r → IsHandedOn r r'
    → Runs interprets (refuses Tester) (Unit {0}) (λ x text. text ≡ []) ends a b c d r'
runs_by ends read a b bytes shown c c' d r r' all is says same tells handed =
    let said = subst (λ (bs : List ℕ). interprets bs (interpreted_by read)) is (interprets_read shown read says) in
    own_runs interprets (refuses Tester) (Unit {0}) (λ x text. text ≡ []) ends a b bytes (interpreted_by read) c c' d r r' same all said handed tells
