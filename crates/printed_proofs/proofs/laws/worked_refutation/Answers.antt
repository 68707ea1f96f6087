use Rattle.std.proofs.Common.{ℕ, map, ap}
use Rattle.std.specs.Global.{Vec}
use Rattle.std.specs.Prelude.{option_map}
use Rattle.derivation.specs.View.{later_of}
use Rattle.printed_proofs.proofs.WorkedOut.{refuted, texts_are, lines_back}
use Rattle.printed_proofs.proofs.laws.worked_refutation.Goals as goal

pub returns : goal.returns
returns _ = λ later notes none asks answers.
    let words = ap (map later_of) none in
    record { refute = refuted (map later_of later.items) words; text = texts_are later notes words; read = lines_back later notes words (ap (option_map (λ (v : Vec ℕ). v.items)) asks) answers }
