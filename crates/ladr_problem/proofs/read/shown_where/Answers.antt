use Rattle.std.proofs.Common.{◌≡◌, List, ℕ, sym, arith, subst}
use Rattle.std.specs.Prelude.{IfOk}
use Rattle.ladr_problem.specs.Items.{tokens_of}
use Rattle.ladr_problem.proofs.TextEnds.{none_shown}
use Rattle.ladr_problem.proofs.read.shown_where.Goals as goal

pub returns-then-byte-text : goal.returns-then-byte-text
returns-then-byte-text c =
    subst (λ (shown : List ℕ). IfOk c.from_slice.result (λ name. name ≡ shown)) (sym (none_shown c.args.text.now.bytes.now (tokens_of c.args.text.now) c.args.byte c.requires.cut (omega (arith, c.if-byte-text.true)))) c.from_slice.ensures
