-- What the table has under a name stands at its place.
use Rattle.std.proofs.Common.{◌≡◌, ◌<◌, length, Some, None, unwrap_or, sym, ap, ◌∙◌, arith}
use Rattle.std.proofs.lemmas.Option.{slice_get-get_or}
use Rattle.fol_core.specs.NamesOnce.{place_in}
use Rattle.ladr_lex.specs.Operators.{operator_of}
use Rattle.ladr_lex.proofs.OperatorLemmas.{found_row, no_row, place_within}
use Rattle.ladr_lex.proofs.operators.Ops.operator_of.Goals as goal

pub returns-in-Some : goal.returns-in-Some
returns-in-Some c =
    let names = c.self.inside.names in
    let operators = c.self.inside.operators.items in
    let at : place_in c.args.name.now names ≡ Some c.in-Some.place = sym c.position.ensures ∙ c.in-Some.is in
    let within : c.in-Some.place < length operators = omega (arith, place_within c.args.name.now names c.in-Some.place at, c.self.invariant.0) in
    c.index.ensures ∙ ap (λ o. unwrap_or o None) (sym (slice_get-get_or operators c.in-Some.place c.index.result.now within))
    ∙ sym (found_row c.args.name.now names operators c.in-Some.place c.self.invariant.0 at) ∙ ap (λ rs. operator_of rs c.args.name.now) c.self.view_is

pub returns-in-None : goal.returns-in-None
returns-in-None c =
    sym (no_row c.args.name.now c.self.inside.names c.self.inside.operators.items (sym c.position.ensures ∙ c.in-None.is)) ∙ ap (λ rs. operator_of rs c.args.name.now) c.self.view_is
