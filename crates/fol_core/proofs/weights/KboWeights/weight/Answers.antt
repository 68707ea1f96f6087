-- What the name weighs stands at its place.
use Rattle.std.proofs.Common.{◌≡◌, ◌<◌, length, Some, None, sym, ap, ◌∙◌, arith}
use Rattle.std.proofs.lemmas.Option.{slice_get-get_or}
use Rattle.fol_core.specs.KboRows.{weight_in}
use Rattle.fol_core.specs.NamesOnce.{place_in}
use Rattle.fol_core.proofs.KboLemmas.{weight_at, weight_nowhere, place_within}
use Rattle.fol_core.proofs.weights.KboWeights.weight.Goals as goal

pub returns-in-Some : goal.returns-in-Some
returns-in-Some c =
    let names = c.self.inside.names in
    let weights = c.self.inside.weights.items in
    let at : place_in c.args.name.now names ≡ Some c.in-Some.place = sym c.position.ensures ∙ c.in-Some.is in
    let within : c.in-Some.place < length weights = omega (arith, place_within c.args.name.now names c.in-Some.place at, c.self.invariant) in
    ap Some c.index.ensures ∙ sym (slice_get-get_or weights c.in-Some.place c.index.result.now within)
    ∙ sym (weight_at c.args.name.now names weights c.in-Some.place c.self.invariant at) ∙ ap (weight_in c.args.name.now) c.self.view_is

pub returns-in-None : goal.returns-in-None
returns-in-None c =
    sym (weight_nowhere c.args.name.now c.self.inside.names c.self.inside.weights.items (sym c.position.ensures ∙ c.in-None.is)) ∙ ap (weight_in c.args.name.now) c.self.view_is
