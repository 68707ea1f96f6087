-- The first terms give the first bindings.
use Rattle.std.proofs.Common.{◌∙◌, sym, ap, map, take}
use Rattle.std.specs.List.{take-map}
use Rattle.term_matches.specs.Matched.{lent_binding}
use Rattle.term_matches.proofs.matches.Matches.undo.Goals as goal

pub returns-clause-bindings : goal.returns-clause-bindings
returns-clause-bindings c =
    ap (map lent_binding) c.truncate.ensures.items ∙ sym (take-map lent_binding c.args.mark c.self.inside.terms.items)
    ∙ ap (λ m. take c.args.mark m.bindings) c.self.view_is
