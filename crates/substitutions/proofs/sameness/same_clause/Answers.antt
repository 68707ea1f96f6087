use Rattle.std.proofs.Common.{◌≡◌, ◌∙◌, ap, sym, arith, length, slice_index_or, map}
use Rattle.std.proofs.lemmas.Bool.{false≢true, both_ways}
use Rattle.fol_core.specs.ClauseView.{literal_of}
use Rattle.substitutions.proofs.Elements.{element_same}
use Rattle.substitutions.proofs.sameness.same_clause.Goals as goal

pub returns-then-not-same_literal : goal.returns-then-not-same_literal
returns-then-not-same_literal c = (
  λ f. absurd (false≢true f),
  λ h. absurd (both_ways c.same_literal.result c.if-not-same_literal.true (c.same_literal.ensures.1 (
      let same : map literal_of c.left.inside.literals.items ≡ map literal_of c.right.inside.literals.items = c.left.view_is ∙ h ∙ sym c.right.view_is in
      let value : c.deref-l-items.result.now ≡ c.left.inside.literals.items = c.deref-l-items.ensures.value in
      let there : c.l-item.result ≡ slice_index_or c.left.inside.literals.items c.loop-i.i c.l-item.result = c.l-item.is ∙ ap (λ xs. slice_index_or xs c.loop-i.i c.l-item.result) value in
      ap literal_of there ∙ element_same literal_of c.left.inside.literals.items c.right.inside.literals.items c.loop-i.i c.l-item.result c.index.result.now (omega (arith, ap length value)) same ∙ ap literal_of (sym c.index.ensures)))),
)
