-- The head is equality's, or its name or its arity is another.
use Rattle.std.proofs.Common.{◌≡◌, ap₂, sym, ◌∙◌}
use Rattle.std.specs.Prelude.{codes}
use Rattle.std.specs.Str.{bytes_eq}
use Rattle.fol_core.specs.SymbolTable.{number_of}
use Rattle.weights.proofs.Stated.{head_equal, head_named, head_counted}
use Rattle.weights.proofs.rules.head_of.Goals.{else-eq-via-then-eq+else-arity-eq2, else-eq-via-else-eq}
use Rattle.weights.proofs.rules.head_of.Goals as goal

pub returns-then-arity-eq2 : goal.returns-then-arity-eq2
returns-then-arity-eq2 c =
    let rule = c.args.rule.now in
    let same : bytes_eq rule.head (codes "=") ≡ c.eq.result = ap₂ bytes_eq (sym c.bytes-name.ensures) (sym c.as_slice.ensures) ∙ sym c.eq.ensures in
    sym (head_equal c.args.symbols.now rule (same ∙ c.if-eq.true) (sym c.len-arity.ensures ∙ c.if-arity-eq2.true))

pub returns-else-eq : goal.returns-else-eq
returns-else-eq c =
    let rule = c.args.rule.now in
    let same : bytes_eq rule.head (codes "=") ≡ c.eq.result = ap₂ bytes_eq (sym c.bytes-name.ensures) (sym c.as_slice.ensures) ∙ sym c.eq.ensures in
    c.find.ensures.number ∙ ap₂ (λ name arity. number_of c.args.symbols.now name arity) c.bytes-name.ensures c.len-arity.ensures
    ∙ sym (elim c.else-eq.branch [
      | else-eq-via-then-eq+else-arity-eq2 w ↦ head_counted c.args.symbols.now rule (λ h. w.if-arity-eq2.false (c.len-arity.ensures ∙ h)) (same ∙ w.if-eq.true)
      | else-eq-via-else-eq w ↦ head_named c.args.symbols.now rule (same ∙ w.if-eq.false)
    ])
