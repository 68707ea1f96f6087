use Rattle.std.proofs.Common.{◌∙◌, refl, sym, subst}
use Rattle.std.specs.Option.{IsSome}
use Rattle.ladr_formulas.specs.Formulas.{Reading, formula_reading, style_of}
use Rattle.ladr_formulas.specs.declared.styles.Mode.TheVariants.{Prover}
use Rattle.proof_lines.proofs.ClauseReadings.{clause_stated, meets_none}
use Rattle.proof_lines.proofs.stating.clause.Goals as goal

pub unwrap-requires : goal.unwrap-requires
unwrap-requires c =
    let t = c.requires.literals.0 in
    let st = style_of Prover c.args.problem.now.options.prolog_style_variables in
    let s : Reading = (formula_reading st c.args.symbols.now t).reading in
    let read = c.in_ok-read.ensures.read t c.requires.literals.1.0 in
    let least = meets_none _ _ s (sym (c.meet.ensures s (sym read.least)) ∙ c.in-None.is) in
    let some = clause_stated st c.args.symbols.now t c.requires.literals.1.1 least in
    subst (λ o. IsSome o) (sym (read.clause ∙ some.1)) refl
