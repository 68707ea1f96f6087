use Rattle.std.proofs.lemmas.Result.{err_from_is_err_and}
use Rattle.ladr_formulas.specs.Formulas.{style_of}
use Rattle.ladr_formulas.specs.declared.styles.Mode.TheVariants.{Prover}
use Rattle.ladr_lex.specs.Lexeme.{lexemes_of}
use Rattle.proof_lines.specs.ContentTokens.{tables_of}
use Rattle.proof_lines.proofs.PartLemmas.{part_fault}
use Rattle.proof_lines.proofs.line.read_line.Goals as goal

pub returns-in_err-parts-clause-fault : goal.returns-in_err-parts-clause-fault
returns-in_err-parts-clause-fault c =
    let p = err_from_is_err_and c.from_residual.result c.from_residual.ensures.1 in
    rw (p.1, p.2) (part_fault (tables_of c.args.operators.now) (style_of Prover c.args.problem.now.options.prolog_style_variables) c.args.problem.now.symbols c.args.symbols.now (lexemes_of c.args.tokens.now) c.in_err-parts.field-0.0 c.in_err-parts.ensures.fault)
