-- The line of a formula, of a clause, or one that was made.
use Rattle.std.proofs.Common.{◌-◌, length, refl, sym, arith}
use Rattle.std.proofs.lemmas.Bool.{ltb-true, ltb-false}
use Rattle.std.proofs.lemmas.Option.{slice_get-get_or, slice_get_read}
use Rattle.prover_proofs.proofs.Placed.{all_count, formula_at, clause_at, made_at, is_said}
use Rattle.prover_proofs.proofs.lines.SearchLines.line.Goals as goal
use Rattle.prover_proofs.specs.SearchLines.{lines_in}

pub returns-then-place-self-clause-line : goal.returns-then-place-self-clause-line
returns-then-place-self-clause-line c =
    let s = c.args.self.now in
    is_said (lines_in s) c.args.number _ _ (formula_at s.inputs.now s.clauses.now s.made.now c.args.number (c.args.number - 1) _ (omega arith) (slice_get-get_or s.inputs.now (c.args.number - 1) _ c.if-place-self.true)) c.formula_line.ensures.line

pub returns-then-behind-self-clause-line : goal.returns-then-behind-self-clause-line
returns-then-behind-self-clause-line c =
    let s = c.args.self.now in
    let j = c.args.number - 1 - length s.inputs.now in
    is_said (lines_in s) c.args.number _ _ (clause_at s.inputs.now s.clauses.now s.made.now c.args.number (c.args.number - 1) j _ (omega arith) (omega arith) (slice_get-get_or s.clauses.now j _ c.if-behind-self.true)) c.clausal_line.ensures.line

pub unreachable-requires : goal.unreachable-requires
unreachable-requires c =
    let s = c.args.self.now in
    let many = all_count s.inputs.now s.clauses.now s.made.now in
    let past = ltb-false (c.args.number - 1 - length s.inputs.now - length s.clauses.now) (length s.made.now) (sym c.in-None.ensures.lookup.0) in
    omega (arith, many, past)

pub returns-clause-line : goal.returns-clause-line
returns-clause-line c =
    let s = c.args.self.now in
    let j = c.args.number - 1 - length s.inputs.now - length s.clauses.now in
    let within = ltb-true j (length s.made.now) (sym c.in-Some.ensures.lookup.0) in
    is_said (lines_in s) c.args.number _ _ (made_at s.inputs.now s.clauses.now s.made.now c.args.number (c.args.number - 1) j _ (omega arith) (omega arith) (slice_get_read s.made.now (length s.made.now) j c.in-Some.line.now refl within c.in-Some.ensures.lookup.1)) c.numbered_line.ensures.line
