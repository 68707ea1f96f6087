use Rattle.std.proofs.Common.{◌≡◌, ◌++◌, ◌+◌, ◌<◌, ◌≤◌, ◌∷◌, List, [], length, drop, sym, subst, arith}
use Rattle.derivation.specs.declared.line.Line.{Line}
use Rattle.ladr_lex.specs.Cuts.{pieces_of}
use Rattle.proof_lines.specs.declared.fault.LineFault.TheVariants as fault
use Rattle.proof_text.specs.Going.{reader_in}
use Rattle.proof_text.specs.Proofs.{HasLines, no_line}
use Rattle.proof_text.proofs.LinesRead.{next_line, line_some, line_within, whole_lines, lines_stop, keeps_on, pushed}
use Rattle.proof_text.proofs.proofs.read_lines.Goals as goal

pub loop-at-init : goal.loop-at-init
loop-at-init c =
    let g = reader_in c.args.operators.now c.args.problem.now in
    let ts = pieces_of c.args.tokens.now in
    (subst (λ (ls : List Line). HasLines g c.args.symbols.now ts ls c.args.symbols.now ts) (sym c.new-lines.ensures.items) no_line, omega arith, λ n s h. h)

pub returns-then-is_err-clause-stop : goal.returns-then-is_err-clause-stop
returns-then-is_err-clause-stop c =
    lines_stop (reader_in c.args.operators.now c.args.problem.now) c.args.symbols.now c.loop-at.symbols c.loop-at.lines.items c.args.tokens.now c.loop-at.at fault.Memory
    c.loop-at-test.true c.loop-at.invariant.0 tt

pub returns-then-is_err-clause-kept : goal.returns-then-is_err-clause-kept
returns-then-is_err-clause-kept c = keeps_on c.args.symbols.now c.loop-at.symbols c.read_line.new.symbols c.loop-at.invariant.2 c.read_line.ensures.kept

pub returns-in-Err-clause-stop : goal.returns-in-Err-clause-stop
returns-in-Err-clause-stop c =
    lines_stop (reader_in c.args.operators.now c.args.problem.now) c.args.symbols.now c.loop-at.symbols c.loop-at.lines.items c.args.tokens.now c.loop-at.at c.in-Err.fault
    c.loop-at-test.true c.loop-at.invariant.0 c.in-Err.ensures.fault

pub returns-in-Err-clause-kept : goal.returns-in-Err-clause-kept
returns-in-Err-clause-kept c = keeps_on c.args.symbols.now c.loop-at.symbols c.read_line.new.symbols c.loop-at.invariant.2 c.read_line.ensures.kept

pub overflow_add-at : goal.overflow_add-at
overflow_add-at c =
    let within : c.loop-at.at + c.in-Ok.read.len ≤ length c.args.tokens.now =
    line_within (reader_in c.args.operators.now c.args.problem.now) c.loop-at.symbols c.read_line.new.symbols c.args.tokens.now c.loop-at.at c.in-Ok.read c.loop-at.invariant.1 c.in-Ok.ensures.read in
    omega (arith, within)

pub loop-at-smaller : goal.loop-at-smaller
loop-at-smaller c =
    let g = reader_in c.args.operators.now c.args.problem.now in
    let some : 0 < c.in-Ok.read.len = line_some g c.loop-at.symbols c.read_line.new.symbols c.args.tokens.now c.loop-at.at c.in-Ok.read c.in-Ok.ensures.read in
    omega (arith, some, c.loop-at-test.true)

pub loop-at-preserved : goal.loop-at-preserved
loop-at-preserved c =
    let g = reader_in c.args.operators.now c.args.problem.now in
    let items : c.push.new.self.items ≡ c.loop-at.lines.items ++ c.in-Ok.read.line ∷ [] =
    pushed _ c.is_err.result c.push.new.self.items (c.loop-at.lines.items ++ c.in-Ok.read.line ∷ []) c.loop-at.lines.items c.push.ensures.items c.is_err.ensures.negation c.if-is_err.false in
    let lines = next_line g c.args.symbols.now c.loop-at.symbols c.read_line.new.symbols c.loop-at.lines.items c.args.tokens.now c.loop-at.at c.in-Ok.read c.loop-at.invariant.0 c.in-Ok.ensures.read in (
      subst (λ (ls : List Line). HasLines g c.args.symbols.now (pieces_of c.args.tokens.now) ls c.read_line.new.symbols (drop (c.loop-at.at + c.in-Ok.read.len) (pieces_of c.args.tokens.now))) (sym items) lines,
      line_within g c.loop-at.symbols c.read_line.new.symbols c.args.tokens.now c.loop-at.at c.in-Ok.read c.loop-at.invariant.1 c.in-Ok.ensures.read,
      keeps_on c.args.symbols.now c.loop-at.symbols c.read_line.new.symbols c.loop-at.invariant.2 c.read_line.ensures.kept,
    )

pub returns-clause-read : goal.returns-clause-read
returns-clause-read c =
    whole_lines (reader_in c.args.operators.now c.args.problem.now) c.args.symbols.now c.loop-at.symbols c.loop-at.lines.items c.args.tokens.now c.loop-at.at c.loop-at-test.false c.loop-at.invariant.0
