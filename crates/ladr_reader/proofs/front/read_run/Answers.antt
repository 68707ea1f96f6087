-- The token that stops the machine is the first bad one, the full stop as well; behind that it has an item.
use Rattle.std.proofs.Common.{◌≡◌, ◌+◌, ◌++◌, ◌∷◌, [], List, length, sym, ap, ◌∙◌, arith}
use Rattle.ladr_lex.specs.Lexeme.{Lexeme, full_stop, lexeme_of, lexemes_of}
use Rattle.ladr_reader.specs.ReadingView.{standing_of, goes_on}
use Rattle.ladr_reader.specs.Table.{table_of}
use Rattle.ladr_reader.proofs.Lawful.{table_lawful}
use Rattle.ladr_reader.proofs.Live.{table_names}
use Rattle.ladr_reader.proofs.Runs.{run_more, bad_at, done_item}
use Rattle.ladr_reader.proofs.Stopping.{stopped_length, stopped_at, stop_at, stops, term_there}
use Rattle.ladr_reader.proofs.front.read_run.Goals as goal

pub returns-then-not-branch-clause-fault : goal.returns-then-not-branch-clause-fault
returns-then-not-branch-clause-fault c =
    let rows = c.args.ops.now in
    let n = c.args.build.most in
    let ts : List Lexeme = lexemes_of c.args.tokens.now ++ full_stop ∷ [] in
    bad_at n (table_of rows) (table_lawful rows c.rows_are_lawful.ensures) (table_names rows) ts c.loop-i.i (standing_of c.loop-i.reading) c.loop-i.stack
    (omega (arith, stopped_length c.args.tokens.now))
    c.loop-i.invariant
    (run_more n (table_of rows) ts c.loop-i.i (lexeme_of c.index-tokens-i.result) (standing_of c.loop-i.reading) c.loop-i.stack (omega (arith, stopped_length c.args.tokens.now)) (stopped_at c.args.tokens.now c.loop-i.i c.index-tokens-i.result c.loop-i-test.true c.index-tokens-i.is) c.loop-i.invariant
    ∙ sym c.in_ok-step.ensures
    ∙ ap (λ b. goes_on b c.step.new.reading c.step.new.stack) c.if-not-branch.true)

pub loop-i-preserved : goal.loop-i-preserved
loop-i-preserved c =
    run_more c.args.build.most (table_of c.args.ops.now) (lexemes_of c.args.tokens.now ++ full_stop ∷ []) c.loop-i.i (lexeme_of c.index-tokens-i.result) (standing_of c.loop-i.reading) c.loop-i.stack (omega (arith, stopped_length c.args.tokens.now)) (stopped_at c.args.tokens.now c.loop-i.i c.index-tokens-i.result c.loop-i-test.true c.index-tokens-i.is) c.loop-i.invariant
    ∙ sym c.in_ok-step.ensures
    ∙ ap (λ b. goes_on b c.step.new.reading c.step.new.stack) c.if-not-branch.false

pub returns-then-not-branch-2-clause-fault : goal.returns-then-not-branch-2-clause-fault
returns-then-not-branch-2-clause-fault c =
    let rows = c.args.ops.now in
    let n = c.args.build.most in
    let ts : List Lexeme = lexemes_of c.args.tokens.now ++ full_stop ∷ [] in
    let k : c.loop-i.i ≡ length c.args.tokens.now = omega arith in
    let run = rw k at c.loop-i.invariant in
    bad_at n (table_of rows) (table_lawful rows c.rows_are_lawful.ensures) (table_names rows) ts (length c.args.tokens.now) (standing_of c.loop-i.reading) c.loop-i.stack
    (omega (arith, stopped_length c.args.tokens.now))
    run
    (run_more n (table_of rows) ts (length c.args.tokens.now) full_stop (standing_of c.loop-i.reading) c.loop-i.stack (omega (arith, stopped_length c.args.tokens.now)) (stop_at c.args.tokens.now) run
    ∙ sym (c.in_ok-step_stop.ensures (table_of rows))
    ∙ ap (λ b. goes_on b c.step_stop.new.reading c.step_stop.new.stack) c.if-not-branch-2.true)

pub returns-clause-read : goal.returns-clause-read
returns-clause-read c =
    let rows = c.args.ops.now in
    let n = c.args.build.most in
    let ts : List Lexeme = lexemes_of c.args.tokens.now ++ full_stop ∷ [] in
    let k : c.loop-i.i ≡ length c.args.tokens.now = omega arith in
    let run = rw k at c.loop-i.invariant in
    let after = c.step_stop.new.reading in
    let step = sym (c.in_ok-step_stop.ensures (table_of rows)) ∙ ap (λ b. goes_on b c.step_stop.new.reading c.step_stop.new.stack) c.if-not-branch-2.false in
    let done = stops n (table_of rows) (standing_of c.loop-i.reading) c.loop-i.stack (standing_of after) c.step_stop.new.stack step in
    let item = done_item n (table_of rows) (table_lawful rows c.rows_are_lawful.ensures) ts (length c.args.tokens.now + 1) (standing_of after) c.step_stop.new.stack done.0 done.1 (omega (arith, stopped_length c.args.tokens.now))
    (run_more n (table_of rows) ts (length c.args.tokens.now) full_stop (standing_of c.loop-i.reading) c.loop-i.stack (omega (arith, stopped_length c.args.tokens.now)) (stop_at c.args.tokens.now) run ∙ step)
    done.2 in
    (item.0, item.2, term_there after.spot after.name after.term done.0 done.1 done.2 ∙ item.1)
