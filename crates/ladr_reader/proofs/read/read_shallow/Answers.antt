-- The token that stops the machine is the first bad one; a run over all tokens ends behind an item just where they are one.
use Rattle.std.proofs.Common.{◌≡◌, ℕ, ◌≤◌, ◌+◌, false, max, List, length, drop, get_or, sym, ap, ◌∙◌, arith}
use Rattle.ladr_lex.specs.Lexeme.{Lexeme, lexeme_of, lexemes_of}
use Rattle.ladr_reader.specs.Marks.{if_marked, marked}
use Rattle.ladr_reader.specs.Nesting.{most_open}
use Rattle.ladr_reader.specs.ReadingView.{standing_of, goes_on, at_spot}
use Rattle.ladr_reader.specs.Table.{OperatorTable, table_of}
use Rattle.ladr_reader.proofs.Deepening.{deep_item}
use Rattle.ladr_reader.proofs.Lawful.{table_lawful}
use Rattle.ladr_reader.proofs.Live.{table_names}
use Rattle.ladr_reader.proofs.Marking.{marked_at, marked_from, marked_length, noted_marked}
use Rattle.ladr_reader.proofs.Runs.{run_more, bad_at, bad_end, done_item, unstopped, all_noted}
use Rattle.ladr_reader.proofs.read.read_shallow.Goals as goal

pub returns-then-not-goes-clause-fault : goal.returns-then-not-goes-clause-fault
returns-then-not-goes-clause-fault c =
    let rows = c.args.ops.now in
    let n = c.args.build.most in
    bad_at n (table_of rows) (table_lawful rows c.rows_are_lawful.ensures) (table_names rows) (marked c.args.names.now (lexemes_of c.args.tokens.now)) c.loop-i.i (standing_of c.loop-i.reading) c.loop-i.stack
    (omega (arith, marked_length c.args.names.now c.args.tokens.now))
    c.loop-i.invariant.run
    (run_more n _ (marked c.args.names.now (lexemes_of c.args.tokens.now)) c.loop-i.i (if_marked c.is_marked-is_name.result (lexeme_of c.index-tokens-i.result)) (standing_of c.loop-i.reading) c.loop-i.stack (omega (arith, marked_length c.args.names.now c.args.tokens.now)) (ap (λ m. if_marked m (lexeme_of c.index-tokens-i.result)) c.is_marked-is_name.ensures ∙ marked_at c.args.names.now c.args.tokens.now c.loop-i.i c.index-tokens-i.result c.loop-i-test.true c.index-tokens-i.is) c.loop-i.invariant.run
    ∙ sym c.in_ok-goes.ensures
    ∙ ap (λ b. goes_on b c.step_marked.new.reading c.step_marked.new.stack) c.if-not-goes.true)

pub loop-i-preserved : goal.loop-i-preserved
loop-i-preserved c =
    record {
      run = run_more c.args.build.most _ (marked c.args.names.now (lexemes_of c.args.tokens.now)) c.loop-i.i (if_marked c.is_marked-is_name.result (lexeme_of c.index-tokens-i.result)) (standing_of c.loop-i.reading) c.loop-i.stack (omega (arith, marked_length c.args.names.now c.args.tokens.now)) (ap (λ m. if_marked m (lexeme_of c.index-tokens-i.result)) c.is_marked-is_name.ensures ∙ marked_at c.args.names.now c.args.tokens.now c.loop-i.i c.index-tokens-i.result c.loop-i-test.true c.index-tokens-i.is) c.loop-i.invariant.run
          ∙ sym c.in_ok-goes.ensures
          ∙ ap (λ b. goes_on b c.step_marked.new.reading c.step_marked.new.stack) c.if-not-goes.false;
      few = omega arith;
      most = c.note.ensures.most (drop (c.loop-i.i + 1) (marked c.args.names.now (lexemes_of c.args.tokens.now)))
          ∙ ap (λ (k : ℕ). max c.loop-i.parentheses.most k) (sym (ap (λ (ts : List Lexeme). most_open c.loop-i.parentheses.unclosed ts) (marked_from c.args.names.now c.args.tokens.now c.loop-i.i c.index-tokens-i.result c.loop-i-test.true c.index-tokens-i.is) ∙ noted_marked (get_or c.args.names.now c.loop-i.i false) (lexeme_of c.index-tokens-i.result) c.loop-i.parentheses.unclosed (drop (c.loop-i.i + 1) (marked c.args.names.now (lexemes_of c.args.tokens.now)))))
          ∙ c.loop-i.invariant.most;
    }

pub returns-in_default-clause-fault : goal.returns-in_default-clause-fault
returns-in_default-clause-fault c =
    let rows = c.args.ops.now in
    let k : c.loop-i.i ≡ length c.args.tokens.now = omega arith in
    bad_end c.args.build.most (table_of rows) (table_lawful rows c.rows_are_lawful.ensures) (table_names rows) (marked c.args.names.now (lexemes_of c.args.tokens.now)) (length c.args.tokens.now) (standing_of c.loop-i.reading) c.loop-i.stack
    (marked_length c.args.names.now c.args.tokens.now)
    (rw k at c.loop-i.invariant.run)
    (unstopped c.loop-i.reading.spot c.loop-i.reading.name c.loop-i.reading.term c.in_default.not-AtStop)

pub returns-clause-read : goal.returns-clause-read
returns-clause-read c =
    let g : OperatorTable = table_of c.args.ops.now in
    let ts : List Lexeme = marked c.args.names.now (lexemes_of c.args.tokens.now) in
    let end : length ts ≤ c.loop-i.i = omega (arith, marked_length c.args.names.now c.args.tokens.now) in
    let done = done_item c.args.build.most g (table_lawful c.args.ops.now c.rows_are_lawful.ensures) ts c.loop-i.i (standing_of c.loop-i.reading) c.loop-i.stack c.loop-i.reading.term c.in-AtStop.field-0 end c.loop-i.invariant.run (ap (λ spot. at_spot spot c.loop-i.reading.name c.loop-i.reading.term) c.in-AtStop.is) in
    record {
      tree = done.0;
      item = done.2;
      term_is = done.1;
      most_is = all_noted ts c.loop-i.i c.loop-i.parentheses.most c.loop-i.parentheses.unclosed c.most.result end c.most.ensures c.loop-i.invariant.most;
    }

pub returns-then-is_deeper_than-clause-read : goal.returns-then-is_deeper_than-clause-read
returns-then-is_deeper_than-clause-read c =
    deep_item c.args.build.most c.args.literals (table_of c.args.ops.now) (table_lawful c.args.ops.now c.rows_are_lawful.ensures) (marked c.args.names.now (lexemes_of c.args.tokens.now)) c.loop-i.i (standing_of c.loop-i.reading) c.loop-i.stack c.loop-i.invariant.run
    (c.is_deeper_than.ensures c.if-is_deeper_than.true)
