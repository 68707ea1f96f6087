-- The token that stops the control is the first bad one; a run over all tokens ends behind an item just where they are one.
use Rattle.std.proofs.Common.{◌≡◌, ◌≤◌, length, sym, ap, ◌∙◌, arith}
use Rattle.ladr_lex.specs.Lexeme.{lexeme_of, lexemes_of}
use Rattle.ladr_reader.specs.Control.{at}
use Rattle.ladr_reader.specs.Marks.{if_marked, marked}
use Rattle.ladr_reader.specs.Table.{table_of}
use Rattle.ladr_reader.proofs.Lawful.{table_lawful}
use Rattle.ladr_reader.proofs.Live.{table_names}
use Rattle.ladr_reader.proofs.Recognized.{control_more, control_bad, control_end, control_item}
use Rattle.ladr_reader.proofs.Marking.{marked_at, marked_length}
use Rattle.ladr_reader.proofs.recognizing.recognize.Goals as goal

pub returns-in-None-clause-fault : goal.returns-in-None-clause-fault
returns-in-None-clause-fault c =
    let rows = c.args.ops.now in
    control_bad (table_of rows) (table_lawful rows c.rows_are_lawful.ensures) (table_names rows) (marked c.args.names.now (lexemes_of c.args.tokens.now)) c.loop-i.i c.loop-i.place c.loop-i.waits
    (omega (arith, marked_length c.args.names.now c.args.tokens.now))
    c.loop-i.invariant
    (control_more (table_of rows) (marked c.args.names.now (lexemes_of c.args.tokens.now)) c.loop-i.i (if_marked c.is_marked.result (lexeme_of c.index-tokens-i.result)) c.loop-i.place c.loop-i.waits (omega (arith, marked_length c.args.names.now c.args.tokens.now)) (ap (λ m. if_marked m (lexeme_of c.index-tokens-i.result)) c.is_marked.ensures ∙ marked_at c.args.names.now c.args.tokens.now c.loop-i.i c.index-tokens-i.result c.loop-i-test.true c.index-tokens-i.is) c.loop-i.invariant
    ∙ sym c.in_ok-next.ensures
    ∙ ap (λ o. at o c.control_marked.new.waits) c.in-None.is)

pub loop-i-preserved : goal.loop-i-preserved
loop-i-preserved c =
    control_more (table_of c.args.ops.now) (marked c.args.names.now (lexemes_of c.args.tokens.now)) c.loop-i.i (if_marked c.is_marked.result (lexeme_of c.index-tokens-i.result)) c.loop-i.place c.loop-i.waits (omega (arith, marked_length c.args.names.now c.args.tokens.now)) (ap (λ m. if_marked m (lexeme_of c.index-tokens-i.result)) c.is_marked.ensures ∙ marked_at c.args.names.now c.args.tokens.now c.loop-i.i c.index-tokens-i.result c.loop-i-test.true c.index-tokens-i.is) c.loop-i.invariant
    ∙ sym c.in_ok-next.ensures
    ∙ ap (λ o. at o c.control_marked.new.waits) c.in-Some.is

pub returns-in-BehindItem-clause-item : goal.returns-in-BehindItem-clause-item
returns-in-BehindItem-clause-item c =
    let end : length (marked c.args.names.now (lexemes_of c.args.tokens.now)) ≤ c.loop-i.i = omega (arith, marked_length c.args.names.now c.args.tokens.now) in
    control_item (table_of c.args.ops.now) (table_lawful c.args.ops.now c.rows_are_lawful.ensures) (marked c.args.names.now (lexemes_of c.args.tokens.now)) c.loop-i.i c.loop-i.place c.loop-i.waits end c.loop-i.invariant c.in-BehindItem.is

pub returns : goal.returns
returns c =
    let rows = c.args.ops.now in
    let k : c.loop-i.i ≡ length c.args.tokens.now = omega arith in
    record {
      item = tt;
      fault = control_end (table_of rows) (table_lawful rows c.rows_are_lawful.ensures) (table_names rows) (marked c.args.names.now (lexemes_of c.args.tokens.now)) (length c.args.tokens.now) c.loop-i.place c.loop-i.waits
          (marked_length c.args.names.now c.args.tokens.now)
          (rw k at c.loop-i.invariant)
          c.in_default.not-BehindItem;
    }
