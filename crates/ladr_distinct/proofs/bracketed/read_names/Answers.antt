-- The token that stops the pass is the first bad one; a pass over all tokens ends behind an item just where they are one.
use Rattle.std.proofs.Common.{◌≡◌, ℕ, ◌<◌, List, ◌++◌, Some, length, take, sym, ap, ◌∙◌, subst, arith}
use Rattle.std.proofs.lemmas.List.{take_all}
use Rattle.ladr_lex.specs.Lexeme.{Lexeme, lexeme_of, lexemes_of}
use Rattle.ladr_lex.specs.Tokens.{token_kind, token_text}
use Rattle.ladr_lex.specs.declared.token.Token.{Token}
use Rattle.ladr_distinct.specs.Names.{NamesItem}
use Rattle.ladr_distinct.specs.NamesPass.{names_run, names_in, names_at, name_in}
use Rattle.ladr_reader.specs.Table.{table_of}
use Rattle.ladr_distinct.specs.declared.bracketed.NamesPlace.TheVariants.{AtStart}
use Rattle.ladr_distinct.proofs.NamesPass.{names_bad, names_end, names_run_more, names_in_more, name_kept, run_item, quoted_listed, lexeme_at}
use Rattle.ladr_reader.proofs.Runs.{lexemes_length}
use Rattle.ladr_distinct.proofs.bracketed.read_names.Goals as goal

within : (tokens : List Token) (i : ℕ) → i < length tokens → i < length (lexemes_of tokens)
within tokens i h = omega (arith, h, lexemes_length tokens)

pub returns-in-None-clause-fault : goal.returns-in-None-clause-fault
returns-in-None-clause-fault c =
    let g = table_of c.args.ops.now in
    let ts = lexemes_of c.args.tokens.now in
    let lt = within c.args.tokens.now c.loop-i.i c.loop-i-test.true in
    names_bad g (quoted_listed c.args.ops.now c.rows_are_lawful.ensures) ts c.loop-i.i c.loop-i.place (omega arith) c.loop-i.invariant.run
    (names_run_more g ts c.loop-i.i (lexeme_of c.index-tokens-i.result) c.loop-i.place lt (lexeme_at c.args.tokens.now c.loop-i.i c.index-tokens-i.result c.loop-i-test.true c.index-tokens-i.is) c.loop-i.invariant.run
    ∙ cc)

pub loop-i-preserved : goal.loop-i-preserved
loop-i-preserved c =
    let g = table_of c.args.ops.now in
    let ts = lexemes_of c.args.tokens.now in
    let lt = within c.args.tokens.now c.loop-i.i c.loop-i-test.true in
    let here = lexeme_at c.args.tokens.now c.loop-i.i c.index-tokens-i.result c.loop-i-test.true c.index-tokens-i.is in
    record {
      run = names_run_more g ts c.loop-i.i (lexeme_of c.index-tokens-i.result) c.loop-i.place lt here c.loop-i.invariant.run ∙ cc;
      names = c.in_ok-keep.ensures
          ∙ ap (λ r. c.loop-i.names ++ name_in r (token_text c.index-tokens-i.result)) c.of-role.ensures
          ∙ ap (λ (ns : List (List ℕ)). c.loop-i.names ++ ns) (sym (name_kept g (token_kind c.index-tokens-i.result) (token_text c.index-tokens-i.result)))
          ∙ sym (names_in_more g ts c.loop-i.i (lexeme_of c.index-tokens-i.result) lt here
          ∙ ap (λ (ns : List (List ℕ)). ns ++ names_at g (lexeme_of c.index-tokens-i.result)) (sym c.loop-i.invariant.names));
    }

pub returns-in-BehindStop-clause-read : goal.returns-in-BehindStop-clause-read
returns-in-BehindStop-clause-read c =
    let g = table_of c.args.ops.now in
    let ts = lexemes_of c.args.tokens.now in
    let whole : take c.loop-i.i ts ≡ ts = take_all c.loop-i.i ts (omega (arith, lexemes_length c.args.tokens.now)) in
    let run = ap (λ (us : List Lexeme). names_run g (Some AtStart) us) (sym whole) ∙ c.loop-i.invariant.run ∙ ap Some c.in-BehindStop.is in
    subst (λ (ns : List (List ℕ)). NamesItem g ts ns) (ap (λ (us : List Lexeme). names_in g us) (sym whole) ∙ sym c.loop-i.invariant.names) (run_item g ts run)

pub returns-in_default-clause-fault : goal.returns-in_default-clause-fault
returns-in_default-clause-fault c =
    let k : c.loop-i.i ≡ length c.args.tokens.now = omega arith in
    names_end (table_of c.args.ops.now) (quoted_listed c.args.ops.now c.rows_are_lawful.ensures) (lexemes_of c.args.tokens.now) (length c.args.tokens.now) c.loop-i.place
    (lexemes_length c.args.tokens.now) (rw k at c.loop-i.invariant.run) c.in_default.not-BehindStop
