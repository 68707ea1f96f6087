-- The tokens before the delimiter are read with a full stop behind them.
use Rattle.std.proofs.Common.{◌≡◌, ℕ, ◌<◌, ◌++◌, ◌∷◌, [], List, take, length, ap, ◌∙◌, sym, subst, arith}
use Rattle.std.specs.Option.{option_map}
use Rattle.std.proofs.lemmas.Result.{err_from_is_err_and}
use Rattle.fol_core.specs.RawTree.{RawTree, depth}
use Rattle.fol_core.specs.RawView.{raw_of}
use Rattle.ladr_lex.specs.Lexeme.{Lexeme, full_stop, lexemes_of}
use Rattle.ladr_lex.specs.declared.token.Token.{Token}
use Rattle.ladr_reader.specs.Capped.{whole_of}
use Rattle.ladr_reader.specs.Faults.{IsFaultWhere}
use Rattle.ladr_reader.specs.Fronts.{stopped, term_run}
use Rattle.ladr_reader.specs.Reads.{Item}
use Rattle.ladr_reader.specs.Table.{OperatorTable, table_of}
use Rattle.ladr_reader.specs.declared.fault.TermFault.{TermFault}
use Rattle.ladr_reader.proofs.Levels.{whole_built, capped_some, capped_none}
use Rattle.ladr_reader.proofs.Runs.{deep_as, lexemes_length}
use Rattle.ladr_reader.proofs.Stopping.{lexemes_first, run_first, run_within, taken}
use Rattle.ladr_reader.proofs.front.read_front.Goals as goal

-- the tokens read are those before the delimiter
front_is : (n : ℕ) (tokens : List Token) → n ≡ length (term_run 0 (lexemes_of tokens)) → lexemes_of (take n tokens) ++ full_stop ∷ [] ≡ stopped (lexemes_of tokens)
front_is n tokens e = ap (λ us. us ++ full_stop ∷ []) (lexemes_first n tokens ∙ ap (λ k. take k (lexemes_of tokens)) e ∙ run_first 0 (lexemes_of tokens))

-- so is their fault
fault_is :
    (n : ℕ) (tokens : List Token) → n ≡ length (term_run 0 (lexemes_of tokens)) → (g : OperatorTable) (most : ℕ) (f : TermFault) →
    IsFaultWhere (λ t. ⊥) g (lexemes_of (take n tokens) ++ full_stop ∷ []) f → IsFaultWhere (λ t. most < depth t) g (stopped (lexemes_of tokens)) f
fault_is n tokens e g most f h =
    deep_as (λ t d. absurd d) g (stopped (lexemes_of tokens)) f (subst (λ (ts : List Lexeme). IsFaultWhere (λ t. ⊥) g ts f) (front_is n tokens e) h)

pub slice_bounds-read_run-end : goal.slice_bounds-read_run-end
slice_bounds-read_run-end c =
    taken c.run_len-len.result c.args.tokens.now (omega (arith, c.run_len-len.ensures, run_within 0 (lexemes_of c.args.tokens.now), lexemes_length c.args.tokens.now))

pub returns-in_err-read_run-clause-fault : goal.returns-in_err-read_run-clause-fault
returns-in_err-read_run-clause-fault c =
    let p = err_from_is_err_and c.from_residual.result c.from_residual.ensures.1 in
    rw (p.1, p.2) (fault_is c.run_len-len.result c.args.tokens.now c.run_len-len.ensures (table_of c.args.ops.now) c.args.most _ c.in_err-read_run.ensures.fault)

pub returns-in-Some-clause-read : goal.returns-in-Some-clause-read
returns-in-Some-clause-read c =
    let read = c.in_ok-read_run.ensures.read in
    let tree = c.in_ok-take_whole.ensures ∙ ap (whole_of c.args.most) read.2 ∙ whole_built c.args.most read.0 in
    let some = capped_some c.args.most read.0 (raw_of c.in-Some.raw) (ap (option_map raw_of) (sym c.in-Some.is) ∙ c.into_tree.ensures ∙ tree) in (
      subst (λ (ts : List Lexeme). Item (table_of c.args.ops.now) ts (raw_of c.in-Some.raw)) (front_is c.run_len-len.result c.args.tokens.now c.run_len-len.ensures) (subst (λ (t : RawTree). Item (table_of c.args.ops.now) (lexemes_of (take c.run_len-len.result c.args.tokens.now) ++ full_stop ∷ []) t) some.0 read.1),
      c.run_len-len.ensures,
    )

pub returns-in-Some-clause-shallow : goal.returns-in-Some-clause-shallow
returns-in-Some-clause-shallow c =
    let read = c.in_ok-read_run.ensures.read in
    let tree = c.in_ok-take_whole.ensures ∙ ap (whole_of c.args.most) read.2 ∙ whole_built c.args.most read.0 in
    let some = capped_some c.args.most read.0 (raw_of c.in-Some.raw) (ap (option_map raw_of) (sym c.in-Some.is) ∙ c.into_tree.ensures ∙ tree) in
    some.1

pub returns-clause-fault : goal.returns-clause-fault
returns-clause-fault c =
    let read = c.in_ok-read_run.ensures.read in
    let tree = c.in_ok-take_whole.ensures ∙ ap (whole_of c.args.most) read.2 ∙ whole_built c.args.most read.0 in
    let deep = capped_none c.args.most read.0 (ap (option_map raw_of) (sym c.in-None.is) ∙ c.into_tree.ensures ∙ tree) in
    (read.0, subst (λ (ts : List Lexeme). Item (table_of c.args.ops.now) ts read.0) (front_is c.run_len-len.result c.args.tokens.now c.run_len-len.ensures) read.1, deep)
