use Rattle.std.proofs.Common.{ap, ◌∙◌, sym, subst}
use Rattle.std.specs.Option.{option_map}
use Rattle.std.proofs.lemmas.Result.{err_from_is_err_and}
use Rattle.fol_core.specs.RawTree.{RawTree}
use Rattle.fol_core.specs.RawView.{raw_of}
use Rattle.ladr_lex.specs.Lexeme.{lexemes_of}
use Rattle.ladr_reader.specs.Capped.{whole_of}
use Rattle.ladr_reader.specs.Marks.{marked}
use Rattle.ladr_reader.specs.Reads.{Item}
use Rattle.ladr_reader.specs.Table.{table_of}
use Rattle.ladr_reader.proofs.Levels.{whole_built, capped_some, capped_none}
use Rattle.ladr_reader.proofs.Runs.{deep_as}
use Rattle.ladr_reader.proofs.read.read_marked.Goals as goal

pub returns-in_err-_open-clause-fault : goal.returns-in_err-_open-clause-fault
returns-in_err-_open-clause-fault c =
    let p = err_from_is_err_and c.from_residual.result c.from_residual.ensures.1 in
    rw (p.1, p.2) (deep_as (λ t d. d) _ _ _ c.in_err-_open.ensures.fault)

pub returns-in-Some : goal.returns-in-Some
returns-in-Some c =
    let read = c.in_ok-_open.ensures.read in
    let tree = c.in_ok-tree.ensures ∙ ap (whole_of c.args.most) read.term_is ∙ whole_built c.args.most read.tree in
    let some = capped_some c.args.most read.tree (raw_of c.in-Some.raw) (ap (option_map raw_of) (sym c.in-Some.is) ∙ c.into_tree.ensures ∙ tree) in
    record { read = subst (λ (t : RawTree). Item (table_of c.args.ops.now) (marked c.args.names.now (lexemes_of c.args.tokens.now)) t) some.0 read.item; shallow = some.1; fault = tt }

pub returns : goal.returns
returns c =
    let read = c.in_ok-_open.ensures.read in
    let tree = c.in_ok-tree.ensures ∙ ap (whole_of c.args.most) read.term_is ∙ whole_built c.args.most read.tree in
    let deep = capped_none c.args.most read.tree (ap (option_map raw_of) (sym c.in-None.is) ∙ c.into_tree.ensures ∙ tree) in
    record { read = tt; shallow = tt; fault = (read.tree, read.item, deep) }
