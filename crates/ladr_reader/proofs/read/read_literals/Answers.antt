use Rattle.std.proofs.Common.{ap, ◌∙◌, sym}
use Rattle.std.specs.Option.{option_map}
use Rattle.std.proofs.lemmas.Result.{err_from_is_err_and}
use Rattle.fol_core.specs.RawView.{raw_list}
use Rattle.ladr_reader.proofs.Levels.{built_some, built_none}
use Rattle.ladr_reader.proofs.Runs.{deep_as}
use Rattle.ladr_reader.proofs.read.read_literals.Goals as goal

pub returns-in_err-_open-clause-fault : goal.returns-in_err-_open-clause-fault
returns-in_err-_open-clause-fault c =
    let p = err_from_is_err_and c.from_residual.result c.from_residual.ensures.1 in
    rw (p.1, p.2) (deep_as (λ t d. d) _ _ _ c.in_err-_open.ensures.fault)

pub returns-in-Some : goal.returns-in-Some
returns-in-Some c =
    let read = c.in_ok-_open.ensures.read in
    let found = ap (option_map (λ literals. raw_list literals.items)) (sym c.in-Some.is) ∙ c.in_ok-literals.ensures ∙ read.term_is in
    let some = built_some c.args.most read.tree (raw_list c.in-Some.literals.items) found in
    record { read = (read.tree, read.item, some.0); shallow = some.1; fault = tt }

pub returns : goal.returns
returns c =
    let read = c.in_ok-_open.ensures.read in
    let found = ap (option_map (λ literals. raw_list literals.items)) (sym c.in-None.is) ∙ c.in_ok-literals.ensures ∙ read.term_is in
    record { read = tt; shallow = tt; fault = (read.tree, read.item, built_none c.args.most read.tree found) }
