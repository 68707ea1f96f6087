use Rattle.std.proofs.Common.{List, sym, subst}
use Rattle.std.proofs.lemmas.Result.{err_from_is_err_and}
use Rattle.ladr_lex.specs.Cuts.{Piece}
use Rattle.ladr_lex.specs.Lexed.{lexed_from}
use Rattle.ladr_problem.specs.Draft.{sofar_of}
use Rattle.ladr_problem.specs.File.{File}
use Rattle.ladr_problem.specs.Items.{items_of, tokens_of}
use Rattle.ladr_problem.specs.Stops.{IsStop}
use Rattle.ladr_problem.proofs.CutLemmas.{items_ahead, no_items}
use Rattle.ladr_problem.proofs.Files.{stop_along}
use Rattle.ladr_problem.proofs.file.take_items.Goals as goal

pub returns-clause-ok : goal.returns-clause-ok
returns-clause-ok c = λ o f. c.loop-at.invariant o
    (subst (λ (items : List (List Piece)). File c.args.program c.args.end (sofar_of c.loop-at.draft) items o) (sym (no_items c.args.text.now.start c.args.text.now.bytes.now c.loop-at.at c.loop-at-test.false)) f)

pub returns-in_err-take_item-clause-stop : goal.returns-in_err-take_item-clause-stop
returns-in_err-take_item-clause-stop c =
    let start = c.args.text.now.start in
    let bytes = c.args.text.now.bytes.now in
    let rest = items_of (lexed_from start c.in_ok-at.at bytes) in
    let stop = c.in_err-take_item.field-0.0 in
    let front = c.in_err-take_item.ensures.stop rest in
    let here = subst (λ (items : List (List Piece)). IsStop (File c.args.program c.args.end (sofar_of c.loop-at.draft) items) stop) (sym (items_ahead start bytes _ c.loop-at.at c.in_ok-at.at c.in_ok-at.ensures)) front in
    let p = err_from_is_err_and c.from_residual-in_err-take_item.result c.from_residual-in_err-take_item.ensures.1 in
    rw (p.1, p.2) (stop_along (File c.args.program c.args.end (sofar_of c.loop-at.draft) (items_of (lexed_from start c.loop-at.at bytes))) (File c.args.program c.args.end (sofar_of c.args.draft.now) (items_of (tokens_of c.args.text.now))) c.loop-at.invariant stop here)

pub loop-at-preserved : goal.loop-at-preserved
loop-at-preserved c = λ o f.
    let start = c.args.text.now.start in
    let bytes = c.args.text.now.bytes.now in
    let rest = items_of (lexed_from start c.in_ok-at.at bytes) in
    let front = c.in_ok-take_item.ensures.ok rest o f in
    c.loop-at.invariant o
    (subst (λ (items : List (List Piece)). File c.args.program c.args.end (sofar_of c.loop-at.draft) items o) (sym (items_ahead start bytes _ c.loop-at.at c.in_ok-at.at c.in_ok-at.ensures)) front)
