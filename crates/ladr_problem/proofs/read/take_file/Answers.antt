use Rattle.std.proofs.lemmas.Result.{err_from_is_err_and, on_ok_weaker, IfErr-weaker}
use Rattle.ladr_problem.specs.Items.{items_of, tokens_of}
use Rattle.ladr_problem.specs.Draft.{sofar_of}
use Rattle.ladr_problem.proofs.Files.{stop_finished, tested_problem, tested_stop}
use Rattle.ladr_problem.proofs.read.take_file.Goals as goal

pub returns-in_err-take_all-clause-stop : goal.returns-in_err-take_all-clause-stop
returns-in_err-take_all-clause-stop c =
    let p = err_from_is_err_and c.from_residual.result c.from_residual.ensures.1 in
    rw (p.1, p.2) (stop_finished c.args.program c.args.end (sofar_of c.args.draft.now) (items_of (tokens_of c.args.text.now)) c.in_err-take_all.field-0.0 c.in_err-take_all.ensures.stop)

pub returns-in-Tester-clause-ok : goal.returns-in-Tester-clause-ok
returns-in-Tester-clause-ok c =
    on_ok_weaker c.test.result (tested_problem c.args.program c.in-Tester.is c.args.end (sofar_of c.args.draft.now) (sofar_of c.take_all.new.draft) (items_of (tokens_of c.args.text.now)) c.in_ok-take_all.ensures.ok) c.test.ensures.ok

pub returns-in-Tester-clause-stop : goal.returns-in-Tester-clause-stop
returns-in-Tester-clause-stop c =
    IfErr-weaker c.test.result _ _ (tested_stop c.args.program c.in-Tester.is c.args.end (sofar_of c.args.draft.now) (sofar_of c.take_all.new.draft) (items_of (tokens_of c.args.text.now)) c.in_ok-take_all.ensures.ok) c.test.ensures.stop
