use Rattle.std.proofs.Common.{sym}
use Rattle.ladr_problem.specs.File.{ends, open_list, open_block}
use Rattle.ladr_problem.proofs.Files.{none_there}
use Rattle.ladr_problem.proofs.file.take_all.Goals as goal

pub returns-then-is_some-clause-stop : goal.returns-then-is_some-clause-stop
returns-then-is_some-clause-stop c = c.in_ok-take_items.ensures.ok _ (open_list (sym c.if-is_some.ensures))

pub returns-then-is_some-2-clause-stop : goal.returns-then-is_some-2-clause-stop
returns-then-is_some-2-clause-stop c = c.in_ok-take_items.ensures.ok _ (open_block (sym c.if-is_some-2.ensures))

pub returns-clause-ok : goal.returns-clause-ok
returns-clause-ok c = c.in_ok-take_items.ensures.ok _ (ends (none_there _ (sym c.if-is_some.ensures)) (none_there _ (sym c.if-is_some-2.ensures)))
