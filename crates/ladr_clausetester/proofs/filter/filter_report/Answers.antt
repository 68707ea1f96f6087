use Rattle.fol_problem.specs.Stated.{stated_of}
use Rattle.ladr_clausetester.proofs.Told.{kept_length}
use Rattle.ladr_clausetester.proofs.filter.filter_report.Goals as goal

pub kept_texts-requires : goal.kept_texts-requires
kept_texts-requires c = rw c.deref.ensures.value (kept_length (stated_of c.args.problem.now) c.args.its.now c.in_ok-kept.kept.items c.in_ok-kept.ensures)
