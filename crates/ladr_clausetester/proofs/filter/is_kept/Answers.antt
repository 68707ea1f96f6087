use Rattle.ladr_clausetester.proofs.Told.{all_or_not}
use Rattle.ladr_clausetester.proofs.filter.is_kept.Goals as goal

pub returns : goal.returns
returns c = rw (c.are_all.ensures, c.deref.ensures.value) (all_or_not _ _ _ c.in_ok-all.ensures)
