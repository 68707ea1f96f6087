use Rattle.plain_search.proofs.Solved.{closure_keeps, closure_refutes, all_at_first}
use Rattle.plain_search.proofs.laws.closing_is_sound.Goals as goal

pub returns-clause-first : goal.returns-clause-first
returns-clause-first c = all_at_first

pub returns-clause-keeps : goal.returns-clause-keeps
returns-clause-keeps c = closure_keeps

pub returns-clause-refutes : goal.returns-clause-refutes
returns-clause-refutes c = closure_refutes
