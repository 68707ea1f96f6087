use Rattle.std.proofs.Common.{◌≡◌}
use Rattle.ladr_words.specs.declared.task.WordsError.TheVariants.{NoCommand}
use Rattle.ladr_words.proofs.Simple.{found_by, taken_by, refused_by}
use Rattle.ladr_words.proofs.words.parsed.Goals as goal

pub returns-in-Ok-clause-found : goal.returns-in-Ok-clause-found
returns-in-Ok-clause-found c = found_by _ _ _ c.in_ok-ladr.ensures c.in-Ok.ensures.matches

pub returns-in-Ok-clause-taken : goal.returns-in-Ok-clause-taken
returns-in-Ok-clause-taken c = taken_by _ _ c.in_ok-ladr.ensures c.in-Ok.ensures.kinds

pub returns-in-Err-clause-refused : goal.returns-in-Err-clause-refused
returns-in-Err-clause-refused c = λ refused.
    let other : c.cause.result ≡ NoCommand = cc in
    refused_by _ _ c.in-Err.error c.in_ok-ladr.ensures c.in-Err.ensures.kinds (c.cause.ensures other)
