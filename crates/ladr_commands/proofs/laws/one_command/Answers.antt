use Rattle.std.proofs.Common.{◌∙◌, sym, ap}
use Rattle.ladr_commands.proofs.Forms.{read_of}
use Rattle.ladr_commands.proofs.laws.one_command.Goals as goal

pub returns : goal.returns
returns _ = λ f ts c d h i. ap (read_of c) (sym h ∙ i)
