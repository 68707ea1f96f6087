use Rattle.std.proofs.Common.{◌∙◌, sym}
use Rattle.ladr_distinct.proofs.NamesPass.{item_names}
use Rattle.ladr_distinct.proofs.laws.one_list_of_names.Goals as goal

pub returns : goal.returns
returns c = λ g ts ns ms a b. item_names g ts ns a ∙ sym (item_names g ts ms b)
