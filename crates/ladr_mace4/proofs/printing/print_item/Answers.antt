use Rattle.ladr_mace4.proofs.Items.{text_printed}
use Rattle.ladr_mace4.specs.ItemTexts.{IsItemText}
use Rattle.ladr_mace4.proofs.printing.print_item.Goals as goal

pub returns : goal.returns
returns g c = text_printed (IsItemText c.args.asked.now c.args.item) c.text_of.result _ _ c.piece.result c.text_of.ensures c.piece.ensures.printed c.piece.ensures.lacking
