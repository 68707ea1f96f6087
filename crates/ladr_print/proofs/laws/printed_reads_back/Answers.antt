use Rattle.ladr_print.proofs.Printing.{reads_back, is_item}
use Rattle.ladr_print.proofs.laws.printed_reads_back.Goals as goal

pub returns : goal.returns
returns c = record { term = reads_back; item = is_item }
