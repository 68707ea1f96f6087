use Rattle.ladr_print.proofs.Printing.{printed_reads, text_has}
use Rattle.ladr_print.proofs.laws.terms_have_texts.Goals as goal

pub returns : goal.returns
returns c = record { printed = λ rows t l h. printed_reads rows t l h; read = λ rows text t p r. text_has rows r }
