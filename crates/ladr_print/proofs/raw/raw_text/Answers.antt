use Rattle.std.proofs.Common.{◌≡◌, ℕ, List, ◌++◌, sym, ap, ◌∙◌, subst}
use Rattle.fol_core.specs.RawView.{raw_of}
use Rattle.ladr_reader.specs.Table.{table_of}
use Rattle.ladr_print.specs.Precedences.{precedence}
use Rattle.ladr_print.specs.RawText.{text_of}
use Rattle.ladr_print.specs.ReadsAs.{ReadsAs}
use Rattle.ladr_print.proofs.Printing.{reads_back}
use Rattle.ladr_print.proofs.raw.raw_text.Goals as goal

pub returns-clause-back : goal.returns-clause-back
returns-clause-back c =
    λ other p r.
    let g = table_of c.args.ops.now in
    let t = raw_of c.args.raw.now in
    let same : c.write.new.out.items ≡ text_of g t = c.in_ok-write.ensures ∙ ap (λ (l : List ℕ). l ++ text_of g t) c.new-out.ensures.items in
    subst (λ (l : List ℕ). ReadsAs g l t (precedence g t)) (sym same) (reads_back c.args.ops.now other t p c.rows_are_lawful.ensures r)
