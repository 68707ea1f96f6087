use Rattle.std.proofs.Common.{◌≡◌, inr, refl, subst}
use Rattle.std.proofs.lemmas.Result.{err_from_is_err_and}
use Rattle.ladr_io.proofs.StreamLaws.{Takes-none}
use Rattle.ladr_mace4.specs.ItemTexts.{IsPrinted}
use Rattle.ladr_mace4.specs.Skolems.{all_symbols}
use Rattle.model_tables.specs.ModelText.{model_text}
use Rattle.model_tables.specs.Tables.{Finite}
use Rattle.ladr_mace4.proofs.models.show.Goals as goal

pub returns-in_err-tables : goal.returns-in_err-tables
returns-in_err-tables g c =
    let p = err_from_is_err_and c.from_residual.result c.from_residual.ensures.1 in
    rw (p.1, p.2) (inr (refl, Takes-none _))

pub returns : goal.returns
returns g c =
    subst (λ (t : Finite). IsPrinted (λ text. text ≡ model_text (all_symbols c.args.asked.now) c.args.number t) (g.K.Sink.outflow c.args.sink.now) (g.K.Sink.outflow c.print_item.new.sink) c.print_item.result) c.in_ok-tables.ensures c.print_item.ensures
