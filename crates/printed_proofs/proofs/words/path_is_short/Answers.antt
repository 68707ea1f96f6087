use Rattle.std.proofs.lemmas.List.Elements.{All-from_get_or, recursion_from_All}
use Rattle.words_print.specs.Sayable.{IsShort}
use Rattle.printed_proofs.proofs.BoundedLists.{numbers_all}
use Rattle.printed_proofs.proofs.words.path_is_short.Goals as goal

pub returns : goal.returns
returns c =
    let ns = c.args.path.now in
    numbers_all ns (recursion_from_All IsShort ns (All-from_get_or IsShort ns 0 (λ k within. (c.type_inv.path k).fits)))
