use Rattle.std.proofs.Common.{ℕ, ◌∷◌, [], ◌++◌, List, map, sym, ap, ◌∙◌, arith}
use Rattle.std.specs.List.{range_with_len}
use Rattle.std.proofs.lemmas.List.FromFn.{map-range_with_len_more}
use Rattle.fol_core.specs.SymbolTable.{kind_at}
use Rattle.fol_core.specs.declared.symbols.Kind.{Kind}
use Rattle.model_tables.specs.Tables.{Listing, listing, row_of}
use Rattle.cell_search.specs.Finites.{finite_of}
use Rattle.cell_search.proofs.Tabling.{row_is}
use Rattle.cell_search.proofs.tables.finite.Goals as goal

pub loop-number-preserved : goal.loop-number-preserved
loop-number-preserved c =
    let w = c.args.setup.now in
    let es = c.args.trail.now.entries in
    let n = c.loop-number.number in
    let f : ℕ → Listing = λ s. listing (kind_at c.args.symbols.now s) (row_of (finite_of w es) s) in
    let values = c.in_ok-values.ensures ∙ sym (row_is w es n) in
    c.in_ok-push.ensures.items ∙ ap (λ (xs : List Listing). xs ++ c.new.result ∷ []) c.loop-number.invariant
    ∙ ap (λ (x : Listing). map f (range_with_len 0 n) ++ x ∷ []) (c.new.ensures ∙ ap (λ (k : Kind). listing k c.in_ok-values.values.items) c.kind.ensures ∙ ap (listing (kind_at c.args.symbols.now n)) values)
    ∙ sym (map-range_with_len_more f 0 n n (omega arith))
