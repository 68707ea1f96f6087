use Rattle.std.proofs.Common.{◌≡◌, ℕ, ◌+◌, ◌*◌, length, slice_index, refl, ap, ◌∙◌, arith}
use Rattle.model_tables.specs.Tables.{place_from}
use Rattle.model_tables.proofs.Places.{both_past, capped}
use Rattle.model_tables.proofs.evaluate.onward.Goals as goal

pub returns-in-None : goal.returns-in-None
returns-in-None c = λ xs. both_past _ _ _ _ xs c.requires (omega arith) (omega (arith, c.in-None.ensures))

pub returns-in-None-checked_add : goal.returns-in-None-checked_add
returns-in-None-checked_add c = λ xs. both_past _ _ _ _ xs c.requires (omega arith) (omega (arith, c.in-None-checked_add.ensures, c.in-Some.ensures))

pub returns-in-Some-checked_add : goal.returns-in-Some-checked_add
returns-in-Some-checked_add c = λ xs.
    let row = c.args.row.now in
    let e : c.in-Some-checked_add.next ≡ c.args.place * c.args.size + c.args.x = c.in-Some-checked_add.ensures.1 ∙ ap (λ (n : ℕ). n + c.args.x) c.in-Some.ensures.1 in
    rw c.min.ensures (capped row c.args.size c.in-Some-checked_add.next (length row) xs c.requires refl ∙ ap (λ (n : ℕ). slice_index row (place_from c.args.size n xs)) e)
