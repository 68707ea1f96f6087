use Rattle.std.proofs.Common.{◌≡◌, ℕ, zero, suc, ◌+◌, List, [], ◌∷◌, ◌++◌, map, take, Some, slice_get, sym, ap, ap₂, ◌∙◌, arith}
use Rattle.ladr_commands.specs.ByName.{ByName}
use Rattle.ladr_interpretations.specs.Good.{tables_for}
use Rattle.model_tables.specs.Tables.{Finite}
use Rattle.ladr_problem.proofs.read.all_tables.Goals as goal

-- one more
one_more : (f : ByName → Finite) (its : List ByName) (n : ℕ) (it : ByName) → slice_get its n ≡ Some it → map f (take (n + 1) its) ≡ map f (take n its) ++ f it ∷ []
one_more f [] n it e = absurd (cc)
one_more f (x ∷ xs) zero it e = let same : x ≡ it = cc in ap (λ y. f y ∷ []) same
one_more f (x ∷ xs) (suc n) it e = let k : suc n + 1 ≡ suc (n + 1) = omega arith in rw k (ap (λ ts. f x ∷ ts) (one_more f xs n it e))

pub loop-place-preserved : goal.loop-place-preserved
loop-place-preserved c =
    let one : c.in_ok-bind.field-0 ≡ tables_for c.at.result.now c.args.symbols.now = c.in_ok-bind.ensures in
    c.in_ok-push.ensures.items ∙ ap₂ (λ (ts : List Finite) (t : Finite). ts ++ t ∷ []) c.loop-place.invariant one
    ∙ sym (one_more (λ it. tables_for it c.args.symbols.now) c.args.its.now c.loop-place.place c.at.result.now c.at.ensures)
