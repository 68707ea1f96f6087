-- What a declaration that is answered says of its symbol.
use Rattle.std.proofs.Common.{◌≡◌, Bool, true, false, not, ◌&&◌, IsTrue, refl}
use Rattle.std.proofs.lemmas.Bool.{false≢true}
use Rattle.std.specs.Prelude.{OnOk}
use Rattle.std.specs.declared.result.Result.{Result}
use Rattle.std.specs.declared.result.Result.TheVariants.{Ok, Err}

pub second_holds : (a b : Bool) → IsTrue (not a && b) → b ≡ true
second_holds true b h = absurd (false≢true h)
second_holds false b h = h

pub neither_holds : (a b : Bool) → (IsTrue a → ⊥) → (IsTrue (not a && b) → ⊥) → b ≡ false
neither_holds true b h k = absurd (h refl)
neither_holds false true h k = absurd (k refl)
neither_holds false false h k = refl

pub none_holds : (a : Bool) → (IsTrue a → ⊥) → a ≡ false
none_holds true h = absurd (h refl)
none_holds false h = refl

-- what is so of each answer
pub where_ok : {T E P : Type 0} (r : Result T E) → ((x : T) → r ≡ Ok x → P) → OnOk r P
where_ok (Ok x) h = h x refl
where_ok (Err e) h = tt
