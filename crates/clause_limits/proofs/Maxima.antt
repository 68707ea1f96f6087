-- When the greater of two numbers passes a limit.
use Rattle.std.proofs.Common.{◌≡◌, ℕ, ◌<◌, ◌≤◌, Bool, true, false, nat_lt, max, ◌||◌, refl, arith}
use Rattle.std.proofs.lemmas.Bool.{lt-ltb, ltb-true, le-ltb, ltb-false}

pub lt_max : (n a b : ℕ) → nat_lt n (max a b) ≡ (nat_lt n a || nat_lt n b)
lt_max n a b = by (nat_lt n a) refl (nat_lt n b) refl
  where
    by : (x : Bool) → nat_lt n a ≡ x → (y : Bool) → nat_lt n b ≡ y → nat_lt n (max a b) ≡ (x || y)
    by true e y f = let h : n < a = ltb-true n a e in lt-ltb n (max a b) (omega (arith, h))
    by false e true f = let h : n < b = ltb-true n b f in lt-ltb n (max a b) (omega (arith, h))
    by false e false f = let h : a ≤ n = ltb-false n a e in let k : b ≤ n = ltb-false n b f in le-ltb n (max a b) (omega (arith, h, k))
