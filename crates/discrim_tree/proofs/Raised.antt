-- One test more.
use Rattle.std.proofs.Common.{◌≡◌, ℕ, ◌+◌, ◌<◌, ◌≤◌, ◌⊎◌, inl, inr, arith}
use Rattle.std.proofs.lemmas.Bool.{cases_lt}
use Rattle.std.proofs.lemmas.Bool.Decides.{nat_tests}
use Rattle.discrim_tree.specs.Tries.{greatest, raised, HasRisen}

pub raised_on : (n : ℕ) → n ≤ raised n
raised_on n = grind (arith, nat_tests)

pub raised_within : (n : ℕ) → raised n ≤ n + 1
raised_within n = grind (arith, nat_tests)

pub raised_more : (i old now : ℕ) → HasRisen i old now → HasRisen (i + 1) old (raised now)
raised_more i old now h = by (cases_lt now greatest)
  where
    by : (now < greatest) ⊎ (greatest ≤ now) → HasRisen (i + 1) old (raised now)
    by (inl l) = λ k. omega (arith, h l, is_raised l)
      where
        is_raised : now < greatest → raised now ≡ now + 1
        is_raised m = grind (arith, nat_tests)
    by (inr l) = λ k. absurd (omega (arith, k, same l, l))
      where
        same : greatest ≤ now → raised now ≡ now
        same m = grind (arith, nat_tests)
