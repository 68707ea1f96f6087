-- Ways to take partners, of which each place of a nucleus has its own.
use Rattle.std.specs.Prelude.{ℕ, Bool, ◌==◌, ◌||◌, ◌≡◌, if◌then◌else◌, List, [], ◌∷◌, ◌++◌, map, flat_map, length, None, ◌<◌}
use Rattle.std.specs.List.{list_any}
use Rattle.fol_core.specs.Literals.{ClauseTree}
use Rattle.derivation.specs.Words.{clash_rule}
use Rattle.derivation.specs.declared.words.Satellite.{Satellite}
use Rattle.inference.specs.Judged.{clash_of}
use Rattle.proof_words.specs.Written.{WrittenFirst}
use Rattle.prover_steps.specs.Clashing.{Partner, Clashing, satellites_in}
use Rattle.prover_steps.specs.Concluded.{Conclusion, concluded, inferred}
use Rattle.resolution.specs.Meeting.{NeverClash}

-- a place with the partners that are tried for it
abbrev pub Tried : Type 0
Tried = ℕ × List Partner

-- all ways to take one of them for each place, that of the last place changing fastest
abbrev pub ways_of : List Tried → List Clashing
ways_of [] = [] ∷ []
ways_of (t ∷ ts) = flat_map (λ p. map (λ rest. (t.0, p) ∷ rest) (ways_of ts)) t.1

-- whether the clause of a number is taken
abbrev pub takes_number : ℕ → Clashing → Bool
takes_number g ms = list_any (λ m. g == m.1.0.number) ms

-- and whether it is among the partners that are tried
abbrev pub is_tried : ℕ → List Tried → Bool
is_tried g ts = list_any (λ t. list_any (λ p. g == p.0.number) t.1) ts

-- what comes of a nucleus with satellites and a way to go on, where the given clause takes part
abbrev pub comes_of : (List Satellite → WrittenFirst) → ℕ → Bool → List Satellite → List ClauseTree
    → Clashing → List Conclusion
comes_of word g used ss cs ms =
    if used || takes_number g ms
    then inferred (word (ss ++ satellites_in ms)) (cs ++ map (λ m. m.1.0.clause) ms)
    else []

-- with satellites nothing is concluded, and there is one at least
abbrev pub IsStuck : List Satellite → List ClauseTree → Type 0
IsStuck ss cs = (0 < length ss) × (concluded (clash_rule (map clash_of ss)) cs ≡ None)

-- Partners of which only such are left out as can't clash with the literal at a place: what these
-- give nothing of comes to the same.
abbrev pub StandFor : ClauseTree → ℕ → List Partner → List Partner → Type 0
StandFor c k few all =
    (f : Partner → List Conclusion) → ((p : Partner) → NeverClash c k p.0.clause p.1 → f p ≡ []) →
    flat_map f few ≡ flat_map f all

-- so at each place
abbrev pub StandForEach : ClauseTree → List Tried → List ℕ → List Partner → Type 0
StandForEach c [] [] all = Unit {0}
StandForEach c (t ∷ ts) (k ∷ ks) all =
    (t.0 ≡ k) × StandFor c k t.1 all × StandForEach c ts ks all
StandForEach c ts ks all = ⊥
