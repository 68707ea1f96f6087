-- Tests of a clause's literals, one after the other.
use Rattle.std.proofs.Common.{◌≡◌, ℕ, ◌+◌, ◌<◌, ◌≤◌, Bool, true, false, ◌&&◌, ◌||◌, List, length, get_or, drop, map, ap, ◌∙◌}
use Rattle.std.proofs.lemmas.List.{drop_all}
use Rattle.std.specs.List.{list_all, list_any}
use Rattle.held_clauses.proofs.Items.{drop_item}
use Rattle.fol_core.specs.ClauseView.{literal_of}
use Rattle.fol_core.specs.Literals.{Lit}
use Rattle.fol_core.specs.declared.clause.Literal.{Literal}

-- whether some literal from a place on passes
abbrev pub some_from : (Lit → Bool) → List Literal → ℕ → Bool
some_from test ls i = list_any test (map literal_of (drop i ls))

some_step : (test : Lit → Bool) (ls : List Literal) (i : ℕ) (l : Literal) → i < length ls → l ≡ get_or ls i l → some_from test ls i ≡ (test (literal_of l) || some_from test ls (i + 1))
some_step test ls i l h is = ap (λ ks. list_any test (map literal_of ks)) (drop_item ls i l h is)

pub some_here : (test : Lit → Bool) (ls : List Literal) (i : ℕ) (l : Literal) → i < length ls → l ≡ get_or ls i l → test (literal_of l) ≡ true → some_from test ls i ≡ true
some_here test ls i l h is e = some_step test ls i l h is ∙ ap (λ b. b || some_from test ls (i + 1)) e

pub some_behind : (test : Lit → Bool) (ls : List Literal) (i : ℕ) (l : Literal) → i < length ls → l ≡ get_or ls i l → test (literal_of l) ≡ false → some_from test ls i ≡ some_from test ls (i + 1)
some_behind test ls i l h is e = some_step test ls i l h is ∙ ap (λ b. b || some_from test ls (i + 1)) e

pub some_end : (test : Lit → Bool) (ls : List Literal) (i : ℕ) → length ls ≤ i → some_from test ls i ≡ false
some_end test ls i h = ap (λ ks. list_any test (map literal_of ks)) (drop_all i ls h)

-- whether all do
abbrev pub all_from : (Lit → Bool) → List Literal → ℕ → Bool
all_from test ls i = list_all test (map literal_of (drop i ls))

all_step : (test : Lit → Bool) (ls : List Literal) (i : ℕ) (l : Literal) → i < length ls → l ≡ get_or ls i l → all_from test ls i ≡ (test (literal_of l) && all_from test ls (i + 1))
all_step test ls i l h is = ap (λ ks. list_all test (map literal_of ks)) (drop_item ls i l h is)

pub all_fails : (test : Lit → Bool) (ls : List Literal) (i : ℕ) (l : Literal) → i < length ls → l ≡ get_or ls i l → test (literal_of l) ≡ false → all_from test ls i ≡ false
all_fails test ls i l h is e = all_step test ls i l h is ∙ ap (λ b. b && all_from test ls (i + 1)) e

pub all_behind : (test : Lit → Bool) (ls : List Literal) (i : ℕ) (l : Literal) → i < length ls → l ≡ get_or ls i l → test (literal_of l) ≡ true → all_from test ls i ≡ all_from test ls (i + 1)
all_behind test ls i l h is e = all_step test ls i l h is ∙ ap (λ b. b && all_from test ls (i + 1)) e

pub all_end : (test : Lit → Bool) (ls : List Literal) (i : ℕ) → length ls ≤ i → all_from test ls i ≡ true
all_end test ls i h = ap (λ ks. list_all test (map literal_of ks)) (drop_all i ls h)
