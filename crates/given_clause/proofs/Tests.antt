-- Tests of one element after the other.
use Rattle.std.proofs.Common.{◌≡◌, ℕ, ◌+◌, ◌<◌, ◌≤◌, Bool, true, false, ◌||◌, List, length, get_or, drop, map, ap, ◌∙◌}
use Rattle.std.proofs.lemmas.List.{drop_all}
use Rattle.std.specs.List.{list_any}
use Rattle.fol_core.specs.ClauseView.{literal_of}
use Rattle.fol_core.specs.Literals.{Lit}
use Rattle.fol_core.specs.declared.clause.Literal.{Literal}
use Rattle.given_clause.proofs.Going.{drop_next}

-- whether some element from a place on passes
pub some_here : {X : Type 0} (test : X → Bool) (xs : List X) (i : ℕ) (x : X) → i < length xs → x ≡ get_or xs i x → test x ≡ true → list_any test (drop i xs) ≡ true
some_here test xs i x h is e = ap (list_any test) (drop_next xs i x h is) ∙ ap (λ b. b || list_any test (drop (i + 1) xs)) e

pub some_behind : {X : Type 0} (test : X → Bool) (xs : List X) (i : ℕ) (x : X) → i < length xs → x ≡ get_or xs i x → test x ≡ false → list_any test (drop i xs) ≡ list_any test (drop (i + 1) xs)
some_behind test xs i x h is e = ap (list_any test) (drop_next xs i x h is) ∙ ap (λ b. b || list_any test (drop (i + 1) xs)) e

pub some_end : {X : Type 0} (test : X → Bool) (xs : List X) (i : ℕ) → length xs ≤ i → list_any test (drop i xs) ≡ false
some_end test xs i h = ap (list_any test) (drop_all i xs h)

-- literals likewise
abbrev pub literal_from : (Lit → Bool) → List Literal → ℕ → Bool
literal_from test ls i = list_any test (map literal_of (drop i ls))

pub literal_here : (test : Lit → Bool) (ls : List Literal) (i : ℕ) (l : Literal) → i < length ls → l ≡ get_or ls i l → test (literal_of l) ≡ true → literal_from test ls i ≡ true
literal_here test ls i l h is e = ap (λ ks. list_any test (map literal_of ks)) (drop_next ls i l h is) ∙ ap (λ b. b || literal_from test ls (i + 1)) e

pub literal_behind : (test : Lit → Bool) (ls : List Literal) (i : ℕ) (l : Literal) → i < length ls → l ≡ get_or ls i l → test (literal_of l) ≡ false → literal_from test ls i ≡ literal_from test ls (i + 1)
literal_behind test ls i l h is e = ap (λ ks. list_any test (map literal_of ks)) (drop_next ls i l h is) ∙ ap (λ b. b || literal_from test ls (i + 1)) e

pub literal_end : (test : Lit → Bool) (ls : List Literal) (i : ℕ) → length ls ≤ i → literal_from test ls i ≡ false
literal_end test ls i h = ap (λ ks. list_any test (map literal_of ks)) (drop_all i ls h)
