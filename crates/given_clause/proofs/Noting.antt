-- Notes of clauses that wait.
use Rattle.std.proofs.Common.{◌≡◌, ℕ, zero, suc, ◌<◌, ◌==◌, Bool, true, false, not, if◌then◌else◌, List, [], ◌∷◌, length, get_or, map, filter, refl, sym, ap, ◌∙◌, arith}
use Rattle.std.specs.List.{insert}
use Rattle.clause_index.proofs.Places.{put_there}
use Rattle.clause_index.specs.Places.{IsPlaceOf}
use Rattle.given_clause.specs.Noted.{note_of}
use Rattle.given_clause.specs.declared.waiting.Note.{Note}
use Rattle.prover_steps.specs.Clashing.{Held}
use Rattle.prover_steps.specs.HeldOrder.{numbers_of, IsNoneOf}
use Rattle.prover_steps.specs.Searching.{Setting, put_in}

-- the note at the place of a clause
pub noted_at : (st : Setting) (hs : List Held) (i : ℕ) (h : Held) (n : Note) → i < length hs → h ≡ get_or hs i h → n ≡ get_or (map (note_of st) hs) i n → n ≡ note_of st h
noted_at st [] i h n within is at = absurd (omega (arith, within))
noted_at st (k ∷ hs) zero h n within is at = at ∙ ap (note_of st) (sym is)
noted_at st (k ∷ hs) (suc i) h n within is at = noted_at st hs i h n (omega (arith, within)) is at

-- one more
map_insert : {X Y : Type 0} (f : X → Y) (xs : List X) (i : ℕ) (x : X) → map f (insert xs i x) ≡ insert (map f xs) i (f x)
map_insert f xs zero x = refl
map_insert f [] (suc i) x = refl
map_insert f (y ∷ xs) (suc i) x = ap (λ ys. f y ∷ ys) (map_insert f xs i x)

pub noted_more : (st : Setting) (h : Held) (hs : List Held) (ns : List Note) (place : ℕ) (n : Note) → IsPlaceOf h.number hs place → IsNoneOf h.number (numbers_of hs) → ns ≡ map (note_of st) hs → n ≡ note_of st h
    → insert ns place n ≡ map (note_of st) (put_in h hs)
noted_more st h hs ns place n is none noted same =
    ap (λ ms. insert ms place n) noted ∙ ap (insert (map (note_of st) hs) place) same ∙ sym (map_insert (note_of st) hs place h) ∙ ap (map (note_of st)) (put_there h hs place is none)

-- one less
pub noted_less : (st : Setting) (number : ℕ) (hs : List Held) → filter (λ n. not (n.number == number)) (map (note_of st) hs) ≡ map (note_of st) (filter (λ h. not (h.number == number)) hs)
noted_less st number [] = refl
noted_less st number (h ∷ hs) = by (not (h.number == number)) (noted_less st number hs)
  where
    by : (b : Bool) → filter (λ n. not (n.number == number)) (map (note_of st) hs) ≡ map (note_of st) (filter (λ k. not (k.number == number)) hs)
        → (if b then note_of st h ∷ filter (λ n. not (n.number == number)) (map (note_of st) hs) else filter (λ n. not (n.number == number)) (map (note_of st) hs))
        ≡ map (note_of st) (if b then h ∷ filter (λ k. not (k.number == number)) hs else filter (λ k. not (k.number == number)) hs)
    by true rest = ap (λ ns. note_of st h ∷ ns) rest
    by false rest = rest
