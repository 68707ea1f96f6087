-- Clauses taken out one after the other.
use Rattle.std.proofs.Common.{◌≡◌, ℕ, ◌+◌, ◌<◌, ◌==◌, Bool, true, false, not, ◌||◌, if◌then◌else◌, List, [], ◌∷◌, ◌++◌, length, get_or, take, filter, refl, sym, ap, ◌∙◌, ne_eqb}
use Rattle.std.specs.List.{list_any}
use Rattle.std.proofs.lemmas.List.{take_more}
use Rattle.prover_steps.specs.Clashing.{Held, is_same_held}
use Rattle.prover_steps.specs.HeldOrder.{numbers_of, IsNoneOf}
use Rattle.prover_steps.specs.Searching.{put_in, held_without}
use Rattle.std.proofs.Common.{nat_lt, eq-eqb}

abbrev pub but_for : ℕ → List Held → List Held
but_for n hs = filter (λ h. not (h.number == n)) hs

-- none at first
pub none_gone : (hs : List Held) → held_without [] hs ≡ hs
none_gone [] = refl
none_gone (h ∷ hs) = ap (λ ks. h ∷ ks) (none_gone hs)

any_more : (h g : Held) (gone : List Held) → list_any (is_same_held h) (gone ++ g ∷ []) ≡ (list_any (is_same_held h) gone || (h.number == g.number))
any_more h g [] = by (h.number == g.number)
  where
    by : (b : Bool) → (b || false) ≡ b
    by true = refl
    by false = refl
any_more h g (k ∷ gone) = by (is_same_held h k) (any_more h g gone)
  where
    by : (b : Bool) → list_any (is_same_held h) (gone ++ g ∷ []) ≡ (list_any (is_same_held h) gone || (h.number == g.number))
        → (b || list_any (is_same_held h) (gone ++ g ∷ [])) ≡ ((b || list_any (is_same_held h) gone) || (h.number == g.number))
    by true rest = refl
    by false rest = rest

one_gone : (g : Held) (gone hs : List Held) → but_for g.number (held_without gone hs) ≡ held_without (gone ++ g ∷ []) hs
one_gone g gone [] = refl
one_gone g gone (h ∷ hs) =
    by (list_any (is_same_held h) gone) (h.number == g.number) refl (one_gone g gone hs)
    ∙ sym (ap (λ b. if not b then h ∷ held_without (gone ++ g ∷ []) hs else held_without (gone ++ g ∷ []) hs) (any_more h g gone))
  where
    by : (b c : Bool) → (h.number == g.number) ≡ c → but_for g.number (held_without gone hs) ≡ held_without (gone ++ g ∷ []) hs
        → but_for g.number (if not b then h ∷ held_without gone hs else held_without gone hs) ≡ (if not (b || c) then h ∷ held_without (gone ++ g ∷ []) hs else held_without (gone ++ g ∷ []) hs)
    by true c e rest = rest
    by false true e rest = ap (λ d. if not d then h ∷ but_for g.number (held_without gone hs) else but_for g.number (held_without gone hs)) e ∙ rest
    by false false e rest = ap (λ d. if not d then h ∷ but_for g.number (held_without gone hs) else but_for g.number (held_without gone hs)) e ∙ ap (λ ks. h ∷ ks) rest

-- and then one more
pub next_gone : (gone hs now new : List Held) (i : ℕ) (g : Held) → i < length gone → g ≡ get_or gone i g → now ≡ held_without (take i gone) hs → new ≡ but_for g.number now → new ≡ held_without (take (i + 1) gone) hs
next_gone gone hs now new i g within is before taken =
    taken ∙ ap (but_for g.number) before ∙ one_gone g (take i gone) hs
    ∙ ap (λ gs. held_without gs hs) (sym (take_more gone i g within ∙ ap (λ k. take i gone ++ k ∷ []) (sym is)))

-- what is put in and taken out again leaves the list as it was
none_but : (n : ℕ) (hs : List Held) → IsNoneOf n (numbers_of hs) → but_for n hs ≡ hs
none_but n [] none = refl
none_but n (h ∷ hs) none = ap (λ b. if not b then h ∷ but_for n hs else but_for n hs) (ne_eqb h.number n (λ same. none.0 (sym same))) ∙ ap (λ ks. h ∷ ks) (none_but n hs none.1)

put_but : (h : Held) (hs : List Held) → but_for h.number (put_in h hs) ≡ but_for h.number hs
put_but h [] = ap (λ b. if not b then h ∷ [] else []) (eq-eqb h.number h.number refl)
put_but h (k ∷ hs) = by (nat_lt h.number k.number) (put_but h hs)
  where
    behind : (b : Bool) → but_for h.number (put_in h hs) ≡ but_for h.number hs
        → (if not b then k ∷ but_for h.number (put_in h hs) else but_for h.number (put_in h hs)) ≡ (if not b then k ∷ but_for h.number hs else but_for h.number hs)
    behind true rest = rest
    behind false rest = ap (λ ks. k ∷ ks) rest

    by : (b : Bool) → but_for h.number (put_in h hs) ≡ but_for h.number hs → but_for h.number (if b then h ∷ k ∷ hs else k ∷ put_in h hs) ≡ but_for h.number (k ∷ hs)
    by true rest = ap (λ b. if not b then h ∷ but_for h.number (k ∷ hs) else but_for h.number (k ∷ hs)) (eq-eqb h.number h.number refl)
    by false rest = behind (k.number == h.number) rest

pub taken_back : (h : Held) (hs : List Held) → IsNoneOf h.number (numbers_of hs) → but_for h.number (put_in h hs) ≡ hs
taken_back h hs none = put_but h hs ∙ none_but h.number hs none
