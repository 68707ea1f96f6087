-- What is left of a rising list where a value is kept alone, or taken away.
use Rattle.std.proofs.Common.{◌≡◌, ℕ, ◌==◌, Bool, true, false, not, if◌then◌else◌, List, [], ◌∷◌, None, Some, inl, inr, refl, sym, ap, ◌∙◌, subst, arith}
use mathlib.Core.Bool.{beq}
use Rattle.mace_ground.specs.Cells.{Cell}
use Rattle.plain_search.proofs.Rising.{kept_among, rising_filter, same_rising}
use Rattle.plain_search.proofs.Sounding.{among_kept, same_cell}
use Rattle.plain_search.specs.Closing.{kept, narrowed, followed, asks}
use Rattle.plain_search.specs.Lefts.{ValuesLeft, IsAmong, is_same_cell, with_left}
use Rattle.plain_search.specs.Orders.{IsRisingFrom}

pub none_among : (xs : List ℕ) → ((x : ℕ) → IsAmong x xs → ⊥) → xs ≡ []
none_among [] h = refl
none_among (x ∷ xs) h = absurd (h x (inl refl))

-- a rising list of one number
pub one_among : (a v : ℕ) (xs : List ℕ) → IsRisingFrom a xs → IsAmong v xs → ((x : ℕ) → IsAmong x xs → x ≡ v) → xs ≡ v ∷ []
one_among a v xs rising there all =
    same_rising a v xs (v ∷ []) rising (omega arith, tt) (λ x i. inl (all x i))
    (λ x i. elim i [ inl same ↦ subst (λ (y : ℕ). IsAmong y xs) (sym same) there | inr away ↦ absurd away ])

pub keeps_one : (a v : ℕ) (us : List ℕ) → IsRisingFrom a us → IsAmong v us → kept true v us ≡ v ∷ []
keeps_one a v us rising there =
    one_among a v (kept true v us) (rising_filter (λ u. u == v) a us rising) (among_kept true v v us refl there) (λ x i. (kept_among true v x us i).1)

pub keeps_none : (v : ℕ) (us : List ℕ) → (IsAmong v us → ⊥) → kept true v us ≡ []
keeps_none v us away =
    none_among (kept true v us) (λ x i. let h = kept_among true v x us i in away (subst (λ (y : ℕ). IsAmong y us) h.1 h.0))

pub takes_none : (a v : ℕ) (us : List ℕ) → IsRisingFrom a us → (IsAmong v us → ⊥) → kept false v us ≡ us
takes_none a v us rising away =
    same_rising a a (kept false v us) us (rising_filter (λ u. not (u == v)) a us rising) rising (λ x i. (kept_among false v x us i).0)
    (λ x i. among_kept false x v us (λ same. away (subst (λ (y : ℕ). IsAmong y us) same i)) i)

-- a cell that keeps what it has
same_put : (p : ValuesLeft) (c : Cell) (us : List ℕ) → p c ≡ us → with_left p c us ≡ p
same_put p c us here = λ i d. (at d (is_same_cell c d) refl) i
  where
    at : (d : Cell) (b : Bool) → is_same_cell c d ≡ b → (if b then us else p d) ≡ p d
    at d true e = sym here ∙ ap p (same_cell c d e)
    at d false e = refl

pub narrowed_some : (p : ValuesLeft) (c : Cell) (us : List ℕ) (x : ℕ) → IsAmong x us → narrowed p c us ≡ Some (with_left p c us)
narrowed_some p c [] x i = absurd i
narrowed_some p c (u ∷ us) x i = refl

pub unchanged : (p : ValuesLeft) (c : Cell) (us : List ℕ) (x : ℕ) → p c ≡ us → IsAmong x us → narrowed p c us ≡ Some p
unchanged p c us x here i = narrowed_some p c us x i ∙ ap Some (same_put p c us here)

-- what is asked of a cell that has a value
pub asked_given : (p : ValuesLeft) (c : Cell) (x v : ℕ) (positive : Bool) → p c ≡ x ∷ [] → followed p (asks c v positive) ≡ (if beq (x == v) positive then Some p else None)
asked_given p c x v positive here =
    ap (λ (us : List ℕ). narrowed p c (kept positive v us)) here ∙ by positive (x == v) refl
  where
    stays : narrowed p c (x ∷ []) ≡ Some p
    stays = unchanged p c (x ∷ []) x here (inl refl)

    by : (positive b : Bool) → (x == v) ≡ b → narrowed p c (kept positive v (x ∷ [])) ≡ (if beq b positive then Some p else None)
    by true true e = ap (λ (t : Bool). narrowed p c (if t then x ∷ [] else [])) e ∙ stays
    by true false e = ap (λ (t : Bool). narrowed p c (if t then x ∷ [] else [])) e
    by false true e = ap (λ (t : Bool). narrowed p c (if not t then x ∷ [] else [])) e
    by false false e = ap (λ (t : Bool). narrowed p c (if not t then x ∷ [] else [])) e ∙ stays
