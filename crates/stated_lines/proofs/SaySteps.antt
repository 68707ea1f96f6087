-- Formulas of the problem with what they ask for, one after the other.
use Rattle.std.proofs.Common.{◌≡◌, ◌↔◌, IsTrue, inl, inr, ℕ, zero, suc, ◌+◌, ◌-◌, ◌<◌, ◌≤◌, ◌==◌, Bool, true, false, if◌then◌else◌, List, [], ◌∷◌, length, get_or, drop, Option, Some, None, unwrap_or, refl, sym, ap, ◌∙◌, subst, arith, add-one, drop-cons}
use Rattle.std.proofs.lemmas.Bool.{ne_eqb}
use Rattle.std.proofs.lemmas.List.{drop_all}
use Rattle.answered_lines.specs.Lines.{Asked, IsSaidWith, IsSome, IsStatedWith, HasItems, asked_at, counted}
use Rattle.derivation.specs.Lines.{is_goal, IsSaid, ContentTree, formula}
use Rattle.fol_core.specs.Fol.{Fol}
use Rattle.fol_problem.specs.declared.problem.Input.{Input}
use Rattle.stated_lines.specs.Held.{AsksFor, asked_input, asked_inputs}

pub asked_none : (own asks : List ℕ) → asks ≡ [] → (own ≡ asks) × HasItems asks → ⊥
asked_none own [] e h = h.1
asked_none own (k ∷ asks) e h = cc

pub asked_places : (own asks : List ℕ) → (asks ≡ [] → ⊥) → own ≡ asks → (own ≡ asks) × HasItems asks
asked_places own [] h e = absurd (h refl)
asked_places own (k ∷ asks) h e = (e, tt)

-- a formula is said where its kind, what it asks for and itself are right
pub said_same : (goal : Bool) (f : Fol) (asks : Option (List ℕ)) (s : Asked) → is_goal s.said.role ≡ goal → AsksFor asks s.places → s.said.formula ≡ f → IsSaidWith goal f asks s
said_same goal f None s h k e = (h, e)
said_same goal f (Some places) s h k e = ((h, e), k.0, k.1)

is_plain : (goal : Bool) (f : Fol) (asks : Option (List ℕ)) (s : Asked) → IsSaidWith goal f asks s → IsSaid goal f s.said
is_plain goal f None s h = h
is_plain goal f (Some places) s h = h.0

pub said_other : (goal : Bool) (f : Fol) (asks : Option (List ℕ)) (s : Asked) → (is_goal s.said.role ≡ goal → ⊥) → IsSaidWith goal f asks s → ⊥
said_other goal f asks s apart h = apart (is_plain goal f asks s h).0

pub said_differs : (goal : Bool) (f : Fol) (asks : Option (List ℕ)) (s : Asked) → (s.said.formula ≡ f → ⊥) → IsSaidWith goal f asks s → ⊥
said_differs goal f asks s apart h = apart (is_plain goal f asks s h).1

pub said_asks : (goal : Bool) (f : Fol) (asks : Option (List ℕ)) (s : Asked) → (AsksFor asks s.places → ⊥) → IsSaidWith goal f asks s → ⊥
said_asks goal f None s apart h = apart tt
said_asks goal f (Some places) s apart h = apart (h.1, h.2)

pub drop_next : {X : Type 0} (xs : List X) (i : ℕ) (x : X) → i < length xs → x ≡ get_or xs i x → drop i xs ≡ x ∷ drop (i + 1) xs
drop_next xs i x h is = rw (add-one, drop-cons xs i x) (ap (λ t. t ∷ drop (suc i) xs) (sym is))

-- what is among the inputs from one on is among all, and only there
pub record Among (goal : Bool) (f : Fol) (asks : Option (List ℕ)) (is : List Input) (i : ℕ) : Type 0 where
  pub there : IsSome (IsSaidWith goal f asks) (asked_inputs (drop i is)) → IsSome (IsSaidWith goal f asks) (asked_inputs is)
  pub only : IsSome (IsSaidWith goal f asks) (asked_inputs is) → IsSome (IsSaidWith goal f asks) (asked_inputs (drop i is))

pub among_start : (goal : Bool) (f : Fol) (asks : Option (List ℕ)) (is : List Input) → Among goal f asks is 0
among_start goal f asks is = record { there = λ h. h; only = λ h. h }

module _ (goal : Bool) (f : Fol) (asks : Option (List ℕ)) (is : List Input) (i : ℕ) where
  abbrev There : List Input → Type 0
  There ks = IsSome (IsSaidWith goal f asks) (asked_inputs ks)

  pub among_here : (x : Input) → Among goal f asks is i → i < length is → x ≡ get_or is i x → IsSaidWith goal f asks (asked_input x) → IsSome (IsSaidWith goal f asks) (asked_inputs is)
  among_here x among h at said = among.there (subst There (sym (drop_next is i x h at)) (inl said))

  pub among_behind : (x : Input) → Among goal f asks is i → i < length is → x ≡ get_or is i x → (IsSaidWith goal f asks (asked_input x) → ⊥) → Among goal f asks is (i + 1)
  among_behind x among h at apart = record {
    there = λ k. among.there (subst There (sym (drop_next is i x h at)) (inr k));
    only = λ k. elim (subst There (drop_next is i x h at) (among.only k)) [ inl said ↦ absurd (apart said) | inr rest ↦ rest ];
  }

  pub among_end : Among goal f asks is i → length is ≤ i → IsSome (IsSaidWith goal f asks) (asked_inputs is) → ⊥
  among_end among h k = subst There (drop_all i is h) (among.only k)

-- the input of a number
pub input_zero : (is : List Input) → asked_at (asked_inputs is) 0 ≡ None
input_zero [] = refl
input_zero (x ∷ is) = input_zero is

pub input_past : (is : List Input) (n : ℕ) → length is < n → asked_at (asked_inputs is) n ≡ None
input_past [] n h = refl
input_past (x ∷ is) n h = ap (λ b. if b then Some (asked_input x) else asked_at (asked_inputs is) (n - 1)) (ne_eqb n 1 (omega arith)) ∙ input_past is (n - 1) (omega arith)

pub input_there : (is : List Input) (n : ℕ) (d : Input) → 0 < n → n ≤ length is → asked_at (asked_inputs is) n ≡ Some (asked_input (get_or is (n - 1) d))
input_there [] n d h k = absurd (omega arith)
input_there (x ∷ is) zero d h k = absurd (omega arith)
input_there (x ∷ is) (suc zero) d h k = refl
input_there (x ∷ is) (suc (suc n)) d h k =
    ap (λ b. if b then Some (asked_input x) else asked_at (asked_inputs is) (suc (suc n) - 1)) (ne_eqb (suc (suc n)) 1 (omega arith))
    ∙ ap (asked_at (asked_inputs is)) less ∙ input_there is (suc n) d (omega arith) (omega arith)
    ∙ ap (λ m. Some (asked_input (get_or is m d))) again ∙ ap (λ m. Some (asked_input (get_or (x ∷ is) m d))) (sym less)
  where
    less : suc (suc n) - 1 ≡ suc n
    less = omega arith

    again : suc n - 1 ≡ n
    again = omega arith

-- an input of a number is among all
pub among_at : (P : Asked → Type 0) (ss : List Asked) (n : ℕ) (s : Asked) → Some s ≡ asked_at ss n → P s → IsSome P ss
among_at P [] n s there said = cc
among_at P (t ∷ ss) n s there said = by (n == 1) there (λ e. among_at P ss (n - 1) s e said)
  where
    by : (b : Bool) → Some s ≡ (if b then Some t else asked_at ss (n - 1)) → (Some s ≡ asked_at ss (n - 1) → IsSome P ss) → IsSome P (t ∷ ss)
    by true e rest = inl (subst P (ap (λ o. unwrap_or o s) e) said)
    by false e rest = inr (rest e)

-- where the attribute counts as what is compared, a content is stated where its formula is said
pub stated_where : (goal : Bool) (f : Fol) (content : ContentTree) (asks attribute : Option (List ℕ)) (ss : List Asked) (b : Bool) → content ≡ formula f → asks ≡ counted goal attribute
    → IsTrue b ↔ IsSome (IsSaidWith goal f asks) ss → IsTrue b ↔ IsStatedWith goal content attribute ss
stated_where goal f content asks attribute ss b is counts h =
    subst (λ (d : ContentTree). IsTrue b ↔ IsStatedWith goal d attribute ss) (sym is) (subst (λ (o : Option (List ℕ)). IsTrue b ↔ IsSome (IsSaidWith goal f o) ss) counts h)
