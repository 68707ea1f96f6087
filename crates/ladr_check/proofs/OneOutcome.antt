-- What is offered comes out in one way.
use Rattle.std.proofs.Common.{◌≡◌, ◌<◌, ℕ, suc, List, [], ◌∷◌, ◌++◌, length, Some, None, refl, sym, ap, ap₂, ◌∙◌, subst, arith}
use Rattle.answered_lines.specs.Laws.{FaultIsNoneWith, FaultIsOneWith}
use Rattle.answered_lines.specs.Lines.{Asked, AnsweredRow, AnsweredLine, IsRefutationWith}
use Rattle.answered_lines.specs.Refused.{IsFaultWith}
use Rattle.derivation.specs.declared.row.Row.{Row}
use Rattle.ladr_check.specs.Outcomes.{AreRefutations, looked_at, IsNotAccepted, asked_formulas, answered_rows, EndIsOne}
use Rattle.ladr_check.specs.declared.ends.CheckEnd.TheVariants.{Accepted, NotAccepted, ClauseLimit}

heads : (x y : List AnsweredLine) (xs ys : List (List AnsweredLine)) → x ∷ xs ≡ y ∷ ys → (x ≡ y) × (xs ≡ ys)
heads x y xs ys e = (cc, cc)

module _ (ss : List Asked) (rows : List AnsweredRow) where
  abbrev Is : List AnsweredLine → Type 0
  Is = IsRefutationWith ss rows

  -- of two proofs that are no refutation, with refutations alone before each, both are the same one
  one_bad : (a b r s : List (List AnsweredLine)) (x y : List AnsweredLine) → AreRefutations ss rows a → AreRefutations ss rows b → ¬ Is x → ¬ Is y → a ++ x ∷ r ≡ b ++ y ∷ s → (length a ≡ length b) × (x ≡ y)
  one_bad [] [] r s x y h k bad other e = (refl, (heads x y r s e).0)
  one_bad [] (q ∷ b) r s x y h k bad other e = absurd (bad (subst Is (sym (heads x q r (b ++ y ∷ s) e).0) k.0))
  one_bad (p ∷ a) [] r s x y h k bad other e = absurd (other (subst Is (heads p y (a ++ x ∷ r) s e).0 h.0))
  one_bad (p ∷ a) (q ∷ b) r s x y h k bad other e =
      let rest = one_bad a b r s x y h.1 k.1 bad other (heads p q (a ++ x ∷ r) (b ++ y ∷ s) e).1 in
      (ap suc rest.0, rest.1)

  among : (a r : List (List AnsweredLine)) (x : List AnsweredLine) → AreRefutations ss rows (a ++ x ∷ r) → Is x
  among [] r x h = h.0
  among (p ∷ a) r x h = among a r x h.1

  looked : (ps : List (List AnsweredLine)) → 0 < length ps → looked_at ps ≡ ps
  looked [] h = absurd (omega (arith, h))
  looked (p ∷ ps) h = refl

  module _ (none : FaultIsNoneWith) (one : FaultIsOneWith) (ps : List (List AnsweredLine)) where
    refused_once : (j k line : ℕ) (row : Row) (line' : ℕ) (row' : Row) → IsNotAccepted ss rows ps j line row → IsNotAccepted ss rows ps k line' row' → (j ≡ k) × (line ≡ line') × (row ≡ row')
    refused_once j k line row line' row' h i =
        let same = one_bad h.before i.before h.behind i.behind h.bad i.bad h.are i.are (none ss rows h.bad line row h.fault) (none ss rows i.bad line' row' i.fault) (sym h.split ∙ i.split) in
        let faults = one ss rows h.bad line row line' row' h.fault (subst (λ (p : List AnsweredLine). IsFaultWith ss rows p line' row') (sym same.1) i.fault) in
        (h.count ∙ same.0 ∙ sym i.count, faults.0, faults.1)

    not_both : (n k line : ℕ) (row : Row) → AreRefutations ss rows ps → 0 < n → n ≡ length ps → IsNotAccepted ss rows ps k line row → ⊥
    not_both n k line row all some count h =
        let split : ps ≡ h.before ++ (h.bad ∷ h.behind) = sym (looked ps (omega (arith, some, count))) ∙ h.split in
        none ss rows h.bad line row h.fault (among h.before h.behind h.bad (subst (AreRefutations ss rows) split all))

pub ends_once : FaultIsNoneWith → FaultIsOneWith → EndIsOne
ends_once none one x (Accepted n) (Accepted m) j k h i =
    let same : n ≡ m = h.2.2 ∙ sym i.2.2 in
    (ap Accepted same, h.2.3 ∙ same ∙ sym i.2.3)
ends_once none one x (Accepted n) (NotAccepted line row) j k h i = absurd (not_both (asked_formulas x) (answered_rows x) none one x.proofs n k line row h.2.0 h.2.1 h.2.2 i.2)
ends_once none one x (NotAccepted line row) (Accepted n) j k h i = absurd (not_both (asked_formulas x) (answered_rows x) none one x.proofs n j line row i.2.0 i.2.1 i.2.2 h.2)
ends_once none one x (NotAccepted line row) (NotAccepted line' row') j k h i =
    let same = refused_once (asked_formulas x) (answered_rows x) none one x.proofs j k line row line' row' h.2 i.2 in
    (ap₂ NotAccepted same.1 same.2, same.0)
ends_once none one x (ClauseLimit n) (ClauseLimit m) j k h i = (let same : n ≡ m = (let e : Some n ≡ Some m = sym h.0 ∙ i.0 in cc) in ap ClauseLimit same, h.1 ∙ sym i.1)
ends_once none one x (ClauseLimit n) (Accepted m) j k h i = absurd (let e : Some n ≡ None = sym h.0 ∙ i.0 in cc)
ends_once none one x (ClauseLimit n) (NotAccepted line row) j k h i = absurd (let e : Some n ≡ None = sym h.0 ∙ i.0 in cc)
ends_once none one x (Accepted m) (ClauseLimit n) j k h i = absurd (let e : Some n ≡ None = sym i.0 ∙ h.0 in cc)
ends_once none one x (NotAccepted line row) (ClauseLimit n) j k h i = absurd (let e : Some n ≡ None = sym i.0 ∙ h.0 in cc)
