-- Links shortened.
use Rattle.std.proofs.Common.{◌≡◌, ℕ, ◌+◌, ◌<◌, ◌≤◌, refl, sym, ap, subst, ◌∙◌, List, [], ◌∷◌, ◌++◌, length, set, arith, inl, inr, slice_index_or}
use Rattle.std.proofs.lemmas.Bool.{cases_eq, cases_lt}
use Rattle.std.proofs.lemmas.List.{length-set, get_or-set_same, get_or-set_other, get_or_push, get_or_append_left, get_or_read, length_push}
use Rattle.std.proofs.lemmas.List.Sums.{sum_by-set}
use Rattle.fol_core.specs.Substitutions.{Substitution}
use Rattle.term_unifiers.specs.Merging.{nth, LeadDown, FitsLinks, Carries, Shortened, CountsUp}
use Rattle.term_unifiers.specs.Shapes.{Shape, shape_at}

pub set_here : (numbers : List ℕ) (n a : ℕ) → n < length numbers → nth (set numbers n a) n ≡ a
set_here numbers n a h = get_or-set_same numbers n a 0 h

pub set_there : (numbers : List ℕ) (n a k : ℕ) → (k ≡ n → ⊥) → nth (set numbers n a) k ≡ nth numbers k
set_there numbers n a k h = get_or-set_other numbers n k a 0 h

-- what holds at one number and at the others
pub each_set : (P : ℕ → Type 0) (n : ℕ) → P n → ((k : ℕ) → (k ≡ n → ⊥) → P k) → (k : ℕ) → P k
each_set P n here there k = elim (cases_eq k n) [
  | inl e ↦ subst P (sym e) here
  | inr d ↦ there k d
]

pub shortened_refl : (links : List ℕ) → LeadDown links → Shortened links links
shortened_refl links down = record { as_many = refl; down = down; sum = omega arith; stays = λ n h e. e; stood = λ n h e. e; on = λ label f. f; back = λ label f. f; carries = λ label shapes schemas c. c }

pub shortened_on : (a b c : List ℕ) → Shortened a b → Shortened b c → Shortened a c
shortened_on a b c p q = record {
  as_many = q.as_many ∙ p.as_many;
  down = q.down;
  sum = omega (arith, p.sum, q.sum);
  stays = λ k h o. q.stays k (subst (λ l. k < l) (sym p.as_many) h) (p.stays k h o);
  stood = λ k h o. p.stood k h (q.stood k (subst (λ l. k < l) (sym p.as_many) h) o);
  on = λ label f. q.on label (p.on label f);
  back = λ label f. p.back label (q.back label f);
  carries = λ label shapes schemas f. q.carries label shapes schemas (p.carries label shapes schemas f);
}

carries_through : (label : Substitution) (p q r : Shape) → Carries label p q → Carries label q r → Carries label p r
carries_through label p q r f g h = let i = f h in let j = g i.0 in (j.0, i.1 ∙ j.1)

-- one link that skips a node
pub skip : (links : List ℕ) (n next after : ℕ) → LeadDown links → n < length links → next ≡ nth links n → after ≡ nth links next → Shortened links (set links n after)
skip links n next after down h e f = record {
  as_many = length-set links n after;
  down = λ k g. each_set (λ k. k < length links → nth (set links n after) k ≤ k) n
      (λ i. let lower = down n h in let lowest = down next short in let s = set_here links n after h in omega (arith, lower, lowest, s, e, f))
      (λ k d i. let s = set_there links n after k d in let lower = down k i in omega (arith, s, lower)) k (subst (λ l. k < l) (length-set links n after) g);
  sum = let total = sum_by-set (λ m. m) links n after 0 h in let lowest = down next short in omega (arith, total, lowest, e, f);
  stays = λ k g o. each_set (λ k. k < length links → nth links k ≡ k → nth (set links n after) k ≡ k) n
      (λ i o. set_here links n after h ∙ f ∙ ap (nth links) (e ∙ o) ∙ o)
      (λ k d i o. set_there links n after k d ∙ o) k g o;
  stood = λ k g o. each_set (λ k. k < length links → nth (set links n after) k ≡ k → nth links k ≡ k) n
      (λ i o.
      let s = set_here links n after h in
      let lower = down n h in
      let lowest = down next short in
      omega (arith, s, o, lower, lowest, e, f))
      (λ k d i o. sym (set_there links n after k d) ∙ o) k g o;
  on = λ label fits k g. each_set (λ k. k < length links → label k ≡ label (nth (set links n after) k)) n
      (λ i. fits n h ∙ ap label (sym e) ∙ fits next short ∙ ap label (sym f ∙ sym (set_here links n after h)))
      (λ k d i. fits k i ∙ ap label (sym (set_there links n after k d))) k (subst (λ l. k < l) (length-set links n after) g);
  back = λ label fits k g. each_set (λ k. k < length links → label k ≡ label (nth links k)) n
      (λ i. behind label fits)
      (λ k d i. fits k (longer k i) ∙ ap label (set_there links n after k d)) k g;
  carries = λ label shapes schemas c k g.
      let C : ℕ → ℕ → Type 0 = λ i j. Carries label (shape_at shapes (nth schemas i)) (shape_at shapes (nth schemas j)) in
      each_set (λ k. k < length links → C k (nth (set links n after) k)) n
      (λ i. subst (C n) (sym f ∙ sym (set_here links n after h)) (carries_through label (shape_at shapes (nth schemas n)) (shape_at shapes (nth schemas next)) (shape_at shapes (nth schemas (nth links next))) (subst (C n) (sym e) (c n h)) (c next short)))
      (λ k d i. subst (C k) (sym (set_there links n after k d)) (c k i)) k (subst (λ l. k < l) (length-set links n after) g);
}
  where
    short : next < length links
    short = let lower = down n h in omega (arith, lower, e, h)

    longer : (k : ℕ) → k < length links → k < length (set links n after)
    longer k i = subst (λ l. k < l) (sym (length-set links n after)) i

    -- where the node is linked to itself, or to a lesser one, whose link stays
    behind : (label : Substitution) → FitsLinks label (set links n after) → label n ≡ label (nth links n)
    behind label fits = elim (cases_eq next n) [
      | inl same ↦ ap label (sym same ∙ e)
      | inr d ↦ fits n (longer n h) ∙ ap label (set_here links n after h ∙ f ∙ sym (set_there links n after next d)) ∙ sym (fits next (longer next short)) ∙ ap label e
    ]

pub least_start : (links : List ℕ) (start : ℕ) (label : Substitution) → FitsLinks label links → label start ≡ label start
least_start links start label fits = refl

-- a step on the way to the least node
pub least_next : (links : List ℕ) (start n next after : ℕ) → LeadDown links → n < length links → next ≡ nth links n → after ≡ nth links next
    → ((label : Substitution) → FitsLinks label links → label start ≡ label n) → (label : Substitution) → FitsLinks label (set links n after) → label start ≡ label after
least_next links start n next after down h e f same label fits =
    let s = skip links n next after down h e f in
    same label (s.back label fits) ∙ fits n (subst (λ l. n < l) (sym (length-set links n after)) h) ∙ ap label (set_here links n after h)

-- links that are flat so far
pub flat_next : (links : List ℕ) (n next after : ℕ) → LeadDown links → n < length links → next ≡ nth links n → after ≡ nth links next
    → ((k : ℕ) → k < n → nth links (nth links k) ≡ nth links k) → (k : ℕ) → k < n + 1 → nth (set links n after) (nth (set links n after) k) ≡ nth (set links n after) k
flat_next links n next after down h e f flat k g =
    each_set (λ k. k < n + 1 → nth (set links n after) (nth (set links n after) k) ≡ nth (set links n after) k) n (λ i. here) there k g
  where
    there : (k : ℕ) → (k ≡ n → ⊥) → k < n + 1 → nth (set links n after) (nth (set links n after) k) ≡ nth (set links n after) k
    there k d i =
        let lower : k < n = omega (arith, d, i) in
        let inside : k < length links = omega (arith, lower, h) in
        let to = down k inside in
        let other : nth links k ≡ n → ⊥ = λ same. omega (arith, same, to, lower) in
        ap (nth (set links n after)) (set_there links n after k d) ∙ set_there links n after (nth links k) other ∙ flat k lower ∙ sym (set_there links n after k d)

    here : nth (set links n after) (nth (set links n after) n) ≡ nth (set links n after) n
    here = elim (cases_eq next n) [
      | inl same ↦
          let own : nth links n ≡ n = sym e ∙ same in
          let to : after ≡ n = f ∙ ap (nth links) same ∙ own in
          ap (nth (set links n after)) (set_here links n after h ∙ to)
      | inr d ↦
          let lower = down n h in
          let less : next < n = omega (arith, lower, e, d) in
          let inside : next < length links = omega (arith, less, h) in
          let to = down next inside in
          let other : after ≡ n → ⊥ = λ same. omega (arith, same, to, less, f) in
          ap (nth (set links n after)) (set_here links n after h) ∙ set_there links n after after other
          ∙ ap (nth links) f ∙ flat next less ∙ sym f ∙ sym (set_here links n after h)
    ]

pub apart_next : (numbers : List ℕ) (n : ℕ) → CountsUp numbers n → CountsUp (numbers ++ n ∷ []) (n + 1)
apart_next numbers n are = record {
  as_many = let l = length_push numbers n in omega (arith, l, are.as_many);
  own = λ k h. elim (cases_lt k n) [
    | inl l ↦ let inside : k < length numbers = omega (arith, l, are.as_many) in get_or_append_left numbers (n ∷ []) 0 k inside ∙ are.own k l
    | inr g ↦ let e : n ≡ k = omega (arith, g, h) in subst (λ i. nth (numbers ++ n ∷ []) i ≡ i) e (get_or_push numbers n 0 n are.as_many)
  ];
}

pub apart_none : (numbers : List ℕ) → numbers ≡ [] → CountsUp numbers 0
apart_none numbers e = record { as_many = ap length e; own = λ k h. let no_place : ⊥ = omega (arith, h) in elim no_place [ ] }

-- what was read on the way up
pub skipped : (links : List ℕ) (n next after : ℕ) → LeadDown links → n < length links → next ≡ slice_index_or links n next → after ≡ slice_index_or links next after → (next ≡ nth links n) × (next ≤ n) × (after ≡ nth links next) × (after ≤ next)
skipped links n next after down h e f =
    let at_n : next ≡ nth links n = get_or_read links n next h e 0 in
    let lower = down n h in
    let short : next < length links = omega (arith, at_n, lower, h) in
    let at_next : after ≡ nth links next = get_or_read links next after short f 0 in
    let lowest = down next short in
    (at_n, omega (arith, at_n, lower), at_next, omega (arith, at_next, lowest))

pub next_inside : (links : List ℕ) (n next : ℕ) → LeadDown links → n < length links → next ≡ slice_index_or links n next → (next ≡ nth links n) × (next ≤ n)
next_inside links n next down h e =
    let at_n : next ≡ nth links n = get_or_read links n next h e 0 in
    let lower = down n h in
    (at_n, omega (arith, at_n, lower))
