-- Answers at the end of a clause, each once.
use Rattle.std.proofs.Common.{◌≡◌, ◌↔◌, ◌⊎◌, inl, inr, ℕ, zero, suc, ◌+◌, ◌-◌, ◌<◌, ◌≤◌, ◌==◌, Bool, true, false, ◌||◌, if◌then◌else◌, IsTrue, List, [], ◌∷◌, ◌++◌, length, slice_get, Some, refl, sym, ap, ap₂, ◌∙◌, subst, arith, append_assoc, length-append}
use Rattle.std.specs.List.{list_any}
use Rattle.std.proofs.lemmas.Bool.{cases_eq, false≢true, or_cases, or_left, or_right}
use Rattle.answers.specs.AnswerTrees.{Answer, same_answer, added, all_added, each_once}
use Rattle.answers.specs.Packed.{packed}
use Rattle.carried_answers.specs.Among.{IsAmong, Keeping}
use Rattle.carried_answers.proofs.Behind.{first_out, later_out}
use Rattle.carried_answers.proofs.Once.{same_is, same_self}
use Rattle.carried_answers.proofs.WholeSteps.{many_packed, packed_both, packed_one, same_packed}
use Rattle.derivation.specs.Places.{has_place, others, same_sign}
use Rattle.fol_core.specs.Literals.{ClauseTree, Lit}

-- a literal that stands before, or not
pub none_among : (c : ClauseTree) (first place i : ℕ) → ((b : ℕ) → first ≤ b → b < i → slice_get c b ≡ slice_get c place → ⊥) → (slice_get c i ≡ slice_get c place → ⊥)
    → (b : ℕ) → first ≤ b → b < i + 1 → slice_get c b ≡ slice_get c place → ⊥
none_among c first place i before here b le lt e = elim (cases_eq b i) [
  | inl same ↦ here (subst (λ n. slice_get c n ≡ slice_get c place) same e)
  | inr other ↦ before b le (omega (arith, lt, other)) e
]

pub is_there : (c : ClauseTree) (first place i : ℕ) (b : Bool) → first ≤ i → i < place → IsTrue b ↔ (slice_get c i ≡ slice_get c place) → b ≡ true → IsTrue true ↔ IsAmong c first place
is_there c first place i b le lt same t = (λ h. (i, le, lt, same.0 t), λ h. refl)

pub is_not : (c : ClauseTree) (place i : ℕ) (b : Bool) → IsTrue b ↔ (slice_get c i ≡ slice_get c place) → b ≡ false → slice_get c i ≡ slice_get c place → ⊥
is_not c place i b same f e = false≢true (sym f ∙ same.1 e)

pub is_nowhere : (c : ClauseTree) (first place i : ℕ) → place ≤ i → ((b : ℕ) → first ≤ b → b < i → slice_get c b ≡ slice_get c place → ⊥) → IsTrue false ↔ IsAmong c first place
is_nowhere c first place i le never = (λ h. absurd (false≢true h), λ (b, from, lt, same). absurd (never b from (omega (arith, lt, le)) same))

pub place_of_one : (c : ClauseTree) (a : ℕ) → a < length c → IsTrue (has_place c a)
place_of_one [] a h = absurd (omega (arith, h))
place_of_one (l ∷ c) zero h = sign l.positive
  where
    sign : (b : Bool) → IsTrue (same_sign true b || same_sign false b)
    sign true = refl
    sign false = refl
place_of_one (l ∷ c) (suc a) h = place_of_one c a (omega (arith, h))

-- a literal behind others
got_behind : (c d : ClauseTree) (k : ℕ) → slice_get (c ++ d) (length c + k) ≡ slice_get d k
got_behind [] d k = ap (slice_get d) (let e : 0 + k ≡ k = omega arith in e)
got_behind (l ∷ c) d k = ap (slice_get (l ∷ (c ++ d))) (let e : suc (length c) + k ≡ suc (length c + k) = omega arith in e) ∙ got_behind c d k

out_behind : (c d : ClauseTree) (l : Lit) → others (λ k. k == length c) (c ++ l ∷ d) ≡ c ++ d
out_behind [] d l = first_out l d
out_behind (m ∷ c) d l = later_out m (c ++ l ∷ d) (length c) ∙ ap (λ e. m ∷ e) (out_behind c d l)

some_one : (a b : Answer) → Some (packed_one a) ≡ Some (packed_one b) → a ≡ b
some_one a b h = let e : packed_one a ∷ [] ≡ packed_one b ∷ [] = cc in let f = same_packed (a ∷ []) (b ∷ []) e in cc

-- among answers
any_here : (kept : List Answer) (b : Answer) (d : ClauseTree) (j : ℕ) → j < length kept → slice_get (packed kept ++ d) j ≡ Some (packed_one b) → list_any (same_answer b) kept ≡ true
any_here [] b d j h e = absurd (omega (arith, h))
any_here (a ∷ kept) b d zero h e = or_left (same_answer b a) (list_any (same_answer b) kept) (same_self b a (sym (some_one a b e)))
any_here (a ∷ kept) b d (suc j) h e = or_right (same_answer b a) (list_any (same_answer b) kept) (any_here kept b d j (omega (arith, h)) e)

any_where : (kept : List Answer) (b : Answer) (d : ClauseTree) → list_any (same_answer b) kept ≡ true → (j : ℕ) × (j < length kept) × (slice_get (packed kept ++ d) j ≡ Some (packed_one b))
any_where [] b d h = absurd (false≢true h)
any_where (a ∷ kept) b d h = elim (or_cases (same_answer b a) (list_any (same_answer b) kept) h) [
  | inl here ↦ (zero, omega arith, ap (λ x. Some (packed_one x)) (sym (same_is b a here)))
  | inr there ↦ let w = any_where kept b d there in (suc w.0, let lt = w.1 in omega (arith, lt), w.2)
]

pub keep_start : (c : ClauseTree) (us : List Answer) (whole : ClauseTree) (first : ℕ) → whole ≡ c ++ packed us → first ≡ length c → Keeping c us whole first
keep_start c us whole first is at = record { kept = []; rest = us; whole_is = is; place_is = let e : length c + 0 ≡ length c = omega arith in at ∙ sym e; all = refl }

front : (c : ClauseTree) (kept rest : List Answer) (b : Answer) → c ++ packed (kept ++ b ∷ rest) ≡ (c ++ packed kept) ++ packed_one b ∷ packed rest
front c kept rest b = ap (λ d. c ++ d) (packed_both kept (b ∷ rest)) ∙ sym (append_assoc c (packed kept) (packed (b ∷ rest)))

front_long : (c : ClauseTree) (kept : List Answer) → length (c ++ packed kept) ≡ length c + length kept
front_long c kept = length-append c (packed kept) ∙ ap (λ n. length c + n) (many_packed kept)

whole_long : (c : ClauseTree) (us : List Answer) (whole : ClauseTree) (place : ℕ) (k : Keeping c us whole place) → length whole ≡ place + length k.rest
whole_long c us whole place k =
    let e = ap length k.whole_is ∙ front_long c (k.kept ++ k.rest) in
    let f = length-append k.kept k.rest in
    let g = k.place_is in
    omega (arith, e, f, g)

-- with the first of those that are left
module _ (c : ClauseTree) (kept rest : List Answer) (b : Answer) (whole : ClauseTree) (first place : ℕ) (is : whole ≡ c ++ packed (kept ++ b ∷ rest)) (at : place ≡ length c + length kept) (from : first ≡ length c) where
  here : slice_get whole place ≡ Some (packed_one b)
  here =
      ap₂ slice_get (is ∙ front c kept rest b) (at ∙ sym (front_long c kept) ∙ (let e : length (c ++ packed kept) ≡ length (c ++ packed kept) + 0 = omega arith in e))
      ∙ got_behind (c ++ packed kept) (packed_one b ∷ packed rest) 0

  before : (j : ℕ) → slice_get whole (length c + j) ≡ slice_get (packed kept ++ packed (b ∷ rest)) j
  before j = ap (λ d. slice_get d (length c + j)) is ∙ got_behind c (packed (kept ++ b ∷ rest)) j ∙ ap (λ d. slice_get d j) (packed_both kept (b ∷ rest))

  among_any : IsAmong whole first place → list_any (same_answer b) kept ≡ true
  among_any (i, le, lt, same) =
      let j : ℕ = i - length c in
      let back : length c + j ≡ i = omega (arith, le, from) in
      any_here kept b (packed (b ∷ rest)) j (omega (arith, lt, at, back)) (sym (before j) ∙ ap (slice_get whole) back ∙ same ∙ here)

  any_among : list_any (same_answer b) kept ≡ true → IsAmong whole first place
  any_among any =
      let w = any_where kept b (packed (b ∷ rest)) any in
      (length c + w.0, omega (arith, from), let lt = w.1 in omega (arith, lt, at), before w.0 ∙ w.2 ∙ sym here)

  kept_out : others (λ k. k == place) whole ≡ c ++ packed (kept ++ rest)
  kept_out =
      ap₂ (λ n d. others (λ k. k == n) d) (at ∙ sym (front_long c kept)) (is ∙ front c kept rest b) ∙ out_behind (c ++ packed kept) (packed rest) (packed_one b)
      ∙ append_assoc c (packed kept) (packed rest) ∙ ap (λ d. c ++ d) (sym (packed_both kept rest))

  step_out : (us : List Answer) (new : ClauseTree) (t : Bool) → all_added kept (b ∷ rest) ≡ each_once us → IsTrue t ↔ IsAmong whole first place → t ≡ true → new ≡ others (λ k. k == place) whole → Keeping c us new place
  step_out us new t all among e out =
      let any = among_any (among.0 e) in record {
        kept = kept;
        rest = rest;
        whole_is = out ∙ kept_out;
        place_is = at;
        all = ap (λ x. all_added (if x then kept else kept ++ b ∷ []) rest) (sym any) ∙ all;
      }

  step_on : (us : List Answer) (t : Bool) → all_added kept (b ∷ rest) ≡ each_once us → IsTrue t ↔ IsAmong whole first place → t ≡ false → Keeping c us whole (place + 1)
  step_on us t all among e =
      let none : list_any (same_answer b) kept ≡ false = by (list_any (same_answer b) kept) refl in record {
        kept = kept ++ b ∷ [];
        rest = rest;
        whole_is = is ∙ ap (λ vs. c ++ packed vs) (sym (append_assoc kept (b ∷ []) rest));
        place_is = let f = length-append kept (b ∷ []) in omega (arith, at, f);
        all = ap (λ x. all_added (if x then kept else kept ++ b ∷ []) rest) (sym none) ∙ all;
      }
    where
      by : (x : Bool) → list_any (same_answer b) kept ≡ x → list_any (same_answer b) kept ≡ false
      by false f = f
      by true f = absurd (false≢true (sym e ∙ among.1 (any_among f)))

pub keep_out : (c : ClauseTree) (us : List Answer) (whole new : ClauseTree) (first place : ℕ) (t : Bool) → Keeping c us whole place → first ≡ length c → place < length whole → IsTrue t ↔ IsAmong whole first place → t ≡ true → new ≡ others (λ k. k == place) whole → Keeping c us new place
keep_out c us whole new first place t k from lt among e out = by k.rest refl
  where
    by : (rest : List Answer) → k.rest ≡ rest → Keeping c us new place
    by [] none = let f = whole_long c us whole place k in let g = ap length none in absurd (omega (arith, lt, f, g))
    by (b ∷ rest) some = step_out c k.kept rest b whole first place (k.whole_is ∙ ap (λ r. c ++ packed (k.kept ++ r)) some) k.place_is from us new t (ap (all_added k.kept) (sym some) ∙ k.all) among e out

pub keep_on : (c : ClauseTree) (us : List Answer) (whole : ClauseTree) (first place : ℕ) (t : Bool) → Keeping c us whole place → first ≡ length c → place < length whole → IsTrue t ↔ IsAmong whole first place → t ≡ false → Keeping c us whole (place + 1)
keep_on c us whole first place t k from lt among e = by k.rest refl
  where
    by : (rest : List Answer) → k.rest ≡ rest → Keeping c us whole (place + 1)
    by [] none = let f = whole_long c us whole place k in let g = ap length none in absurd (omega (arith, lt, f, g))
    by (b ∷ rest) some = step_on c k.kept rest b whole first place (k.whole_is ∙ ap (λ r. c ++ packed (k.kept ++ r)) some) k.place_is from us t (ap (all_added k.kept) (sym some) ∙ k.all) among e

pub keep_end : (c : ClauseTree) (us : List Answer) (whole : ClauseTree) (place : ℕ) → Keeping c us whole place → length whole ≤ place → whole ≡ c ++ packed (each_once us)
keep_end c us whole place k le = by k.rest refl
  where
    nil : (vs : List Answer) → vs ++ [] ≡ vs
    nil [] = refl
    nil (v ∷ vs) = ap (λ ws. v ∷ ws) (nil vs)

    by : (rest : List Answer) → k.rest ≡ rest → whole ≡ c ++ packed (each_once us)
    by [] none = k.whole_is ∙ ap (λ r. c ++ packed (k.kept ++ r)) none ∙ ap (λ vs. c ++ packed vs) (nil k.kept ∙ ap (all_added k.kept) (sym none) ∙ k.all)
    by (b ∷ rest) some = let f = whole_long c us whole place k in let g = ap length some in absurd (omega (arith, le, f, g))

pub one_less : (c : ClauseTree) (a : ℕ) → a < length c → length (others (λ k. k == a) c) + 1 ≡ length c
one_less [] a h = absurd (omega (arith, h))
one_less (l ∷ c) zero h = let e = ap length (first_out l c) in omega (arith, e)
one_less (l ∷ c) (suc a) h = let e = ap length (later_out l c a) in let f = one_less c a (omega (arith, h)) in omega (arith, e, f)
