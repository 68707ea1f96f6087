-- Terms fit exactly where they are sought, if each occurrence of a variable is a variable of its own.
use Rattle.std.proofs.Common.{◌≡◌, ◌+◌, ◌<◌, ◌≤◌, ℕ, Bool, true, false, IsTrue, cond, nat_lt, refl, sym, ap, ap₂, ◌∙◌, arith}
use Rattle.fol_core.specs.Substitutions.{Substitution, substitute, substitute_all}
use Rattle.fol_core.specs.Tree.{Tree, var, elem, app, Trees, none, more}
use Rattle.term_matches.specs.Occurrences.{occurrences, occurrences_of}
use Rattle.discrim_tree.specs.Fitting.{Fits, FitAll}
use Rattle.discrim_tree.specs.Linear.{linear, all_linear, passes_linear}
use Rattle.discrim_tree.specs.Seeking.{fits_below, fits_above}
use Rattle.discrim_tree.specs.declared.sought.Sought.{Sought}
use Rattle.discrim_tree.specs.declared.sought.Sought.TheVariants.{Generalizations, Instances, Unifiable}
use Rattle.discrim_tree.proofs.Fitted.{fitted, unchanged}
use Rattle.discrim_tree.proofs.Placing.{clash, less, not_less}
use Rattle.discrim_tree.proofs.Terms.{instances_are_made, unifiers_are_of_two}

-- ---- which variables are the same makes no difference to what fits

module _ (below above : Bool) where
  mutual
    bare : (s t : Tree) (n m : ℕ) → Fits below above (linear n s) (linear m t) → Fits below above s t
    bare (var x) (var y) n m h = tt
    bare (var x) (elem k) n m h = h
    bare (var x) (app g ts) n m h = h
    bare (elem j) (var y) n m h = h
    bare (elem j) (elem k) n m h = h
    bare (elem j) (app g ts) n m h = absurd h
    bare (app f ss) (var y) n m h = h
    bare (app f ss) (elem k) n m h = absurd h
    bare (app f ss) (app g ts) n m h = (h.0, bare_all ss ts n m h.1)

    bare_all : (ss ts : Trees) (n m : ℕ) → FitAll below above (all_linear n ss) (all_linear m ts) → FitAll below above ss ts
    bare_all none none n m h = tt
    bare_all none (more t ts) n m h = absurd h
    bare_all (more s ss) none n m h = absurd h
    bare_all (more s ss) (more t ts) n m h = (bare s t n m h.0, bare_all ss ts (n + occurrences s) (m + occurrences t) h.1)

pub linear_fitted : (k : Sought) (s t : Tree) → IsTrue (passes_linear k t s) → Fits (fits_below k) (fits_above k) s t
linear_fitted k s t h = bare (fits_below k) (fits_above k) s t 0 0 (fitted k (linear 0 s) (linear 0 t) h)

-- ---- substitutions that are the same for the variables from a number on

abbrev Agree : ℕ → ℕ → Substitution → Substitution → Type 0
Agree n count u w = (x : ℕ) → n ≤ x → x < n + count → u x ≡ w x

below_more : (x n a b : ℕ) → x < n + a → x < n + (a + b)
below_more x n a b h = omega (arith, h)

behind_more : (x n a b : ℕ) → x < (n + a) + b → x < n + (a + b)
behind_more x n a b h = omega (arith, h)

from_more : (x n a : ℕ) → n + a ≤ x → n ≤ x
from_more x n a h = omega (arith, h)

from_itself : (n : ℕ) → n ≤ n
from_itself n = omega arith

below_next : (n : ℕ) → n < n + 1
below_next n = omega arith

mutual
  agreed : (t : Tree) (n : ℕ) (u w : Substitution) → Agree n (occurrences t) u w → substitute u (linear n t) ≡ substitute w (linear n t)
  agreed (var x) n u w h = h n (from_itself n) (below_next n)
  agreed (elem k) n u w h = refl
  agreed (app f ts) n u w h = ap (app f) (all_agreed ts n u w h)

  all_agreed : (ts : Trees) (n : ℕ) (u w : Substitution) → Agree n (occurrences_of ts) u w → substitute_all u (all_linear n ts) ≡ substitute_all w (all_linear n ts)
  all_agreed none n u w h = refl
  all_agreed (more t ts) n u w h =
      ap₂ more
      (agreed t n u w (λ x lo hi. h x lo (below_more x n (occurrences t) (occurrences_of ts) hi)))
      (all_agreed ts (n + occurrences t) u w (λ x lo hi. h x (from_more x n (occurrences t) lo) (behind_more x n (occurrences t) (occurrences_of ts) hi)))

-- one below a number, and another one from there on
abbrev joined : ℕ → Substitution → Substitution → Substitution
joined k u w = λ x. cond (nat_lt x k) (u x) (w x)

joined_low : (k x : ℕ) (u w : Substitution) → x < k → joined k u w x ≡ u x
joined_low k x u w h = ap (λ b. cond b (u x) (w x)) (less x k h)

joined_high : (k x : ℕ) (u w : Substitution) → k ≤ x → joined k u w x ≡ w x
joined_high k x u w h = ap (λ b. cond b (u x) (w x)) (not_less x k h)

joined_both : (k x : ℕ) (u w : Substitution) (t : Tree) → u x ≡ t → w x ≡ t → joined k u w x ≡ t
joined_both k x u w t p q = by (nat_lt x k)
  where
    by : (b : Bool) → cond b (u x) (w x) ≡ t
    by true = p
    by false = q

-- ---- what fits is made the same

module _ (below above : Bool) (either : below ≡ false → above ≡ true) where
  abbrev Made : Tree → Tree → Type 0
  Made s t =
      (u : Substitution) × (v : Substitution) × (substitute u s ≡ substitute v t)
      × (below ≡ false → (x : ℕ) → u x ≡ var x) × (above ≡ false → (x : ℕ) → v x ≡ var x)

  abbrev AllMade : Trees → Trees → Type 0
  AllMade ss ts =
      (u : Substitution) × (v : Substitution) × (substitute_all u ss ≡ substitute_all v ts)
      × (below ≡ false → (x : ℕ) → u x ≡ var x) × (above ≡ false → (x : ℕ) → v x ≡ var x)

  -- a variable of the first is put to the second
  put_below : (n : ℕ) (t : Tree) → below ≡ true → Made (var n) t
  put_below n t h = (λ x. t, var, sym (unchanged t), λ f. absurd (clash (sym h ∙ f)), λ f x. refl)

  put_above : (s : Tree) (m : ℕ) → above ≡ true → Made s (var m)
  put_above s m h = (var, λ x. s, unchanged s, λ f x. refl, λ f. absurd (clash (sym h ∙ f)))

  variables : (n m : ℕ) (b : Bool) → below ≡ b → Made (var n) (var m)
  variables n m true h = put_below n (var m) h
  variables n m false h = put_above (var n) m (either h)

  mutual
    made : (s t : Tree) (n m : ℕ) → Fits below above s t → Made (linear n s) (linear m t)
    made (var x) (var y) n m h = variables n m below refl
    made (var x) (elem k) n m h = put_below n (elem k) h
    made (var x) (app g ts) n m h = put_below n (linear m (app g ts)) h
    made (elem j) (var y) n m h = put_above (elem j) m h
    made (elem j) (elem k) n m h = (var, var, ap elem h, λ f x. refl, λ f x. refl)
    made (elem j) (app g ts) n m h = absurd h
    made (app f ss) (var y) n m h = put_above (linear n (app f ss)) m h
    made (app f ss) (elem k) n m h = absurd h
    made (app f ss) (app g ts) n m h =
        let rest = all_made ss ts n m h.1 in
        (rest.0, rest.1, ap₂ app h.0 rest.2, rest.3, rest.4)

    all_made : (ss ts : Trees) (n m : ℕ) → FitAll below above ss ts → AllMade (all_linear n ss) (all_linear m ts)
    all_made none none n m h = (var, var, refl, λ f x. refl, λ f x. refl)
    all_made none (more t ts) n m h = absurd h
    all_made (more s ss) none n m h = absurd h
    all_made (more s ss) (more t ts) n m h =
        let i = n + occurrences s in
        let j = m + occurrences t in
        let one = made s t n m h.0 in
        let rest = all_made ss ts (n + occurrences s) (m + occurrences t) h.1 in
        let u = joined i one.0 rest.0 in
        let v = joined j one.1 rest.1 in (
          u,
          v,
          ap₂ more
              (agreed s n u one.0 (λ x lo hi. joined_low i x one.0 rest.0 hi) ∙ one.2 ∙ sym (agreed t m v one.1 (λ x lo hi. joined_low j x one.1 rest.1 hi)))
              (all_agreed ss i u rest.0 (λ x lo hi. joined_high i x one.0 rest.0 lo) ∙ rest.2 ∙ sym (all_agreed ts j v rest.1 (λ x lo hi. joined_high j x one.1 rest.1 lo))),
          λ f x. joined_both i x one.0 rest.0 (var x) (one.3 f x) (rest.3 f x),
          λ f x. joined_both j x one.1 rest.1 (var x) (one.4 f x) (rest.4 f x),
        )

-- what changes no variable changes no term
still : (t : Tree) (u : Substitution) → ((x : ℕ) → u x ≡ var x) → substitute u (linear 0 t) ≡ linear 0 t
still t u h = agreed t 0 u var (λ x lo hi. h x) ∙ unchanged (linear 0 t)

pub fitted_linear : (k : Sought) (s t : Tree) → Fits (fits_below k) (fits_above k) s t → IsTrue (passes_linear k t s)
fitted_linear Generalizations s t h =
    let both = made true false (λ f. absurd (clash f)) s t 0 0 h in
    (instances_are_made (linear 0 s) (linear 0 t)).1 (both.0, both.2 ∙ still t both.1 (both.4 refl))
fitted_linear Instances s t h =
    let both = made false true (λ f. refl) s t 0 0 h in
    (instances_are_made (linear 0 t) (linear 0 s)).1 (both.1, sym both.2 ∙ still s both.0 (both.3 refl))
fitted_linear Unifiable s t h =
    let both = made true true (λ f. absurd (clash f)) s t 0 0 h in
    (unifiers_are_of_two (linear 0 s) (linear 0 t)).1 (both.0, both.1, both.2)
