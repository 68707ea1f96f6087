-- Words on a clause with more literals behind it, where their places are the clause's: these stay as they are.
use Rattle.std.proofs.Common.{◌≡◌, ℕ, zero, suc, ◌<◌, ◌==◌, Bool, true, false, ◌&&◌, ◌||◌, if◌then◌else◌, IsTrue, List, [], ◌∷◌, ◌++◌, length, slice_get, refl, sym, ap, ap₂, ◌∙◌, subst, arith}
use Rattle.std.proofs.lemmas.Bool.{eq-eqb, ne_eqb}
use Rattle.carried_answers.specs.Leading.{place_of, FitsBefore, LeadsBefore}
use Rattle.derivation.specs.Equations.{below, equation, is_equation, is_there, left_of, right_of}
use Rattle.derivation.specs.Later.{LaterWord, flipped, merged, reflexive, unit_deleted, rewritten, IsRepeated, later_fits, Leads, is_rule_equation, is_unit}
use Rattle.derivation.specs.Places.{atom_at, has_literal, has_place, others, with_atom}
use Rattle.derivation.specs.Words.{is_one_clause, only_of}
use Rattle.fol_core.specs.Literals.{Lit, ClauseTree}
use Rattle.fol_core.specs.Substitutions.{substitute}
use Rattle.fol_core.specs.Tree.{Tree}
use Rattle.inference.proofs.LeaveSteps.{none_out, others_same, suc_test, zero_test}
use Rattle.substitutions.specs.Paths.{replaced}

pub has_front : (sign : Bool) (c r : ClauseTree) (a : ℕ) → a < length c → has_literal sign (c ++ r) a ≡ has_literal sign c a
has_front sign [] r a h = absurd (omega (arith, h))
has_front sign (l ∷ c) r zero h = refl
has_front sign (l ∷ c) r (suc a) h = has_front sign c r a (omega (arith, h))

pub place_front : (c r : ClauseTree) (a : ℕ) → a < length c → has_place (c ++ r) a ≡ has_place c a
place_front c r a h = ap₂ (λ p q. p || q) (has_front true c r a h) (has_front false c r a h)

pub atom_front : (c r : ClauseTree) (a : ℕ) → a < length c → atom_at (c ++ r) a ≡ atom_at c a
atom_front [] r a h = absurd (omega (arith, h))
atom_front (l ∷ c) r zero h = refl
atom_front (l ∷ c) r (suc a) h = atom_front c r a (omega (arith, h))

with_front : (c r : ClauseTree) (a : ℕ) (t : Tree) → a < length c → with_atom (c ++ r) a t ≡ with_atom c a t ++ r
with_front [] r a t h = absurd (omega (arith, h))
with_front (l ∷ c) r zero t h = refl
with_front (l ∷ c) r (suc a) t h = ap (λ (d : ClauseTree). l ∷ d) (with_front c r a t (omega (arith, h)))

get_front : (c r : ClauseTree) (a : ℕ) → a < length c → slice_get (c ++ r) a ≡ slice_get c a
get_front [] r a h = absurd (omega (arith, h))
get_front (l ∷ c) r zero h = refl
get_front (l ∷ c) r (suc a) h = get_front c r a (omega (arith, h))

pub first_out : (l : Lit) (c : ClauseTree) → others (λ k. k == 0) (l ∷ c) ≡ c
first_out l c =
    ap (λ b. if b then others (λ k. suc k == 0) c else l ∷ others (λ k. suc k == 0) c) (eq-eqb 0 0 refl)
    ∙ others_same (λ k. suc k == 0) (λ _. false) c zero_test ∙ none_out c

pub later_out : (l : Lit) (c : ClauseTree) (a : ℕ) → others (λ k. k == suc a) (l ∷ c) ≡ l ∷ others (λ k. k == a) c
later_out l c a =
    ap₂ (λ b d. if b then d else l ∷ d) (ne_eqb 0 (suc a) (λ e. absurd (omega (arith, e)))) (others_same (λ k. suc k == suc a) (λ k. k == a) c (λ k. suc_test k a))

others_front : (c r : ClauseTree) (a : ℕ) → a < length c → others (λ k. k == a) (c ++ r) ≡ others (λ k. k == a) c ++ r
others_front [] r a h = absurd (omega (arith, h))
others_front (l ∷ c) r zero h = first_out l (c ++ r) ∙ ap (λ d. d ++ r) (sym (first_out l c))
others_front (l ∷ c) r (suc a) h =
    later_out l (c ++ r) a ∙ ap (λ d. l ∷ d) (others_front c r a (omega (arith, h))) ∙ ap (λ d. d ++ r) (sym (later_out l c a))

pub fits_front : FitsBefore
fits_front (flipped a) c r ps h = ap₂ (λ p t. p && is_equation t) (place_front c r a h) (atom_front c r a h)
fits_front (merged a) c r ps h = place_front c r a h
fits_front (reflexive a) c r ps h = ap₂ (λ p t. p && is_equation t) (has_front false c r a h) (atom_front c r a h)
fits_front (unit_deleted a n) c r ps h =
    ap₂ (λ p q. is_one_clause ps && (is_unit (only_of ps) && ((p && has_literal false (only_of ps) 0) || (q && has_literal true (only_of ps) 0)))) (has_front true c r a h) (has_front false c r a h)
fits_front (rewritten n a path) c r ps h =
    ap₂ (λ p t. is_one_clause ps && (is_unit (only_of ps) && (has_literal true (only_of ps) 0 && (is_rule_equation (atom_at (only_of ps) 0) && (p && is_there (below t path)))))) (place_front c r a h) (atom_front c r a h)

-- what a word makes of the clause, with these behind, is what it makes of both
pub leads_front : (w : LaterWord) (c r : ClauseTree) (ps : List ClauseTree) (e : ClauseTree) → place_of w < length c → Leads w c ps e → Leads w (c ++ r) ps (e ++ r)
leads_front (flipped a) c r ps e h is =
    ap (λ d. d ++ r) is ∙ sym (with_front c r a (equation (right_of (atom_at c a)) (left_of (atom_at c a))) h)
    ∙ ap (λ t. with_atom (c ++ r) a (equation (right_of t) (left_of t))) (sym (atom_front c r a h))
leads_front (merged a) c r ps e h ((b, lt, same), is) = (
  (b, lt, get_front c r b (omega (arith, lt, h)) ∙ same ∙ sym (get_front c r a h)),
  ap (λ d. d ++ r) is ∙ sym (others_front c r a h),
)
leads_front (reflexive a) c r ps e h (same, is) = (
  ap left_of (atom_front c r a h) ∙ same ∙ sym (ap right_of (atom_front c r a h)),
  ap (λ d. d ++ r) is ∙ sym (others_front c r a h),
)
leads_front (unit_deleted a n) c r ps e h ((s, match), is) = ((s, match ∙ sym (atom_front c r a h)), ap (λ d. d ++ r) is ∙ sym (others_front c r a h))
leads_front (rewritten n a path) c r ps e h (s, there, is) = (
  s,
  ap (λ t. below t path) (atom_front c r a h) ∙ there,
  ap (λ d. d ++ r) is ∙ sym (with_front c r a (replaced (atom_at c a) path (substitute s (right_of (atom_at (only_of ps) 0)))) h)
      ∙ ap (λ t. with_atom (c ++ r) a (replaced t path (substitute s (right_of (atom_at (only_of ps) 0))))) (sym (atom_front c r a h)),
)

-- and what it makes of both is nothing else
pub leads_behind : (w : LaterWord) (c r : ClauseTree) (ps : List ClauseTree) (d : ClauseTree) → place_of w < length c → Leads w (c ++ r) ps d → (e : ClauseTree) × Leads w c ps e × (d ≡ e ++ r)
leads_behind (flipped a) c r ps d h is = (
  with_atom c a (equation (right_of (atom_at c a)) (left_of (atom_at c a))),
  refl,
  is ∙ ap (λ t. with_atom (c ++ r) a (equation (right_of t) (left_of t))) (atom_front c r a h) ∙ with_front c r a (equation (right_of (atom_at c a)) (left_of (atom_at c a))) h,
)
leads_behind (merged a) c r ps d h ((b, lt, same), is) = (
  others (λ k. k == a) c,
  ((b, lt, sym (get_front c r b (omega (arith, lt, h))) ∙ same ∙ get_front c r a h), refl),
  is ∙ others_front c r a h,
)
leads_behind (reflexive a) c r ps d h (same, is) = (
  others (λ k. k == a) c,
  (sym (ap left_of (atom_front c r a h)) ∙ same ∙ ap right_of (atom_front c r a h), refl),
  is ∙ others_front c r a h,
)
leads_behind (unit_deleted a n) c r ps d h ((s, match), is) = (others (λ k. k == a) c, ((s, match ∙ atom_front c r a h), refl), is ∙ others_front c r a h)
leads_behind (rewritten n a path) c r ps d h (s, there, is) = (
  with_atom c a (replaced (atom_at c a) path (substitute s (right_of (atom_at (only_of ps) 0)))),
  (s, ap (λ t. below t path) (sym (atom_front c r a h)) ∙ there, refl),
  is ∙ ap (λ t. with_atom (c ++ r) a (replaced t path (substitute s (right_of (atom_at (only_of ps) 0))))) (atom_front c r a h)
      ∙ with_front c r a (replaced (atom_at c a) path (substitute s (right_of (atom_at (only_of ps) 0)))) h,
)

pub leads_before : LeadsBefore
leads_before w c r ps d h = (
  leads_behind w c r ps d h,
  λ (e, leads, is). subst (Leads w (c ++ r) ps) (sym is) (leads_front w c r ps e h leads),
)
