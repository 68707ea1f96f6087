-- Words that lead from a clause to another, one behind the other.
use Rattle.std.proofs.Common.{◌≡◌, ℕ, zero, suc, ◌<◌, Bool, true, false, ◌==◌, ◌||◌, IsTrue, if◌then◌else◌, length, List, [], ◌∷◌, ◌++◌, Some, slice_get, refl, sym, ap, subst, ◌∙◌, eq-eqb, ne_eqb, arith}
use Rattle.fol_core.specs.Literals.{Lit, literal, ClauseTree}
use Rattle.fol_core.specs.Renumbered.{renumbered}
use Rattle.fol_core.specs.Tree.{Tree}
use Rattle.substitutions.specs.Laws.{NumbersStay}
use Rattle.derivation.specs.Later.{LaterWord, later_parents, later_fits, Leads}
use Rattle.derivation.specs.Lines.{LineTree, clause, AreClauses, After}
use Rattle.derivation.specs.Places.{same_sign, has_literal, has_place, atom_at, others, with_atom}

module _ (ls : List LineTree) where
  -- one word leads from a clause to another
  abbrev pub Word : LaterWord → ClauseTree → ClauseTree → Type 0
  Word w c d = (ps : List ClauseTree) × AreClauses ls (later_parents w) ps × IsTrue (later_fits w c ps) × Leads w c ps d

  abbrev pub Leading : List LaterWord → ClauseTree → ClauseTree → Type 0
  Leading [] c d = c ≡ d
  Leading (w ∷ ws) c d = (b : ClauseTree) × Word w c b × Leading ws b d

  pub leading_more : (ws vs : List LaterWord) (c d e : ClauseTree) → Leading ws c d → Leading vs d e → Leading (ws ++ vs) c e
  leading_more [] vs c d e same rest = subst (λ b. Leading vs b e) (sym same) rest
  leading_more (w ∷ ws) vs c d e (b, word, more) rest = (b, word, leading_more ws vs b d e more rest)

  pub leads_to : NumbersStay → (ws : List LaterWord) (c d : ClauseTree) → Leading ws c d → After ls ws c (clause (renumbered d))
  leads_to stay [] c d same = stay d ∙ ap renumbered (sym same)
  leads_to stay (w ∷ ws) c d (b, (ps, are, fits, leads), more) = (ps, b, are, fits, leads, leads_to stay ws b d more)

-- the literal behind others
pub atom_behind : (done : ClauseTree) (l : Lit) (c : ClauseTree) → atom_at (done ++ l ∷ c) (length done) ≡ l.atom
atom_behind [] l c = refl
atom_behind (k ∷ done) l c = atom_behind done l c

pub sign_behind : (sign : Bool) (done : ClauseTree) (l : Lit) (c : ClauseTree) → has_literal sign (done ++ l ∷ c) (length done) ≡ same_sign sign l.positive
sign_behind sign [] l c = refl
sign_behind sign (k ∷ done) l c = sign_behind sign done l c

pub place_behind : (done : ClauseTree) (l : Lit) (c : ClauseTree) → has_place (done ++ l ∷ c) (length done) ≡ true
place_behind done l c =
    ap (λ b. b || has_literal false (done ++ l ∷ c) (length done)) (sign_behind true done l c) ∙ ap (λ b. same_sign true l.positive || b) (sign_behind false done l c) ∙ by l.positive
  where
    by : (b : Bool) → (same_sign true b || same_sign false b) ≡ true
    by true = refl
    by false = refl

pub with_behind : (done : ClauseTree) (l : Lit) (c : ClauseTree) (t : Tree) → with_atom (done ++ l ∷ c) (length done) t ≡ done ++ literal l.positive t ∷ c
with_behind [] l c t = refl
with_behind (k ∷ done) l c t = ap (λ d. k ∷ d) (with_behind done l c t)

pub get_behind : (done : ClauseTree) (l : Lit) (c : ClauseTree) → slice_get (done ++ l ∷ c) (length done) ≡ Some l
get_behind [] l c = refl
get_behind (k ∷ done) l c = get_behind done l c

pub others_none : (test : ℕ → Bool) (c : ClauseTree) → ((k : ℕ) → test k ≡ false) → others test c ≡ c
others_none test [] misses = refl
others_none test (l ∷ c) misses =
    ap (λ b. if b then others (λ k. test (suc k)) c else l ∷ others (λ k. test (suc k)) c) (misses 0) ∙ ap (λ d. l ∷ d) (others_none (λ k. test (suc k)) c (λ k. misses (suc k)))

others_at : (n : ℕ) (test : ℕ → Bool) (done : ClauseTree) (l : Lit) (c : ClauseTree) → length done ≡ n → ((k : ℕ) → k ≡ n → test k ≡ true) → ((k : ℕ) → (k ≡ n → ⊥) → test k ≡ false)
    → others test (done ++ l ∷ c) ≡ done ++ c
others_at n test [] l c e hits misses =
    ap (λ b. if b then others (λ k. test (suc k)) c else l ∷ others (λ k. test (suc k)) c) (hits 0 e)
    ∙ others_none (λ k. test (suc k)) c (λ k. misses (suc k) (λ same. zero_suc k (e ∙ sym same)))
  where
    zero_suc : (k : ℕ) → 0 ≡ suc k → ⊥
    zero_suc k h = cc
others_at zero test (k ∷ done) l c e hits misses = cc
others_at (suc n) test (k ∷ done) l c e hits misses =
    ap (λ b. if b then others (λ k. test (suc k)) (done ++ l ∷ c) else k ∷ others (λ k. test (suc k)) (done ++ l ∷ c)) (misses 0 (λ h. cc))
    ∙ ap (λ d. k ∷ d) (others_at n (λ k. test (suc k)) done l c (omega (arith, e)) (λ k same. hits (suc k) (ap suc same)) (λ k other. misses (suc k) (λ same. other (omega (arith, same)))))

pub get_front : (done c : ClauseTree) (b : ℕ) → b < length done → slice_get (done ++ c) b ≡ slice_get done b
get_front [] c b within = absurd (omega (arith, within))
get_front (k ∷ done) c zero within = refl
get_front (k ∷ done) c (suc b) within = get_front done c b (omega (arith, within))

-- all literals but the one behind others
pub others_behind : (done : ClauseTree) (l : Lit) (c : ClauseTree) → others (λ k. k == length done) (done ++ l ∷ c) ≡ done ++ c
others_behind done l c = others_at (length done) (λ k. k == length done) done l c refl (λ k same. eq-eqb k (length done) same) (λ k other. ne_eqb k (length done) other)
