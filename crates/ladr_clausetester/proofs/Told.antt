-- One more formula, and one more interpretation, as told.
use Rattle.std.proofs.Common.{◌≡◌, ◌≢◌, ℕ, zero, suc, ◌+◌, ◌<◌, ◌&&◌, Bool, true, false, List, [], ◌∷◌, ◌++◌, length, get_or, take, Some, slice_get, drop, refl, sym, ap, ap₂, ◌∙◌, subst, MatchBool, append_assoc, arith}
use Rattle.std.specs.List.{AllByRecursion, list_all}
use Rattle.std.proofs.lemmas.List.{append-nil}
use Rattle.fol_core.specs.Meaning.{Meaning}
use Rattle.fol_problem.specs.Stated.{Said, Stated, IsTrueIn, said_of, all_said}
use Rattle.fol_problem.specs.declared.problem.Input.{Input}
use Rattle.ladr_clausetester.specs.Filtering.{IsKept, AreKeptAsTold, kept_text, kept_texts}
use Rattle.ladr_clausetester.specs.Report.{block, blocks, in_all, report, report_end}
use Rattle.ladr_clausetester.specs.Verdicts.{AreTrueAsTold, AreAllTold, meaning_in}
use Rattle.ladr_commands.specs.ByName.{ByName}

pub told_more : (m : Meaning) (ss : List Said) (bs : List Bool) (s : Said) (b : Bool) → AreTrueAsTold m ss bs → MatchBool b (IsTrueIn m s.formula) (¬ IsTrueIn m s.formula) → AreTrueAsTold m (ss ++ s ∷ []) (bs ++ b ∷ [])
told_more m [] [] s b t h = (h, tt)
told_more m [] (c ∷ bs) s b t h = elim t [ ]
told_more m (r ∷ ss) [] s b t h = elim t [ ]
told_more m (r ∷ ss) (c ∷ bs) s b t h = (t.0, told_more m ss bs s b t.1 h)

pub said_more : (inputs : List Input) (i : ℕ) (x : Input) → i < length inputs → x ≡ get_or inputs i x → all_said (take (i + 1) inputs) ≡ all_said (take i inputs) ++ said_of x ∷ []
said_more [] i x h e = absurd (omega arith)
said_more (y ∷ ys) zero x h e = let k : said_of y ≡ said_of x = ap said_of (sym e) in ap (λ (s : Said). s ∷ []) k
said_more (y ∷ ys) (suc i) x h e =
    let l : i < length ys = omega arith in
    let n : suc i + 1 ≡ suc (i + 1) = omega arith in
    rw n (ap (λ (ss : List Said). said_of y ∷ ss) (said_more ys i x l e))

-- the first so many, and one more
pub take_more : {A : Type 0} (xs : List A) (i : ℕ) (x : A) → slice_get xs i ≡ Some x → take (i + 1) xs ≡ take i xs ++ x ∷ []
take_more [] i x e = absurd cc
take_more (y ∷ ys) zero x e = let k : y ≡ x = cc in ap (λ z. z ∷ []) k
take_more (y ∷ ys) (suc i) x e = let n : suc i + 1 ≡ suc (i + 1) = omega arith in rw n (ap (λ zs. y ∷ zs) (take_more ys i x e))

all_told_more : (p : Stated) (its : List ByName) (alls : List (List Bool)) (it : ByName) (all : List Bool) → AreAllTold p its alls → AreTrueAsTold (meaning_in p it) p.formulas all → AreAllTold p (its ++ it ∷ []) (alls ++ all ∷ [])
all_told_more p [] [] it all t h = (h, tt)
all_told_more p [] (a ∷ alls) it all t h = elim t [ ]
all_told_more p (i ∷ its) [] it all t h = elim t [ ]
all_told_more p (i ∷ its) (a ∷ alls) it all t h = (t.0, all_told_more p its alls it all t.1 h)

pub told_length : (p : Stated) (its : List ByName) (alls : List (List Bool)) → AreAllTold p its alls → length alls ≡ length its
told_length p [] [] t = refl
told_length p [] (a ∷ alls) t = elim t [ ]
told_length p (i ∷ its) [] t = elim t [ ]
told_length p (i ∷ its) (a ∷ alls) t = ap suc (told_length p its alls t.1)

blocks_more : (j : ℕ) (alls : List (List Bool)) (all : List Bool) → blocks j (alls ++ all ∷ []) ≡ blocks j alls ++ block (j + length alls) all
blocks_more j [] all = let e : j + 0 ≡ j = omega arith in rw e (append-nil (block j all))
blocks_more j (a ∷ alls) all =
    let e : j + 1 + length alls ≡ j + suc (length alls) = omega arith in
    ap (λ (t : List ℕ). block j a ++ t) (blocks_more (j + 1) alls all ∙ ap (λ (n : ℕ). blocks (j + 1) alls ++ block n all) e) ∙ sym (append_assoc (block j a) (blocks (j + 1) alls) (block (j + suc (length alls)) all))

in_all_more : (alls : List (List Bool)) (all : List Bool) → in_all (alls ++ all ∷ []) ≡ in_all alls ++ all
in_all_more [] all = append-nil all
in_all_more (a ∷ alls) all = ap (λ (t : List Bool). a ++ t) (in_all_more alls all) ∙ sym (append_assoc a (in_all alls) all)

-- interpretations are told so far by these lines, and this is the truth of all formulas in all of them
abbrev pub AreToldSoFar : Stated → List ByName → List ℕ → List Bool → Type 0
AreToldSoFar p its lines told = (alls : List (List Bool)) × AreAllTold p its alls × (lines ≡ blocks 1 alls) × (told ≡ in_all alls)

pub so_far_more : (p : Stated) (its : List ByName) (it : ByName) (all : List Bool) (lines : List ℕ) (told : List Bool) (j : ℕ) → j ≡ length its + 1 → AreToldSoFar p its lines told
    → AreTrueAsTold (meaning_in p it) p.formulas all → AreToldSoFar p (its ++ it ∷ []) (lines ++ block j all) (told ++ all)
so_far_more p its it all lines told j e s h =
    let n : j ≡ 1 + length s.0 = omega (arith, e, told_length p its s.0 s.1) in (
      s.0 ++ all ∷ [],
      all_told_more p its s.0 it all s.1 h,
      ap₂ (λ (t : List ℕ) (k : ℕ). t ++ block k all) s.2 n ∙ sym (blocks_more 1 s.0 all),
      ap (λ (t : List Bool). t ++ all) s.3 ∙ sym (in_all_more s.0 all),
    )

-- the report of several, or of none
pub report_by : (alls : List (List Bool)) (lines : List ℕ) (told : List Bool) → length alls ≢ 1 → lines ≡ blocks 1 alls → told ≡ in_all alls → lines ++ report_end told ≡ report alls
report_by [] lines told n e h = rw (e, h) refl
report_by (a ∷ []) lines told n e h = absurd (n refl)
report_by (a ∷ b ∷ alls) lines told n e h = rw (e, h) refl

-- and of one
pub one_told : (p : Stated) (its : List ByName) (it : ByName) (all : List Bool) → length its ≡ 1 → slice_get its 0 ≡ Some it → AreTrueAsTold (meaning_in p it) p.formulas all → AreAllTold p its (all ∷ [])
one_told p [] it all l e t = absurd (omega (arith, l))
one_told p (i ∷ []) it all l e t = let same : it ≡ i = cc in (subst (λ (x : ByName). AreTrueAsTold (meaning_in p x) p.formulas all) same t, tt)
one_told p (i ∷ k ∷ its) it all l e t = absurd (omega (arith, l))

-- all are true, or not all are
both : (b r : Bool) (X Y : Type 0) → MatchBool b X (¬ X) → MatchBool r Y (¬ Y) → MatchBool (b && r) (X × Y) (¬ (X × Y))
both true true X Y h k = (h, k)
both true false X Y h k = λ p. k p.1
both false r X Y h k = λ p. h p.0

pub all_or_not : (m : Meaning) (ss : List Said) (bs : List Bool) → AreTrueAsTold m ss bs → MatchBool (list_all (λ b. b) bs) (AllByRecursion (λ s. IsTrueIn m s.formula) ss) (¬ AllByRecursion (λ s. IsTrueIn m s.formula) ss)
all_or_not m [] [] t = tt
all_or_not m [] (b ∷ bs) t = elim t [ ]
all_or_not m (s ∷ ss) [] t = elim t [ ]
all_or_not m (s ∷ ss) (b ∷ bs) t = both b (list_all (λ b. b) bs) (IsTrueIn m s.formula) (AllByRecursion (λ s. IsTrueIn m s.formula) ss) t.0 (all_or_not m ss bs t.1)

-- one more interpretation that is kept or isn't
pub kept_more : (p : Stated) (its : List ByName) (bs : List Bool) (it : ByName) (b : Bool) → AreKeptAsTold p its bs → MatchBool b (IsKept p it) (¬ IsKept p it) → AreKeptAsTold p (its ++ it ∷ []) (bs ++ b ∷ [])
kept_more p [] [] it b t h = (h, tt)
kept_more p [] (c ∷ bs) it b t h = elim t [ ]
kept_more p (i ∷ its) [] it b t h = elim t [ ]
kept_more p (i ∷ its) (c ∷ bs) it b t h = (t.0, kept_more p its bs it b t.1 h)

pub kept_length : (p : Stated) (its : List ByName) (bs : List Bool) → AreKeptAsTold p its bs → length bs ≡ length its
kept_length p [] [] t = refl
kept_length p [] (c ∷ bs) t = elim t [ ]
kept_length p (i ∷ its) [] t = elim t [ ]
kept_length p (i ∷ its) (c ∷ bs) t = ap suc (kept_length p its bs t.1)

-- the texts from a place on are the text of the one there and those behind it
pub texts_next : (j i : ℕ) (its : List ByName) (bs : List Bool) (it : ByName) → slice_get its i ≡ Some it → i < length bs
    → kept_texts j (drop i its) (drop i bs) ≡ kept_text j it (get_or bs i false) ++ kept_texts (j + 1) (drop (i + 1) its) (drop (i + 1) bs)
texts_next j i [] bs it e l = absurd cc
texts_next j i (k ∷ its) [] it e l = absurd (omega (arith, l))
texts_next j zero (k ∷ its) (b ∷ bs) it e l = let same : k ≡ it = cc in ap (λ (x : ByName). kept_text j x b ++ kept_texts (j + 1) its bs) same
texts_next j (suc i) (k ∷ its) (b ∷ bs) it e l = let n : suc i + 1 ≡ suc (i + 1) = omega arith in rw n (texts_next j i its bs it e (omega (arith, l)))
