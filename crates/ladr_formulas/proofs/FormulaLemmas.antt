-- Formulas read from the parts of a term.
use Rattle.std.proofs.Common.{◌≡◌, ℕ, ◌≤◌, false, List, [], ◌∷◌, length, Option, Some, None, Result, Ok, Err, refl, sym, ap, ◌∙◌, arith}
use Rattle.std.specs.Prelude.{IfOk, OnOk}
use Rattle.std.proofs.lemmas.Bool.{cond-false}
use Rattle.fol_core.specs.Fol.{Fol}
use Rattle.fol_core.specs.RawTree.{RawTree, named, raws_of}
use Rattle.ladr_formulas.specs.Formulas.{Style, Bound, Reading, Made, is_denial, connective_of, joined_by, connective_read, under, by_connective, comparison, relation_of, formula_in}
use Rattle.ladr_formulas.specs.declared.connectives.Connective.{Connective}
use Rattle.ladr_formulas.specs.declared.connectives.Connective.TheVariants.{And, Or, IfThen, ThenIf, IfAndOnlyIf}

-- what a call answers is what the whole formula is
pub if_ok_same : {T E X : Type 0} (r : Result T E) (x y : X) (f : T → X) → x ≡ y → IfOk r (λ v. y ≡ f v) → IfOk r (λ v. x ≡ f v)
if_ok_same (Ok v) x y f e h = e ∙ h
if_ok_same (Err v) x y f e h = tt

pub if_ok_made : {T E : Type 0} (r : Result T E) (x : Made Fol) (f : Fol) (last : Reading) (view : T → Fol) → x ≡ record { tree = f; reading = last } → IfOk r (λ v. view v ≡ f) →
    IfOk r (λ v. x ≡ record { tree = view v; reading = last })
if_ok_made (Ok v) x f last view e h = e ∙ ap (λ (g : Fol). record { tree = g; reading = last }) (sym h)
if_ok_made (Err v) x f last view e h = tt

pub on_ok_so : {T E : Type 0} (r : Result T E) (P : Type 0) → P → OnOk r P
on_ok_so (Ok v) P h = h
on_ok_so (Err v) P h = tt

in_order : (c : Connective) (f g h : Reading → Made Fol) (s : Reading) → (c ≡ ThenIf → ⊥) → by_connective (Some c) f g h s ≡ connective_read (joined_by c) f g s
in_order And f g h s n = refl
in_order Or f g h s n = refl
in_order IfThen f g h s n = refl
in_order ThenIf f g h s n = absurd (n refl)
in_order IfAndOnlyIf f g h s n = refl

-- a connective with the formulas of its two parts
pub formula_two : (st : Style) (scope around : List Bound) (s m last : Reading) (name : List ℕ) (args : List RawTree) (t u : RawTree) (c : Connective) (f g : Fol) →
    args ≡ t ∷ u ∷ [] → connective_of name ≡ Some c → (c ≡ ThenIf → ⊥) → around ≡ scope → formula_in st scope s t ≡ record { tree = f; reading = m } →
    formula_in st around m u ≡ record { tree = g; reading = last } → formula_in st scope s (named name (raws_of args)) ≡ record { tree = joined_by c f g; reading = last }
formula_two st scope around s m last name args t u c f g e h n same first second =
    let others = comparison st scope name t u in
    ap (λ (l : List RawTree). formula_in st scope s (named name (raws_of l))) e ∙
    ap (λ (o : Option Connective). by_connective o (λ r. formula_in st scope r t) (λ r. formula_in st scope r u) others s) h ∙
    in_order c (λ r. formula_in st scope r t) (λ r. formula_in st scope r u) others s n ∙
    ap (λ (a : Made Fol). under (joined_by c a.tree) (formula_in st scope a.reading u)) first ∙
    ap (under (joined_by c f)) (ap (λ (b : List Bound). formula_in st b m u) (sym same) ∙ second)

-- any other name with one argument is a relation
pub formula_one : (st : Style) (scope : List Bound) (s : Reading) (name : List ℕ) (args : List RawTree) (t : RawTree) → args ≡ t ∷ [] → is_denial name ≡ false →
    formula_in st scope s (named name (raws_of args)) ≡ relation_of st scope name (raws_of args) s
formula_one st scope s name args t e h =
    ap (λ (l : List RawTree). formula_in st scope s (named name (raws_of l))) e ∙ cond-false _ _ (relation_of st scope name (raws_of (t ∷ [])) s) h ∙
    ap (λ (l : List RawTree). relation_of st scope name (raws_of l) s) (sym e)

-- and so is each with three or more
pub formula_many : (st : Style) (scope : List Bound) (s : Reading) (name : List ℕ) (args : List RawTree) → 3 ≤ length args →
    formula_in st scope s (named name (raws_of args)) ≡ relation_of st scope name (raws_of args) s
formula_many st scope s name [] h = absurd (omega arith)
formula_many st scope s name (a ∷ []) h = absurd (omega arith)
formula_many st scope s name (a ∷ b ∷ []) h = absurd (omega arith)
formula_many st scope s name (a ∷ b ∷ c ∷ others) h = refl

-- the same where just the number of arguments is known
pub formula_alone : (st : Style) (scope : List Bound) (s : Reading) (name : List ℕ) (args : List RawTree) → length args ≡ 1 → is_denial name ≡ false →
    formula_in st scope s (named name (raws_of args)) ≡ relation_of st scope name (raws_of args) s
formula_alone st scope s name [] e h = absurd (omega (arith, e))
formula_alone st scope s name (t ∷ []) e h = formula_one st scope s name (t ∷ []) t refl h
formula_alone st scope s name (t ∷ u ∷ ts) e h = absurd (omega (arith, e))

-- two arguments
pub two_of : (args : List RawTree) → length args ≡ 2 → (t : RawTree) × (u : RawTree) × (args ≡ t ∷ u ∷ [])
two_of [] e = absurd (omega (arith, e))
two_of (t ∷ []) e = absurd (omega (arith, e))
two_of (t ∷ u ∷ []) e = (t, u, refl)
two_of (t ∷ u ∷ v ∷ ts) e = absurd (omega (arith, e))

-- that no connective joins are compared
pub formula_compared : (st : Style) (scope : List Bound) (s : Reading) (name : List ℕ) (args : List RawTree) (t u : RawTree) → args ≡ t ∷ u ∷ [] → connective_of name ≡ None →
    formula_in st scope s (named name (raws_of args)) ≡ comparison st scope name t u s
formula_compared st scope s name args t u e h =
    ap (λ (l : List RawTree). formula_in st scope s (named name (raws_of l))) e ∙
    ap (λ (o : Option Connective). by_connective o (λ r. formula_in st scope r t) (λ r. formula_in st scope r u) (comparison st scope name t u) s) h
