-- Numbers under terms, as clauses come and go.
use Rattle.std.proofs.Common.{◌≡◌, ℕ, suc, ◌+◌, ◌<◌, ◌≤◌, ◌⊎◌, ◌&&◌, ◌||◌, Bool, true, false, not, IsTrue, inl, inr, refl, sym, ap, subst, ◌∙◌, List, [], ◌∷◌, Some, length, get_or, slice_get, map, arith}
use Rattle.std.specs.List.{list_any}
use Rattle.std.proofs.lemmas.Bool.{cases_eq}
use Rattle.std.proofs.lemmas.Option.{slice_get_read}
use Rattle.clause_index.specs.Entries.{is_short}
use Rattle.clause_index.specs.Filing.{Shows, AllStay, AllOthersStay, IsFiledLiteral, IsFiled, IsUnderMarks, is_kept, is_sought, sieve_of}
use Rattle.clause_index.specs.Finding.{has_term_such, has_argument_such, has_such_below, has_side_such, has_part_such}
use Rattle.clause_index.specs.declared.finder.Finder.{Finder}
use Rattle.clause_index.specs.declared.parts.Part.{Part}
use Rattle.clause_index.specs.declared.parts.Part.TheVariants.{Atoms, Inside, Sides}
use Rattle.derivation.specs.Places.{same_sign}
use Rattle.discrim_tree.specs.Marks.{StayMarked, OthersStayMarked}
use Rattle.discrim_tree.specs.Sieves.{IsUnder, StayUnder, OthersStay}
use Rattle.discrim_tree.specs.declared.marks.MarkSieve.{MarkSieve}
use Rattle.discrim_tree.specs.declared.sieve.Sieve.{Sieve}
use Rattle.fol_core.specs.ClauseView.{literal_of}
use Rattle.fol_core.specs.Literals.{Lit}
use Rattle.fol_core.specs.TermView.{tree_of, tree_list}
use Rattle.fol_core.specs.Tree.{Tree, app, trees_of}
use Rattle.fol_core.specs.declared.clause.Literal.{Literal}
use Rattle.fol_core.specs.declared.term.Term.{Term}
use Rattle.prover_steps.specs.Clashing.{Held}

abbrev Test : Type 0
Test = Tree → Bool

module _ (a b : Sieve) (n : ℕ) (has : Test → Bool) where
  pub shows_on : StayUnder a b → Shows a n has → Shows b n has
  shows_on stay shown = λ test h. let w = shown test h in (w.0, w.1, stay w.0 n w.2)

  pub shows_other : (m : ℕ) → OthersStay m a b → (n ≡ m → ⊥) → Shows a n has → Shows b n has
  shows_other m stay apart shown = λ test h. let w = shown test h in (w.0, w.1, stay w.0 n apart w.2)

either : (a b : Bool) → IsTrue (a || b) → IsTrue a ⊎ IsTrue b
either true b h = inl refl
either false b h = inr h

module _ (s : Sieve) (n : ℕ) where
  pub shows_this : (t : Tree) → IsUnder s t n → Shows s n (λ test. test t)
  shows_this t under = λ test h. (t, h, under)

  pub shows_none : Shows s n (λ test. false)
  shows_none = λ test h. absurd (clash h)
    where
      clash : false ≡ true → ⊥
      clash e = cc

  pub shows_either : (f g : Test → Bool) → Shows s n f → Shows s n g → Shows s n (λ test. f test || g test)
  shows_either f g p q = λ test h. elim (either (f test) (g test) h) [ inl k ↦ p test k | inr k ↦ q test k ]

  pub shows_if : (b : Bool) (f : Test → Bool) → (b ≡ true → Shows s n f) → Shows s n (λ test. b && f test)
  shows_if true f p = p refl
  shows_if false f p = shows_none

-- the elements of a list up to a place
module _ {X : Type 0} where
  abbrev pub UpTo : (X → Type 0) → List X → ℕ → Type 0
  UpTo P xs i = (j : ℕ) (x : X) → j < i → slice_get xs j ≡ Some x → P x

  some_same : (x y : X) → Some x ≡ Some y → x ≡ y
  some_same x y e = cc

  pub next_too : (P Q : X → Type 0) (xs : List X) (i : ℕ) (x : X) → ((y : X) → P y → Q y) → i < length xs → x ≡ get_or xs i x → UpTo P xs i → Q x → UpTo Q xs (i + 1)
  next_too P Q xs i x on within is before here = λ j y lt at. elim (cases_eq j i) [
    | inl same ↦ subst Q (some_same x y (sym (slice_get_read xs (length xs) i x refl within is) ∙ ap (slice_get xs) (sym same) ∙ at)) here
    | inr other ↦ on y (before j y (omega (arith, lt, other)) at)
  ]

  pub any_shown : (has : X → Test → Bool) (s : Sieve) (n : ℕ) (xs : List X) → UpTo (λ x. Shows s n (has x)) xs (length xs) → Shows s n (λ test. list_any (λ x. has x test) xs)
  any_shown has s n [] shown = shows_none s n
  any_shown has s n (x ∷ xs) shown =
      shows_either s n (has x) (λ test. list_any (λ y. has y test) xs) (shown 0 x (omega arith) refl)
      (any_shown has s n xs (λ j y lt at. shown (suc j) y (omega (arith, lt)) at))

terms_any : (test : Test) (ts : List Term) → list_any (λ t. has_term_such test (tree_of t)) ts ≡ has_argument_such test (trees_of (tree_list ts))
terms_any test [] = refl
terms_any test (t ∷ ts) = ap (λ b. has_term_such test (tree_of t) || b) (terms_any test ts)

pub literals_any : (test : Lit → Bool) (ls : List Literal) → list_any (λ l. test (literal_of l)) ls ≡ list_any test (map literal_of ls)
literals_any test [] = refl
literals_any test (l ∷ ls) = ap (λ b. test (literal_of l) || b) (literals_any test ls)

shows_same : (s : Sieve) (n : ℕ) (f g : Test → Bool) → ((test : Test) → f test ≡ g test) → Shows s n f → Shows s n g
shows_same s n f g same shown = λ test h. shown test (same test ∙ h)

-- terms
abbrev pub HasUnder : Sieve → ℕ → Term → Type 0
HasUnder s n t = Shows s n (λ test. has_term_such test (tree_of t))

pub record ArgumentsFiled (old now : Sieve) (n : ℕ) (ts : List Term) (i : ℕ) : Type 0 where
  pub stay : StayUnder old now
  pub each : UpTo (HasUnder now n) ts i

pub first_arguments : (s : Sieve) (n : ℕ) (ts : List Term) → ArgumentsFiled s s n ts 0
first_arguments s n ts = record { stay = λ t m h. h; each = λ j x lt at. absurd (omega (arith, lt)) }

pub next_argument : (old a b : Sieve) (n : ℕ) (ts : List Term) (i : ℕ) (t : Term) → i < length ts → t ≡ get_or ts i t → ArgumentsFiled old a n ts i → StayUnder a b → HasUnder b n t → ArgumentsFiled old b n ts (i + 1)
next_argument old a b n ts i t within is filed stay here = record {
  stay = λ u m h. stay u m (filed.stay u m h);
  each = next_too (HasUnder a n) (HasUnder b n) ts i t (λ u shown. shows_on a b n (λ test. has_term_such test (tree_of u)) stay shown) within is filed.each here;
}

pub arguments_shown : (old s : Sieve) (n : ℕ) (ts : List Term) (i : ℕ) → length ts ≤ i → ArgumentsFiled old s n ts i → Shows s n (λ test. has_argument_such test (trees_of (tree_list ts)))
arguments_shown old s n ts i past filed =
    shows_same s n (λ test. list_any (λ t. has_term_such test (tree_of t)) ts) (λ test. has_argument_such test (trees_of (tree_list ts))) (λ test. terms_any test ts)
    (any_shown (λ t test. has_term_such test (tree_of t)) s n ts (λ j t lt at. filed.each j t (omega (arith, lt, past)) at))

pub application_shown : (first old s : Sieve) (n f : ℕ) (ts : List Term) (i : ℕ) → length ts ≤ i → IsUnder first (app f (trees_of (tree_list ts))) n → StayUnder first old → ArgumentsFiled old s n ts i
    → Shows s n (λ test. has_term_such test (app f (trees_of (tree_list ts))))
application_shown first old s n f ts i past under on filed =
    shows_either s n (λ test. test (app f (trees_of (tree_list ts)))) (λ test. has_argument_such test (trees_of (tree_list ts)))
    (shows_this s n (app f (trees_of (tree_list ts))) (filed.stay _ n (on _ n under)))
    (arguments_shown old s n ts i past filed)

-- literals
pub literal_on : (long : Bool) (a b : Finder) (n : ℕ) (l : Lit) → AllStay a b → IsFiledLiteral long a n l → IsFiledLiteral long b n l
literal_on long a b n l stay filed = record {
  positives = λ is. shows_on a.positives b.positives n _ stay.positives (filed.positives is);
  negatives = λ is. shows_on a.negatives b.negatives n _ stay.negatives (filed.negatives is);
  inside = λ keeps. shows_on a.inside b.inside n _ stay.inside (filed.inside (stay.kept ∙ keeps));
  sides = shows_on a.sides b.sides n _ stay.sides filed.sides;
}

-- marks
under_on : (a b : MarkSieve) (h : Held) → StayMarked a b → IsUnderMarks a h → IsUnderMarks b h
under_on a b h stay under long = let w = under long in (w.0, w.1, stay w.0 h.number w.2)

under_other : (n : ℕ) (a b : MarkSieve) (h : Held) → OthersStayMarked n a b → (h.number ≡ n → ⊥) → IsUnderMarks a h → IsUnderMarks b h
under_other n a b h stay apart under long = let w = under long in (w.0, w.1, stay w.0 h.number apart w.2)

pub record LiteralsFiled (long : Bool) (old now : Finder) (n : ℕ) (ls : List Literal) (i : ℕ) : Type 0 where
  pub stay : AllStay old now
  pub each : UpTo (λ l. IsFiledLiteral long now n (literal_of l)) ls i

pub stay_on : (a b c : Finder) → AllStay a b → AllStay b c → AllStay a c
stay_on a b c f g = record {
  positives = λ t m h. g.positives t m (f.positives t m h);
  negatives = λ t m h. g.negatives t m (f.negatives t m h);
  kept = f.kept ∙ g.kept;
  inside = λ t m h. g.inside t m (f.inside t m h);
  sides = λ t m h. g.sides t m (f.sides t m h);
  long = λ ms m h. g.long ms m (f.long ms m h);
}

pub others_on : (n : ℕ) (a b c : Finder) → AllOthersStay n a b → AllOthersStay n b c → AllOthersStay n a c
others_on n a b c f g = record {
  positives = λ t m d h. g.positives t m d (f.positives t m d h);
  negatives = λ t m d h. g.negatives t m d (f.negatives t m d h);
  kept = f.kept ∙ g.kept;
  inside = λ t m d h. g.inside t m d (f.inside t m d h);
  sides = λ t m d h. g.sides t m d (f.sides t m d h);
  long = λ ms m d h. g.long ms m d (f.long ms m d h);
}

pub next_literal : (long : Bool) (old a b : Finder) (n : ℕ) (ls : List Literal) (i : ℕ) (l : Literal) → i < length ls → l ≡ get_or ls i l → LiteralsFiled long old a n ls i → AllStay a b → IsFiledLiteral long b n (literal_of l) → LiteralsFiled long old b n ls (i + 1)
next_literal long old a b n ls i l within is filed stay here = record {
  stay = stay_on old a b filed.stay stay;
  each = next_too (λ k. IsFiledLiteral long a n (literal_of k)) (λ k. IsFiledLiteral long b n (literal_of k)) ls i l (λ k f. literal_on long a b n (literal_of k) stay f) within is filed.each here;
}

literals_shown : (has : Lit → Test → Bool) (s : Sieve) (n : ℕ) (ls : List Literal) (i : ℕ) → length ls ≤ i → UpTo (λ l. Shows s n (has (literal_of l))) ls i → Shows s n (λ test. list_any (λ l. has l test) (map literal_of ls))
literals_shown has s n ls i past each =
    shows_same s n (λ test. list_any (λ l. has (literal_of l) test) ls) (λ test. list_any (λ l. has l test) (map literal_of ls)) (λ test. literals_any (λ l. has l test) ls)
    (any_shown (λ l test. has (literal_of l) test) s n ls (λ j l lt at. each j l (omega (arith, lt, past)) at))

pub clause_filed : (old f : Finder) (h : Held) (ls : List Literal) (i : ℕ) → map literal_of ls ≡ h.clause → length ls ≤ i → LiteralsFiled (not (is_short h.clause)) old f h.number ls i → IsUnderMarks old.long h → IsFiled f h
clause_filed old f h ls i is past given under = subst (λ c. LiteralsFiled (not (is_short c)) old f h.number ls i → IsUnderMarks old.long (record { number = h.number; clause = c }) → IsFiled f (record { number = h.number; clause = c })) is (λ filed before. record {
  positives = λ long. literals_shown (λ l test. same_sign true l.positive && test l.atom) f.positives h.number ls i past (λ j l lt at. (filed.each j l lt at).positives (ap not long));
  negatives = λ long. literals_shown (λ l test. same_sign false l.positive && test l.atom) f.negatives h.number ls i past (λ j l lt at. (filed.each j l lt at).negatives (ap not long));
  inside = λ keeps. literals_shown (λ l test. has_such_below test l.atom) f.inside h.number ls i past (λ j l lt at. (filed.each j l lt at).inside keeps);
  sides = literals_shown (λ l test. has_side_such test l) f.sides h.number ls i past (λ j l lt at. (filed.each j l lt at).sides);
  long = under_on old.long f.long (record { number = h.number; clause = map literal_of ls }) filed.stay.long before;
}) given under

-- places in clauses
pub turned_false : (b : Bool) → not b ≡ true → b ≡ false
turned_false true e = sym e
turned_false false e = refl

pub filed_at : (f : Finder) (h : Held) → IsFiled f h → (part : Part) → is_kept part f ≡ true → IsTrue (is_sought part h) → Shows (sieve_of part f) h.number (λ test. has_part_such part test h)
filed_at f h filed (Atoms true) keeps sought = filed.positives (turned_false (is_short h.clause) sought)
filed_at f h filed (Atoms false) keeps sought = filed.negatives (turned_false (is_short h.clause) sought)
filed_at f h filed Inside keeps sought = filed.inside keeps
filed_at f h filed Sides keeps sought = filed.sides

pub stay_filed : (a b : Finder) (h : Held) → AllStay a b → IsFiled a h → IsFiled b h
stay_filed a b h stay filed = record {
  positives = λ long. shows_on a.positives b.positives h.number _ stay.positives (filed.positives long);
  negatives = λ long. shows_on a.negatives b.negatives h.number _ stay.negatives (filed.negatives long);
  inside = λ keeps. shows_on a.inside b.inside h.number _ stay.inside (filed.inside (stay.kept ∙ keeps));
  sides = shows_on a.sides b.sides h.number _ stay.sides filed.sides;
  long = under_on a.long b.long h stay.long filed.long;
}

pub others_filed : (n : ℕ) (a b : Finder) (h : Held) → AllOthersStay n a b → (h.number ≡ n → ⊥) → IsFiled a h → IsFiled b h
others_filed n a b h stay apart filed = record {
  positives = λ long. shows_other a.positives b.positives h.number _ n stay.positives apart (filed.positives long);
  negatives = λ long. shows_other a.negatives b.negatives h.number _ n stay.negatives apart (filed.negatives long);
  inside = λ keeps. shows_other a.inside b.inside h.number _ n stay.inside apart (filed.inside (stay.kept ∙ keeps));
  sides = shows_other a.sides b.sides h.number _ n stay.sides apart filed.sides;
  long = under_other n a.long b.long h stay.long apart filed.long;
}
