-- Clauses that are filed, as others come and go.
use Rattle.std.proofs.Common.{◌≡◌, ℕ, suc, arith, ◌==◌, ◌&&◌, ◌||◌, Bool, true, false, IsTrue, not, nat_lt, if◌then◌else◌, List, [], ◌∷◌, Some, filter, inl, inr, refl, sym, ap, ◌∙◌, subst, eqb-true, eq-eqb}
use Rattle.std.specs.Prelude.{Result, Ok, Err, OnOk, OnErr}
use Rattle.std.specs.List.{Contains}
use Rattle.clause_index.specs.Filing.{AllStay, AllOthersStay, IsFiled, AreFiled, LeavesOutNoClause, HasAllShort, HasAllSuch, is_sought}
use Rattle.clause_index.specs.Entries.{is_short, is_short_of, first_atom}
use Rattle.clause_index.specs.Finding.{has_part_such}
use Rattle.clause_index.specs.Places.{with_number}
use Rattle.clause_index.specs.declared.finder.Finder.{Finder}
use Rattle.clause_index.specs.declared.parts.Part.{Part}
use Rattle.clause_index.specs.declared.parts.Part.TheVariants.{Atoms}
use Rattle.clause_index.proofs.Filing.{stay_filed, others_filed}
use Rattle.clause_index.proofs.Removals.{but_for}
use Rattle.discrim_tree.proofs.Ordered.{in_contains}
use Rattle.discrim_tree.specs.Nodes.{IsIn}
use Rattle.derivation.specs.Places.{same_sign}
use Rattle.fol_core.specs.Literals.{Lit, ClauseTree}
use Rattle.fol_core.specs.Tree.{Tree}
use Rattle.prover_steps.specs.Clashing.{Held}
use Rattle.prover_steps.specs.HeldOrder.{numbers_of, IsNoneOf}
use Rattle.prover_steps.specs.Searching.{put_in}

no_both : {A : Type 0} (b : Bool) → b ≡ true → b ≡ false → A
no_both b e f = let same : true ≡ false = sym e ∙ f in cc

pub all_stay : (a b : Finder) (hs : List Held) → AllStay a b → AreFiled a hs → AreFiled b hs
all_stay a b [] stay filed = tt
all_stay a b (h ∷ hs) stay filed = (stay_filed a b h stay filed.0, all_stay a b hs stay filed.1)

pub others_stay : (n : ℕ) (a b : Finder) (hs : List Held) → AllOthersStay n a b → IsNoneOf n (numbers_of hs) → AreFiled a hs → AreFiled b hs
others_stay n a b [] stay none filed = tt
others_stay n a b (h ∷ hs) stay none filed = (others_filed n a b h stay (λ same. none.0 (sym same)) filed.0, others_stay n a b hs stay none.1 filed.1)

-- one more
pub one_filed : (f : Finder) (h : Held) (hs : List Held) → IsFiled f h → AreFiled f hs → AreFiled f (put_in h hs)
one_filed f h [] here filed = (here, tt)
one_filed f h (k ∷ hs) here filed = by (nat_lt h.number k.number) (one_filed f h hs here filed.1)
  where
    by : (b : Bool) → AreFiled f (put_in h hs) → AreFiled f (if b then h ∷ k ∷ hs else k ∷ put_in h hs)
    by true rest = (here, filed)
    by false rest = (filed.0, rest)

-- where the list may take it or not
pub one_taken : {X E : Type 0} (r : Result X E) (f : Finder) (h : Held) (old new : List Held) → OnOk r (new ≡ put_in h old) → OnErr r (new ≡ old) → IsFiled f h → AreFiled f old → AreFiled f new
one_taken (Ok x) f h old new ok err here filed = subst (AreFiled f) (sym ok) (one_filed f h old here filed)
one_taken (Err e) f h old new ok err here filed = subst (AreFiled f) (sym err) filed

-- one less
pub one_gone : (n : ℕ) (a b : Finder) (hs : List Held) → AllOthersStay n a b → AreFiled a hs → AreFiled b (but_for n hs)
one_gone n a b [] stay filed = tt
one_gone n a b (h ∷ hs) stay filed = by (h.number == n) refl (one_gone n a b hs stay filed.1)
  where
    clash : true ≡ false → ⊥
    clash e = cc

    by : (c : Bool) → (h.number == n) ≡ c → AreFiled b (but_for n hs) → AreFiled b (if not c then h ∷ but_for n hs else but_for n hs)
    by true e rest = rest
    by false e rest = (others_filed n a b h stay (λ same. clash (sym (eq-eqb h.number n same) ∙ e)) filed.0, rest)

-- a clause by its number has that
pub number_there : (n : ℕ) (hs : List Held) (k : Held) → Some k ≡ with_number n hs → k.number ≡ n
number_there n [] k e = cc
number_there n (h ∷ hs) k e = by (λ f. number_there n hs k f) (h.number == n) refl e
  where
    some_same : (x y : Held) → Some x ≡ Some y → x ≡ y
    some_same x y f = cc

    by : (Some k ≡ with_number n hs → k.number ≡ n) → (c : Bool) → (h.number == n) ≡ c → Some k ≡ (if c then Some h else with_number n hs) → k.number ≡ n
    by rest true s f = ap (λ (x : Held). x.number) (some_same k h f) ∙ eqb-true h.number n s
    by rest false s f = rest f

-- the numbers of all
all_on : (part : Part) (test : Tree → Bool) (n : ℕ) (ns : List ℕ) (hs : List Held) → HasAllSuch part test hs ns → HasAllSuch part test hs (n ∷ ns)
all_on part test n ns [] all = tt
all_on part test n ns (h ∷ hs) all = ((λ pass. let w = all.0 pass in let within = w.1 in (suc w.0, omega (arith, within), w.2)), all_on part test n ns hs all.1)

all_here : (part : Part) (test : Tree → Bool) (hs : List Held) → HasAllSuch part test hs (numbers_of hs)
all_here part test [] = tt
all_here part test (h ∷ hs) = ((λ pass. (0, omega arith, refl)), all_on part test h.number (numbers_of hs) hs (all_here part test hs))

all_so : (part : Part) (test : Tree → Bool) (hs : List Held) (ns ms : List ℕ) → ((n : ℕ) → Contains ns n → Contains ms n) → HasAllSuch part test hs ns → HasAllSuch part test hs ms
all_so part test [] ns ms on all = tt
all_so part test (h ∷ hs) ns ms on all = ((λ pass. on h.number (all.0 pass)), all_so part test hs ns ms on all.1)

pub all_numbers : (part : Part) (test : Tree → Bool) (hs : List Held) (ns ms : List ℕ) → ns ≡ numbers_of hs → ((n : ℕ) → Contains ns n → Contains ms n) → HasAllSuch part test hs ms
all_numbers part test hs ns ms is on = all_so part test hs (numbers_of hs) ms (subst (λ (ks : List ℕ). (n : ℕ) → Contains ks n → Contains ms n) is on) (all_here part test hs)

-- those that are found are covered
pub all_covered : (f : Finder) (part : Part) (test : Tree → Bool) (ns : List ℕ) (hs : List Held) → ((h : Held) → IsTrue (is_sought part h)) → LeavesOutNoClause f part test ns → AreFiled f hs → HasAllSuch part test hs ns
all_covered f part test ns [] kind none filed = tt
all_covered f part test ns (h ∷ hs) kind none filed = ((λ pass. none h filed.0 (kind h) pass), all_covered f part test ns hs kind none filed.1)

-- those with an atom, of one literal or of more
of_sign : (sign : Bool) (test : Tree → Bool) (l : Lit) → ((same_sign sign l.positive && test l.atom) || false) ≡ true → (not (same_sign (not sign) l.positive) && test l.atom) ≡ true
of_sign sign test l e = by sign l.positive (test l.atom) e
  where
    by : (a b m : Bool) → ((same_sign a b && m) || false) ≡ true → (not (same_sign (not a) b) && m) ≡ true
    by true true true e = refl
    by true true false e = e
    by true false m e = no_both false e refl
    by false true m e = no_both false e refl
    by false false true e = refl
    by false false false e = e

atom_there : (f : Finder) (sign : Bool) (test : Tree → Bool) (short long ns : List ℕ) (h : Held) → ((n : ℕ) → Contains short n → Contains ns n) → ((n : ℕ) → Contains long n → Contains ns n)
    → (IsTrue (is_short_of sign h && test (first_atom h)) → Contains short h.number) → LeavesOutNoClause f (Atoms sign) test long → IsFiled f h
    → IsTrue (has_part_such (Atoms sign) test h) → Contains ns h.number
atom_there f sign test short long ns h one more shorts none filed pass = by h.clause refl
  where
    by : (c : ClauseTree) → h.clause ≡ c → Contains ns h.number
    by [] is = no_both false (sym (ap (λ d. has_part_such (Atoms sign) test (record { number = h.number; clause = d })) is) ∙ pass) refl
    by (l ∷ []) is = one h.number (shorts (
        ap (λ d. is_short_of sign (record { number = h.number; clause = d }) && test (first_atom (record { number = h.number; clause = d }))) is
        ∙ of_sign sign test l (sym (ap (λ d. has_part_such (Atoms sign) test (record { number = h.number; clause = d })) is) ∙ pass)))
    by (l ∷ k ∷ c) is = more h.number (none h filed (ap (λ d. not (is_short d)) is) pass)

pub atoms_covered : (f : Finder) (sign : Bool) (test : Tree → Bool) (short long ns : List ℕ) (hs : List Held) → ((n : ℕ) → Contains short n → Contains ns n) → ((n : ℕ) → Contains long n → Contains ns n)
    → HasAllShort sign test hs short → LeavesOutNoClause f (Atoms sign) test long → AreFiled f hs → HasAllSuch (Atoms sign) test hs ns
atoms_covered f sign test short long ns [] one more shorts none filed = tt
atoms_covered f sign test short long ns (h ∷ hs) one more shorts none filed =
    ((λ pass. atom_there f sign test short long ns h one more shorts.0 none filed.0 pass), atoms_covered f sign test short long ns hs one more shorts.1 none filed.1)

-- and their numbers are among them
pub all_near : (part : Part) (test : Tree → Bool) (ns : List ℕ) (hs : List Held) → HasAllSuch part test hs ns
    → (n : ℕ) → IsIn n (numbers_of (filter (has_part_such part test) hs)) → IsIn n ns
all_near part test ns [] all n there = absurd there
all_near part test ns (h ∷ hs) all n there = by (has_part_such part test h) refl (λ behind. all_near part test ns hs all.1 n behind) there
  where
    passing : List Held
    passing = filter (has_part_such part test) hs

    by : (b : Bool) → has_part_such part test h ≡ b → (IsIn n (numbers_of passing) → IsIn n ns) → IsIn n (numbers_of (if b then h ∷ passing else passing)) → IsIn n ns
    by true e rest (inl same) = subst (λ (m : ℕ). IsIn m ns) (sym same) (in_contains h.number ns (all.0 e))
    by true e rest (inr behind) = rest behind
    by false e rest behind = rest behind
