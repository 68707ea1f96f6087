-- Clauses that are found by their marks.
use Rattle.std.proofs.Common.{◌≡◌, ℕ, Bool, true, false, IsTrue, not, ◌&&◌, ◌||◌, List, [], ◌∷◌, Option, Some, None, refl, sym, subst, ◌∙◌}
use Rattle.std.specs.Prelude.{Result, Ok, Err, IfOk, IfSome, OnOk}
use Rattle.std.specs.List.{AllByRecursion, Contains}
use Rattle.std.specs.List.Sorted.{IsStrictlyIncreasing}
use Rattle.std.specs.Option.{option_map_or}
use Rattle.clause_index.specs.Entries.{is_short}
use Rattle.clause_index.specs.Filing.{AreMarksOf, IsUnderMarks, IsFiled, AreFiled, LeavesOutNoSubsumer, LeavesOutNoSubsumed}
use Rattle.clause_index.specs.Subsumers.{is_long_above, is_below}
use Rattle.clause_index.specs.declared.finder.Finder.{Finder}
use Rattle.clause_index.proofs.Marking.{subsumer_marks}
use Rattle.discrim_tree.specs.Marks.{IsMarked, AreAmong}
use Rattle.discrim_tree.specs.declared.marks.MarkSieve.{MarkSieve}
use Rattle.fol_core.specs.Literals.{ClauseTree}
use Rattle.prover_steps.specs.Clashing.{Held}
use Rattle.prover_steps.specs.Subsuming.{literal_matches, subsumes_with, subsumes}
use Rattle.substitutions.specs.Bindings.{Binding}

no_both : {A : Type 0} (b : Bool) → b ≡ true → b ≡ false → A
no_both b e f = let same : true ≡ false = sym e ∙ f in cc

-- one of two literals or more subsumes none of one literal at most
long_not_below : (c d : ClauseTree) → is_short c ≡ false → is_short d ≡ true → subsumes c d ≡ false
long_not_below [] d long short = no_both true refl long
long_not_below (l ∷ []) d long short = no_both true refl long
long_not_below (l ∷ k ∷ c) [] long short = refl
long_not_below (l ∷ k ∷ c) (x ∷ []) long short = by (literal_matches l (x ∷ []) 0 [])
  where
    by : (o : Option (List Binding)) → (option_map_or (λ more. subsumes_with more (k ∷ c) []) o false || false) ≡ false
    by None = refl
    by (Some bs) = refl
long_not_below (l ∷ k ∷ c) (x ∷ y ∷ d) long short = no_both false short refl

-- a clause that subsumes another has no other marks
among : (c d : ClauseTree) (ms ns : List ℕ) → AreMarksOf ms c → AreMarksOf ns d → subsumes c d ≡ true → AreAmong ms ns
among c d ms ns of_c of_d e = λ m there. of_d.all m (subsumer_marks c d e m (of_c.only m there))

pub above_found : (f : Finder) (d : ClauseTree) (marks ns : List ℕ) → AreMarksOf marks d
    → ((ms : List ℕ) (n : ℕ) → IsMarked f.long ms n → AreAmong ms marks → Contains ns n) → LeavesOutNoSubsumer f d ns
above_found f d marks ns of_d found = λ h filed pass. by h filed (is_short h.clause) refl pass
  where
    by : (h : Held) → IsFiled f h → (b : Bool) → is_short h.clause ≡ b → IsTrue (not b && subsumes h.clause d) → Contains ns h.number
    by h filed true e pass = absurd (no_both false pass refl)
    by h filed false e pass = let w = filed.long e in found w.0 h.number w.2 (among h.clause d w.0 marks w.1 of_d pass)

pub below_found : (f : Finder) (c : ClauseTree) (marks ns : List ℕ) → AreMarksOf marks c
    → (IsStrictlyIncreasing marks → (ms : List ℕ) (n : ℕ) → IsMarked f.long ms n → IsStrictlyIncreasing ms → AreAmong marks ms → Contains ns n) → LeavesOutNoSubsumed f c ns
below_found f c marks ns of_c found = λ long h filed pass. by h filed (is_short h.clause) refl long pass
  where
    by : (h : Held) → IsFiled f h → (b : Bool) → is_short h.clause ≡ b → is_short c ≡ false → IsTrue (subsumes c h.clause) → Contains ns h.number
    by h filed true e long pass = absurd (no_both (subsumes c h.clause) pass (long_not_below c h.clause long e))
    by h filed false e long pass = let w = filed.long e in found of_c.rise w.0 h.number w.2 w.1.rise (among c h.clause marks w.0 of_c w.1 pass)

-- a number that was put under a clause's marks
pub under_put : {X E : Type 0} (r : Result X E) (sieve : MarkSieve) (h : Held) (ms : List ℕ) (n : ℕ) → AreMarksOf ms h.clause → n ≡ h.number → OnOk r (IsMarked sieve ms n) → OnOk r (IsUnderMarks sieve h)
under_put (Ok x) sieve h ms n are same put = λ long. (ms, are, subst (λ m. IsMarked sieve ms m) same put)
under_put (Err e) sieve h ms n are same put = tt

-- all that are sought are covered
pub above_covered : (f : Finder) (d : ClauseTree) (ns : List ℕ) (hs : List Held) → LeavesOutNoSubsumer f d ns → AreFiled f hs
    → AllByRecursion (λ h. IsTrue (is_long_above d h) → Contains ns h.number) hs
above_covered f d ns [] none filed = tt
above_covered f d ns (h ∷ hs) none filed = ((λ pass. none h filed.0 pass), above_covered f d ns hs none filed.1)

pub below_covered : (f : Finder) (c : ClauseTree) (ns : List ℕ) (hs : List Held) → LeavesOutNoSubsumed f c ns → is_short c ≡ false → AreFiled f hs
    → AllByRecursion (λ h. IsTrue (is_below c h) → Contains ns h.number) hs
below_covered f c ns [] none long filed = tt
below_covered f c ns (h ∷ hs) none long filed = ((λ pass. none long h filed.0 pass), below_covered f c ns hs none long filed.1)

-- what holds of an answer then
pub ok_so : {X E : Type 0} (r : Result X E) (P Q : X → Type 0) → ((x : X) → P x → Q x) → IfOk r P → IfOk r Q
ok_so (Ok x) P Q on p = on x p
ok_so (Err e) P Q on p = tt

pub some_so : {X : Type 0} (o : Option X) (P Q : X → Type 0) → ((x : X) → P x → Q x) → IfSome o P → IfSome o Q
some_so (Some x) P Q on p = on x p
some_so None P Q on p = tt

pub some_is : {X : Type 0} (o : Option X) (x : X) (P : X → Type 0) → o ≡ Some x → IfSome o P → P x
some_is o x P is so = subst (λ p. IfSome p P) is so
