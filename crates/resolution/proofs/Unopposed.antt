-- Clauses that don't oppose each other give nothing together.
use Rattle.std.proofs.Common.{◌≡◌, ℕ, zero, suc, ◌<◌, ◌≤◌, Bool, true, false, not, ◌&&◌, ◌||◌, if◌then◌else◌, IsTrue, List, [], ◌∷◌, length, get_or, map, filter, flat_map, refl, sym, ap, ◌∙◌, arith}
use Rattle.std.specs.List.{list_any}
use Rattle.std.proofs.lemmas.Bool.{false≢true}
use Rattle.fol_core.specs.ClauseView.{literal_of}
use Rattle.fol_core.specs.Literals.{ClauseTree}
use Rattle.fol_core.specs.Tree.{Tree}
use Rattle.fol_core.specs.declared.clause.Literal.{Literal}
use Rattle.clause_index.specs.Numbered.{is_numbered}
use Rattle.clause_index.proofs.Numbers.{IsAmong, left_out, fails_too, each_numbered, fail_each, either_false}
use Rattle.derivation.specs.Places.{has_literal, same_sign, atom_at}
use Rattle.discrim_tree.specs.Terms.{can_unify}
use Rattle.discrim_tree.proofs.Terms.{unifiers_are_of_two}
use Rattle.prover_steps.specs.Clashing.{Held, is_same_held, places_of, places_with, resolvents_with, resolvents_of}
use Rattle.prover_steps.specs.HeldOrder.{numbers_of}
use Rattle.discrim_tree.specs.Meeting.{NeverMeet}
use Rattle.resolution.specs.Meeting.{NeverClash}
use Rattle.resolution.specs.Opposing.{opposes, numbers_against}
use Rattle.resolution.proofs.Failing.{no_resolvent}
use Rattle.resolution.proofs.Going.{flat_none}

-- terms that have no unifier
pub never_meets : (s t : Tree) → can_unify s t ≡ false → NeverMeet s t
never_meets s t none u v same = false≢true (sym none ∙ (unifiers_are_of_two s t).1 (u, v, same))

-- whether a literal of a clause opposes one by its sign and atom
abbrev opposed : Bool → Tree → ClauseTree → Bool
opposed sign t d = list_any (λ k. same_sign (not sign) k.positive && can_unify t k.atom) d

abbrev are_signs : Bool → Bool → Bool
are_signs p q = (same_sign true p && same_sign false q) || (same_sign false p && same_sign true q)

one_opposed : (p q : Bool) (s t : Tree) → same_sign (not p) q && can_unify s t ≡ false → IsTrue (are_signs p q) → NeverMeet s t
one_opposed true true s t none signs = absurd (false≢true signs)
one_opposed true false s t none signs = never_meets s t none
one_opposed false true s t none signs = never_meets s t none
one_opposed false false s t none signs = absurd (false≢true signs)

none_opposed : (sign : Bool) → (same_sign true sign && false) || (same_sign false sign && false) ≡ false
none_opposed true = refl
none_opposed false = refl

never_opposed : (sign : Bool) (t : Tree) (d : ClauseTree) (b : ℕ) → opposed sign t d ≡ false
    → IsTrue ((same_sign true sign && has_literal false d b) || (same_sign false sign && has_literal true d b)) → NeverMeet t (atom_at d b)
never_opposed sign t [] b none opposite = absurd (false≢true (sym (none_opposed sign) ∙ opposite))
never_opposed sign t (k ∷ d) zero none opposite =
    one_opposed sign k.positive t k.atom (either_false (same_sign (not sign) k.positive && can_unify t k.atom) (opposed sign t d) none).0 opposite
never_opposed sign t (k ∷ d) (suc b) none opposite =
    never_opposed sign t d b (either_false (same_sign (not sign) k.positive && can_unify t k.atom) (opposed sign t d) none).1 opposite

-- no literal of a clause is opposed
pub never_clashes : (c d : ClauseTree) (n a b : ℕ) → list_any (λ l. opposes l (record { number = n; clause = d })) c ≡ false → NeverClash c a d b
never_clashes [] d n a b none opposite = absurd (false≢true opposite)
never_clashes (l ∷ c) d n zero b none opposite =
    never_opposed l.positive l.atom d b (either_false (opposed l.positive l.atom d) (list_any (λ k. opposes k (record { number = n; clause = d })) c) none).0 opposite
never_clashes (l ∷ c) d n (suc a) b none opposite =
    never_clashes c d n a b (either_false (opposed l.positive l.atom d) (list_any (λ k. opposes k (record { number = n; clause = d })) c) none).1 opposite

-- or the one at a place isn't
pub never_clash_at : (ls : List Literal) (a : ℕ) (l : Literal) (h : Held) (b : ℕ) → a < length ls → l ≡ get_or ls a l → opposes (literal_of l) h ≡ false → NeverClash (map literal_of ls) a h.clause b
never_clash_at [] a l h b lt is none opposite = absurd (omega arith)
never_clash_at (k ∷ ls) zero l h b lt is none opposite =
    let none_at : opposed k.positive (literal_of k).atom h.clause ≡ false = ap (λ (x : Literal). opposes (literal_of x) h) (sym is) ∙ none in
    never_opposed k.positive (literal_of k).atom h.clause b none_at opposite
never_clash_at (k ∷ ls) (suc a) l h b lt is none opposite = never_clash_at ls a l h b (omega arith) is none opposite

-- or there is none
pub never_there : (ls : List Literal) (a : ℕ) (d : ClauseTree) (b : ℕ) → length ls ≤ a → NeverClash (map literal_of ls) a d b
never_there [] a d b past opposite = absurd (false≢true opposite)
never_there (l ∷ ls) zero d b past opposite = absurd (omega arith)
never_there (l ∷ ls) (suc a) d b past opposite = never_there ls a d b (omega arith) opposite

-- the other way round
turned_signs : (p q r s : Bool) → IsTrue ((p && q) || (r && s)) → IsTrue ((s && r) || (q && p))
turned_signs true true true true h = refl
turned_signs true true true false h = refl
turned_signs true true false true h = refl
turned_signs true true false false h = refl
turned_signs true false true true h = refl
turned_signs true false true false h = h
turned_signs true false false true h = h
turned_signs true false false false h = h
turned_signs false true true true h = refl
turned_signs false true true false h = h
turned_signs false true false true h = h
turned_signs false true false false h = h
turned_signs false false true true h = refl
turned_signs false false true false h = h
turned_signs false false false true h = h
turned_signs false false false false h = h

pub turned : (c d : ClauseTree) (a b : ℕ) → NeverClash c a d b → NeverClash d b c a
turned c d a b never opposite u v same =
    never (turned_signs (has_literal true d b) (has_literal false c a) (has_literal false d b) (has_literal true c a) opposite) v u (sym same)

-- clauses without one of the numbers oppose nothing of the clause
pub none_against : (hs : List Held) (c : ClauseTree) (h : Held) → IsAmong h hs → is_numbered (numbers_against hs c) h ≡ false → list_any (λ l. opposes l h) c ≡ false
none_against hs c h among none =
    fail_each (λ l. opposes l h) (λ l. is_numbered (numbers_of (filter (opposes l) hs)) h) c (λ l e. fails_too (opposes l) h hs among e)
    (sym (each_numbered (λ l. numbers_of (filter (opposes l) hs)) h c) ∙ none)

-- resolvents with all clauses are those with the ones that oppose the given clause
no_resolvents : (g d : Held) → list_any (λ l. opposes l d) g.clause ≡ false → resolvents_with g d ≡ []
no_resolvents g d none =
    flat_none _ (if is_same_held g d then places_with true g.clause else places_of g.clause)
    (λ i. flat_none _ (places_of d.clause) (λ j. no_resolvent g.number g.clause i d.number d.clause j (never_clashes g.clause d.clause d.number i j none)))

pub resolvents_left : (hs : List Held) (g : Held) → flat_map (resolvents_with g) (filter (is_numbered (numbers_against hs g.clause)) hs) ≡ resolvents_of hs g
resolvents_left hs g = left_out (resolvents_with g) (is_numbered (numbers_against hs g.clause)) hs (λ h among none. no_resolvents g h (none_against hs g.clause h among none))
