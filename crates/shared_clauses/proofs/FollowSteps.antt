-- Literals on shared terms, and what becomes of them.
use Rattle.std.proofs.Common.{◌≡◌, ◌↔◌, ℕ, zero, suc, ◌+◌, ◌<◌, ◌≤◌, ◌==◌, Bool, true, false, IsTrue, List, [], ◌∷◌, ◌++◌, length, set, take, drop, slice_index_or, slice_get, Some, refl, sym, ap, ap₂, ◌∙◌, subst, arith, add-one, inl, inr}
use mathlib.Core.Bool.{beq}
use Rattle.std.specs.List.{remove}
use Rattle.std.proofs.lemmas.Bool.{cases_eq, false≢true}
use Rattle.std.proofs.lemmas.List.{length-map, take_all}
use Rattle.derivation.specs.Equations.{below, equation, is_there, left_of, right_of}
use Rattle.derivation.specs.Later.{IsRepeated}
use Rattle.derivation.specs.Places.{atom_at, has_literal, others, has_place, same_sign, with_atom}
use Rattle.fol_core.specs.Literals.{ClauseTree, Lit, equality, literal}
use Rattle.fol_core.specs.Tree.{Tree, app, more, none}
use Rattle.inference.proofs.ClashSteps.{place_within}
use Rattle.inference.proofs.PlainSteps.{taken_others}
use Rattle.inference.specs.Followed.{PutAs, exchanged}
use Rattle.inference.specs.declared.underway.Put.TheVariants as put
use Rattle.shared_clauses.specs.Nodes.{AreNodeSides}
use Rattle.shared_clauses.specs.Rewriting.{IsExchangedTo, IsRewritten}
use Rattle.shared_clauses.specs.Ways.{IsWay, first_tree, id_at}
use Rattle.shared_clauses.specs.declared.following.Rewritten.{Rewritten}
use Rattle.shared_clauses.specs.declared.following.Rewritten.TheVariants.{Missing, Differs, Atom}
use Rattle.substitutions.specs.Paths.{replaced, subterm_at}
use Rattle.shared_clauses.specs.Shared.{AreLiteralsIn, clause_in, literal_in}
use Rattle.shared_clauses.specs.declared.shared.SharedLiteral.{SharedLiteral}
use Rattle.term_bank.specs.Bank.{Grows, IsAt, tree_at}
use Rattle.term_bank.specs.declared.id.TermId.{TermId}
use Rattle.term_bank.proofs.Building.{grows_at, grows_length}

-- a literal at a place
pub past_literal : (bank : List Tree) (ls : List SharedLiteral) (a : ℕ) (sign : Bool) → length ls ≤ a → false ≡ has_literal sign (clause_in bank ls) a
past_literal bank [] a sign h = refl
past_literal bank (l ∷ ls) zero sign h = absurd (omega (arith, h))
past_literal bank (l ∷ ls) (suc a) sign h = past_literal bank ls a sign (omega (arith, h))

sign_compared : (a b : Bool) → beq b a ≡ same_sign a b
sign_compared true true = refl
sign_compared true false = refl
sign_compared false true = refl
sign_compared false false = refl

pub there_literal : (bank : List Tree) (ls : List SharedLiteral) (a : ℕ) (sign : Bool) (d : SharedLiteral) → a < length ls → beq (slice_index_or ls a d).positive sign ≡ has_literal sign (clause_in bank ls) a
there_literal bank [] a sign d h = absurd (omega (arith, h))
there_literal bank (l ∷ ls) zero sign d h = sign_compared sign l.positive
there_literal bank (l ∷ ls) (suc a) sign d h = there_literal bank ls a sign d (omega (arith, h))

pub place_there : (bank : List Tree) (ls : List SharedLiteral) (a : ℕ) → IsTrue (has_place (clause_in bank ls) a) → a < length ls
place_there bank ls a h = let within = place_within (clause_in bank ls) a h in let same : length (clause_in bank ls) ≡ length ls = length-map ls (literal_in bank) in omega (arith, within, same)

pub atom_there : (bank : List Tree) (ls : List SharedLiteral) (a : ℕ) (d : SharedLiteral) → a < length ls → tree_at bank (slice_index_or ls a d).atom.0 ≡ atom_at (clause_in bank ls) a
atom_there bank [] a d h = absurd (omega (arith, h))
atom_there bank (l ∷ ls) zero d h = refl
atom_there bank (l ∷ ls) (suc a) d h = atom_there bank ls a d (omega (arith, h))

pub atom_within : (bank : List Tree) (ls : List SharedLiteral) (a : ℕ) (d : SharedLiteral) → a < length ls → AreLiteralsIn bank ls → (slice_index_or ls a d).atom.0 < length bank
atom_within bank [] a d h are = absurd (omega (arith, h))
atom_within bank (l ∷ ls) zero d h are = are.0
atom_within bank (l ∷ ls) (suc a) d h are = atom_within bank ls a d (omega (arith, h)) are.1

-- another atom there
pub atom_put : (bank : List Tree) (ls : List SharedLiteral) (a : ℕ) (k : TermId) (d : SharedLiteral) → a < length ls → clause_in bank (set ls a (record { positive = (slice_index_or ls a d).positive; atom = k })) ≡ with_atom (clause_in bank ls) a (tree_at bank k.0)
atom_put bank [] a k d h = absurd (omega (arith, h))
atom_put bank (l ∷ ls) zero k d h = refl
atom_put bank (l ∷ ls) (suc a) k d h = ap (λ c. literal_in bank l ∷ c) (atom_put bank ls a k d (omega (arith, h)))

pub within_put : (bank : List Tree) (ls : List SharedLiteral) (a : ℕ) (l : SharedLiteral) → l.atom.0 < length bank → AreLiteralsIn bank ls → AreLiteralsIn bank (set ls a l)
within_put bank [] a l h are = tt
within_put bank (m ∷ ls) zero l h are = (h, are.1)
within_put bank (m ∷ ls) (suc a) l h are = (are.0, within_put bank ls a l h are.1)

-- one is left out
pub taken_out : (bank : List Tree) (ls : List SharedLiteral) (i : ℕ) → clause_in bank (take i ls ++ drop (suc i) ls) ≡ take i (clause_in bank ls) ++ drop (suc i) (clause_in bank ls)
taken_out bank [] zero = refl
taken_out bank [] (suc i) = refl
taken_out bank (l ∷ ls) zero = refl
taken_out bank (l ∷ ls) (suc i) = ap (λ d. literal_in bank l ∷ d) (taken_out bank ls i)

pub within_out : (bank : List Tree) (ls : List SharedLiteral) (i : ℕ) → AreLiteralsIn bank ls → AreLiteralsIn bank (take i ls ++ drop (suc i) ls)
within_out bank [] zero are = tt
within_out bank [] (suc i) are = tt
within_out bank (l ∷ ls) zero are = are.1
within_out bank (l ∷ ls) (suc i) are = (are.0, within_out bank ls i are.1)

-- literals stay where the bank grows
pub within_on : (a b : List Tree) (ls : List SharedLiteral) → Grows a b → AreLiteralsIn a ls → AreLiteralsIn b ls
within_on a b [] grows are = tt
within_on a b (l ∷ ls) grows are = (let le = grows_length a b grows in let lt = are.0 in omega (arith, le, lt), within_on a b ls grows are.1)

pub clause_on : (a b : List Tree) (ls : List SharedLiteral) → Grows a b → AreLiteralsIn a ls → clause_in b ls ≡ clause_in a ls
clause_on a b [] grows are = refl
clause_on a b (l ∷ ls) grows are = ap₂ (λ (t : Tree) (c : ClauseTree). literal l.positive t ∷ c) (grows_at a b grows l.atom.0 are.0) (clause_on a b ls grows are.1)

-- literals that are the same
pub got_literal : (bank : List Tree) (ls : List SharedLiteral) (a : ℕ) (d : SharedLiteral) → a < length ls → slice_get (clause_in bank ls) a ≡ Some (literal_in bank (slice_index_or ls a d))
got_literal bank [] a d h = absurd (omega (arith, h))
got_literal bank (l ∷ ls) zero d h = refl
got_literal bank (l ∷ ls) (suc a) d h = got_literal bank ls a d (omega (arith, h))

pub same_literals : (bank : List Tree) (l m : SharedLiteral) (b : Bool) → beq l.positive m.positive ≡ true → IsTrue b ↔ (tree_at bank l.atom.0 ≡ tree_at bank m.atom.0) → IsTrue b ↔ (literal_in bank l ≡ literal_in bank m)
same_literals bank l m b signs same = (λ h. ap₂ literal (same_signs l.positive m.positive signs) (same.0 h), λ e. same.1 (ap (λ (k : Lit). k.atom) e))
  where
    same_signs : (p q : Bool) → beq p q ≡ true → p ≡ q
    same_signs true true h = refl
    same_signs true false h = absurd (false≢true h)
    same_signs false true h = absurd (false≢true h)
    same_signs false false h = refl

pub other_literals : (bank : List Tree) (l m : SharedLiteral) → beq l.positive m.positive ≡ false → IsTrue false ↔ (literal_in bank l ≡ literal_in bank m)
other_literals bank l m signs = (λ h. absurd (false≢true h), λ e. absurd (apart l.positive m.positive signs (ap (λ (k : Lit). k.positive) e)))
  where
    apart : (p q : Bool) → beq p q ≡ false → p ≡ q → ⊥
    apart true true h e = false≢true (sym h)
    apart true false h e = cc
    apart false true h e = cc
    apart false false h e = false≢true (sym h)

module _ (bank : List Tree) (ls : List SharedLiteral) (a b : ℕ) (d : SharedLiteral) (first : b < a) (h : a < length ls) where
  pub repeats : literal_in bank (slice_index_or ls b d) ≡ literal_in bank (slice_index_or ls a d) → IsRepeated (clause_in bank ls) a
  repeats same = (b, first, got_literal bank ls b d (omega (arith, first, h)) ∙ ap (λ l. Some l) same ∙ sym (got_literal bank ls a d h))

  pub differs : (literal_in bank (slice_index_or ls b d) ≡ literal_in bank (slice_index_or ls a d) → ⊥) → slice_get (clause_in bank ls) b ≡ slice_get (clause_in bank ls) a → ⊥
  differs other e = other (some_same _ _ (sym (got_literal bank ls b d (omega (arith, first, h))) ∙ e ∙ got_literal bank ls a d h))
    where
      some_same : (x y : Lit) → Some x ≡ Some y → x ≡ y
      some_same x y e = cc

pub none_before : (c : ClauseTree) (a i : ℕ) → ((b : ℕ) → b < i → slice_get c b ≡ slice_get c a → ⊥) → (slice_get c i ≡ slice_get c a → ⊥) → (b : ℕ) → b < i + 1 → slice_get c b ≡ slice_get c a → ⊥
none_before c a i before here b lt e = elim (cases_eq b i) [
  | inl same ↦ here (subst (λ n. slice_get c n ≡ slice_get c a) same e)
  | inr other ↦ before b (omega (arith, lt, other)) e
]

pub none_repeated : (c : ClauseTree) (a i : ℕ) → a ≤ i → ((b : ℕ) → b < i → slice_get c b ≡ slice_get c a → ⊥) → IsRepeated c a → ⊥
none_repeated c a i le never (b, lt, same) = never b (omega (arith, lt, le)) same

-- the sides of an equation turned
pub turned : (bank : List Tree) (n l r : ℕ) (t : Tree) → AreNodeSides bank n l r → tree_at bank n ≡ t → app equality (more (tree_at bank r) (more (tree_at bank l) none)) ≡ equation (right_of t) (left_of t)
turned bank n l r t sides at = ap₂ equation (sides.sides.right_is ∙ ap right_of at) (sides.sides.left_is ∙ ap left_of at)

-- what comes of a rule that is put in
module _ (bank : List Tree) (c : ClauseTree) (t : Tree) (path : List ℕ) (left right : Tree) (a : ℕ) (at : t ≡ atom_at c a) where
  pub put_missing : (done : Rewritten) (d : ClauseTree) → done ≡ Missing → IsRewritten bank t path left right done → d ≡ c → PutAs (λ c. false) c a path left right d put.Missing
  put_missing done d e is same = (ap (λ u. is_there (below u path)) (sym at) ∙ subst (IsRewritten bank t path left right) e is, same)

  pub put_differs : (done : Rewritten) (d : ClauseTree) → done ≡ Differs → IsRewritten bank t path left right done → d ≡ c → PutAs (λ c. false) c a path left right d put.Differs
  put_differs done d e is same =
      let it : IsRewritten bank t path left right Differs = subst (IsRewritten bank t path left right) e is in
      (it.0, ap (λ u. below u path) (sym at) ∙ it.1, it.2, same)

  pub put_rule_done : (done : Rewritten) (k : TermId) (d : ClauseTree) → done ≡ Atom k → IsRewritten bank t path left right done → d ≡ with_atom c a (tree_at bank k.0) → PutAs (λ c. false) c a path left right d put.Done
  put_rule_done done k d e is same =
      let it : IsRewritten bank t path left right (Atom k) = subst (IsRewritten bank t path left right) e is in
      (it.0, it.1, ap (λ u. below u path) (sym at) ∙ it.2, it.3, same ∙ ap (with_atom c a) (it.4.tree ∙ ap (λ u. replaced u path it.1) at))

pub atom_is_in : (bank : List Tree) (t : Tree) (path : List ℕ) (left right : Tree) (done : Rewritten) (k : TermId) → done ≡ Atom k → IsRewritten bank t path left right done → k.0 < length bank
atom_is_in bank t path left right done k e is = let it : IsRewritten bank t path left right (Atom k) = subst (IsRewritten bank t path left right) e is in it.4.within

pub removed : (bank : List Tree) (ls : List SharedLiteral) (i : ℕ) (c : ClauseTree) → clause_in bank ls ≡ c → i < length ls → clause_in bank (remove ls i) ≡ others (λ k. k == i) c
removed bank ls i c same h =
    let d : ClauseTree = clause_in bank ls in
    let within : i < length d = let e : length d ≡ length ls = length-map ls (literal_in bank) in omega (arith, e, h) in
    taken_out bank ls i ∙ ap (λ n. take i d ++ drop n d) (sym (add-one i)) ∙ taken_others d i within ∙ ap (others (λ k. k == i)) same

-- a rule is put in where a way ends
pub rule_done : (a b c : List Tree) (t : Tree) (path : List ℕ) (way : List TermId) (left right : Tree) (new target : ℕ) (k : TermId) → (length path ≡ 0 → ⊥) → IsWay a t path way → target ≡ id_at way (length path) → Grows a b → IsExchangedTo b (exchanged left right (tree_at a target)) new
    → IsAt c k.0 (replaced (first_tree b way) path (tree_at b new)) → IsRewritten c t path left right (Atom k)
rule_done a b c t [] way left right new target k some is at grows made put = absurd (some refl)
rule_done a b c t (n ∷ path) way left right new target k some is at grows made put =
    let all : List ℕ = n ∷ path in
    let end : subterm_at t all ≡ Some (tree_at a target) = ap (subterm_at t) (sym (take_all (length all) all (omega arith))) ∙ is.trees (length all) (omega arith) ∙ ap (λ m. Some (tree_at a m)) (sym at) in
    let first : t ≡ first_tree b way = some_same t (first_tree a way) (is.trees 0 (omega arith)) ∙ sym (grows_at a b grows (id_at way 0) (is.within 0 (omega arith))) in
    (tree_at a target, made.made, end, made.is, subst (IsAt c k.0) (ap₂ (λ u v. replaced u all v) (sym first) made.held.tree) put)
  where
    some_same : (x y : Tree) → Some x ≡ Some y → x ≡ y
    some_same x y e = cc

pub way_on : (a b : List Tree) (t : Tree) (path : List ℕ) (way : List TermId) → Grows a b → IsWay a t path way → IsWay b (first_tree b way) path way
way_on a b t path way grows is = record {
  as_many = is.as_many;
  within = λ i le. let lt = is.within i le in let more = grows_length a b grows in omega (arith, lt, more);
  trees = λ i le. ap (λ u. subterm_at u (take i path)) (sym first) ∙ is.trees i le ∙ ap (λ u. Some u) (sym (grows_at a b grows (id_at way i) (is.within i le)));
}
  where
    some_same : (x y : Tree) → Some x ≡ Some y → x ≡ y
    some_same x y e = cc

    first : t ≡ first_tree b way
    first = some_same t (first_tree a way) (is.trees 0 (omega arith)) ∙ sym (grows_at a b grows (id_at way 0) (is.within 0 (omega arith)))
