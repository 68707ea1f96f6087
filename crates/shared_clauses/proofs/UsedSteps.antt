-- Literals that are used on a clause.
use Rattle.std.proofs.Common.{◌≡◌, ◌↔◌, ℕ, zero, suc, ◌+◌, ◌<◌, ◌≤◌, Bool, true, false, IsTrue, List, [], ◌∷◌, ◌++◌, length, map, take, slice_get, slice_index_or, Option, Some, None, Result, Ok, Err, IfOk, OnOk, is_ok, if◌then◌else◌, refl, sym, ap, ap₂, ◌∙◌, subst, arith}
use Rattle.std.specs.Global.{Vec}
use Rattle.std.proofs.lemmas.List.{length-map, map-append, take_all}
use Rattle.derivation.specs.Places.{atom_at}
use Rattle.fol_core.specs.ClauseView.{literal_of}
use Rattle.fol_core.specs.Literals.{ClauseTree, Lit, literal}
use Rattle.fol_core.specs.Substitutions.{Substitution, substitute}
use Rattle.fol_core.specs.TermView.{tree_of}
use Rattle.fol_core.specs.Tree.{Tree}
use Rattle.fol_core.specs.declared.clause.Literal.{Literal}
use Rattle.shared_clauses.specs.Bound.{AreBoundBelow, IsMatched, bound_in}
use Rattle.shared_clauses.specs.Shared.{AreLiteralsIn, AreMade, clause_in, literal_in}
use Rattle.shared_clauses.specs.Used.{AreUsed, IsUsedOn, used_by}
use Rattle.shared_clauses.specs.Ways.{IsWay, id_at}
use Rattle.shared_clauses.specs.declared.shared.SharedLiteral.{SharedLiteral}
use Rattle.shared_clauses.proofs.BoundSteps.{bound_on}
use Rattle.shared_clauses.proofs.FollowSteps.{atom_there, atom_within, clause_on, got_literal, within_on}
use Rattle.shared_clauses.proofs.MakeSteps.{literals_next, made_next}
use Rattle.substitutions.specs.Bindings.{Binding, by_bindings}
use Rattle.substitutions.specs.Instances.{substitute_clause, substitute_literal}
use Rattle.substitutions.specs.Paths.{subterm_at}
use Rattle.term_bank.specs.Bank.{Grows, IsAt, tree_at}
use Rattle.term_bank.specs.declared.id.TermId.{TermId}
use Rattle.unifiers.specs.Matching.{matched}
use Rattle.unifiers.proofs.MatchesFound.{match_found, match_makes}

-- the substitution by bindings
abbrev pub used_with : Tree → ℕ → List Binding → Substitution
used_with general n bs = used_by general (by_bindings bs) n

-- a literal more
pub used_next : (f : List Binding → Substitution) (bs : List (ℕ × TermId)) (a b c : List Tree) (xs : List Literal) (i : ℕ) (x : Literal) (ls made : List SharedLiteral) (k : TermId) → AreBoundBelow (length a) bs → Grows a b → i < length xs → x ≡ slice_index_or xs i x
    → AreMade b (substitute_clause (f (bound_in a bs)) (map literal_of (take i xs))) ls → Grows b c → IsAt c k.0 (substitute (f (bound_in b bs)) (tree_of x.atom)) → made ≡ ls ++ (record { positive = x.positive; atom = k }) ∷ []
    → AreMade c (substitute_clause (f (bound_in a bs)) (map literal_of (take (i + 1) xs))) made
used_next f bs a b c xs i x ls made k bound first h at are grows is pushed =
    let s : Substitution = f (bound_in a bs) in
    let tree : tree_at c k.0 ≡ substitute s (tree_of x.atom) = is.tree ∙ ap (λ es. substitute (f es) (tree_of x.atom)) (bound_on a b bs first bound) in
    subst (λ (d : ClauseTree). AreMade c d made) (sym (map-append (substitute_literal s) (map literal_of (take i xs)) (literal_of x ∷ [])) ∙ ap (substitute_clause s) (literals_next xs i x h at))
    (made_next b c (substitute_clause s (map literal_of (take i xs))) (substitute_literal s (literal_of x)) ls made (record { positive = x.positive; atom = k }) are grows is.within (ap (literal x.positive) tree) pushed)

-- nothing makes the one term of the other, or this does
pub used_none : (general special : Tree) (used made : ClauseTree) (n : ℕ) → matched general special [] ≡ None → AreUsed general special used n made
used_none general special used made n none t is = let found = match_found general special t is in let e = sym none ∙ found.1 in absurd (cc)

pub used_some : (general special : Tree) (used made : ClauseTree) (n : ℕ) (bs : List Binding) → matched general special [] ≡ Some bs → made ≡ substitute_clause (used_with general n bs) used → AreUsed general special used n made
used_some general special used made n bs some is t same = (by_bindings bs, match_makes general special bs some, is)

pub way_gone : (t special : Tree) (path : List ℕ) (P : Type 0) → subterm_at t path ≡ None → subterm_at t path ≡ Some special → P
way_gone t special path P none some = let e = sym none ∙ some in absurd (cc)

pub way_end : (bank : List Tree) (t special : Tree) (path : List ℕ) (way : List TermId) → IsWay bank t path way → subterm_at t path ≡ Some special → tree_at bank (id_at way (length path)) ≡ special
way_end bank t special path way is at =
    some_same (tree_at bank (id_at way (length path))) special (sym (is.trees (length path) (omega arith)) ∙ ap (subterm_at t) (take_all (length path) path (omega arith)) ∙ at)
  where
    some_same : (x y : Tree) → Some x ≡ Some y → x ≡ y
    some_same x y e = cc

-- literals behind others
pub both_within : (bank : List Tree) (ls ms : List SharedLiteral) → AreLiteralsIn bank ls → AreLiteralsIn bank ms → AreLiteralsIn bank (ls ++ ms)
both_within bank [] ms are more = more
both_within bank (l ∷ ls) ms are more = (are.0, both_within bank ls ms are.1 more)

pub used_behind : (a b : List Tree) (ls made all : List SharedLiteral) (place id : ℕ) (path : List ℕ) (general : Tree) (used : ClauseTree) (n : ℕ) → AreLiteralsIn a ls → Grows a b → tree_at a id ≡ atom_at (clause_in a ls) place → all ≡ ls ++ made
    → ((special : Tree) → subterm_at (tree_at a id) path ≡ Some special → AreUsed general special used n (clause_in b made))
    → IsUsedOn (clause_in a ls) place path general used n (clause_in b all)
used_behind a b ls made all place id path general used n are grows at is by = (
  clause_in b made,
  ap (clause_in b) is ∙ map-append _ ls made ∙ ap (λ c. c ++ clause_in b made) (clause_on a b ls grows are),
  λ special there. by special (ap (λ t. subterm_at t path) at ∙ there),
)

-- the first literals
pub first_within : (bank : List Tree) (ls : List SharedLiteral) (n : ℕ) → AreLiteralsIn bank ls → AreLiteralsIn bank (take n ls)
first_within bank [] zero are = tt
first_within bank [] (suc n) are = tt
first_within bank (l ∷ ls) zero are = tt
first_within bank (l ∷ ls) (suc n) are = (are.0, first_within bank ls n are.1)

pub first_literals : (bank : List Tree) (ls : List SharedLiteral) (n : ℕ) → clause_in bank (take n ls) ≡ take n (clause_in bank ls)
first_literals bank [] zero = refl
first_literals bank [] (suc n) = refl
first_literals bank (l ∷ ls) zero = refl
first_literals bank (l ∷ ls) (suc n) = ap (λ c. literal l.positive (tree_at bank l.atom.0) ∷ c) (first_literals bank ls n)

-- literals at two places
some_same : (x y : Lit) → Some x ≡ Some y → x ≡ y
some_same x y e = cc

pub same_places : (bank : List Tree) (ls : List SharedLiteral) (c : ClauseTree) (a b : ℕ) (l m : SharedLiteral) (t : Bool) → clause_in bank ls ≡ c → a < length ls → b < length ls → l ≡ slice_index_or ls a l → m ≡ slice_index_or ls b m
    → IsTrue t ↔ (literal_in bank l ≡ literal_in bank m) → IsTrue t ↔ (slice_get c a ≡ slice_get c b)
same_places bank ls c a b l m t view h k first second same =
    let x : slice_get c a ≡ Some (literal_in bank l) = ap (λ d. slice_get d a) (sym view) ∙ got_literal bank ls a l h ∙ ap (λ n. Some (literal_in bank n)) (sym first) in
    let y : slice_get c b ≡ Some (literal_in bank m) = ap (λ d. slice_get d b) (sym view) ∙ got_literal bank ls b m k ∙ ap (λ n. Some (literal_in bank n)) (sym second) in
    (λ is. x ∙ ap (λ n. Some n) (same.0 is) ∙ sym y, λ e. same.1 (some_same (literal_in bank l) (literal_in bank m) (sym x ∙ e ∙ y)))

pub literal_below : (bank : List Tree) (ls : List SharedLiteral) (a : ℕ) (l : SharedLiteral) → a < length ls → l ≡ slice_index_or ls a l → AreLiteralsIn bank ls → l.atom.0 < length bank
literal_below bank ls a l h is are = let e = ap (λ (x : SharedLiteral). x.atom.0) is in let lt = atom_within bank ls a l h are in omega (arith, e, lt)

pub as_long : (bank : List Tree) (ls : List SharedLiteral) (c : ClauseTree) (a : ℕ) → clause_in bank ls ≡ c → a < length c → a < length ls
as_long bank ls c a view h = let e = ap length (sym view) ∙ length-map ls (literal_in bank) in omega (arith, h, e)

pub as_many : (bank : List Tree) (ls : List SharedLiteral) (c : ClauseTree) → clause_in bank ls ≡ c → length ls ≡ length c
as_many bank ls c view = sym (length-map ls (literal_in bank)) ∙ ap length view

-- what comes of a match
pub unmatched : (o : Option (List Binding)) (bank : List Tree) (bs : List (ℕ × TermId)) (b : Bool) → IsMatched o bank bs b → b ≡ false → o ≡ None
unmatched o bank bs b is e = subst (IsMatched o bank bs) e is

pub was_matched : (o : Option (List Binding)) (bank : List Tree) (bs : List (ℕ × TermId)) (b : Bool) → IsMatched o bank bs b → b ≡ true → (o ≡ Some (bound_in bank bs)) × AreBoundBelow (length bank) bs
was_matched o bank bs b is e = subst (IsMatched o bank bs) e is

pub result_used : {E : Type 0} (r : Result (Vec SharedLiteral) E) (a b : List Tree) (general special : Tree) (used : ClauseTree) (n : ℕ) (bs ids : List (ℕ × TermId)) → ids ≡ bs → matched general special [] ≡ Some (bound_in a bs)
    → IfOk r (λ ls. AreMade b (substitute_clause (used_with general n (bound_in a ids)) used) ls.items) → IfOk r (λ ls. AreUsed general special used n (clause_in b ls.items))
result_used (Ok ls) a b general special used n bs ids e some made =
    used_some general special used (clause_in b ls.items) n (bound_in a bs) some (made.clause ∙ ap (λ l. substitute_clause (used_with general n (bound_in a l)) used) e)
result_used (Err x) a b general special used n bs ids e some made = tt

got_default : (ids : List TermId) (i : ℕ) (k d : TermId) → i < length ids → k ≡ slice_index_or ids i k → k ≡ slice_index_or ids i d
got_default [] i k d h is = absurd (omega (arith, h))
got_default (m ∷ ids) zero k d h is = is
got_default (m ∷ ids) (suc i) k d h is = got_default ids i k d (omega (arith, h)) is

pub result_along : {E : Type 0} (r : Result (Vec SharedLiteral) E) (a b : List Tree) (t : Tree) (path : List ℕ) (way : List TermId) (general : Tree) (used : ClauseTree) (n : ℕ) (id : TermId) → IsWay a t path way → id ≡ slice_index_or way (length path) id
    → IfOk r (λ ls. AreUsed general (tree_at a id.0) used n (clause_in b ls.items)) → IfOk r (λ ls. (special : Tree) → subterm_at t path ≡ Some special → AreUsed general special used n (clause_in b ls.items))
result_along (Ok ls) a b t path way general used n id is at made = λ special there.
    let e : id.0 ≡ id_at way (length path) = ap (λ (k : TermId). k.0) (got_default way (length path) id (record { 0 = 0 }) (let m = is.as_many in omega (arith, m)) at) in
    subst (λ (u : Tree). AreUsed general u used n (clause_in b ls.items)) (ap (tree_at a) e ∙ way_end a t special path way is there) made
result_along (Err x) a b t path way general used n id is at made = tt

pub literal_tree : (bank : List Tree) (ls : List SharedLiteral) (a : ℕ) (l : SharedLiteral) → a < length ls → l ≡ slice_index_or ls a l → tree_at bank l.atom.0 ≡ atom_at (clause_in bank ls) a
literal_tree bank ls a l h is = ap (λ (x : SharedLiteral). tree_at bank x.atom.0) is ∙ atom_there bank ls a l h

pub result_within : {T E : Type 0} (r : Result T E) (a b : List Tree) (ls made slice all : List SharedLiteral) → AreLiteralsIn a ls → Grows a b → AreLiteralsIn b made → slice ≡ made → all ≡ (if is_ok r then ls ++ slice else ls) → AreLiteralsIn b all
result_within (Ok x) a b ls made slice all are grows more same is = subst (AreLiteralsIn b) (sym (is ∙ ap (λ l. ls ++ l) same)) (both_within b ls made (within_on a b ls grows are) more)
result_within (Err x) a b ls made slice all are grows more same is = subst (AreLiteralsIn b) (sym is) (within_on a b ls grows are)

pub result_behind : {T E : Type 0} (r : Result T E) (a b : List Tree) (ls made slice all : List SharedLiteral) (place id : ℕ) (path : List ℕ) (general : Tree) (used : ClauseTree) (n : ℕ) → AreLiteralsIn a ls → Grows a b → tree_at a id ≡ atom_at (clause_in a ls) place → slice ≡ made → all ≡ (if is_ok r then ls ++ slice else ls)
    → ((special : Tree) → subterm_at (tree_at a id) path ≡ Some special → AreUsed general special used n (clause_in b made))
    → OnOk r (IsUsedOn (clause_in a ls) place path general used n (clause_in b all))
result_behind (Ok x) a b ls made slice all place id path general used n are grows at same is by = used_behind a b ls made all place id path general used n are grows at (is ∙ ap (λ l. ls ++ l) same) by
result_behind (Err x) a b ls made slice all place id path general used n are grows at same is by = tt
