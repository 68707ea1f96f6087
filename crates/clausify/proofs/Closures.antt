-- The negation normal form of a closure: the quantifiers of the free variables stand in front.
use Rattle.std.proofs.Common.{◌≡◌, ◌<◌, ◌≤◌, ℕ, suc, ◌+◌, Bool, true, false, nat_lt, if◌then◌else◌, List, [], ◌∷◌, ◌++◌, length, drop, take, get_or, map, replicate, Some, None, refl, sym, ap, ◌∙◌, arith, add-one, drop-cons, append_assoc}
use Rattle.std.proofs.lemmas.Bool.Decides.{nat_tests}
use Rattle.std.proofs.lemmas.List.{append-nil, drop_all, map-append, take_all, take_more}
use Rattle.fol_core.specs.EntryView.{some_over}
use Rattle.fol_core.specs.Fol.{Fol, forall, exists}
use Rattle.fol_core.specs.Free.{closed_over}
use Rattle.fol_problem.specs.Stated.{said_of, all_said}
use Rattle.fol_problem.specs.declared.problem.Input.{Input}
use Rattle.clausify.specs.Capped.{count_capped}
use Rattle.clausify.specs.Forms.{nnf_of, clause_count}
use Rattle.clausify.specs.Fronts.{quantified, normal_of}
use Rattle.clausify.specs.Input.{form, forms, first_over, arities_in}
use Rattle.clausify.specs.declared.normal.Normal.{Normal}
use Rattle.fol_core.specs.Substitutions.{Substitution}
use Rattle.clausify.specs.Clausal.{clauses_in}
use Rattle.clausify.specs.Skolem.{arities, somes, skolem_axioms}

-- it has as many clauses as the formula's
pub closed_count : (sign : Bool) (xs : List ℕ) (f : Fol) → clause_count (nnf_of sign (closed_over xs f)) ≡ clause_count (nnf_of sign f)
closed_count sign [] f = refl
closed_count true (x ∷ xs) f = closed_count true xs f
closed_count false (x ∷ xs) f = closed_count false xs f

rest_at : (inputs : List Input) (i : ℕ) (x : Input) → i < length inputs → x ≡ get_or inputs i x → drop i inputs ≡ x ∷ drop (i + 1) inputs
rest_at inputs i x lt is = rw (add-one, drop-cons inputs i x) (ap (λ s. s ∷ drop (suc i) inputs) (sym is))

capped_test : (n : ℕ) → nat_lt 20000 (count_capped n) ≡ nat_lt 20000 n
capped_test n = grind (arith, nat_tests)

at_front : (inputs : List Input) (i : ℕ) (x : Input) (n : ℕ) → i < length inputs → x ≡ get_or inputs i x → n ≡ count_capped (clause_count (form (said_of x)))
    → first_over (i + 1) (all_said (drop i inputs)) ≡ (if nat_lt 20000 n then Some (i + 1) else first_over ((i + 1) + 1) (all_said (drop (i + 1) inputs)))
at_front inputs i x n lt is counted = ap (λ s. first_over (i + 1) (all_said s)) (rest_at inputs i x lt is)
    ∙ ap (λ b. if b then Some (i + 1) else first_over ((i + 1) + 1) (all_said (drop (i + 1) inputs))) (sym (ap (nat_lt 20000) counted ∙ capped_test (clause_count (form (said_of x)))))

-- a formula that is over the limit, and one that isn't
pub over_here : (inputs : List Input) (i : ℕ) (x : Input) (n : ℕ) → i < length inputs → x ≡ get_or inputs i x → n ≡ count_capped (clause_count (form (said_of x))) → 20000 < n
    → first_over (i + 1) (all_said (drop i inputs)) ≡ Some (i + 1)
over_here inputs i x n lt is counted over =
    let so : nat_lt 20000 n ≡ true = grind (arith, nat_tests) in
    at_front inputs i x n lt is counted ∙ ap (λ b. if b then Some (i + 1) else first_over ((i + 1) + 1) (all_said (drop (i + 1) inputs))) so

pub over_next : (inputs : List Input) (i : ℕ) (x : Input) (n : ℕ) → i < length inputs → x ≡ get_or inputs i x → n ≡ count_capped (clause_count (form (said_of x))) → n ≤ 20000
    → first_over ((i + 1) + 1) (all_said (drop (i + 1) inputs)) ≡ first_over (i + 1) (all_said (drop i inputs))
over_next inputs i x n lt is counted under =
    let so : nat_lt 20000 n ≡ false = grind (arith, nat_tests) in
    sym (at_front inputs i x n lt is counted ∙ ap (λ b. if b then Some (i + 1) else first_over ((i + 1) + 1) (all_said (drop (i + 1) inputs))) so)

pub over_end : (inputs : List Input) (i : ℕ) → length inputs ≤ i → first_over (i + 1) (all_said (drop i inputs)) ≡ None
over_end inputs i end = ap (λ s. first_over (i + 1) (all_said s)) (drop_all i inputs end)

-- behind the quantifiers of the free variables the form is the formula's own
pub form_behind : (sign : Bool) (xs : List ℕ) (f : Fol) → quantified sign xs (nnf_of sign f) ≡ nnf_of sign (closed_over xs f)
form_behind true [] f = refl
form_behind true (x ∷ xs) f = ap (forall x) (form_behind true xs f)
form_behind false [] f = refl
form_behind false (x ∷ xs) f = ap (exists x) (form_behind false xs f)

open_arities : (n : ℕ) (xs : List ℕ) (f : Fol) → arities n (closed_over xs f) ≡ arities (n + length xs) f
open_arities n [] f = let none : n + 0 ≡ n = omega arith in ap (λ k. arities k f) (sym none)
open_arities n (x ∷ xs) f =
    let same : (n + 1) + length xs ≡ n + suc (length xs) = omega arith in
    open_arities (n + 1) xs f ∙ ap (λ k. arities k f) same

-- variables under universal quantifiers are in scope
pub closed_arities : (xs : List ℕ) (f : Fol) → arities 0 (closed_over xs f) ≡ arities (length xs) f
closed_arities xs f = let none : 0 + length xs ≡ length xs = omega arith in open_arities 0 xs f ∙ ap (λ k. arities k f) none

-- those under existential ones become constants
some_arities : (xs : List ℕ) (f : Fol) → arities 0 (some_over xs f) ≡ replicate (length xs) 0 ++ arities 0 f
some_arities [] f = refl
some_arities (x ∷ xs) f = ap (λ ns. 0 ∷ ns) (some_arities xs f)

pub some_found : (found xs : List ℕ) (f : Fol) → (found ++ replicate (length xs) 0) ++ arities 0 f ≡ found ++ arities 0 (some_over xs f)
some_found found xs f = append_assoc found (replicate (length xs) 0) (arities 0 f) ∙ ap (λ ns. found ++ ns) (sym (some_arities xs f))

forms_at : (ns : List Normal) (i : ℕ) (n : Normal) → i < length ns → n ≡ get_or ns i n → map normal_of (drop i ns) ≡ normal_of n ∷ map normal_of (drop (i + 1) ns)
forms_at ns i n lt is =
    let front : drop i ns ≡ n ∷ drop (i + 1) ns = rw (add-one, drop-cons ns i n) (ap (λ s. s ∷ drop (suc i) ns) (sym is)) in
    ap (map normal_of) front

-- the forms of one formula more, and of all
pub normals_next : (ns : List Normal) (n : Normal) (inputs : List Input) (i : ℕ) (x : Input) → i < length inputs → x ≡ get_or inputs i x → normal_of n ≡ form (said_of x)
    → map normal_of ns ≡ forms (all_said (take i inputs)) → map normal_of (ns ++ n ∷ []) ≡ forms (all_said (take (i + 1) inputs))
normals_next ns n inputs i x lt is made before =
    let last : take (i + 1) inputs ≡ take i inputs ++ x ∷ [] = take_more inputs i x lt ∙ ap (λ (y : Input). take i inputs ++ y ∷ []) (sym is) in
    map-append normal_of ns (n ∷ [])
    ∙ ap (λ fs. fs ++ normal_of n ∷ []) before
    ∙ ap (λ f. forms (all_said (take i inputs)) ++ f ∷ []) made
    ∙ sym (map-append form (all_said (take i inputs)) (said_of x ∷ []))
    ∙ ap forms (sym (map-append said_of (take i inputs) (x ∷ [])))
    ∙ ap (λ (ys : List Input). forms (all_said ys)) (sym last)

pub normals_end : (ns : List Normal) (inputs : List Input) (i : ℕ) → length inputs ≤ i → map normal_of ns ≡ forms (all_said (take i inputs)) → map normal_of ns ≡ forms (all_said inputs)
normals_end ns inputs i end before = before ∙ ap (λ (ys : List Input). forms (all_said ys)) (take_all i inputs end)

-- one more form, and none
pub arities_next : (found : List ℕ) (ns : List Normal) (i : ℕ) (n : Normal) → i < length ns → n ≡ get_or ns i n
    → (found ++ arities 0 (normal_of n)) ++ arities_in (map normal_of (drop (i + 1) ns)) ≡ found ++ arities_in (map normal_of (drop i ns))
arities_next found ns i n lt is = append_assoc found (arities 0 (normal_of n)) (arities_in (map normal_of (drop (i + 1) ns)))
    ∙ ap (λ fs. found ++ arities_in fs) (sym (forms_at ns i n lt is))

pub arities_end : (found : List ℕ) (ns : List Normal) (i : ℕ) → length ns ≤ i → found ++ arities_in (map normal_of (drop i ns)) ≡ found
arities_end found ns i end = ap (λ (rest : List Normal). found ++ arities_in (map normal_of rest)) (drop_all i ns end) ∙ append-nil found

-- universal quantifiers in front put their variables into the scope
open_clauses : (symbols : List ℕ) (k : ℕ) (scope : List ℕ) (terms : Substitution) (xs : List ℕ) (f : Fol) → clauses_in symbols k scope terms (closed_over xs f) ≡ clauses_in symbols k (scope ++ xs) terms f
open_clauses symbols k scope terms [] f = ap (λ s. clauses_in symbols k s terms f) (sym (append-nil scope))
open_clauses symbols k scope terms (x ∷ xs) f = open_clauses symbols k (scope ++ x ∷ []) terms xs f ∙ ap (λ s. clauses_in symbols k s terms f) (append_assoc scope (x ∷ []) xs)

open_witnesses : (symbols : List ℕ) (k : ℕ) (scope : List ℕ) (terms : Substitution) (xs : List ℕ) (f : Fol) → skolem_axioms symbols k scope terms (closed_over xs f) ≡ skolem_axioms symbols k (scope ++ xs) terms f
open_witnesses symbols k scope terms [] f = ap (λ s. skolem_axioms symbols k s terms f) (sym (append-nil scope))
open_witnesses symbols k scope terms (x ∷ xs) f = open_witnesses symbols k (scope ++ x ∷ []) terms xs f ∙ ap (λ s. skolem_axioms symbols k s terms f) (append_assoc scope (x ∷ []) xs)

pub closed_clauses_in : (symbols : List ℕ) (k : ℕ) (terms : Substitution) (xs : List ℕ) (f : Fol) → clauses_in symbols k [] terms (closed_over xs f) ≡ clauses_in symbols k xs terms f
closed_clauses_in symbols k terms xs f = open_clauses symbols k [] terms xs f

pub closed_witnesses : (symbols : List ℕ) (k : ℕ) (terms : Substitution) (xs : List ℕ) (f : Fol) → skolem_axioms symbols k [] terms (closed_over xs f) ≡ skolem_axioms symbols k xs terms f
closed_witnesses symbols k terms xs f = open_witnesses symbols k [] terms xs f

pub closed_somes : (xs : List ℕ) (f : Fol) → somes (closed_over xs f) ≡ somes f
closed_somes [] f = refl
closed_somes (x ∷ xs) f = closed_somes xs f
