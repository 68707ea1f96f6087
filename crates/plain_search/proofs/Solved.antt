-- A solution makes the ground instances true and extends the partial table at first, so its closure.
use Rattle.std.proofs.Common.{◌≡◌, ℕ, zero, suc, ◌+◌, ◌*◌, ◌%◌, ◌^◌, ◌<◌, ◌≤◌, max, nat_lt, Bool, true, false, if◌then◌else◌, List, [], ◌∷◌, ◌++◌, length, map, inl, inr, refl, sym, ap, ◌∙◌, subst, arith}
use Rattle.std.specs.List.{range_with_len}
use Rattle.std.proofs.Math.Nat.{div-lt_iff_lt-mul, one-le-pow, pow-succ'}
use Rattle.std.proofs.lemmas.Bool.{cases_lt, ltb-true, lt-ltb}
use Rattle.fol_core.specs.Literals.{ClauseTree, IsTrueClause, AreTrueClauses}
use Rattle.fol_core.specs.Meaning.{Meaning, IsLawful, AllWithin}
use Rattle.fol_core.specs.declared.symbols.Kind.{Kind}
use Rattle.fol_core.specs.declared.symbols.Kind.TheVariants.{Function, Relation}
use Rattle.mace_cells.specs.World.{World, Solves, many_cells}
use Rattle.mace_ground.proofs.Grounding.{suffice}
use Rattle.mace_ground.specs.Cells.{digits, value_of_kind}
use Rattle.mace_ground.specs.Instances.{variables_in}
use Rattle.model_tables.specs.Size.{AllBelow, bound_of}
use Rattle.plain_search.proofs.Sounding.{AreTrue, IsKept, passes_so}
use Rattle.plain_search.specs.Closing.{Ground, ground, instances_of, closure}
use Rattle.plain_search.specs.Lefts.{ValuesLeft, IsAmong, Extends}
use Rattle.plain_search.specs.PlainLaws.{ClosureKeeps, ContradictionsRefute, AllAtFirst}

pub digits_many : (n a k : ℕ) → length (digits n a k) ≡ a
digits_many n zero k = refl
digits_many n (suc a) k = ap suc (digits_many n a (k % n ^ a))

pub digits_below : (n a k : ℕ) → 0 < n → k < n ^ a → AllBelow n (digits n a k)
digits_below n zero k some h = tt
digits_below n (suc a) k some h =
    let power : 0 < n ^ a = one-le-pow a n some in
    let more : n ^ suc a ≡ n * n ^ a = pow-succ' n a in
    ((div-lt_iff_lt-mul {k = n ^ a} {x = k} {y = n} power).1 (omega (arith, h, more)), digits_below n a (k % n ^ a) some (omega (arith, power)))

pub some_element : (w : World) (m : Meaning) → Solves w m → 0 < w.size
some_element w m solves =
    let x = solves.lawful.element in
    let less : x.0 < w.size = ltb-true x.0 w.size (sym (solves.size x.0) ∙ x.1) in
    omega (arith, less)

module _ (n : ℕ) (m : Meaning) where
  true_both : (gs hs : List Ground) → AreTrue n m gs → AreTrue n m hs → AreTrue n m (gs ++ hs)
  true_both [] hs h k = k
  true_both (g ∷ gs) hs h k = (h.0, true_both gs hs h.1 k)

  module _ (some : 0 < n) (size : (x : ℕ) → m.within x ≡ nat_lt x n) where
    true_from : (c : ClauseTree) → IsTrueClause m c → (a k : ℕ) → a + k ≤ n ^ variables_in c → AreTrue n m (map (λ j. ground c (digits n (variables_in c) j)) (range_with_len a k))
    true_from c holds a zero h = tt
    true_from c holds a (suc k) h =
        let v = variables_in c in
        let here : a < n ^ v = omega (arith, h) in
        ((suffice n m c some size).0 holds (digits n v a) (digits_many n v a, digits_below n v a some here), true_from c holds (a + 1) k (omega (arith, h)))

    instances_so : (cs : List ClauseTree) → AreTrueClauses m cs → AreTrue n m (instances_of n cs)
    instances_so [] holds = tt
    instances_so (c ∷ cs) holds =
        true_both (map (λ j. ground c (digits n (variables_in c) j)) (range_with_len 0 (n ^ variables_in c))) (instances_of n cs)
        (true_from c holds.0 0 (n ^ variables_in c) (omega arith)) (instances_so cs holds.1)

pub closure_so : (w : World) (m : Meaning) (p : ValuesLeft) → Solves w m → Extends w.size m p → IsKept w.size m (closure w p)
closure_so w m p solves extended =
    passes_so w.size m (suc (many_cells w * max w.size 2)) (instances_of w.size w.clauses) (instances_so w.size m (some_element w m solves) solves.size w.clauses solves.holds) p extended

pub closure_keeps : ClosureKeeps
closure_keeps w m p q solves extended is = subst (IsKept w.size m) is (closure_so w m p solves extended)

pub closure_refutes : ContradictionsRefute
closure_refutes w m p solves extended is = subst (IsKept w.size m) is (closure_so w m p solves extended)

pub among_range : (x a k : ℕ) → a ≤ x → x < a + k → IsAmong x (range_with_len a k)
among_range x a zero h l = absurd (omega (arith, h, l))
among_range x a (suc k) h l = elim (cases_lt a x) [
  | inl less ↦ inr (among_range x (a + 1) k (omega (arith, less)) (omega (arith, l)))
  | inr most ↦ inl (omega (arith, h, most))
]

all_within : (n : ℕ) (m : Meaning) → ((x : ℕ) → m.within x ≡ nat_lt x n) → (xs : List ℕ) → AllBelow n xs → AllWithin m xs
all_within n m size [] h = tt
all_within n m size (x ∷ xs) h = (size x ∙ lt-ltb x n h.0, all_within n m size xs h.1)

one_or_none : (b : Bool) → (if b then 1 else 0) < 2
one_or_none true = omega arith
one_or_none false = omega arith

pub value_within : (n : ℕ) (m : Meaning) → ((x : ℕ) → m.within x ≡ nat_lt x n) → IsLawful m → (kind : Kind) (s : ℕ) (xs : List ℕ) → AllBelow n xs → value_of_kind m kind s xs < bound_of n kind
value_within n m size lawful Function s xs h = ltb-true (m.function s xs) n (sym (size (m.function s xs)) ∙ lawful.closed s xs (all_within n m size xs h))
value_within n m size lawful Relation s xs h = one_or_none (m.relation s xs)

pub value_below : (w : World) (m : Meaning) → Solves w m → (kind : Kind) (s : ℕ) (xs : List ℕ) → AllBelow w.size xs → value_of_kind m kind s xs < bound_of w.size kind
value_below w m solves kind s xs h = value_within w.size m solves.size solves.lawful kind s xs h

pub all_at_first : AllAtFirst
all_at_first w m solves c below =
    let less = value_below w m solves c.kind c.symbol c.arguments below in
    among_range (value_of_kind m c.kind c.symbol c.arguments) 0 (bound_of w.size c.kind) (omega arith) (omega (arith, less))
