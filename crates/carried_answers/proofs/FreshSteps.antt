-- Numbers above the variables of terms of a bank.
use Rattle.std.proofs.Common.{◌≡◌, ℕ, zero, suc, ◌+◌, ◌<◌, ◌≤◌, inl, inr, max, List, [], ◌∷◌, ◌++◌, length, map, drop, slice_index_or, refl, sym, ap, ap₂, ◌∙◌, subst, arith, length-append}
use Rattle.std.proofs.lemmas.Bool.{cases_eq}
use Rattle.std.proofs.lemmas.List.{drop_all}
use Rattle.answers.specs.AnswerTrees.{above_all}
use Rattle.carried_answers.specs.Above.{AreAbove, AreAllAbove}
use Rattle.carried_answers.proofs.AboveSteps.{above_joined}
use Rattle.clause_limits.proofs.Measures.{next_item}
use Rattle.fol_core.specs.Free.{joined, variables_of, variables_of_all}
use Rattle.fol_core.specs.Renumbered.{clause_variables}
use Rattle.fol_core.specs.Tree.{Tree, Trees, app, trees_of}
use Rattle.shared_clauses.specs.Shared.{AreLiteralsIn, clause_in}
use Rattle.shared_clauses.specs.declared.shared.SharedLiteral.{SharedLiteral}
use Rattle.term_bank.specs.Bank.{tree_at}
use Rattle.term_bank.specs.Cells.{AreNumbersBelow, numbers}
use Rattle.term_bank.specs.declared.id.TermId.{TermId}

-- of the first terms and of those that are left
abbrev pub above_parts : List Tree → List TermId → ℕ
above_parts bank ks = above_all (variables_of_all (trees_of (map (λ k. tree_at bank k.0) ks)))

pub id_below : (n : ℕ) (ks : List TermId) (i : ℕ) (k : TermId) → i < length ks → k ≡ slice_index_or ks i k → AreNumbersBelow n (numbers ks) → k.0 < n
id_below n [] i k h is below = absurd (omega (arith, h))
id_below n (j ∷ ks) zero k h is below = let e = ap (λ (x : TermId). x.0) is in let lt = below.0 in omega (arith, e, lt)
id_below n (j ∷ ks) (suc i) k h is below = id_below n ks i k (omega (arith, h)) is below.1

pub parts_next : (bank : List Tree) (above : List ℕ) (ks : List TermId) (i : ℕ) (k : TermId) (n most next : ℕ) → i < length ks → k ≡ slice_index_or ks i k → AreNumbersBelow (length above) (numbers ks) → AreAbove bank above → n ≡ slice_index_or above k.0 0
    → next ≡ max n most → max most (above_parts bank (drop i ks)) ≡ above_parts bank ks → max next (above_parts bank (drop (i + 1) ks)) ≡ above_parts bank ks
parts_next bank above ks i k n most next h at below are got new before =
    let all = ap (above_parts bank) (next_item ks i k h at) in
    let both = above_joined (variables_of (tree_at bank k.0)) (variables_of_all (trees_of (map (λ (k : TermId). tree_at bank k.0) (drop (i + 1) ks)))) in
    let value : n ≡ above_all (variables_of (tree_at bank k.0)) = got ∙ are k.0 (id_below (length above) ks i k h at below) in
    omega (arith, new, before, all, both, value)

pub parts_start : (bank : List Tree) (ks : List TermId) → max 0 (above_parts bank (drop 0 ks)) ≡ above_parts bank ks
parts_start bank ks = omega arith

pub parts_end : (bank : List Tree) (ks : List TermId) (i most : ℕ) → length ks ≤ i → max most (above_parts bank (drop i ks)) ≡ above_parts bank ks → most ≡ above_parts bank ks
parts_end bank ks i most h before = let none = ap (above_parts bank) (drop_all i ks h) in omega (arith, before, none)

abbrev pub above_atoms : List Tree → List SharedLiteral → ℕ
above_atoms bank ls = above_all (clause_variables (clause_in bank ls))

pub atom_below : (n : ℕ) (ls : List SharedLiteral) (i : ℕ) (l : SharedLiteral) → i < length ls → l ≡ slice_index_or ls i l → AreNumbersBelow n (map (λ (l : SharedLiteral). l.atom.0) ls) → l.atom.0 < n
atom_below n [] i l h is below = absurd (omega (arith, h))
atom_below n (m ∷ ls) zero l h is below = let e = ap (λ (x : SharedLiteral). x.atom.0) is in let lt = below.0 in omega (arith, e, lt)
atom_below n (m ∷ ls) (suc i) l h is below = atom_below n ls i l (omega (arith, h)) is below.1

pub atoms_next : (bank : List Tree) (above : List ℕ) (ls : List SharedLiteral) (i : ℕ) (l : SharedLiteral) (n most next : ℕ) → i < length ls → l ≡ slice_index_or ls i l → AreNumbersBelow (length above) (map (λ (l : SharedLiteral). l.atom.0) ls) → AreAbove bank above → n ≡ slice_index_or above l.atom.0 0
    → next ≡ max n most → max most (above_atoms bank (drop i ls)) ≡ above_atoms bank ls → max next (above_atoms bank (drop (i + 1) ls)) ≡ above_atoms bank ls
atoms_next bank above ls i l n most next h at below are got new before =
    let all = ap (above_atoms bank) (next_item ls i l h at) in
    let both = above_joined (variables_of (tree_at bank l.atom.0)) (clause_variables (clause_in bank (drop (i + 1) ls))) in
    let value : n ≡ above_all (variables_of (tree_at bank l.atom.0)) = got ∙ are l.atom.0 (atom_below (length above) ls i l h at below) in
    omega (arith, new, before, all, both, value)

pub atoms_start : (bank : List Tree) (ls : List SharedLiteral) → max 0 (above_atoms bank (drop 0 ls)) ≡ above_atoms bank ls
atoms_start bank ls = omega arith

pub atoms_end : (bank : List Tree) (ls : List SharedLiteral) (i most : ℕ) → length ls ≤ i → max most (above_atoms bank (drop i ls)) ≡ above_atoms bank ls → most ≡ above_atoms bank ls
atoms_end bank ls i most h before = let none = ap (above_atoms bank) (drop_all i ls h) in omega (arith, before, none)

-- a term more
got_front : (ns : List ℕ) (n i : ℕ) → i < length ns → slice_index_or (ns ++ n ∷ []) i 0 ≡ slice_index_or ns i 0
got_front [] n i h = absurd (omega (arith, h))
got_front (m ∷ ns) n zero h = refl
got_front (m ∷ ns) n (suc i) h = got_front ns n i (omega (arith, h))

got_last : (ns : List ℕ) (n : ℕ) → slice_index_or (ns ++ n ∷ []) (length ns) 0 ≡ n
got_last [] n = refl
got_last (m ∷ ns) n = got_last ns n

pub above_push : (bank : List Tree) (ns all : List ℕ) (n : ℕ) → AreAbove bank ns → n ≡ above_all (variables_of (tree_at bank (length ns))) → all ≡ ns ++ n ∷ [] → AreAbove bank all
above_push bank ns all n are is pushed i h =
    ap (λ l. slice_index_or l i 0) pushed ∙ elim (cases_eq i (length ns)) [
      | inl same ↦ ap (λ k. slice_index_or (ns ++ n ∷ []) k 0) same ∙ got_last ns n ∙ is ∙ ap (λ k. above_all (variables_of (tree_at bank k))) (sym same)
      | inr other ↦ let e = ap length pushed ∙ length-append ns (n ∷ []) in let lt : i < length ns = omega (arith, h, e, other) in got_front ns n i lt ∙ are i lt
    ]

pub above_app : (bank : List Tree) (id f n : ℕ) (ks : List TermId) → app f (trees_of (map (λ (k : TermId). tree_at bank k.0) ks)) ≡ tree_at bank id → n ≡ above_parts bank ks → n ≡ above_all (variables_of (tree_at bank id))
above_app bank id f n ks is same = same ∙ ap (λ t. above_all (variables_of t)) is

pub atoms_in : (n : ℕ) (bank : List Tree) (ls : List SharedLiteral) → n ≡ length bank → AreLiteralsIn bank ls → AreNumbersBelow n (map (λ (l : SharedLiteral). l.atom.0) ls)
atoms_in n bank [] e are = tt
atoms_in n bank (l ∷ ls) e are = (let lt = are.0 in omega (arith, lt, e), atoms_in n bank ls e are.1)
