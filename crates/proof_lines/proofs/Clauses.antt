-- Content that stands as a clause.
use Rattle.std.proofs.Common.{◌≡◌, ◌∙◌, ℕ, suc, ◌+◌, ◌≤◌, Bool, true, false, not, ◌||◌, ◌&&◌, List, [], ◌∷◌, length, refl, ap, sym, subst, arith, Result, Err, IfErr}
use Rattle.std.proofs.lemmas.Bool.{false≢true}
use Rattle.std.proofs.lemmas.Bool.Decides.{nat_tests}
use Rattle.std.proofs.lemmas.List.{length-append}
use Rattle.std.specs.Prelude.{nat_le}
use Rattle.fol_core.specs.RawTree.{RawTree, named, quantified, no_raws, more_raws, depth, depth_of}
use Rattle.fol_core.specs.RawView.{raw_list}
use Rattle.fol_core.specs.declared.raw.Raw.{Raw}
use Rattle.ladr_formulas.specs.Formulas.{is_denial}
use Rattle.ladr_lex.specs.Lexeme.{Lexeme, full_stop}
use Rattle.ladr_reader.specs.Capped.{disjuncts, all_within}
use Rattle.ladr_reader.specs.Reads.{Item}
use Rattle.ladr_reader.specs.Table.{OperatorTable}
use Rattle.ladr_reader.specs.Faults.{IsFaultWhere}
use Rattle.ladr_reader.specs.declared.fault.TermFault.{TermFault}
use Rattle.ladr_reader.specs.declared.fault.TermFault.TheVariants.{Deep}
use Rattle.proof_lines.specs.ContentTokens.{IsFarItem}
use Rattle.proof_lines.specs.Parsed.{IsPartFault}
use Rattle.proof_lines.specs.declared.fault.PartFault.{PartFault}
use Rattle.proof_lines.specs.declared.fault.PartFault.TheVariants.{Bad}
use Rattle.proof_lines.specs.Faults.{IsNoItem}
use Rattle.proof_lines.specs.Literals.{undenied, read_as_clause, are_shallow, may_be_clause}

-- the atom of a shallow literal leaves room for its denial
one_more : (d : ℕ) → nat_le d 1000 ≡ true → nat_le (suc d) 1001 ≡ true
one_more d h = grind (arith, nat_tests)

still : (d : ℕ) → nat_le d 1000 ≡ true → nat_le d 1001 ≡ true
still d h = grind (arith, nat_tests)

alone : (t : RawTree) → depth_of (more_raws t no_raws) ≡ depth t
alone t = grind arith

shallow_literal : (t : RawTree) → nat_le (depth (undenied t)) 1000 ≡ true → nat_le (depth t) 1001 ≡ true
shallow_literal (quantified q x t) h = still (depth (quantified q x t)) h
shallow_literal (named s no_raws) h = still (depth (named s no_raws)) h
shallow_literal (named s (more_raws t no_raws)) h = by (is_denial s) refl h
  where
    by : (b : Bool) → is_denial s ≡ b → nat_le (depth (undenied (named s (more_raws t no_raws)))) 1000 ≡ true → nat_le (depth (named s (more_raws t no_raws))) 1001 ≡ true
    by true e h = ap (λ (d : ℕ). nat_le (suc d) 1001) (alone t) ∙ one_more (depth t) (rw e at h)
    by false e h = still (depth (named s (more_raws t no_raws))) (rw e at h)
shallow_literal (named s (more_raws t (more_raws u ts))) h = still (depth (named s (more_raws t (more_raws u ts)))) h

both_true : (a b : Bool) → a ≡ true → b ≡ true → (a && b) ≡ true
both_true a b h k = rw (h, k) refl

and_left : (a b : Bool) → (a && b) ≡ true → a ≡ true
and_left true b e = refl
and_left false b e = absurd (false≢true e)

and_right : (a b : Bool) → (a && b) ≡ true → b ≡ true
and_right true b e = e
and_right false b e = absurd (false≢true e)

shallow_within : (ts : List RawTree) → are_shallow ts ≡ true → all_within 1001 ts ≡ true
shallow_within [] h = refl
shallow_within (t ∷ ts) h =
    both_true (nat_le (depth t) 1001) (all_within 1001 ts)
    (shallow_literal t (and_left (nat_le (depth (undenied t)) 1000) (are_shallow ts) h))
    (shallow_within ts (and_right (nat_le (depth (undenied t)) 1000) (are_shallow ts) h))

-- where a literal is too deep to be looked at, its atom is too deep
pub deep_literals : (ts : List RawTree) → all_within 1001 ts ≡ false → not (are_shallow ts) ≡ true
deep_literals ts h = by (are_shallow ts) refl
  where
    by : (b : Bool) → are_shallow ts ≡ b → not (are_shallow ts) ≡ true
    by true e = absurd (false≢true (sym h ∙ shallow_within ts e))
    by false e = rw e refl

pub too_deep_clause : (t : RawTree) → all_within 1001 (disjuncts t) ≡ false → may_be_clause t ≡ true
too_deep_clause t h = rw h refl

or_true : (a b : Bool) → b ≡ true → (a || b) ≡ true
or_true true b e = refl
or_true false b e = e

pub clause_may_be : (t : RawTree) (ls : List Raw) → raw_list ls ≡ disjuncts t → read_as_clause (raw_list ls) ≡ true → may_be_clause t ≡ true
clause_may_be t ls e h = or_true (not (all_within 1001 (disjuncts t))) (read_as_clause (disjuncts t)) (ap read_as_clause (sym e) ∙ h)

pub clause_may_not : (t : RawTree) (ls : List Raw) → raw_list ls ≡ disjuncts t → all_within 1001 (disjuncts t) ≡ true → read_as_clause (raw_list ls) ≡ false → may_be_clause t ≡ false
clause_may_not t ls e w h = rw (w, ap read_as_clause (sym e) ∙ h) refl

pub item_some : (g : OperatorTable) (ts : List Lexeme) (t : RawTree) → Item g ts t → 1 ≤ length ts
item_some g ts t i = (let long : length ts ≡ length i.tokens + 1 = ap length i.stops ∙ length-append i.tokens (full_stop ∷ []) in omega (arith, long))

pub no_item_within : (g : OperatorTable) (ts : List Lexeme) (k : ℕ) → IsNoItem g ts k → k ≤ length ts
no_item_within g ts k bad = bad.0.within

-- where the reader tells that a literal is too deep
pub far_clause : (g : OperatorTable) (ts : List Lexeme) (f : TermFault) → f ≡ Deep → IsFaultWhere (λ t. all_within 1001 (disjuncts t) ≡ false) g ts f → (t : RawTree) × IsFarItem g ts t
far_clause g ts f e h = (let far = subst (IsFaultWhere (λ t. all_within 1001 (disjuncts t) ≡ false) g ts) e h in (far.0, (far.1, far.2)))

-- what is told of a bad part
pub part_bad : {T : Type 0} (r : Result T PartFault) (IsBad : ℕ → Type 0) (f : PartFault) (k : ℕ) → r ≡ Err f → f ≡ Bad k → IfErr r (IsPartFault IsBad) → IsBad k
part_bad {T} r IsBad f k e i h =
    let there = subst (λ (q : Result T PartFault). IfErr q (IsPartFault IsBad)) e h in
    subst (IsPartFault IsBad) i there

-- a clause that isn't too deep is looked at
pub near_clause : (t : RawTree) → not (are_shallow (disjuncts t)) ≡ false → all_within 1001 (disjuncts t) ≡ true
near_clause t h = by (are_shallow (disjuncts t)) refl h
  where
    by : (b : Bool) → are_shallow (disjuncts t) ≡ b → not b ≡ false → all_within 1001 (disjuncts t) ≡ true
    by true e k = shallow_within (disjuncts t) e
    by false e k = absurd (false≢true (sym k))
