-- Terms by how many arguments they have, and how deep they are.
use Rattle.std.proofs.Common.{◌≡◌, ◌-◌, ◌+◌, ℕ, suc, ◌&&◌, ◌≤◌, ◌<◌, List, [], ◌∷◌, length, drop, get_or, refl, ap, arith, max}
use Rattle.std.proofs.lemmas.Bool.Decides.{nat_tests}
use Rattle.std.specs.Prelude.{nat_le}
use Rattle.std.specs.List.{list_all}
use Rattle.std.proofs.lemmas.List.{drop_more}
use Rattle.fol_core.specs.RawTree.{RawTree, named, raws_of, depth, depth_of}
use Rattle.fol_core.specs.RawView.{raw_of, raw_list}
use Rattle.fol_core.specs.declared.raw.Raw.{Raw}
use Rattle.ladr_formulas.specs.Formulas.{arity_of}
use Rattle.proof_lines.specs.Answered.{answer_views, are_shallow_answers}
use Rattle.proof_lines.specs.Literals.{reads_as_literal, undenied, are_shallow}
use Rattle.proof_lines.specs.declared.answered.RawAnswer.{RawAnswer}

pub arity_is : (ts : List RawTree) → arity_of (raws_of ts) ≡ length ts
arity_is [] = refl
arity_is (t ∷ ts) = ap suc (arity_is ts)

max_within : (a b m : ℕ) → nat_le (max a b) m ≡ (nat_le a m && nat_le b m)
max_within a b m = grind (arith, nat_tests)

pub one_less : (d m : ℕ) → 0 < m → nat_le (suc d) m ≡ nat_le d (m - 1)
one_less d m h = grind (arith, nat_tests)

pub undenied_long : (s : List ℕ) (ts : List RawTree) → 2 ≤ length ts → undenied (named s (raws_of ts)) ≡ named s (raws_of ts)
undenied_long s [] h = refl
undenied_long s (t ∷ []) h = absurd (omega arith)
undenied_long s (t ∷ u ∷ ts) h = refl

-- one literal after the other
pub literal_step : (rs : List Raw) (i : ℕ) (d : Raw) → i < length rs →
    list_all reads_as_literal (raw_list (drop i rs)) ≡ (reads_as_literal (raw_of (get_or rs i d)) && list_all reads_as_literal (raw_list (drop (i + 1) rs)))
literal_step rs i d h = rw (drop_more rs i d h) refl

pub shallow_step : (rs : List Raw) (i : ℕ) (d : Raw) → i < length rs →
    are_shallow (raw_list (drop i rs)) ≡ (nat_le (depth (undenied (raw_of (get_or rs i d)))) 1000 && are_shallow (raw_list (drop (i + 1) rs)))
shallow_step rs i d h = rw (drop_more rs i d h) refl

-- one argument after the other
pub within_step : (rs : List Raw) (i m : ℕ) (d : Raw) → i < length rs →
    nat_le (depth_of (raws_of (raw_list (drop i rs)))) m ≡ (nat_le (depth (raw_of (get_or rs i d))) m && nat_le (depth_of (raws_of (raw_list (drop (i + 1) rs)))) m)
within_step rs i m d h =
    rw (drop_more rs i d h) (max_within (depth (raw_of (get_or rs i d))) (depth_of (raws_of (raw_list (drop (i + 1) rs)))) m)

pub named_within : (s : List ℕ) (ts : List RawTree) (m : ℕ) → 0 < m → nat_le (depth (named s (raws_of ts))) m ≡ nat_le (depth_of (raws_of ts)) (m - 1)
named_within s ts m h = one_less (depth_of (raws_of ts)) m h

-- one answer after the other
pub answer_step : (us : List RawAnswer) (i : ℕ) (d : RawAnswer) → i < length us →
    are_shallow_answers (answer_views (drop i us))
    ≡ (nat_le (depth_of (raws_of (get_or us i d).terms)) 1000 && are_shallow_answers (answer_views (drop (i + 1) us)))
answer_step us i d h = rw (drop_more us i d h) refl
