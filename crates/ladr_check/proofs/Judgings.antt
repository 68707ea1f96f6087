-- What is offered comes out as its proofs do, where no formula has too many clauses.
use Rattle.std.proofs.Common.{◌≡◌, ◌+◌, ◌<◌, ℕ, zero, suc, List, [], ◌∷◌, ◌++◌, length, take, get_or, None, Result, Ok, Err, refl, sym, ap, subst, arith}
use Rattle.std.specs.Prelude.{IfOk}
use Rattle.clausify.specs.Input.{first_over}
use Rattle.answered_lines.specs.Lines.{Asked, AnsweredRow, AnsweredLine, IsRefutationWith}
use Rattle.answered_lines.specs.Refused.{IsFaultWith}
use Rattle.answered_lines.specs.View.{answered_lines_of}
use Rattle.derivation.specs.declared.line.Derivation.{Derivation}
use Rattle.derivation.specs.declared.row.Row.{Row}
use Rattle.ladr_check.specs.Offered.{Offered, proofs_in}
use Rattle.ladr_check.specs.Outcomes.{AreRefutations, IsNotAccepted, ProofsEnd, end_of_all, asked_formulas, answered_rows, HasNewSkolems, ComesOut}
use Rattle.ladr_check.specs.declared.ends.CheckEnd.{CheckEnd}
use Rattle.ladr_check.specs.declared.ends.CheckOver.{CheckOver}
use Rattle.ladr_check.specs.declared.ends.CheckEnd.TheVariants.{Accepted, NotAccepted, ClauseLimit}

pub comes_out : (x : Offered) (end : CheckEnd) (accepted : ℕ) → first_over 1 x.stated.formulas ≡ None → HasNewSkolems x → ProofsEnd (asked_formulas x) (answered_rows x) x.proofs end accepted → ComesOut x end accepted
comes_out x (Accepted n) accepted none new h = (none, new, h)
comes_out x (NotAccepted line row) accepted none new h = (none, new, h)
comes_out x (ClauseLimit formula) accepted none new h = absurd h

pub comes_by : {E : Type 0} (x : Offered) (rows : List AnsweredRow) (ps : List (List AnsweredLine)) (r : Result CheckOver E) → first_over 1 x.stated.formulas ≡ None → HasNewSkolems x → rows ≡ answered_rows x → ps ≡ x.proofs
    → IfOk r (λ over. ProofsEnd (asked_formulas x) rows ps over.end over.accepted) → IfOk r (λ over. ComesOut x over.end over.accepted)
comes_by x rows ps (Ok over) none new same all h =
    comes_out x over.end over.accepted none new
    (subst (λ (qs : List (List AnsweredLine)). ProofsEnd (asked_formulas x) (answered_rows x) qs over.end over.accepted) all
    (subst (λ (rs : List AnsweredRow). ProofsEnd (asked_formulas x) rs ps over.end over.accepted) same h))
comes_by x rows ps (Err e) none new same all h = tt

module _ (ss : List Asked) (rows : List AnsweredRow) where
  -- one more refutation
  pub refutations_more : (ps : List (List AnsweredLine)) (p : List AnsweredLine) → AreRefutations ss rows ps → IsRefutationWith ss rows p → AreRefutations ss rows (ps ++ p ∷ [])
  refutations_more [] p h k = (k, tt)
  refutations_more (q ∷ ps) p h k = (h.0, refutations_more ps p h.1 k)

  -- where as many are looked at as there are
  pub all_looked_at : (ps : List (List AnsweredLine)) → AreRefutations ss rows ps → ProofsEnd ss rows ps (end_of_all (length ps)) (length ps)
  all_looked_at [] h = record { before = []; bad = []; behind = []; split = refl; count = refl; are = tt; fault = (refl, refl) }
  all_looked_at (p ∷ ps) h = (h, omega arith, refl, refl)

  -- a proof that isn't accepted stands behind the first i
  pub stops_at : (ps : List (List AnsweredLine)) (i : ℕ) (p : List AnsweredLine) (line : ℕ) (row : Row) → i < length ps → p ≡ get_or ps i p → AreRefutations ss rows (take i ps) → IsFaultWith ss rows p line row
      → IsNotAccepted ss rows ps i line row
  stops_at [] i p line row l is h fault = absurd (omega (arith, l))
  stops_at (q ∷ ps) zero p line row l is h fault = record { before = []; bad = p; behind = ps; split = ap (λ (r : List AnsweredLine). r ∷ ps) (sym is); count = refl; are = tt; fault = fault }
  stops_at (q ∷ ps) (suc i) p line row l is h fault =
      let rest = split_at ps i p (omega (arith, l)) is in
      record {
        before = q ∷ take i ps;
        bad = p;
        behind = rest.0;
        split = ap (λ (rs : List (List AnsweredLine)). q ∷ rs) rest.1;
        count = ap suc rest.2;
        are = h;
        fault = fault;
      }
    where
      split_at : (ps : List (List AnsweredLine)) (i : ℕ) (p : List AnsweredLine) → i < length ps → p ≡ get_or ps i p → (behind : List (List AnsweredLine)) × (ps ≡ take i ps ++ p ∷ behind) × (i ≡ length (take i ps))
      split_at [] i p l is = absurd (omega (arith, l))
      split_at (q ∷ ps) zero p l is = (ps, ap (λ (r : List AnsweredLine). r ∷ ps) (sym is), refl)
      split_at (q ∷ ps) (suc i) p l is =
          let rest = split_at ps i p (omega (arith, l)) is in
          (rest.0, ap (λ (rs : List (List AnsweredLine)). q ∷ rs) rest.1, ap suc rest.2)

-- told by other names
pub same_fault : (ss : List Asked) (rows : List AnsweredRow) (ps : List (List AnsweredLine)) (i line : ℕ) (row : Row) (other : ℕ) (other_row : Row) → other ≡ line → other_row ≡ row → IsNotAccepted ss rows ps i line row → IsNotAccepted ss rows ps i other other_row
same_fault ss rows ps i line row other other_row e f h = subst (λ n. IsNotAccepted ss rows ps i n other_row) (sym e) (subst (IsNotAccepted ss rows ps i line) (sym f) h)

-- as many as the code has
pub proofs_count : (ds : List Derivation) → length (proofs_in ds) ≡ length ds
proofs_count [] = refl
proofs_count (d ∷ ds) = ap suc (proofs_count ds)

-- the proofs of the code, up to the next one
pub proofs_more : (ds : List Derivation) (i : ℕ) (d : Derivation) → i < length ds → d ≡ get_or ds i d → proofs_in (take (i + 1) ds) ≡ proofs_in (take i ds) ++ answered_lines_of d.lines.items ∷ []
proofs_more [] i d l is = absurd (omega (arith, l))
proofs_more (e ∷ ds) zero d l is = let same : answered_lines_of e.lines.items ≡ answered_lines_of d.lines.items = ap (λ (x : Derivation). answered_lines_of x.lines.items) (sym is) in ap (λ (p : List AnsweredLine). p ∷ []) same
proofs_more (e ∷ ds) (suc i) d l is =
    let n : suc i + 1 ≡ suc (i + 1) = omega arith in
    rw n (ap (λ (ps : List (List AnsweredLine)). answered_lines_of e.lines.items ∷ ps) (proofs_more ds i d (omega (arith, l)) is))

pub proofs_taken : (ds : List Derivation) (i : ℕ) → proofs_in (take i ds) ≡ take i (proofs_in ds)
proofs_taken ds zero = refl
proofs_taken [] (suc i) = refl
proofs_taken (d ∷ ds) (suc i) = ap (λ (ps : List (List AnsweredLine)). answered_lines_of d.lines.items ∷ ps) (proofs_taken ds i)

pub proof_at : (ds : List Derivation) (i : ℕ) (d : Derivation) → i < length ds → d ≡ get_or ds i d → answered_lines_of d.lines.items ≡ get_or (proofs_in ds) i (answered_lines_of d.lines.items)
proof_at [] i d l is = absurd (omega (arith, l))
proof_at (e ∷ ds) zero d l is = ap (λ (x : Derivation). answered_lines_of x.lines.items) is
proof_at (e ∷ ds) (suc i) d l is = proof_at ds i d (omega (arith, l)) is
