-- The lines of a proof, one after the other.
use Rattle.std.proofs.Common.{◌≡◌, inl, inr, ℕ, zero, suc, ◌+◌, ◌-◌, ◌<◌, true, false, List, [], ◌∷◌, ◌++◌, length, get_or, drop, take, Option, Some, None, refl, sym, ap, ◌∙◌, subst, arith, add-one, drop-cons}
use Rattle.std.proofs.lemmas.List.{drop_all, take_more}
use Rattle.answered_lines.specs.Lines.{Asked, AnsweredRow, AnsweredLine, plain_lines, AreLinesWith, IsRefutationWith}
use Rattle.answered_lines.specs.Refused.{IsRefusedWith, IsAcceptedWith, HasFaultWith, IsFaultWith}
use Rattle.answered_lines.specs.View.{answered_line, answered_lines_of}
use Rattle.derivation.specs.Lines.{LineTree, ends_empty, is_empty_clause}
use Rattle.derivation.specs.View.{lines_of}
use Rattle.derivation.specs.declared.line.Line.{Line}
use Rattle.derivation.specs.declared.row.Row.{Row}
use Rattle.derivation.specs.declared.row.Row.TheVariants.{NoLines, NotEmpty}
use Rattle.proof_check.proofs.EarlierSteps.{plainly}
use Rattle.proof_check.specs.Reached.{AreAbove, AreAtMost, AreRising, ends_behind, FaultBehind, Reaches, Going}

-- each number is below this one
abbrev AreBelow : ℕ → List LineTree → Type 0
AreBelow n [] = Unit {0}
AreBelow n (l ∷ ls) = (l.number < n) × AreBelow n ls

below_next : (m n : ℕ) (ls : List LineTree) → m < n → AreAtMost m ls → AreBelow n ls
below_next m n [] h most = tt
below_next m n (l ∷ ls) h most = (let le = most.0 in omega arith, below_next m n ls h most.1)

above_next : (n : ℕ) (ls : List LineTree) (l : LineTree) → AreAbove n ls → n < l.number → AreAbove n (ls ++ l ∷ [])
above_next n [] l above h = (h, tt)
above_next n (k ∷ ls) l above h = (above.0, above_next n ls l above.1 h)

rising_next : (ls : List LineTree) (l : LineTree) → AreRising ls → AreBelow l.number ls → AreRising (ls ++ l ∷ [])
rising_next [] l rising below = (tt, tt)
rising_next (k ∷ ls) l rising below = (above_next k.number ls l rising.0 below.0, rising_next ls l rising.1 below.1)

last_next : (m : ℕ) (l : LineTree) (ls : List LineTree) → m < l.number → AreAtMost m ls → AreAtMost l.number (ls ++ l ∷ [])
last_next m l [] h most = (omega arith, tt)
last_next m l (k ∷ ls) h most = (let le = most.0 in omega arith, last_next m l ls h most.1)

plain_push : (ls : List AnsweredLine) (l : AnsweredLine) → plain_lines (ls ++ l ∷ []) ≡ plain_lines ls ++ l.line ∷ []
plain_push [] l = refl
plain_push (k ∷ ls) l = ap (λ ks. k.line ∷ ks) (plain_push ls l)

module _ (ss : List Asked) (rows : List AnsweredRow) where
  accepted_then : (earlier : List AnsweredLine) (last : Option ℕ) (l : AnsweredLine) (rest : List AnsweredLine) (number : ℕ) (row : Row) → IsAcceptedWith ss rows earlier last l
      → FaultBehind ss rows (earlier ++ l ∷ []) l rest number row → HasFaultWith ss rows earlier last (l ∷ rest) number row
  accepted_then earlier last l [] number row accepted fault = (fault.0, inr (accepted, fault.1, fault.2))
  accepted_then earlier last l (k ∷ ls) number row accepted fault = inr (accepted, fault)

  refused_here : (earlier : List AnsweredLine) (last : Option ℕ) (l : AnsweredLine) (rest : List AnsweredLine) (row : Row) → IsRefusedWith ss rows earlier last l row → HasFaultWith ss rows earlier last (l ∷ rest) l.line.number row
  refused_here earlier last l [] row refused = (refl, inl refused)
  refused_here earlier last l (k ∷ ls) row refused = inl (refl, refused)

  ends_one : (l : AnsweredLine) (rest : List AnsweredLine) → ends_empty (plain_lines (l ∷ rest)) ≡ ends_behind l rest
  ends_one l [] = refl
  ends_one l (k ∷ ls) = refl

  reaches_first : (l : AnsweredLine) (rest : List AnsweredLine) → IsAcceptedWith ss rows [] None l → Reaches ss rows (l ∷ rest) (l ∷ []) l rest
  reaches_first l rest accepted = record {
    rising = (tt, tt);
    last = (omega arith, tt);
    are = λ h. (accepted.0, accepted.1, h);
    fault = λ number row fault. accepted_then [] None l rest number row accepted fault;
    ends = ends_one l rest;
  }

  reaches_next : (all earlier : List AnsweredLine) (p l : AnsweredLine) (rest : List AnsweredLine) → Reaches ss rows all earlier p (l ∷ rest) → IsAcceptedWith ss rows earlier (Some p.line.number) l → Reaches ss rows all (earlier ++ l ∷ []) l rest
  reaches_next all earlier p l rest reaches accepted = record {
    rising = subst AreRising (sym (plain_push earlier l)) (rising_next (plain_lines earlier) l.line reaches.rising (below_next p.line.number l.line.number (plain_lines earlier) accepted.0 reaches.last));
    last = subst (AreAtMost l.line.number) (sym (plain_push earlier l)) (last_next p.line.number l.line (plain_lines earlier) accepted.0 reaches.last);
    are = λ h. reaches.are (accepted.0, accepted.1, h);
    fault = λ number row fault. reaches.fault number row (accepted_then earlier (Some p.line.number) l rest number row accepted fault);
    ends = reaches.ends ∙ ends_one l rest;
  }

get_same : {X : Type 0} (xs : List X) (n : ℕ) (d e : X) → n < length xs → get_or xs n d ≡ get_or xs n e
get_same [] n d e h = absurd (omega arith)
get_same (x ∷ xs) zero d e h = refl
get_same (x ∷ xs) (suc n) d e h = get_same xs n d e (omega arith)

drop_next : (ls : List Line) (i : ℕ) (l : Line) → i < length ls → l ≡ get_or ls i l → drop i ls ≡ l ∷ drop (i + 1) ls
drop_next ls i l h is = rw (add-one, drop-cons ls i l) (ap (λ t. t ∷ drop (suc i) ls) (sym is))

lines_push : (ls : List Line) (l : Line) → answered_lines_of (ls ++ l ∷ []) ≡ answered_lines_of ls ++ answered_line l ∷ []
lines_push [] l = refl
lines_push (k ∷ ls) l = ap (λ ks. answered_line k ∷ ks) (lines_push ls l)

take_next : (ls : List Line) (i : ℕ) (l : Line) → i < length ls → l ≡ get_or ls i l → answered_lines_of (take (i + 1) ls) ≡ answered_lines_of (take i ls) ++ answered_line l ∷ []
take_next ls i l h is = ap answered_lines_of (take_more ls i l h ∙ ap (λ k. take i ls ++ k ∷ []) (sym is)) ∙ lines_push (take i ls) l

pub none_given : (ss : List Asked) (rows : List AnsweredRow) (ls : List Line) → length ls ≡ 0 → IsFaultWith ss rows (answered_lines_of ls) 0 NoLines
none_given ss rows [] h = (refl, refl)
none_given ss rows (l ∷ ls) h = absurd (omega arith)

pub first_fault : (ss : List Asked) (rows : List AnsweredRow) (ls : List Line) (l : Line) (row : Row) → 0 < length ls → l ≡ get_or ls 0 l → IsRefusedWith ss rows [] None (answered_line l) row → IsFaultWith ss rows (answered_lines_of ls) l.number row
first_fault ss rows [] l row h is refused = absurd (omega arith)
first_fault ss rows (k ∷ ls) l row h is refused =
    subst (λ (k : Line). IsFaultWith ss rows (answered_line k ∷ answered_lines_of ls) l.number row) is (refused_here ss rows [] None (answered_line l) (answered_lines_of ls) row refused)

pub going_rising : (ss : List Asked) (rows : List AnsweredRow) (ls : List Line) (i : ℕ) → Going ss rows ls i → AreRising (lines_of (take i ls))
going_rising ss rows ls i going = subst AreRising (plainly (take i ls)) going.reaches.rising

pub going_start : (ss : List Asked) (rows : List AnsweredRow) (ls : List Line) (l : Line) → 0 < length ls → l ≡ get_or ls 0 l → IsAcceptedWith ss rows [] None (answered_line l) → Going ss rows ls 1
going_start ss rows [] l h is accepted = absurd (omega arith)
going_start ss rows (k ∷ ls) l h is accepted = record {
  last = k;
  is = refl;
  reaches = reaches_first ss rows (answered_line k) (answered_lines_of ls) (subst (λ (k : Line). IsAcceptedWith ss rows [] None (answered_line k)) is accepted);
}

module _ (ss : List Asked) (rows : List AnsweredRow) (ls : List Line) (i : ℕ) (l x : Line) where
  last_is : (going : Going ss rows ls i) → 0 < i → i < length ls → x ≡ get_or ls (i - 1) x → going.last ≡ x
  last_is going h k is = going.is ∙ get_same ls (i - 1) going.last x (omega arith) ∙ sym is

  rest_is : i < length ls → l ≡ get_or ls i l → answered_lines_of (drop i ls) ≡ answered_line l ∷ answered_lines_of (drop (i + 1) ls)
  rest_is k is = ap answered_lines_of (drop_next ls i l k is)

  pub going_next : Going ss rows ls i → 0 < i → i < length ls → l ≡ get_or ls i l → x ≡ get_or ls (i - 1) x → IsAcceptedWith ss rows (answered_lines_of (take i ls)) (Some x.number) (answered_line l) → Going ss rows ls (i + 1)
  going_next going h k is was accepted =
      let before : i + 1 - 1 ≡ i = omega arith in
      record {
        last = l;
        is = is ∙ ap (λ n. get_or ls n l) (sym before);
        reaches = subst (λ es. Reaches ss rows (answered_lines_of ls) es (answered_line l) (answered_lines_of (drop (i + 1) ls))) (sym (take_next ls i l k is))
            (reaches_next ss rows (answered_lines_of ls) (answered_lines_of (take i ls)) (answered_line going.last) (answered_line l) (answered_lines_of (drop (i + 1) ls))
            (subst (λ rs. Reaches ss rows (answered_lines_of ls) (answered_lines_of (take i ls)) (answered_line going.last) rs) (rest_is k is) going.reaches)
            (subst (λ (y : Line). IsAcceptedWith ss rows (answered_lines_of (take i ls)) (Some y.number) (answered_line l)) (sym (last_is going h k was)) accepted));
      }

  pub going_fault : (row : Row) → Going ss rows ls i → 0 < i → i < length ls → l ≡ get_or ls i l → x ≡ get_or ls (i - 1) x → IsRefusedWith ss rows (answered_lines_of (take i ls)) (Some x.number) (answered_line l) row
      → IsFaultWith ss rows (answered_lines_of ls) l.number row
  going_fault row going h k is was refused = going.reaches.fault l.number row
      (subst (λ rs. FaultBehind ss rows (answered_lines_of (take i ls)) (answered_line going.last) rs l.number row) (sym (rest_is k is))
      (refused_here ss rows (answered_lines_of (take i ls)) (Some going.last.number) (answered_line l) (answered_lines_of (drop (i + 1) ls)) row
      (subst (λ (y : Line). IsRefusedWith ss rows (answered_lines_of (take i ls)) (Some y.number) (answered_line l) row) (sym (last_is going h k was)) refused)))

module _ (ss : List Asked) (rows : List AnsweredRow) (ls : List Line) (i : ℕ) (e : Line) where
  end_is : (going : Going ss rows ls i) → 0 < length ls → i ≡ length ls → e ≡ get_or ls (length ls - 1) e → going.last ≡ e
  end_is going h k is =
      going.is ∙ ap (λ n. get_or ls (n - 1) going.last) k ∙ get_same ls (length ls - 1) going.last e (omega arith) ∙ sym is

  none_left : i ≡ length ls → answered_lines_of (drop i ls) ≡ []
  none_left k = ap answered_lines_of (drop_all i ls (omega arith))

  pub going_empty : Going ss rows ls i → 0 < length ls → i ≡ length ls → e ≡ get_or ls (length ls - 1) e → is_empty_clause (answered_line e).line.content ≡ true → IsRefutationWith ss rows (answered_lines_of ls)
  going_empty going h k is empty = (
    going.reaches.are (subst (AreLinesWith ss rows (answered_lines_of (take i ls)) (Some going.last.number)) (sym (none_left k)) tt),
    going.reaches.ends ∙ ap (ends_behind (answered_line going.last)) (none_left k) ∙ ap (λ (y : Line). is_empty_clause (answered_line y).line.content) (end_is going h k is) ∙ empty,
  )

  pub going_other : Going ss rows ls i → 0 < length ls → i ≡ length ls → e ≡ get_or ls (length ls - 1) e → is_empty_clause (answered_line e).line.content ≡ false → IsFaultWith ss rows (answered_lines_of ls) e.number NotEmpty
  going_other going h k is other = going.reaches.fault e.number NotEmpty
      (subst (λ rs. FaultBehind ss rows (answered_lines_of (take i ls)) (answered_line going.last) rs e.number NotEmpty) (sym (none_left k))
      (ap (λ (y : Line). y.number) (sym (end_is going h k is)), refl, ap (λ (y : Line). is_empty_clause (answered_line y).line.content) (end_is going h k is) ∙ other))
