-- How the check of proofs comes out.
use Rattle.std.specs.Prelude.{◌≡◌, ℕ, zero, suc, ◌<◌, List, [], ◌∷◌, ◌++◌, length, Some, None}
use Rattle.answered_lines.specs.Lines.{Asked, with_asks, AnsweredRow, with_terms, AnsweredLine, IsRefutationWith}
use Rattle.answered_lines.specs.Refused.{IsFaultWith}
use Rattle.clausify.specs.Asked.{answer_terms_in_table}
use Rattle.clausify.specs.Input.{clauses_in_table, axioms_in_table, first_over}
use Rattle.derivation.specs.Lines.{InputRow}
use Rattle.derivation.specs.declared.row.Row.{Row}
use Rattle.derivation.specs.declared.row.Row.TheVariants.{NoLines}
use Rattle.fol_core.specs.SkolemAxioms.{SkolemAxiom, AreInOrder}
use Rattle.fol_problem.specs.Stated.{AreNewTo}
use Rattle.ladr_check.specs.Offered.{Offered}
use Rattle.ladr_check.specs.declared.ends.CheckEnd.{CheckEnd}
use Rattle.ladr_check.specs.declared.ends.CheckEnd.TheVariants.{Accepted, NotAccepted, ClauseLimit}

-- each proof is a refutation of what is said, with what its goals ask for, and with these clauses of
-- its formulas and their answers
abbrev pub AreRefutations : List Asked → List AnsweredRow → List (List AnsweredLine) → Type 0
AreRefutations ss rows [] = Unit {0}
AreRefutations ss rows (p ∷ ps) = IsRefutationWith ss rows p × AreRefutations ss rows ps

-- the proofs that are looked at: one without lines where there is none
abbrev pub looked_at : List (List AnsweredLine) → List (List AnsweredLine)
looked_at [] = [] ∷ []
looked_at (p ∷ ps) = p ∷ ps

-- Behind so many refutations stands a proof that is none: this is its first bad line with its row.
pub record IsNotAccepted (ss : List Asked) (rows : List AnsweredRow)
    (ps : List (List AnsweredLine)) (accepted line : ℕ) (row : Row) : Type 0 where
  pub before : List (List AnsweredLine)
  pub bad : List AnsweredLine
  pub behind : List (List AnsweredLine)
  pub split : looked_at ps ≡ before ++ (bad ∷ behind)
  pub count : accepted ≡ length before
  pub are : AreRefutations ss rows before
  pub fault : IsFaultWith ss rows bad line row

-- The check of proofs comes to this end, so many being accepted: all of them, and there are some;
-- or those before the first bad line.
abbrev pub ProofsEnd : List Asked → List AnsweredRow → List (List AnsweredLine) → CheckEnd → ℕ →
    Type 0
ProofsEnd ss rows ps (Accepted proofs) accepted =
    AreRefutations ss rows ps × (0 < proofs) × (proofs ≡ length ps) × (accepted ≡ proofs)
ProofsEnd ss rows ps (NotAccepted line row) accepted = IsNotAccepted ss rows ps accepted line row
ProofsEnd ss rows ps (ClauseLimit formula) accepted = ⊥

-- the end where each of so many proofs is a refutation: without one, that there are no lines
abbrev pub end_of_all : ℕ → CheckEnd
end_of_all zero = NotAccepted 0 NoLines
end_of_all (suc n) = Accepted (suc n)

-- the clauses of the formulas that are offered
abbrev pub input_rows : Offered → List InputRow
input_rows x = clauses_in_table x.symbols x.stated

-- what is said with what is asked for, and these clauses with the terms of their answers
abbrev pub asked_formulas : Offered → List Asked
asked_formulas x = with_asks x.stated.formulas x.asks

abbrev pub answered_rows : Offered → List AnsweredRow
answered_rows x =
    with_terms (input_rows x) (answer_terms_in_table x.symbols x.stated x.asks)

-- what their Skolem symbols are to pick
abbrev pub input_axioms : Offered → List SkolemAxiom
input_axioms x = axioms_in_table x.symbols x.stated

-- The Skolem symbols are new: no formula has one, and the body of each has those before it alone.
abbrev pub HasNewSkolems : Offered → Type 0
HasNewSkolems x = AreNewTo x.stated.formulas (input_axioms x) × AreInOrder (input_axioms x)

-- What is offered comes out so: the first formula that has too many clauses is named, and no proof
-- is looked at; or the proofs are, with Skolem symbols that are new.
abbrev pub ComesOut : Offered → CheckEnd → ℕ → Type 0
ComesOut x (ClauseLimit formula) accepted =
    (first_over 1 x.stated.formulas ≡ Some formula) × (accepted ≡ 0)
ComesOut x end accepted =
    (first_over 1 x.stated.formulas ≡ None) × HasNewSkolems x
    × ProofsEnd (asked_formulas x) (answered_rows x) x.proofs end accepted

-- it comes out in one way
abbrev pub EndIsOne : Type 0
EndIsOne =
    (x : Offered) (end other : CheckEnd) (j k : ℕ) → ComesOut x end j → ComesOut x other k
    → (end ≡ other) × (j ≡ k)

-- the exit statuses of a check
abbrev pub check_status : CheckEnd → ℕ
check_status (Accepted proofs) = 0
check_status (NotAccepted line row) = 7
check_status (ClauseLimit formula) = 13
