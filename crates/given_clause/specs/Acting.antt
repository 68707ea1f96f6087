-- What a clause that is kept does to others.
use Rattle.std.specs.Prelude.{ℕ, Bool, true, not, ◌&&◌, ◌||◌, nat_le, List, [], ◌∷◌, length, Option, Some, None, is_some, filter, flat_map}
use Rattle.std.specs.List.{list_any}
use Rattle.clause_index.specs.Entries.{is_short_above, is_short_unifiable}
use Rattle.clause_index.specs.Finding.{has_atom_such, has_inside_such}
use Rattle.derivation.specs.Equations.{left_of}
use Rattle.derivation.specs.Later.{is_unit}
use Rattle.derivation.specs.Places.{has_literal, atom_at}
use Rattle.discrim_tree.specs.Terms.{has_instance}
use Rattle.fol_core.specs.Literals.{Lit, ClauseTree}
use Rattle.given_clause.specs.declared.acting.Act.{Act}
use Rattle.given_clause.specs.declared.acting.Act.TheVariants.{Subsumes, PutsBack}
use Rattle.given_clause.specs.declared.acting.Back.{Back}
use Rattle.given_clause.specs.declared.acting.Back.TheVariants.{Deletes, Rewrites}
use Rattle.proof_words.specs.Written.{WrittenFirst, satellite, by_resolve, by_back_rewrite, by_back_unit_del}
use Rattle.prover_steps.specs.Clashing.{Held}
use Rattle.prover_steps.specs.Concluded.{Conclusion, inferred}
use Rattle.prover_steps.specs.Searching.{Queued, SearchState, Setting, is_too_heavy}
use Rattle.prover_steps.specs.Shortening.{denies}
use Rattle.prover_steps.specs.Subsuming.{subsumes, rewrites_clause}

-- whether it does so to a clause
abbrev pub acts_on : Act → Held → ClauseTree → Bool
acts_on Subsumes h c = subsumes h.clause c
acts_on (PutsBack Deletes) h c = list_any (denies h) c
acts_on (PutsBack Rewrites) h c = rewrites_clause h c

-- What is found by an index: each clause that it puts back is among these.
abbrev pub may_put_back : Back → Held → Held → Bool
may_put_back Deletes h d =
    has_atom_such (has_instance (atom_at h.clause 0)) (not (has_literal true h.clause 0)) d
may_put_back Rewrites h d = has_inside_such (has_instance (left_of (atom_at h.clause 0))) d

-- and each unit with which a clause makes something is among these
abbrev pub may_conflict : Held → Held → Bool
may_conflict h d = is_short_unifiable (not (has_literal true h.clause 0)) (atom_at h.clause 0) d

-- the word of a clause that is put back
abbrev pub word_for : Back → ℕ → WrittenFirst
word_for Deletes n = by_back_unit_del n
word_for Rewrites n = by_back_rewrite n

-- whether one of some clauses has one literal, of which this one is an instance, or none
abbrev pub has_short_above : List Held → Lit → Bool
has_short_above hs k = list_any (is_short_above k.positive k.atom) hs

-- whether a clause that is no input clause weighs too much, or comes while enough wait
abbrev pub is_unwanted : Setting → SearchState → Queued → Bool
is_unwanted st s q =
    not (is_some q.input)
    && (is_too_heavy st q.clause || nat_le st.options.sos_limit (length s.waiting))

-- what a clause makes of units
abbrev pub conflicts_with : List Held → Held → List Conclusion
conflicts_with us h =
    flat_map
    (λ u. inferred (by_resolve h.number (satellite 0 u.number 0)) (h.clause ∷ u.clause ∷ []))
    (filter (λ u. is_unit u.clause) us)

-- the first of a list
abbrev pub first_in : {X : Type 0} → List X → Option X
first_in [] = None
first_in (x ∷ xs) = Some x
