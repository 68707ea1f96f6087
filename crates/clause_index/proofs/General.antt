-- Clauses that are found by literals of which those of another one are instances.
use Rattle.std.proofs.Common.{◌≡◌, ℕ, ◌+◌, ◌<◌, ◌≤◌, Bool, true, false, not, ◌&&◌, ◌||◌, is_some, List, [], ◌∷◌, length, get_or, take, map, refl, sym, ap, ◌∙◌}
use Rattle.std.specs.List.{Contains, list_any}
use Rattle.std.proofs.lemmas.List.{take_all}
use Rattle.std.proofs.lemmas.List.Folds.{list_any_more}
use Rattle.clause_index.specs.Entries.{is_short}
use Rattle.clause_index.specs.Filing.{AddsGeneral, IsFiled, LeavesOutNoSubsumer}
use Rattle.clause_index.specs.Finding.{has_atom_such}
use Rattle.clause_index.specs.Subsumers.{is_long_above}
use Rattle.clause_index.specs.declared.finder.Finder.{Finder}
use Rattle.clause_index.proofs.Filing.{literals_any}
use Rattle.clause_index.proofs.Firsts.{any_so, false_is, first_matches, same_signed}
use Rattle.derivation.specs.Places.{same_sign}
use Rattle.discrim_tree.specs.Terms.{has_instance}
use Rattle.fol_core.specs.ClauseView.{literal_of}
use Rattle.fol_core.specs.Literals.{Lit, ClauseTree}
use Rattle.fol_core.specs.declared.clause.Literal.{Literal}
use Rattle.prover_steps.specs.Clashing.{Held}
use Rattle.prover_steps.specs.Subsuming.{matched_literal, subsumes}

-- whether a clause has a literal of which another one is an instance
abbrev pub generalizes : Held → Lit → Bool
generalizes h k = has_atom_such (λ s. has_instance s k.atom) k.positive h

-- the numbers of those are there that have one of which one of the first literals is an instance
abbrev pub HaveGeneral : Finder → List Literal → ℕ → List ℕ → Type 0
HaveGeneral f ls i ns = (h : Held) → IsFiled f h → is_short h.clause ≡ false → list_any (λ l. generalizes h (literal_of l)) (take i ls) ≡ true → Contains ns h.number

pub general_first : (f : Finder) (ls : List Literal) (ns : List ℕ) → HaveGeneral f ls 0 ns
general_first f ls ns h filed long e = false_is e

pub general_next : (f : Finder) (ls : List Literal) (i : ℕ) (l : Literal) (now new : List ℕ) → i < length ls → l ≡ get_or ls i l → HaveGeneral f ls i now → AddsGeneral f (literal_of l) now new → HaveGeneral f ls (i + 1) new
general_next f ls i l now new within is so adds h filed long e =
    by (list_any test (take i ls)) refl (test l) refl (ap (λ b. list_any test (take i ls) || b) (ap test is) ∙ sym (list_any_more test ls i l within) ∙ e)
  where
    test : Literal → Bool
    test k = generalizes h (literal_of k)

    by : (a : Bool) → list_any test (take i ls) ≡ a → (b : Bool) → test l ≡ b → (a || b) ≡ true → Contains new h.number
    by true there b here d = adds.kept h.number (so h filed long there)
    by false there true here d = adds.added h filed long here
    by false there false here d = false_is d

turned : (p q m : Bool) → (same_sign p q && m) ≡ true → (same_sign q p && m) ≡ true
turned true true m e = e
turned true false m e = false_is e
turned false true m e = false_is e
turned false false m e = e

or_first : (a b : Bool) → a ≡ true → (a || b) ≡ true
or_first a b e = ap (λ c. c || b) e

-- one that subsumes a clause has such a literal
has_general : (h : Held) (d : ClauseTree) → is_long_above d h ≡ true → list_any (generalizes h) d ≡ true
has_general h d e = by h.clause refl
  where
    longer : (c : ClauseTree) → (not (is_short c) && subsumes c d) ≡ true → (l : Lit) (rest : ClauseTree) → c ≡ l ∷ rest → subsumes (l ∷ rest) d ≡ true
    longer c f l rest is = both (not (is_short c)) (subsumes c d) f (ap (λ b. subsumes b d) is)
      where
        both : (a b : Bool) → (a && b) ≡ true → b ≡ subsumes (l ∷ rest) d → subsumes (l ∷ rest) d ≡ true
        both true b g same = sym same ∙ g
        both false b g same = false_is g

    by : (c : ClauseTree) → h.clause ≡ c → list_any (generalizes h) d ≡ true
    by [] is = false_is (sym (ap (λ c. not (is_short c) && subsumes c d) is) ∙ e)
    by (l ∷ rest) is =
        any_so (λ k. is_some (matched_literal l k [])) (generalizes h)
        (λ k m. ap (λ c. list_any (λ j. same_sign k.positive j.positive && has_instance j.atom k.atom) c) is
        ∙ or_first (same_sign k.positive l.positive && has_instance l.atom k.atom) (list_any (λ j. same_sign k.positive j.positive && has_instance j.atom k.atom) rest)
        (turned l.positive k.positive (has_instance l.atom k.atom) (same_signed l k m)))
        d (first_matches l rest d (longer h.clause e l rest is))

long_above : (a b : Bool) → (not a && b) ≡ true → a ≡ false
long_above true b e = sym e
long_above false b e = refl

pub general_found : (f : Finder) (d : ClauseTree) (ls : List Literal) (i : ℕ) (numbers ns : List ℕ) → map literal_of ls ≡ d → length ls ≤ i → HaveGeneral f ls i numbers → ((n : ℕ) → Contains numbers n → Contains ns n) → LeavesOutNoSubsumer f d ns
general_found f d ls i numbers ns is past so kept h filed pass =
    kept h.number (so h filed (long_above (is_short h.clause) (subsumes h.clause d) pass) (
    ap (list_any (λ l. generalizes h (literal_of l))) (take_all i ls past)
    ∙ literals_any (generalizes h) ls ∙ ap (list_any (generalizes h)) is ∙ has_general h d pass
    ))
