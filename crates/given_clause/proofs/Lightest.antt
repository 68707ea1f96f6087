-- The lightest clause of a list, found from its front.
use Rattle.std.proofs.Common.{◌≡◌, ℕ, ◌+◌, ◌<◌, ◌≤◌, Bool, true, false, nat_le, if◌then◌else◌, List, [], ◌∷◌, ◌++◌, Option, Some, None, filter, length, get_or, take, refl, sym, ap, ◌∙◌, arith}
use Rattle.std.specs.Borrow.{Bor}
use Rattle.std.specs.Option.{option_map}
use Rattle.std.proofs.lemmas.Bool.{leb-true, leb-false, le-leb, lt-leb}
use Rattle.std.proofs.lemmas.List.{take_all, append-nil}
use Rattle.std.proofs.lemmas.List.Elements.{filter-append}
use Rattle.fol_core.specs.Literals.{ClauseTree}
use Rattle.given_clause.specs.Noted.{note_of, AreNoted}
use Rattle.given_clause.specs.Turns.{counts_among, lightest_among, best_so_far, lighter_next, best_next}
use Rattle.given_clause.specs.declared.picking.Among.{Among}
use Rattle.given_clause.specs.declared.picking.Among.TheVariants.{All, Hinted, WithPositive, WithoutPositive}
use Rattle.given_clause.specs.declared.waiting.Note.{Note}
use Rattle.given_clause.specs.declared.waiting.Waiting.{Waiting}
use Rattle.prover_steps.specs.Clashing.{Held}
use Rattle.prover_steps.specs.Picking.{Picked, lighter, lightest}
use Rattle.prover_steps.specs.Searching.{Setting}
use Rattle.given_clause.proofs.Going.{take_next}
use Rattle.given_clause.proofs.Noting.{noted_at}

module _ (weight : ClauseTree → ℕ) where
  -- with its weight
  abbrev pub weighed : Held → Picked
  weighed h = (h, weight h.clause)

  -- the lightest one with one more behind it
  abbrev pub with_last : Option Held → Held → Held
  with_last None h = h
  with_last (Some b) h = if nat_le (weight b.clause) (weight h.clause) then b else h

  lighter_last : (x b h : Held) → lighter weight x (Some (with_last (Some b) h)) ≡ with_last (Some (lighter weight x (Some b))) h
  lighter_last x b h = by (nat_le (weight b.clause) (weight h.clause)) refl (nat_le (weight x.clause) (weight b.clause)) refl
    where
      by : (p : Bool) → nat_le (weight b.clause) (weight h.clause) ≡ p → (q : Bool) → nat_le (weight x.clause) (weight b.clause) ≡ q
          → lighter weight x (Some (if p then b else h)) ≡ with_last (Some (if q then x else b)) h
      by true e true f =
          let first : weight b.clause ≤ weight h.clause = leb-true (weight b.clause) (weight h.clause) e in
          let second : weight x.clause ≤ weight b.clause = leb-true (weight x.clause) (weight b.clause) f in
          let g : nat_le (weight x.clause) (weight h.clause) ≡ true = le-leb (weight x.clause) (weight h.clause) (omega arith) in
          ap (λ (t : Bool). if t then x else b) f ∙ sym (ap (λ (t : Bool). if t then x else h) g)
      by true e false f = ap (λ (t : Bool). if t then x else b) f ∙ sym (ap (λ (t : Bool). if t then b else h) e)
      by false e true f = refl
      by false e false f =
          let first : weight h.clause < weight b.clause = leb-false (weight b.clause) (weight h.clause) e in
          let second : weight b.clause < weight x.clause = leb-false (weight x.clause) (weight b.clause) f in
          let g : nat_le (weight x.clause) (weight h.clause) ≡ false = lt-leb (weight x.clause) (weight h.clause) (omega arith) in
          ap (λ (t : Bool). if t then x else h) g ∙ sym (ap (λ (t : Bool). if t then b else h) e)

  lightest_last : (xs : List Held) (h : Held) → lightest weight (xs ++ h ∷ []) ≡ Some (with_last (lightest weight xs) h)
  lightest_last [] h = refl
  lightest_last (x ∷ xs) h = ap (λ o. Some (lighter weight x o)) (lightest_last xs h) ∙ by (lightest weight xs)
    where
      by : (o : Option Held) → Some (lighter weight x (Some (with_last o h))) ≡ Some (with_last (Some (lighter weight x o)) h)
      by None = refl
      by (Some b) = ap (λ k. Some k) (lighter_last x b h)

  weighed_last : (o : Option Held) (h : Held) → weighed (with_last o h) ≡ lighter_next (option_map weighed o) (weighed h)
  weighed_last None h = refl
  weighed_last (Some b) h = by (nat_le (weight b.clause) (weight h.clause))
    where
      by : (p : Bool) → weighed (if p then b else h) ≡ (if p then weighed b else weighed h)
      by true = refl
      by false = refl

  lightest_kept : (test : Held → Bool) (xs : List Held) (h : Held)
      → option_map weighed (lightest weight (filter test (xs ++ h ∷ [])))
      ≡ (if test h then Some (lighter_next (option_map weighed (lightest weight (filter test xs))) (weighed h)) else option_map weighed (lightest weight (filter test xs)))
  lightest_kept test xs h = ap (λ ks. option_map weighed (lightest weight ks)) (filter-append test xs (h ∷ [])) ∙ by (test h)
    where
      kept : List Held
      kept = filter test xs

      by : (b : Bool) → option_map weighed (lightest weight (kept ++ (if b then h ∷ [] else [])))
          ≡ (if b then Some (lighter_next (option_map weighed (lightest weight kept)) (weighed h)) else option_map weighed (lightest weight kept))
      by true = ap (option_map weighed) (lightest_last kept h) ∙ ap (λ p. Some p) (weighed_last (lightest weight kept) h)
      by false = ap (λ ks. option_map weighed (lightest weight ks)) (append-nil kept)

-- the best of a list
abbrev pub best_in : Setting → Among → List Held → Option Picked
best_in st a hs = option_map (weighed st.weight) (lightest_among st a hs)

-- by the note of the next one
by_note : (st : Setting) (a : Among) (best : Option Picked) (h : Held)
    → best_next a best h (note_of st h) ≡ (if counts_among st a h.clause then Some (lighter_next best (weighed st.weight h)) else best)
by_note st All best h = refl
by_note st Hinted best h = refl
by_note st WithPositive best h = refl
by_note st WithoutPositive best h = refl

pub best_more : (st : Setting) (a : Among) (w : Waiting) (i : ℕ) (h : Held) (n : Note) (old new : Option Picked) → i < length w.held → h ≡ get_or w.held i h → AreNoted st w → n ≡ get_or w.notes.items i n
    → old ≡ best_in st a (take i w.held) → new ≡ best_next a old h n → new ≡ best_in st a (take (i + 1) w.held)
best_more st a w i h n old new within is noted at was e =
    e ∙ ap (λ o. best_next a o h n) was
    ∙ ap (best_next a (best_in st a (take i w.held)) h) (noted_at st w.held i h n within is (at ∙ ap (λ ns. get_or ns i n) noted))
    ∙ by_note st a (best_in st a (take i w.held)) h
    ∙ sym (ap (best_in st a) (take_next w.held i h within is) ∙ lightest_kept st.weight (λ k. counts_among st a k.clause) (take i w.held) h)

unweighed : (weight : ClauseTree → ℕ) (best : Option (Bor Held × ℕ)) (o : Option Held) → best_so_far best ≡ option_map (weighed weight) o → option_map (λ p. p.0.now) best ≡ o
unweighed weight None None e = refl
unweighed weight None (Some h) e = cc
unweighed weight (Some p) None e = cc
unweighed weight (Some p) (Some h) e = ap (option_map (λ q. q.0)) e

pub best_all : (st : Setting) (a : Among) (hs : List Held) (i : ℕ) (best : Option (Bor Held × ℕ)) → length hs ≤ i
    → best_so_far best ≡ best_in st a (take i hs) → option_map (λ p. p.0.now) best ≡ lightest_among st a hs
best_all st a hs i best past was = unweighed st.weight best (lightest_among st a hs) (was ∙ ap (best_in st a) (take_all i hs past))

every : {X : Type 0} (xs : List X) → filter (λ x. true) xs ≡ xs
every [] = refl
every (x ∷ xs) = ap (λ ys. x ∷ ys) (every xs)

-- of all clauses, without a test
pub all_weighed : (st : Setting) (hs : List Held) → lightest_among st All hs ≡ lightest st.weight hs
all_weighed st hs = ap (lightest st.weight) (every hs)
