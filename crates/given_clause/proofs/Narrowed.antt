-- What a clause does it does only to clauses that an index finds.
use Rattle.std.proofs.Common.{◌≡◌, ℕ, Bool, true, false, not, ◌&&◌, ◌||◌, if◌then◌else◌, is_some, IsTrue, List, [], ◌∷◌, ◌++◌, Option, Some, None, filter, refl, sym, ap, ◌∙◌}
use Rattle.std.specs.Option.{option_map}
use Rattle.clause_index.proofs.Firsts.{false_is, any_so, kept_again}
use Rattle.clause_index.specs.Finding.{has_term_such, has_argument_such, has_such_below}
use Rattle.derivation.specs.Equations.{left_of}
use Rattle.derivation.specs.Later.{is_unit}
use Rattle.derivation.specs.Places.{same_sign, has_literal, atom_at}
use Rattle.discrim_tree.specs.Terms.{can_unify, has_instance}
use Rattle.discrim_tree.specs.Meeting.{NeverMeet}
use Rattle.fol_core.specs.Literals.{Lit, ClauseTree}
use Rattle.fol_core.specs.Tree.{Tree, var, elem, app, Trees, none, more}
use Rattle.given_clause.specs.Acting.{acts_on, may_put_back, may_conflict, conflicts_with}
use Rattle.given_clause.specs.declared.acting.Act.{Act}
use Rattle.given_clause.specs.declared.acting.Act.TheVariants.{PutsBack}
use Rattle.given_clause.specs.declared.acting.Back.{Back}
use Rattle.given_clause.specs.declared.acting.Back.TheVariants.{Deletes, Rewrites}
use Rattle.given_clause.proofs.Conflicts.{conflicts_next}
use Rattle.prover_steps.specs.Clashing.{Held, is_same_held}
use Rattle.prover_steps.specs.Rewriting.{rewritten_by}
use Rattle.prover_steps.specs.Shortening.{denies}
use Rattle.prover_steps.specs.Subsuming.{fits_in, fits_in_some, fits_below}
use Rattle.resolution.specs.Meeting.{NeverClash}
use Rattle.resolution.proofs.Unopposed.{never_meets}
use Rattle.resolution.proofs.Failing.{no_resolvent}
use Rattle.unifiers.specs.Matching.{matched}

-- a unit that denies a literal has the other sign
signs_differ : (a p q m : Bool) → (a && (same_sign (not p) q && m)) ≡ true → (same_sign (not q) p && m) ≡ true
signs_differ false p q m e = false_is e
signs_differ true true true m e = false_is e
signs_differ true true false m e = e
signs_differ true false true m e = e
signs_differ true false false m e = false_is e

denied : (c : ClauseTree) (n : ℕ) (l : Lit) → denies (record { number = n; clause = c }) l ≡ true → (same_sign (not (has_literal true c 0)) l.positive && has_instance (atom_at c 0) l.atom) ≡ true
denied [] n l e = false_is e
denied (k ∷ c) n l e = signs_differ (is_unit (k ∷ c)) l.positive k.positive (has_instance k.atom l.atom) e

-- a rule that fits a term has an instance of its left side there
or_true : (a : Bool) → (a || true) ≡ true
or_true true = refl
or_true false = refl

or_so : (a b c d : Bool) → (a ≡ true → c ≡ true) → (b ≡ true → d ≡ true) → (a || b) ≡ true → (c || d) ≡ true
or_so true b c d f g e = ap (λ x. x || d) (f refl)
or_so false b c d f g e = ap (λ x. c || x) (g e) ∙ or_true c

mapped : {X Y : Type 0} (f : X → Y) (o : Option X) → is_some (option_map f o) ≡ true → is_some o ≡ true
mapped f None e = e
mapped f (Some x) e = refl

module _ (h : Held) where
  abbrev fits : Tree → Bool
  fits t = has_instance (left_of (atom_at h.clause 0)) t

  mutual
    fits_there : (t : Tree) → fits_in h t ≡ true → has_term_such fits t ≡ true
    fits_there (var x) e = false_is e
    fits_there (elem k) e = false_is e
    fits_there (app f ts) e =
        or_so (is_some (rewritten_by h (app f ts))) (fits_in_some h ts) (fits (app f ts)) (has_argument_such fits ts)
        (λ d. mapped _ (matched (left_of (atom_at h.clause 0)) (app f ts) []) d) (λ d. fits_in_one ts d) e

    fits_in_one : (ts : Trees) → fits_in_some h ts ≡ true → has_argument_such fits ts ≡ true
    fits_in_one none e = false_is e
    fits_in_one (more t ts) e = or_so (fits_in h t) (fits_in_some h ts) (has_term_such fits t) (has_argument_such fits ts) (λ d. fits_there t d) (λ d. fits_in_one ts d) e

  fits_under : (t : Tree) → fits_below h t ≡ true → has_such_below fits t ≡ true
  fits_under (var x) e = false_is e
  fits_under (elem k) e = false_is e
  fits_under (app f ts) e = fits_in_one ts e

-- so each clause that it puts back is found
put_back_there : (back : Back) (h d : Held) → acts_on (PutsBack back) h d.clause ≡ true → may_put_back back h d ≡ true
put_back_there Deletes h d e =
    any_so (denies h) (λ l. same_sign (not (has_literal true h.clause 0)) l.positive && has_instance (atom_at h.clause 0) l.atom) (λ l. denied h.clause h.number l) d.clause e
put_back_there Rewrites h d e = any_so (λ l. fits_below h l.atom) (λ l. has_such_below (fits h) l.atom) (λ l. fits_under h l.atom) d.clause e

pub put_back_kept : (back : Back) (h : Held) (found hs : List Held) → found ≡ filter (may_put_back back h) hs
    → filter (λ d. acts_on (PutsBack back) h d.clause) found ≡ filter (λ d. acts_on (PutsBack back) h d.clause) hs
put_back_kept back h found hs e =
    ap (filter (λ d. acts_on (PutsBack back) h d.clause)) e ∙ kept_again (λ d. acts_on (PutsBack back) h d.clause) (may_put_back back h) (put_back_there back h) hs

-- two tests, one after the other
kept_both : (p q : Held → Bool) (hs : List Held) → filter (λ d. p d && q d) hs ≡ filter p (filter q hs)
kept_both p q [] = refl
kept_both p q (h ∷ hs) = by (p h) refl (q h) (kept_both p q hs)
  where
    by : (a : Bool) → p h ≡ a → (b : Bool) → filter (λ d. p d && q d) hs ≡ filter p (filter q hs)
        → (if a && b then h ∷ filter (λ d. p d && q d) hs else filter (λ d. p d && q d) hs) ≡ filter p (if b then h ∷ filter q hs else filter q hs)
    by true e true rest = ap (λ ks. h ∷ ks) rest ∙ sym (ap (λ (c : Bool). if c then h ∷ filter p (filter q hs) else filter p (filter q hs)) e)
    by true e false rest = rest
    by false e true rest = rest ∙ sym (ap (λ (c : Bool). if c then h ∷ filter p (filter q hs) else filter p (filter q hs)) e)
    by false e false rest = rest

pub others_there : (act : Act) (h : Held) (found hs : List Held) → filter (λ d. acts_on act h d.clause) found ≡ filter (λ d. acts_on act h d.clause) hs
    → filter (λ d. not (is_same_held h d) && acts_on act h d.clause) found ≡ filter (λ d. not (is_same_held h d) && acts_on act h d.clause) hs
others_there act h found hs e =
    kept_both (λ d. not (is_same_held h d)) (λ d. acts_on act h d.clause) found ∙ ap (filter (λ d. not (is_same_held h d))) e
    ∙ sym (kept_both (λ d. not (is_same_held h d)) (λ d. acts_on act h d.clause) hs)

-- a unit whose atom doesn't unify, or whose sign is the same
never_met : (s t : Tree) → can_unify t s ≡ false → NeverMeet s t
never_met s t fails u v same = never_meets t s fails v u (sym same)

opposed : (p q : Bool) (s t : Tree) → (not (same_sign (not (not p)) q) && can_unify t s) ≡ false → IsTrue ((same_sign true p && same_sign false q) || (same_sign false p && same_sign true q)) → NeverMeet s t
opposed true true s t fails signs = false_is signs
opposed true false s t fails signs = never_met s t fails
opposed false true s t fails signs = never_met s t fails
opposed false false s t fails signs = false_is signs

never_clashes : (c : ClauseTree) (n : ℕ) (u : Held) (l : Lit) → may_conflict (record { number = n; clause = c }) (record u { clause = l ∷ [] }) ≡ false → NeverClash c 0 (l ∷ []) 0
never_clashes [] n u l fails opposite = false_is opposite
never_clashes (k ∷ c) n u l fails opposite = opposed k.positive l.positive k.atom l.atom fails opposite

no_conflict : (h u : Held) → may_conflict h u ≡ false → conflicts_with (u ∷ []) h ≡ []
no_conflict h u fails = by u.clause fails
  where
    by : (c : ClauseTree) → may_conflict h (record u { clause = c }) ≡ false → conflicts_with (record u { clause = c } ∷ []) h ≡ []
    by [] e = refl
    by (l ∷ []) e = ap (λ ns. ns ++ []) (no_resolvent h.number h.clause 0 u.number (l ∷ []) 0 (never_clashes h.clause h.number u l e))
    by (l ∷ k ∷ c) e = refl

pub conflicts_there : (h : Held) (hs : List Held) → conflicts_with (filter (may_conflict h) hs) h ≡ conflicts_with hs h
conflicts_there h [] = refl
conflicts_there h (u ∷ hs) = by (may_conflict h u) refl (conflicts_there h hs)
  where
    by : (b : Bool) → may_conflict h u ≡ b → conflicts_with (filter (may_conflict h) hs) h ≡ conflicts_with hs h
        → conflicts_with (if b then u ∷ filter (may_conflict h) hs else filter (may_conflict h) hs) h ≡ conflicts_with (u ∷ hs) h
    by true e rest = conflicts_next u (filter (may_conflict h) hs) h ∙ ap (λ ns. conflicts_with (u ∷ []) h ++ ns) rest ∙ sym (conflicts_next u hs h)
    by false e rest = rest ∙ sym (conflicts_next u hs h ∙ ap (λ ns. ns ++ conflicts_with hs h) (no_conflict h u e))
