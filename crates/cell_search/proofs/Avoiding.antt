-- A step gives a cell a value: what an instance tells stays the same, if none of its occurrences is that cell.
use Rattle.std.proofs.Common.{◌≡◌, ℕ, ◌≤◌, ◌==◌, Bool, true, false, not, if◌then◌else◌, MatchBool, List, [], ◌∷◌, Option, None, Some, inl, inr, refl, sym, ap, ◌∙◌, arith}
use Rattle.std.specs.Prelude.{◌⊎◌}
use Rattle.std.specs.Option.{option_map, option_and_then, option_or}
use Rattle.std.proofs.lemmas.Bool.{eqb-true, eqb-false}
use Rattle.std.proofs.lemmas.Option.{none-some, same_Some}
use Rattle.fol_core.specs.Literals.{ClauseTree, equality}
use Rattle.fol_core.specs.Tree.{Tree, var, elem, app, Trees, none, more}
use Rattle.fol_core.specs.Truth.{Assignment}
use Rattle.fol_core.specs.declared.symbols.Kind.{Kind}
use Rattle.fol_core.specs.declared.symbols.Kind.TheVariants.{Function, Relation}
use Rattle.mace_cells.specs.Trails.{value_in}
use Rattle.mace_cells.specs.World.{World}
use Rattle.mace_cells.specs.declared.trail.TrailEntry.{TrailEntry}
use Rattle.mace_ground.specs.Instances.{above_variables, above_all_variables, variables_in}
use Rattle.plain_search.specs.Closing.{joins}
use Rattle.cell_search.specs.Known.{cell_number, joined_seen, seen, all_seen, cell_seen, compared, equation_seen, atom_seen, literal_seen}
use Rattle.cell_search.specs.Telling.{term_number, both_of, sides_seen, equation_asked, atom_asked, ask_for, literal_asked, told_by, told_seen}
use Rattle.cell_search.specs.Ways.{EachIn, EachOf, EachInAtom, EachInClause}

module _ (w : World) (es : List TrailEntry) (e : TrailEntry) (f : Assignment) where
  -- an occurrence isn't the cell that gets the value
  abbrev pub Avoids : Kind → ℕ → Trees → Type 0
  Avoids kind s ts = cell_seen w (e ∷ es) f kind s ts ≡ Some e.cell → ⊥

  same_value : (o : Option ℕ) → (o ≡ Some e.cell → ⊥) → option_and_then (value_in (e ∷ es)) o ≡ option_and_then (value_in es) o
  same_value None apart = refl
  same_value (Some k) apart = by (k == e.cell) refl
    where
      by : (b : Bool) → (k == e.cell) ≡ b → (if b then Some e.value else value_in es k) ≡ value_in es k
      by true t = absurd (apart (ap Some (eqb-true k e.cell t)))
      by false t = refl

  mutual
    term_stays : (t : Tree) → EachIn Avoids t → seen w (e ∷ es) f t ≡ seen w es f t
    term_stays (var x) h = refl
    term_stays (elem k) h = refl
    term_stays (app s ts) h =
        same_value (cell_seen w (e ∷ es) f Function s ts) h.0
        ∙ ap (λ (o : Option (List ℕ)). option_and_then (value_in es) (option_and_then (cell_number w Function s) o)) (terms_stay ts h.1)

    terms_stay : (ts : Trees) → EachOf Avoids ts → all_seen w (e ∷ es) f ts ≡ all_seen w es f ts
    terms_stay none h = refl
    terms_stay (more t ts) h =
        ap (λ (o : Option ℕ). joined_seen o (all_seen w (e ∷ es) f ts)) (term_stays t h.0) ∙ ap (joined_seen (seen w es f t)) (terms_stay ts h.1)

  number_stays : (t : Tree) → EachIn Avoids t → term_number w (e ∷ es) f t ≡ term_number w es f t
  number_stays (var x) h = refl
  number_stays (elem k) h = refl
  number_stays (app s ts) h = ap (option_and_then (cell_number w Function s)) (terms_stay ts h.1)

  sides_stay : (s t : Tree) → EachIn Avoids s → EachIn Avoids t → sides_seen w (e ∷ es) f s t ≡ sides_seen w es f s t
  sides_stay s t h g =
      ap (λ (o : Option ℕ). both_of o (seen w (e ∷ es) f t)) (number_stays s h) ∙ ap (both_of (term_number w es f s)) (term_stays t g)

  equation_stays : (ts : Trees) → EachOf Avoids ts → equation_seen w (e ∷ es) f ts ≡ equation_seen w es f ts
  equation_stays none h = refl
  equation_stays (more s none) h = refl
  equation_stays (more s (more t none)) h =
      ap (λ (o : Option ℕ). compared o (seen w (e ∷ es) f t)) (term_stays s h.0) ∙ ap (compared (seen w es f s)) (term_stays t h.1.0)
  equation_stays (more s (more t (more u us))) h = refl

  asked_stays : (ts : Trees) → EachOf Avoids ts → equation_asked w (e ∷ es) f ts ≡ equation_asked w es f ts
  asked_stays none h = refl
  asked_stays (more s none) h = refl
  asked_stays (more s (more t none)) h =
      ap (λ (o : Option (ℕ × ℕ)). option_or o (sides_seen w (e ∷ es) f t s)) (sides_stay s t h.0 h.1.0)
      ∙ ap (option_or (sides_seen w es f s t)) (sides_stay t s h.1.0 h.0)
  asked_stays (more s (more t (more u us))) h = refl

  atom_stays : (t : Tree) → EachInAtom Avoids t → atom_seen w (e ∷ es) f t ≡ atom_seen w es f t
  atom_stays (var x) h = refl
  atom_stays (elem k) h = refl
  atom_stays (app r ts) h = by (r == equality) h
    where
      by : (b : Bool) → MatchBool b (EachOf Avoids ts) (Avoids Relation r ts × EachOf Avoids ts)
          → (if b then equation_seen w (e ∷ es) f ts else option_map (λ v. v == 1) (option_and_then (value_in (e ∷ es)) (cell_seen w (e ∷ es) f Relation r ts)))
          ≡ (if b then equation_seen w es f ts else option_map (λ v. v == 1) (option_and_then (value_in es) (cell_seen w es f Relation r ts)))
      by true g = equation_stays ts g
      by false g =
          ap (option_map (λ v. v == 1)) (same_value (cell_seen w (e ∷ es) f Relation r ts) g.0
          ∙ ap (λ (o : Option (List ℕ)). option_and_then (value_in es) (option_and_then (cell_number w Relation r) o)) (terms_stay ts g.1))

  atom_asks_same : (t : Tree) → EachInAtom Avoids t → atom_asked w (e ∷ es) f t ≡ atom_asked w es f t
  atom_asks_same (var x) h = refl
  atom_asks_same (elem k) h = refl
  atom_asks_same (app r ts) h = by (r == equality) h
    where
      by : (b : Bool) → MatchBool b (EachOf Avoids ts) (Avoids Relation r ts × EachOf Avoids ts)
          → (if b then equation_asked w (e ∷ es) f ts else option_map (λ k. (k, 1)) (cell_seen w (e ∷ es) f Relation r ts))
          ≡ (if b then equation_asked w es f ts else option_map (λ k. (k, 1)) (cell_seen w es f Relation r ts))
      by true g = asked_stays ts g
      by false g = ap (λ (o : Option (List ℕ)). option_map (λ k. (k, 1)) (option_and_then (cell_number w Relation r) o)) (terms_stay ts g.1)

  pub told_stays : (ls : ClauseTree) → EachInClause Avoids ls → told_seen w (e ∷ es) f ls ≡ told_seen w es f ls
  told_stays [] h = refl
  told_stays (l ∷ ls) h =
      ap (λ (o : Option Bool). joins (option_map (λ b. if l.positive then b else not b) o) (told_by w (literal_asked w (e ∷ es) f l)) (told_seen w (e ∷ es) f ls)) (atom_stays l.atom h.0)
      ∙ ap (λ (o : Option (ℕ × ℕ)). joins (literal_seen w es f l) (told_by w (option_map (ask_for l.positive) o)) (told_seen w (e ∷ es) f ls)) (atom_asks_same l.atom h.0)
      ∙ ap (joins (literal_seen w es f l) (told_by w (literal_asked w es f l))) (told_stays ls h.1)

  -- An occurrence that is the cell, of those of which P holds; or none is.
  module _ (P : Kind → ℕ → Trees → Type 0) where
    pub record Hit : Type 0 where
      pub kind : Kind
      pub symbol : ℕ
      pub terms : Trees
      pub has : P kind symbol terms
      pub here : cell_seen w (e ∷ es) f kind symbol terms ≡ Some e.cell

    one : (kind : Kind) (s : ℕ) (ts : Trees) → P kind s ts → Avoids kind s ts ⊎ Hit
    one kind s ts h = by (cell_seen w (e ∷ es) f kind s ts) refl
      where
        by : (o : Option ℕ) → cell_seen w (e ∷ es) f kind s ts ≡ o → Avoids kind s ts ⊎ Hit
        by None t = inl (λ is. none-some e.cell (sym t ∙ is))
        by (Some k) t = at (k == e.cell) refl
          where
            at : (b : Bool) → (k == e.cell) ≡ b → Avoids kind s ts ⊎ Hit
            at true g = inr (record { kind = kind; symbol = s; terms = ts; has = h; here = t ∙ ap Some (eqb-true k e.cell g) })
            at false g = inl (λ is. eqb-false k e.cell g (same_Some k e.cell (sym t ∙ is)))

    mutual
      term_hit : (t : Tree) → EachIn P t → EachIn Avoids t ⊎ Hit
      term_hit (var x) h = inl tt
      term_hit (elem k) h = inl tt
      term_hit (app s ts) h = elim (one Function s ts h.0) [
        | inl apart ↦ elim (terms_hit ts h.1) [ inl rest ↦ inl (apart, rest) | inr hit ↦ inr hit ]
        | inr hit ↦ inr hit
      ]

      terms_hit : (ts : Trees) → EachOf P ts → EachOf Avoids ts ⊎ Hit
      terms_hit none h = inl tt
      terms_hit (more t ts) h = elim (term_hit t h.0) [
        | inl apart ↦ elim (terms_hit ts h.1) [ inl rest ↦ inl (apart, rest) | inr hit ↦ inr hit ]
        | inr hit ↦ inr hit
      ]

    atom_hit : (t : Tree) → EachInAtom P t → EachInAtom Avoids t ⊎ Hit
    atom_hit (var x) h = inl tt
    atom_hit (elem k) h = inl tt
    atom_hit (app r ts) h = by (r == equality) h
      where
        by : (b : Bool) → MatchBool b (EachOf P ts) (P Relation r ts × EachOf P ts) → MatchBool b (EachOf Avoids ts) (Avoids Relation r ts × EachOf Avoids ts) ⊎ Hit
        by true g = terms_hit ts g
        by false g = elim (one Relation r ts g.0) [
          | inl apart ↦ elim (terms_hit ts g.1) [ inl rest ↦ inl (apart, rest) | inr hit ↦ inr hit ]
          | inr hit ↦ inr hit
        ]

    pub clause_hit : (ls : ClauseTree) → EachInClause P ls → EachInClause Avoids ls ⊎ Hit
    clause_hit [] h = inl tt
    clause_hit (l ∷ ls) h = elim (atom_hit l.atom h.0) [
      | inl apart ↦ elim (clause_hit ls h.1) [ inl rest ↦ inl (apart, rest) | inr hit ↦ inr hit ]
      | inr hit ↦ inr hit
    ]

-- each occurrence has variables of the clause alone
module _ (P : Kind → ℕ → Trees → Type 0) (n : ℕ) where
  abbrev pub HasFew : Kind → ℕ → Trees → Type 0
  HasFew kind s ts = P kind s ts × (above_all_variables ts ≤ n)

  mutual
    term_few : (t : Tree) → above_variables t ≤ n → EachIn P t → EachIn HasFew t
    term_few (var x) few h = tt
    term_few (elem k) few h = tt
    term_few (app s ts) few h = ((h.0, few), terms_few ts few h.1)

    terms_few : (ts : Trees) → above_all_variables ts ≤ n → EachOf P ts → EachOf HasFew ts
    terms_few none few h = tt
    terms_few (more t ts) few h = (term_few t (omega (arith, few)) h.0, terms_few ts (omega (arith, few)) h.1)

  atom_few : (t : Tree) → above_variables t ≤ n → EachInAtom P t → EachInAtom HasFew t
  atom_few (var x) few h = tt
  atom_few (elem k) few h = tt
  atom_few (app r ts) few h = by (r == equality) h
    where
      by : (b : Bool) → MatchBool b (EachOf P ts) (P Relation r ts × EachOf P ts) → MatchBool b (EachOf HasFew ts) (HasFew Relation r ts × EachOf HasFew ts)
      by true g = terms_few ts few g
      by false g = ((g.0, few), terms_few ts few g.1)

  pub clause_few : (ls : ClauseTree) → variables_in ls ≤ n → EachInClause P ls → EachInClause HasFew ls
  clause_few [] few h = tt
  clause_few (l ∷ ls) few h = (atom_few l.atom (omega (arith, few)) h.0, clause_few ls (omega (arith, few)) h.1)
