-- What an instance tells, from one literal to the next.
use Rattle.std.proofs.Common.{◌≡◌, ℕ, suc, ◌+◌, ◌<◌, ◌≤◌, Bool, true, false, List, length, map, drop, get_or, Option, None, Some, is_some, refl, sym, ap, ◌∙◌, subst, arith}
use Rattle.std.proofs.Math.Seq.{drop-cons}
use Rattle.std.proofs.lemmas.List.{drop_all, get_or_default}
use Rattle.std.proofs.lemmas.Option.{none-some}
use Rattle.fol_core.specs.ClauseView.{literal_of}
use Rattle.fol_core.specs.Truth.{Assignment}
use Rattle.fol_core.specs.declared.clause.Literal.{Literal}
use Rattle.mace_cells.specs.World.{World}
use Rattle.mace_cells.specs.declared.trail.TrailEntry.{TrailEntry}
use Rattle.plain_search.specs.Closing.{Told, nothing, contradiction, asks, joins}
use Rattle.cell_search.specs.Known.{literal_seen}
use Rattle.cell_search.specs.Telling.{literal_asked, told_by, told_seen}
use Rattle.cell_search.specs.declared.asks.Ask.{Ask}

pub is_there : (o : Option ℕ) → true ≡ is_some o → o ≡ None → ⊥
is_there None h e = let no : true ≡ false = h in cc
is_there (Some v) h e = none-some v (sym e)

-- literals that aren't decided tell nothing, where there are two
no_more : (w : World) (a r : Told) (o : Option Ask) → joins None a (joins None (told_by w o) r) ≡ nothing
no_more w a nothing o = refl
no_more w a (asks c v positive) o = refl
no_more w a contradiction None = refl
no_more w a contradiction (Some b) = refl

module _ (w : World) (es : List TrailEntry) (e : Assignment) (ls : List Literal) where
  abbrev behind : ℕ → Told
  behind i = told_seen w es e (map literal_of (drop i ls))

  abbrev whole : Told
  whole = told_seen w es e (map literal_of ls)

  -- the instance tells what the literals behind i tell, with the one before that isn't known
  abbrev pub IsToldFrom : ℕ → Option ℕ → Type 0
  IsToldFrom i None = whole ≡ behind i
  IsToldFrom i (Some j) =
      (l : Literal) × ((l ≡ get_or ls j l) × (whole ≡ joins None (told_by w (literal_asked w es e (literal_of l))) (behind i)))

  next_told : (i : ℕ) (l : Literal) → i < length ls → l ≡ get_or ls i l → behind i ≡ joins (literal_seen w es e (literal_of l)) (told_by w (literal_asked w es e (literal_of l))) (behind (i + 1))
  next_told i l inside is =
      let same : suc i ≡ i + 1 = omega arith in
      ap (λ (ks : List Literal). told_seen w es e (map literal_of ks)) (drop-cons ls i l inside)
      ∙ ap (λ (k : Literal). joins (literal_seen w es e (literal_of k)) (told_by w (literal_asked w es e (literal_of k))) (behind (suc i))) (sym is)
      ∙ ap (λ (j : ℕ). joins (literal_seen w es e (literal_of l)) (told_by w (literal_asked w es e (literal_of l))) (behind j)) same

  seen_as : (i : ℕ) (l : Literal) (o : Option Bool) → i < length ls → l ≡ get_or ls i l → o ≡ literal_seen w es e (literal_of l) → behind i ≡ joins o (told_by w (literal_asked w es e (literal_of l))) (behind (i + 1))
  seen_as i l o inside is known =
      next_told i l inside is ∙ ap (λ (x : Option Bool). joins x (told_by w (literal_asked w es e (literal_of l))) (behind (i + 1))) (sym known)

  pub past_false : (i : ℕ) (l : Literal) (unknown : Option ℕ) → i < length ls → l ≡ get_or ls i l → Some false ≡ literal_seen w es e (literal_of l) → IsToldFrom i unknown → IsToldFrom (i + 1) unknown
  past_false i l None inside is known left = left ∙ seen_as i l (Some false) inside is known
  past_false i l (Some j) inside is known left =
      (left.0, (left.1.0, left.1.1 ∙ ap (joins None (told_by w (literal_asked w es e (literal_of left.0)))) (seen_as i l (Some false) inside is known)))

  pub past_open : (i : ℕ) (l : Literal) → i < length ls → l ≡ get_or ls i l → None ≡ literal_seen w es e (literal_of l) → IsToldFrom i None → IsToldFrom (i + 1) (Some i)
  past_open i l inside is known left = (l, (is, left ∙ seen_as i l None inside is known))

  -- a true literal, or a second one that isn't known
  pub true_told : (i : ℕ) (l : Literal) (unknown : Option ℕ) → i < length ls → l ≡ get_or ls i l → Some true ≡ literal_seen w es e (literal_of l) → IsToldFrom i unknown → nothing ≡ whole
  true_told i l None inside is known left = sym (left ∙ seen_as i l (Some true) inside is known)
  true_told i l (Some j) inside is known left =
      sym (left.1.1 ∙ ap (joins None (told_by w (literal_asked w es e (literal_of left.0)))) (seen_as i l (Some true) inside is known))

  pub open_told : (i : ℕ) (l : Literal) (unknown : Option ℕ) → i < length ls → l ≡ get_or ls i l → None ≡ literal_seen w es e (literal_of l) → (unknown ≡ None → ⊥) → IsToldFrom i unknown → nothing ≡ whole
  open_told i l None inside is known some left = absurd (some refl)
  open_told i l (Some j) inside is known some left =
      let asked = told_by w (literal_asked w es e (literal_of left.0)) in
      sym (left.1.1 ∙ ap (joins None asked) (seen_as i l None inside is known) ∙ no_more w asked (behind (i + 1)) (literal_asked w es e (literal_of l)))

  -- at the end
  end_told : (i : ℕ) → length ls ≤ i → behind i ≡ contradiction
  end_told i past = ap (λ (ks : List Literal). told_seen w es e (map literal_of ks)) (drop_all i ls past)

  pub none_told : (i : ℕ) (unknown : Option ℕ) → length ls ≤ i → unknown ≡ None → IsToldFrom i unknown → contradiction ≡ whole
  none_told i unknown past is left = sym (subst (IsToldFrom i) is left ∙ end_told i past)

  pub one_told : (i j : ℕ) (unknown : Option ℕ) (l : Literal) (o : Option Ask) → length ls ≤ i → unknown ≡ Some j → j < length ls → l ≡ get_or ls j l → o ≡ literal_asked w es e (literal_of l) → IsToldFrom i unknown → told_by w o ≡ whole
  one_told i j unknown l o past some inside is asked left =
      let from = subst (IsToldFrom i) some left in
      let same : from.0 ≡ l = from.1.0 ∙ get_or_default ls j from.0 l inside ∙ sym is in
      sym (from.1.1 ∙ ap (joins None (told_by w (literal_asked w es e (literal_of from.0)))) (end_told i past)
      ∙ ap (λ (k : Literal). told_by w (literal_asked w es e (literal_of k))) same ∙ ap (told_by w) (sym asked))
