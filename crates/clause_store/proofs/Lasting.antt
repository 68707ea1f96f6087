-- The lines that a line rests on are one list, and stay where lines come behind.
use Rattle.std.proofs.Common.{◌≡◌, ℕ, ◌<◌, ◌≤◌, ◌==◌, Bool, true, false, IsTrue, if◌then◌else◌, refl, sym, ap, ap₂, ◌∙◌, subst, List, [], ◌∷◌, ◌++◌, Option, Some, None, arith, append_assoc, eqb-true}
use Rattle.std.specs.List.{AllByRecursion, filter}
use Rattle.std.specs.Option.{option_map_or}
use Rattle.std.proofs.lemmas.List.{append-nil, map-append}
use Rattle.std.proofs.lemmas.List.Elements.{filter-append}
use Rattle.fol_core.specs.Free.{is_in}
use Rattle.fol_problem.specs.Stated.{Said}
use Rattle.derivation.specs.Lines.{InputRow, LineTree, line_at, IsAbove, AreLines, IsDerivation}
use Rattle.clause_store.specs.Ancestors.{line_parents, parents_in, IsWay, IsAncestry}
use Rattle.clause_store.specs.Laws.{AncestorsAreOne, AncestorsStay}
use Rattle.clause_store.specs.Lines.{PlainLine, plain_tree, plain_trees}
use Rattle.clause_store.proofs.Keeping.{line_front, line_back, at_itself, AreUpTo, up_to_next, nothing_up_to, not_above}

-- each line is there under its number
abbrev HasLine : List LineTree → ℕ → Type 0
HasLine ls m = (l : LineTree) × (line_at ls m ≡ Some l)

there_more : (x : LineTree) (ls : List LineTree) (m : ℕ) → HasLine ls m → HasLine (x ∷ ls) m
there_more x ls m h = by (x.number == m)
  where
    by : (b : Bool) → (l : LineTree) × ((if b then Some x else line_at ls m) ≡ Some l)
    by true = (x, refl)
    by false = h

each_more : (x : LineTree) (ls : List LineTree) (ks : List PlainLine) → AllByRecursion (λ k. HasLine ls k.number) ks → AllByRecursion (λ k. HasLine (x ∷ ls) k.number) ks
each_more x ls [] h = tt
each_more x ls (k ∷ ks) h = (there_more x ls k.number h.0, each_more x ls ks h.1)

each_there : (ls : List PlainLine) → AllByRecursion (λ k. HasLine (plain_trees ls) k.number) ls
each_there [] = tt
each_there (l ∷ ls) = ((plain_tree l, at_itself (plain_tree l) (plain_trees ls)), each_more (plain_tree l) (plain_trees ls) ls (each_there ls))

same_bool : (a b : Bool) → (a ≡ true → b ≡ true) → (b ≡ true → a ≡ true) → a ≡ b
same_bool true b h k = sym (h refl)
same_bool false true h k = k refl
same_bool false false h k = refl

module _ (ls : List LineTree) (n : ℕ) (among other : ℕ → Bool) (a : IsAncestry ls n among) (b : IsAncestry ls n other) where
  told_alike : (m : ℕ) → HasLine ls m → among m ≡ other m
  told_alike m h = same_bool (among m) (other m) (λ i. b.all m h.0 h.1 (a.rests m i)) (λ i. a.all m h.0 h.1 (b.rests m i))

  taken_alike : (ks : List PlainLine) → AllByRecursion (λ k. HasLine ls k.number) ks → filter (λ k. among k.number) ks ≡ filter (λ k. other k.number) ks
  taken_alike [] h = refl
  taken_alike (k ∷ ks) h = by (taken_alike ks h.1) (among k.number) (other k.number) (told_alike k.number h.0)
    where
      by : filter (λ j. among j.number) ks ≡ filter (λ j. other j.number) ks → (b c : Bool) → b ≡ c → (if b then k ∷ filter (λ j. among j.number) ks else filter (λ j. among j.number) ks) ≡ (if c then k ∷ filter (λ j. other j.number) ks else filter (λ j. other j.number) ks)
      by rest b c e = ap₂ (λ (d : Bool) (js : List PlainLine). if d then k ∷ js else js) e rest

pub ancestors_are_one : AncestorsAreOne
ancestors_are_one all some other n a b = a.lines ∙ taken_alike (plain_trees all) n a.among b.among a.ancestry b.ancestry all (each_there all) ∙ sym b.lines

-- what stands behind others, of lines of a derivation
module _ (ss : List Said) (rows : List InputRow) where
  front_lines : (earlier : List LineTree) (last : Option ℕ) (xs ys : List LineTree) → AreLines ss rows earlier last (xs ++ ys) → AreLines ss rows earlier last xs
  front_lines earlier last [] ys h = tt
  front_lines earlier last (x ∷ xs) ys h = (h.0, h.1, front_lines (earlier ++ x ∷ []) (Some x.number) xs ys h.2)

  back_lines : (earlier : List LineTree) (last : Option ℕ) (xs ys : List LineTree) → AreUpTo earlier last → AreLines ss rows earlier last (xs ++ ys)
      → (end : Option ℕ) × AreUpTo (earlier ++ xs) end × AreLines ss rows (earlier ++ xs) end ys
  back_lines earlier last [] ys up h = (last, subst (λ z. AreUpTo z last) (sym (append-nil earlier)) up, subst (λ z. AreLines ss rows z last ys) (sym (append-nil earlier)) h)
  back_lines earlier last (x ∷ xs) ys up h =
      let r = back_lines (earlier ++ x ∷ []) (Some x.number) xs ys (up_to_next earlier last x up h.0) h.2 in
      let e : (earlier ++ x ∷ []) ++ xs ≡ earlier ++ x ∷ xs = append_assoc earlier (x ∷ []) xs in
      (r.0, subst (λ z. AreUpTo z r.0) e r.1, subst (λ z. AreLines ss rows z r.0 ys) e r.2)

  above_before : (last : Option ℕ) (m k : ℕ) → IsAbove last m → m < k → IsAbove last k
  above_before None m k h l = tt
  above_before (Some j) m k h l = omega (arith, h, l)

  above_end : (earlier : List LineTree) (last : Option ℕ) (ys : List LineTree) → AreLines ss rows earlier last ys → (k : ℕ) (l : LineTree) → line_at ys k ≡ Some l → IsAbove last k
  above_end earlier last [] h k l e = cc
  above_end earlier last (y ∷ ys) h k l e = by (λ f. above_end (earlier ++ y ∷ []) (Some y.number) ys h.2 k l f) (y.number == k) refl e
    where
      by : (line_at ys k ≡ Some l → y.number < k) → (b : Bool) → (y.number == k) ≡ b → (if b then Some y else line_at ys k) ≡ Some l → IsAbove last k
      by rest true d f = subst (IsAbove last) (eqb-true y.number k d) h.0
      by rest false d f = above_before last y.number k h.0 (rest f)

module _ (ss : List Said) (rows : List InputRow) (xs ys : List LineTree) (n : ℕ) (l : LineTree) (all : IsDerivation ss rows (xs ++ ys)) (at : line_at xs n ≡ Some l) where
  front : IsDerivation ss rows xs
  front = front_lines ss rows [] None xs ys all

  back : (end : Option ℕ) × AreUpTo xs end × AreLines ss rows xs end ys
  back = back_lines ss rows [] None xs ys nothing_up_to all

  past : (k : ℕ) → IsAbove back.0 k → n < k
  past k h = back.1 n l at k h

  to_front : (k : ℕ) (j : LineTree) → k ≤ n → line_at (xs ++ ys) k ≡ Some j → line_at xs k ≡ Some j
  to_front k j low e = by (line_at xs k) refl
    where
      by : (o : Option LineTree) → line_at xs k ≡ o → line_at xs k ≡ Some j
      by (Some i) d = d ∙ sym (line_front xs ys k i d) ∙ e
      by None d = absurd (omega (arith, low, past k (above_end ss rows xs back.0 ys back.2 k j (sym (line_back xs ys k d) ∙ e))))

  same_parents : (k : ℕ) → k ≤ n → parents_in xs k ≡ parents_in (xs ++ ys) k
  same_parents k low = ap (λ o. option_map_or line_parents o []) (by (line_at (xs ++ ys) k) refl)
    where
      none : line_at (xs ++ ys) k ≡ None → (o : Option LineTree) → line_at xs k ≡ o → o ≡ None
      none e None d = refl
      none e (Some j) d = let f : Some j ≡ None = sym (line_front xs ys k j d) ∙ e in cc

      by : (o : Option LineTree) → line_at (xs ++ ys) k ≡ o → line_at xs k ≡ line_at (xs ++ ys) k
      by None e = none e (line_at xs k) refl ∙ sym e
      by (Some j) e = to_front k j low e ∙ sym e

  to_all : (m : ℕ) (ks : List ℕ) → IsWay (parents_in xs) n ks m → IsWay (parents_in (xs ++ ys)) n ks m
  to_all m [] h = h
  to_all m (k ∷ ks) h = (to_all k ks h.0, subst (λ ps. IsTrue (is_in m ps)) (same_parents k (not_above ss rows xs n front k ks h.0)) h.1)

  from_all : (m : ℕ) (ks : List ℕ) → IsWay (parents_in (xs ++ ys)) n ks m → IsWay (parents_in xs) n ks m
  from_all m [] h = h
  from_all m (k ∷ ks) h = (from_all k ks h.0, subst (λ ps. IsTrue (is_in m ps)) (sym (same_parents k (not_above ss rows (xs ++ ys) n all k ks h.0))) h.1)

  pub ancestry_stays : (among : ℕ → Bool) → IsAncestry xs n among → IsAncestry (xs ++ ys) n among
  ancestry_stays among a = record {
    rests = λ m i. let r = a.rests m i in (r.0, to_all m r.0 r.1);
    all = λ m j e r. a.all m j (to_front m j (not_above ss rows (xs ++ ys) n all m r.0 r.1) e) (r.0, from_all m r.0 r.1);
  }

  -- none that stands behind is taken
  pub none_taken : (among : ℕ → Bool) → IsAncestry xs n among → (earlier : List LineTree) (last : Option ℕ) (zs : List PlainLine) → AreLines ss rows earlier last (plain_trees zs)
      → ((m : ℕ) → IsAbove last m → n < m) → filter (λ z. among z.number) zs ≡ []
  none_taken among a earlier last [] h above = refl
  none_taken among a earlier last (z ∷ zs) h above = by (none_taken among a (earlier ++ plain_tree z ∷ []) (Some z.number) zs h.2 (λ m i. omega (arith, above z.number h.0, i))) (among z.number) refl
    where
      by : filter (λ y. among y.number) zs ≡ [] → (b : Bool) → among z.number ≡ b → (if b then z ∷ filter (λ y. among y.number) zs else filter (λ y. among y.number) zs) ≡ []
      by rest true e = let way = a.rests z.number e in absurd (omega (arith, not_above ss rows xs n front z.number way.0 way.1, above z.number h.0))
      by rest false e = rest

pub ancestors_stay : AncestorsStay
ancestors_stay ss rows all more some n l h at a = record {
  among = a.among;
  ancestry = subst (λ z. IsAncestry z n a.among) (sym split) (ancestry_stays ss rows (plain_trees all) (plain_trees more) n l derives at a.among a.ancestry);
  lines = a.lines ∙ sym (
      filter-append (λ (z : PlainLine). a.among z.number) all more
      ∙ ap (λ (zs : List PlainLine). filter (λ z. a.among z.number) all ++ zs) none
      ∙ append-nil (filter (λ z. a.among z.number) all));
}
  where
    split : plain_trees (all ++ more) ≡ plain_trees all ++ plain_trees more
    split = map-append plain_tree all more

    derives : IsDerivation ss rows (plain_trees all ++ plain_trees more)
    derives = subst (λ z. IsDerivation ss rows z) split h

    behind : (end : Option ℕ) × AreUpTo (plain_trees all) end × AreLines ss rows (plain_trees all) end (plain_trees more)
    behind = back_lines ss rows [] None (plain_trees all) (plain_trees more) nothing_up_to derives

    none : filter (λ z. a.among z.number) more ≡ []
    none = none_taken ss rows (plain_trees all) (plain_trees more) n l derives at a.among a.ancestry (plain_trees all) behind.0 more behind.2 (λ m i. behind.1 n l at m i)
