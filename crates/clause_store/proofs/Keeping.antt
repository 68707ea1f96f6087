-- The ancestors of a line of a derivation are a derivation.
use Rattle.std.proofs.Common.{◌≡◌, ℕ, ◌<◌, ◌≤◌, ◌==◌, ◌||◌, ◌⊎◌, Bool, true, false, if◌then◌else◌, inl, inr, refl, sym, ap, ap₂, ◌∙◌, subst, List, [], ◌∷◌, ◌++◌, Option, Some, None, arith, append_assoc, eqb-true, eq-eqb}
use Rattle.std.specs.List.{filter, flat_map}
use Rattle.std.specs.Option.{option_and_then, option_map_or}
use Rattle.std.proofs.lemmas.List.{append-nil}
use Rattle.std.proofs.lemmas.List.Folds.{list_any-append}
use Rattle.std.proofs.lemmas.List.Elements.{filter-append}
use Rattle.fol_core.specs.Free.{is_in}
use Rattle.fol_core.specs.Literals.{ClauseTree}
use Rattle.fol_problem.specs.Stated.{Said}
use Rattle.derivation.specs.Later.{LaterWord, later_parents}
use Rattle.derivation.specs.Lines.{FirstWord, assumed, wanted, clausified, denied, copied, resolved, factored, paramodulated, xx_resolved, instantiated, Inference, copy_inference, clash_inference, factor_inference, para_inference, xx_inference, ContentTree, LineTree, line_at, content_clause, clause_at, AreClauses, After, IsInferred, instance_of, IsInstance, InputRow, IsInputOf, IsLine, IsAbove, AreLines, IsDerivation, ends_empty, is_empty_clause, formula, clause}
use Rattle.substitutions.specs.Bindings.{Binding}
use Rattle.clause_store.specs.Ancestors.{first_parents, line_parents, parents_in, IsWay, IsAncestry}
use Rattle.clause_store.specs.Laws.{AncestorsDerive, AncestorsRefute}
use Rattle.clause_store.specs.Lines.{PlainLine, plain_tree, plain_trees}

module _ (keeps : ℕ → Bool) where
  abbrev pub kept : List LineTree → List LineTree
  kept ls = filter (λ l. keeps l.number) ls

  -- each of the numbers that is a line's is kept
  abbrev AreKept : List LineTree → List ℕ → Type 0
  AreKept ls [] = Unit {0}
  AreKept ls (m ∷ ms) = ((l : LineTree) → line_at ls m ≡ Some l → keeps m ≡ true) × AreKept ls ms

  kept_front : (ls : List LineTree) (ms ns : List ℕ) → AreKept ls (ms ++ ns) → AreKept ls ms
  kept_front ls [] ns h = tt
  kept_front ls (m ∷ ms) ns h = (h.0, kept_front ls ms ns h.1)

  kept_back : (ls : List LineTree) (ms ns : List ℕ) → AreKept ls (ms ++ ns) → AreKept ls ns
  kept_back ls [] ns h = h
  kept_back ls (m ∷ ms) ns h = kept_back ls ms ns h.1

  -- a line that is kept is the line of its number
  line_stays : (ls : List LineTree) (m : ℕ) → keeps m ≡ true → line_at (kept ls) m ≡ line_at ls m
  line_stays [] m h = refl
  line_stays (l ∷ ls) m h = by (line_stays ls m h) (keeps l.number) refl (l.number == m) refl
    where
      by : line_at (kept ls) m ≡ line_at ls m → (b : Bool) → keeps l.number ≡ b → (c : Bool) → (l.number == m) ≡ c
          → line_at (if b then l ∷ kept ls else kept ls) m ≡ (if c then Some l else line_at ls m)
      by rest true e true d = ap (λ c. if c then Some l else line_at (kept ls) m) d
      by rest true e false d = ap (λ c. if c then Some l else line_at (kept ls) m) d ∙ rest
      by rest false e true d = absurd (clash (sym e ∙ ap keeps (eqb-true l.number m d) ∙ h))
        where
          clash : false ≡ true → ⊥
          clash x = cc
      by rest false e false d = rest

  -- so are clauses
  one_clause : (ls : List LineTree) (m : ℕ) (c : ClauseTree) → ((l : LineTree) → line_at ls m ≡ Some l → keeps m ≡ true) → clause_at ls m ≡ Some c → clause_at (kept ls) m ≡ Some c
  one_clause ls m c h e = by (line_at ls m) refl
    where
      by : (o : Option LineTree) → line_at ls m ≡ o → clause_at (kept ls) m ≡ Some c
      by None d = let f : None ≡ Some c = ap (λ o. option_and_then (λ (l : LineTree). content_clause l.content) o) (sym d) ∙ e in cc
      by (Some l) d = ap (λ o. option_and_then (λ (l : LineTree). content_clause l.content) o) (line_stays ls m (h l d)) ∙ e

  all_clauses : (ls : List LineTree) (ms : List ℕ) (cs : List ClauseTree) → AreKept ls ms → AreClauses ls ms cs → AreClauses (kept ls) ms cs
  all_clauses ls [] [] h k = tt
  all_clauses ls [] (c ∷ cs) h k = k
  all_clauses ls (m ∷ ms) [] h k = k
  all_clauses ls (m ∷ ms) (c ∷ cs) h k = (one_clause ls m c h.0 k.0, all_clauses ls ms cs h.1 k.1)

  words_stay : (ls : List LineTree) (ws : List LaterWord) (d : ClauseTree) (content : ContentTree) → AreKept ls (flat_map later_parents ws) → After ls ws d content → After (kept ls) ws d content
  words_stay ls [] d content h k = k
  words_stay ls (w ∷ ws) d content h k = (
    k.0,
    k.1,
    all_clauses ls (later_parents w) k.0 (kept_front ls (later_parents w) (flat_map later_parents ws) h) k.2,
    k.3,
    k.4,
    words_stay ls ws k.1 content (kept_back ls (later_parents w) (flat_map later_parents ws) h) k.5,
  )

  inferred_stays : (ls : List LineTree) (i : Inference) (ws : List LaterWord) (content : ContentTree) → AreKept ls (i.parents ++ flat_map later_parents ws) → IsInferred ls i ws content → IsInferred (kept ls) i ws content
  inferred_stays ls i ws content h k = (
    k.0,
    k.1,
    all_clauses ls i.parents k.0 (kept_front ls i.parents (flat_map later_parents ws) h) k.2,
    k.3,
    k.4,
    words_stay ls ws k.1 content (kept_back ls i.parents (flat_map later_parents ws) h) k.5,
  )

  instance_stays : (ls : List LineTree) (n : ℕ) (es : List Binding) (ws : List LaterWord) (content : ContentTree) → AreKept ls (n ∷ flat_map later_parents ws) → IsInstance ls n es ws content → IsInstance (kept ls) n es ws content
  instance_stays ls n es ws content h k = (k.0, one_clause ls n k.0 h.0 k.1, words_stay ls ws (instance_of es k.0) content h.1 k.2)

  input_stays : (ss : List Said) (rows : List InputRow) (ls : List LineTree) (goal : Bool) (n : ℕ) (content : ContentTree) (ms : List ℕ) → AreKept ls (n ∷ ms) → IsInputOf ss rows ls goal n content → IsInputOf ss rows (kept ls) goal n content
  input_stays ss rows ls goal n content ms h k = let f = k.1 in (k.0, (f.0, line_stays ls n (h.0 f.0 f.1) ∙ f.1, f.2, f.3), k.2)

  is_line_stays : (ss : List Said) (rows : List InputRow) (ls : List LineTree) (w : FirstWord) (ws : List LaterWord) (content : ContentTree)
      → AreKept ls (first_parents w ++ flat_map later_parents ws) → IsLine ss rows ls w ws content → IsLine ss rows (kept ls) w ws content
  is_line_stays ss rows ls assumed ws content h k = k
  is_line_stays ss rows ls wanted ws content h k = k
  is_line_stays ss rows ls (clausified n) ws content h k = (input_stays ss rows ls false n content (flat_map later_parents ws) h k.0, k.1)
  is_line_stays ss rows ls (denied n) ws content h k = (input_stays ss rows ls true n content (flat_map later_parents ws) h k.0, k.1)
  is_line_stays ss rows ls (copied n) ws content h k = inferred_stays ls (copy_inference n) ws content h k
  is_line_stays ss rows ls (resolved n cs) ws content h k = inferred_stays ls (clash_inference n cs) ws content h k
  is_line_stays ss rows ls (factored n a b) ws content h k = inferred_stays ls (factor_inference n a b) ws content h k
  is_line_stays ss rows ls (paramodulated n a side m b path) ws content h k = inferred_stays ls (para_inference n a side m b path) ws content h k
  is_line_stays ss rows ls (xx_resolved n a) ws content h k = inferred_stays ls (xx_inference n a) ws content h k
  is_line_stays ss rows ls (instantiated n es) ws content h k = instance_stays ls n es ws content h k

-- the line of a number in two lists, one behind the other
pub line_front : (xs ys : List LineTree) (m : ℕ) (l : LineTree) → line_at xs m ≡ Some l → line_at (xs ++ ys) m ≡ Some l
line_front [] ys m l e = cc
line_front (x ∷ xs) ys m l e = by (λ d. line_front xs ys m l d) (x.number == m) e
  where
    by : (line_at xs m ≡ Some l → line_at (xs ++ ys) m ≡ Some l) → (b : Bool) → (if b then Some x else line_at xs m) ≡ Some l → (if b then Some x else line_at (xs ++ ys) m) ≡ Some l
    by rest true e = e
    by rest false e = rest e

pub line_back : (xs ys : List LineTree) (m : ℕ) → line_at xs m ≡ None → line_at (xs ++ ys) m ≡ line_at ys m
line_back [] ys m e = refl
line_back (x ∷ xs) ys m e = by (λ d. line_back xs ys m d) (x.number == m) e
  where
    by : (line_at xs m ≡ None → line_at (xs ++ ys) m ≡ line_at ys m) → (b : Bool) → (if b then Some x else line_at xs m) ≡ None → (if b then Some x else line_at (xs ++ ys) m) ≡ line_at ys m
    by rest true e = cc
    by rest false e = rest e

pub at_itself : (l : LineTree) (ls : List LineTree) → line_at (l ∷ ls) l.number ≡ Some l
at_itself l ls = ap (λ b. if b then Some l else line_at ls l.number) (eq-eqb l.number l.number refl)

-- the numbers of lines are below those above the last one
abbrev pub AreUpTo : List LineTree → Option ℕ → Type 0
AreUpTo ls last = (n : ℕ) (l : LineTree) → line_at ls n ≡ Some l → (m : ℕ) → IsAbove last m → n < m

pub up_to_next : (ls : List LineTree) (last : Option ℕ) (l : LineTree) → AreUpTo ls last → IsAbove last l.number → AreUpTo (ls ++ l ∷ []) (Some l.number)
up_to_next ls last l up h n k e m i = by (line_at ls n) refl
  where
    one : (b : Bool) → (l.number == n) ≡ b → (if b then Some l else None) ≡ Some k → n < m
    one true d f = omega (arith, eqb-true l.number n d, i)
    one false d f = cc

    by : (o : Option LineTree) → line_at ls n ≡ o → n < m
    by (Some j) d = omega (arith, up n j d l.number h, i)
    by None d = one (l.number == n) refl (sym (line_back ls (l ∷ []) n d) ∙ e)

none_yet : (ls : List LineTree) (last : Option ℕ) (m : ℕ) → AreUpTo ls last → IsAbove last m → line_at ls m ≡ None
none_yet ls last m up h = by (line_at ls m) refl
  where
    by : (o : Option LineTree) → line_at ls m ≡ o → o ≡ None
    by None d = refl
    by (Some l) d = absurd (omega (arith, up m l d m h))

-- what a line takes are earlier lines
abbrev IsThere : List LineTree → ℕ → Type 0
IsThere ls m = (l : LineTree) × (line_at ls m ≡ Some l)

in_either : (m : ℕ) (xs ys : List ℕ) → is_in m (xs ++ ys) ≡ true → (is_in m xs ≡ true) ⊎ (is_in m ys ≡ true)
in_either m xs ys h = by (is_in m xs) (sym (list_any-append (λ y. m == y) xs ys) ∙ h)
  where
    by : (b : Bool) → (b || is_in m ys) ≡ true → (b ≡ true) ⊎ (is_in m ys ≡ true)
    by true h = inl refl
    by false h = inr h

clause_there : (ls : List LineTree) (m : ℕ) (c : ClauseTree) → clause_at ls m ≡ Some c → IsThere ls m
clause_there ls m c e = by (line_at ls m) refl
  where
    by : (o : Option LineTree) → line_at ls m ≡ o → IsThere ls m
    by None d = let f : None ≡ Some c = ap (λ o. option_and_then (λ (l : LineTree). content_clause l.content) o) (sym d) ∙ e in absurd (clash f)
      where
        clash : None ≡ Some c → ⊥
        clash x = cc
    by (Some l) d = (l, d)

clauses_there : (ls : List LineTree) (ms : List ℕ) (cs : List ClauseTree) → AreClauses ls ms cs → (m : ℕ) → is_in m ms ≡ true → IsThere ls m
clauses_there ls [] cs h m i = absurd (clash i)
  where
    clash : false ≡ true → ⊥
    clash x = cc
clauses_there ls (k ∷ ks) [] h m i = elim h [ ]
clauses_there ls (k ∷ ks) (c ∷ cs) h m i = by (λ j. clauses_there ls ks cs h.1 m j) (m == k) refl i
  where
    by : (is_in m ks ≡ true → IsThere ls m) → (b : Bool) → (m == k) ≡ b → (b || is_in m ks) ≡ true → IsThere ls m
    by rest true e i = subst (IsThere ls) (sym (eqb-true m k e)) (clause_there ls k c h.0)
    by rest false e i = rest i

words_there : (ls : List LineTree) (ws : List LaterWord) (d : ClauseTree) (content : ContentTree) → After ls ws d content → (m : ℕ) → is_in m (flat_map later_parents ws) ≡ true → IsThere ls m
words_there ls [] d content h m i = absurd (clash i)
  where
    clash : false ≡ true → ⊥
    clash x = cc
words_there ls (w ∷ ws) d content h m i = elim (in_either m (later_parents w) (flat_map later_parents ws) i) [
  | inl j ↦ clauses_there ls (later_parents w) h.0 h.2 m j
  | inr j ↦ words_there ls ws h.1 content h.5 m j
]

inferred_there : (ls : List LineTree) (i : Inference) (ws : List LaterWord) (content : ContentTree) → IsInferred ls i ws content → (m : ℕ) → is_in m (i.parents ++ flat_map later_parents ws) ≡ true → IsThere ls m
inferred_there ls i ws content h m k = elim (in_either m i.parents (flat_map later_parents ws) k) [
  | inl j ↦ clauses_there ls i.parents h.0 h.2 m j
  | inr j ↦ words_there ls ws h.1 content h.5 m j
]

instance_there : (ls : List LineTree) (n : ℕ) (es : List Binding) (ws : List LaterWord) (content : ContentTree) → IsInstance ls n es ws content → (m : ℕ) → is_in m (n ∷ flat_map later_parents ws) ≡ true → IsThere ls m
instance_there ls n es ws content h m k = elim (in_either m (n ∷ []) (flat_map later_parents ws) k) [
  | inl j ↦ clauses_there ls (n ∷ []) (h.0 ∷ []) (h.1, tt) m j
  | inr j ↦ words_there ls ws (instance_of es h.0) content h.2 m j
]

input_there : (ss : List Said) (rows : List InputRow) (ls : List LineTree) (goal : Bool) (n : ℕ) (ws : List LaterWord) (content : ContentTree) → IsInputOf ss rows ls goal n content → ws ≡ []
    → (m : ℕ) → is_in m (n ∷ flat_map later_parents ws) ≡ true → IsThere ls m
input_there ss rows ls goal n ws content h e m i = by (m == n) refl (ap (λ v. is_in m (n ∷ flat_map later_parents v)) (sym e) ∙ i)
  where
    by : (b : Bool) → (m == n) ≡ b → (b || false) ≡ true → IsThere ls m
    by true d i = subst (IsThere ls) (sym (eqb-true m n d)) (h.1.0, h.1.1)
    by false d i = absurd (clash i)
      where
        clash : false ≡ true → ⊥
        clash x = cc

alone_there : (ls : List LineTree) (ws : List LaterWord) → ws ≡ [] → (m : ℕ) → is_in m (flat_map later_parents ws) ≡ true → IsThere ls m
alone_there ls ws e m i = absurd (clash (ap (λ v. is_in m (flat_map later_parents v)) (sym e) ∙ i))
  where
    clash : false ≡ true → ⊥
    clash x = cc

parents_there : (ss : List Said) (rows : List InputRow) (ls : List LineTree) (w : FirstWord) (ws : List LaterWord) (content : ContentTree) → IsLine ss rows ls w ws content
    → (m : ℕ) → is_in m (first_parents w ++ flat_map later_parents ws) ≡ true → IsThere ls m
parents_there ss rows ls assumed ws content h m i = alone_there ls ws h.1 m i
parents_there ss rows ls wanted ws content h m i = alone_there ls ws h.1 m i
parents_there ss rows ls (clausified n) ws content h m i = input_there ss rows ls false n ws content h.0 h.1 m i
parents_there ss rows ls (denied n) ws content h m i = input_there ss rows ls true n ws content h.0 h.1 m i
parents_there ss rows ls (copied n) ws content h m i = inferred_there ls (copy_inference n) ws content h m i
parents_there ss rows ls (resolved n k) ws content h m i = inferred_there ls (clash_inference n k) ws content h m i
parents_there ss rows ls (factored n a b) ws content h m i = inferred_there ls (factor_inference n a b) ws content h m i
parents_there ss rows ls (paramodulated n a side k b path) ws content h m i = inferred_there ls (para_inference n a side k b path) ws content h m i
parents_there ss rows ls (xx_resolved n a) ws content h m i = inferred_there ls (xx_inference n a) ws content h m i
parents_there ss rows ls (instantiated n es) ws content h m i = instance_there ls n es ws content h m i

-- so they have lower numbers
parents_lower : (ss : List Said) (rows : List InputRow) (earlier : List LineTree) (last : Option ℕ) (ls : List LineTree) → AreUpTo earlier last → AreLines ss rows earlier last ls
    → (k : ℕ) (l : LineTree) → line_at ls k ≡ Some l → (m : ℕ) → is_in m (line_parents l) ≡ true → m < k
parents_lower ss rows earlier last [] up h k l e m i = cc
parents_lower ss rows earlier last (j ∷ ls) up h k l e m i = by (λ f. parents_lower ss rows (earlier ++ j ∷ []) (Some j.number) ls (up_to_next earlier last j up h.0) h.2 k l f m i) (j.number == k) refl e
  where
    by : (line_at ls k ≡ Some l → m < k) → (b : Bool) → (j.number == k) ≡ b → (if b then Some j else line_at ls k) ≡ Some l → m < k
    by rest true d f =
        let same : j ≡ l = cc in
        let there = parents_there ss rows earlier j.first j.later j.content h.1 m (ap (λ x. is_in m (line_parents x)) same ∙ i) in
        omega (arith, up m there.0 there.1 j.number h.0, eqb-true j.number k d)
    by rest false d f = rest f

-- the lines before are kept, and those behind them are lines behind the kept ones
module _ (ss : List Said) (rows : List InputRow) (all : List LineTree) (n : ℕ) (keeps : ℕ → Bool) (ancestry : IsAncestry all n keeps) where
  -- the parents of a line that is kept are kept
  parents_kept : (earlier ls : List LineTree) (l : LineTree) → all ≡ earlier ++ ls → line_at all l.number ≡ Some l → keeps l.number ≡ true
      → (ms : List ℕ) → ((m : ℕ) → is_in m ms ≡ true → is_in m (line_parents l) ≡ true) → AreKept keeps earlier ms
  parents_kept earlier ls l is at keep [] h = tt
  parents_kept earlier ls l is at keep (m ∷ ms) h = (
    λ k e. ancestry.all m k (ap (λ x. line_at x m) is ∙ line_front earlier ls m k e)
        (l.number ∷ (ancestry.rests l.number keep).0, ((ancestry.rests l.number keep).1, ap (λ o. is_in m (option_map_or line_parents o [])) at ∙ h m (ap (λ b. b || is_in m ms) (eq-eqb m m refl)))),
    parents_kept earlier ls l is at keep ms (λ k i. h k (other k (is_in k ms) i)),
  )
    where
      other : (k : ℕ) (b : Bool) → b ≡ true → ((k == m) || b) ≡ true
      other k b e = by (k == m)
        where
          by : (c : Bool) → (c || b) ≡ true
          by true = refl
          by false = e

  kept_lines : (earlier : List LineTree) (last other : Option ℕ) (ls : List LineTree) → all ≡ earlier ++ ls
      → ((m : ℕ) → IsAbove last m → IsAbove other m) → AreUpTo earlier last → AreLines ss rows earlier last ls → AreLines ss rows (kept keeps earlier) other (kept keeps ls)
  kept_lines earlier last other [] is above up h = tt
  kept_lines earlier last other (l ∷ ls) is above up h =
      by (λ o is' i. kept_lines (earlier ++ l ∷ []) (Some l.number) o ls is' i (up_to_next earlier last l up h.0) h.2) (keeps l.number) refl
    where
      at : line_at all l.number ≡ Some l
      at = ap (λ x. line_at x l.number) is ∙ line_back earlier (l ∷ ls) l.number (none_yet earlier last l.number up h.0) ∙ at_itself l ls

      is' : all ≡ (earlier ++ l ∷ []) ++ ls
      is' = is ∙ sym (append_assoc earlier (l ∷ []) ls)

      end : (b : Bool) → keeps l.number ≡ b → kept keeps (earlier ++ l ∷ []) ≡ kept keeps earlier ++ (if b then l ∷ [] else [])
      end b e = filter-append (λ (k : LineTree). keeps k.number) earlier (l ∷ []) ∙ ap (λ c. kept keeps earlier ++ (if c then l ∷ [] else [])) e

      still : (o : Option ℕ) → IsAbove o l.number → (m : ℕ) → l.number < m → IsAbove o m
      still None i m j = tt
      still (Some k) i m j = omega (arith, i, j)

      by : ((o : Option ℕ) → all ≡ (earlier ++ l ∷ []) ++ ls → ((m : ℕ) → l.number < m → IsAbove o m) → AreLines ss rows (kept keeps (earlier ++ l ∷ [])) o (kept keeps ls))
          → (b : Bool) → keeps l.number ≡ b → AreLines ss rows (kept keeps earlier) other (if b then l ∷ kept keeps ls else kept keeps ls)
      by rest true e = (
        above l.number h.0,
        is_line_stays keeps ss rows earlier l.first l.later l.content (parents_kept earlier (l ∷ ls) l is at e (line_parents l) (λ m i. i)) h.1,
        subst (λ x. AreLines ss rows x (Some l.number) (kept keeps ls)) (end true e)
            (rest (Some l.number) is' (λ m i. i)),
      )
      by rest false e = subst (λ x. AreLines ss rows x other (kept keeps ls)) (end false e ∙ append-nil (kept keeps earlier))
          (rest other is' (λ m i. still other (above l.number h.0) m i))

pub nothing_up_to : AreUpTo [] None
nothing_up_to n l e m h = absurd (clash e)
  where
    clash : None ≡ Some l → ⊥
    clash x = cc

kept_derivation : (ss : List Said) (rows : List InputRow) (all : List LineTree) (n : ℕ) (keeps : ℕ → Bool) → IsAncestry all n keeps → IsDerivation ss rows all → IsDerivation ss rows (kept keeps all)
kept_derivation ss rows all n keeps ancestry h = kept_lines ss rows all n keeps ancestry [] None None all refl (λ m i. i) nothing_up_to h

-- lines and what they say are kept alike
kept_trees : (keeps : ℕ → Bool) (ls : List PlainLine) → plain_trees (filter (λ l. keeps l.number) ls) ≡ kept keeps (plain_trees ls)
kept_trees keeps [] = refl
kept_trees keeps (l ∷ ls) = by (keeps l.number) (kept_trees keeps ls)
  where
    by : (b : Bool) → plain_trees (filter (λ k. keeps k.number) ls) ≡ kept keeps (plain_trees ls)
        → plain_trees (if b then l ∷ filter (λ k. keeps k.number) ls else filter (λ k. keeps k.number) ls) ≡ (if b then plain_tree l ∷ kept keeps (plain_trees ls) else kept keeps (plain_trees ls))
    by true e = ap (λ x. plain_tree l ∷ x) e
    by false e = e

pub ancestors_are_lines : AncestorsDerive
ancestors_are_lines ss rows all some n h a =
    subst (λ x. IsDerivation ss rows x) (sym (ap plain_trees a.lines ∙ kept_trees a.among all)) (kept_derivation ss rows (plain_trees all) n a.among a.ancestry h)

-- A line rests on none that has a greater number.
module _ (ss : List Said) (rows : List InputRow) (all : List LineTree) (n : ℕ) (lines : IsDerivation ss rows all) where
  pub not_above : (m : ℕ) (ks : List ℕ) → IsWay (parents_in all) n ks m → m ≤ n
  not_above m [] e = omega (arith, e)
  not_above m (k ∷ ks) h = by (not_above k ks h.0) (line_at all k) refl h.1
    where
      by : k ≤ n → (o : Option LineTree) → line_at all k ≡ o → is_in m (parents_in all k) ≡ true → m ≤ n
      by rest None e i = absurd (clash (ap (λ o. is_in m (option_map_or line_parents o [])) (sym e) ∙ i))
        where
          clash : false ≡ true → ⊥
          clash x = cc
      by rest (Some l) e i =
          let lower = parents_lower ss rows [] None all nothing_up_to lines k l e m (ap (λ o. is_in m (option_map_or line_parents o [])) (sym e) ∙ i) in
          omega (arith, lower, rest)

-- Those of the empty clause end with it.
module _ (ss : List Said) (rows : List InputRow) (all : List LineTree) (n : ℕ) (keeps : ℕ → Bool) (ancestry : IsAncestry all n keeps) (lines : IsDerivation ss rows all) where
  -- none behind it is kept
  none_behind : (earlier : List LineTree) (last : Option ℕ) (ls : List LineTree) → AreLines ss rows earlier last ls → ((m : ℕ) → IsAbove last m → n < m) → kept keeps ls ≡ []
  none_behind earlier last [] h above = refl
  none_behind earlier last (l ∷ ls) h above = by (none_behind (earlier ++ l ∷ []) (Some l.number) ls h.2 (λ m i. omega (arith, above l.number h.0, i))) (keeps l.number) refl
    where
      by : kept keeps ls ≡ [] → (b : Bool) → keeps l.number ≡ b → (if b then l ∷ kept keeps ls else kept keeps ls) ≡ []
      by rest true e = let way = ancestry.rests l.number e in absurd (omega (arith, not_above ss rows all n lines l.number way.0 way.1, above l.number h.0))
      by rest false e = rest

  ends_with : (ls : List LineTree) (l : LineTree) → ends_empty (ls ++ l ∷ []) ≡ is_empty_clause l.content
  ends_with [] l = refl
  ends_with (k ∷ []) l = refl
  ends_with (k ∷ j ∷ ls) l = ends_with (j ∷ ls) l

  ends : (earlier : List LineTree) (last : Option ℕ) (ls : List LineTree) (l : LineTree) → AreLines ss rows earlier last ls → line_at ls n ≡ Some l → keeps n ≡ true
      → (front : List LineTree) × (kept keeps ls ≡ front ++ l ∷ [])
  ends earlier last [] l h e keep = absurd (clash e)
    where
      clash : None ≡ Some l → ⊥
      clash x = cc
  ends earlier last (k ∷ ls) l h e keep = by (λ f. ends (earlier ++ k ∷ []) (Some k.number) ls l h.2 f keep) (k.number == n) refl e
    where
      by : (line_at ls n ≡ Some l → (front : List LineTree) × (kept keeps ls ≡ front ++ l ∷ [])) → (b : Bool) → (k.number == n) ≡ b → (if b then Some k else line_at ls n) ≡ Some l → (front : List LineTree) × (kept keeps (k ∷ ls) ≡ front ++ l ∷ [])
      by rest true d f =
          let same : k ≡ l = cc in
          let number = eqb-true k.number n d in (
            [],
            ap (λ b. if b then k ∷ kept keeps ls else kept keeps ls) (ap keeps number ∙ keep)
                ∙ ap₂ (λ (x : LineTree) (y : List LineTree). x ∷ y) same (none_behind (earlier ++ k ∷ []) (Some k.number) ls h.2 (λ m i. omega (arith, number, i))),
          )
      by rest false d f = let r = rest f in one (keeps k.number) r.0 r.1
        where
          one : (b : Bool) (front : List LineTree) → kept keeps ls ≡ front ++ l ∷ [] → (front : List LineTree) × ((if b then k ∷ kept keeps ls else kept keeps ls) ≡ front ++ l ∷ [])
          one true front e = (k ∷ front, ap (λ x. k ∷ x) e)
          one false front e = (front, e)

  kept_end : clause_at all n ≡ Some [] → ends_empty (kept keeps all) ≡ true
  kept_end e = by (line_at all n) refl e
    where
      empty : (c : ContentTree) → content_clause c ≡ Some [] → is_empty_clause c ≡ true
      empty (formula f) d = cc
      empty (clause []) d = refl
      empty (clause (x ∷ c)) d = cc

      by : (o : Option LineTree) → line_at all n ≡ o → option_and_then (λ (l : LineTree). content_clause l.content) o ≡ Some [] → ends_empty (kept keeps all) ≡ true
      by None d f = cc
      by (Some l) d f =
          let last = ends [] None all l lines d (ancestry.all n l d ([], refl)) in
          ap ends_empty last.1 ∙ ends_with last.0 l ∙ empty l.content f

pub ancestors_are_refuted : AncestorsRefute
ancestors_are_refuted ss rows all some n h e a = (
  ancestors_are_lines ss rows all some n h a,
  ap ends_empty (ap plain_trees a.lines ∙ kept_trees a.among all) ∙ kept_end ss rows (plain_trees all) n a.among a.ancestry h (ap (λ o. o) refl ∙ e),
)
