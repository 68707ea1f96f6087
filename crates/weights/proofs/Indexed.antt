-- Hints in their rows.
use Rattle.std.proofs.Common.{◌≡◌, ℕ, zero, suc, ◌+◌, ◌<◌, ◌≤◌, ◌==◌, ◌||◌, ◌&&◌, Bool, true, false, if◌then◌else◌, List, [], ◌∷◌, ◌++◌, map, drop, take, get_or, length, set, Option, Some, None, is_some, slice_get, refl, sym, ap, ap₂, subst, ◌∙◌, eq-eqb, ◌⊎◌, inl, inr, arith}
use Rattle.std.proofs.lemmas.List.{drop_all, drop_more, take_all, take_more, append-nil, append_assoc, map-append, map_more, length-take, length-map}
use Rattle.std.proofs.lemmas.Option.{slice_get-get_or, slice_get-map, slice_get_past}
use Rattle.std.proofs.lemmas.Bool.{false≢true, or_right, or_cases, eqb-true}
use Rattle.std.proofs.lemmas.List.Folds.{list_any-append}
use Rattle.std.proofs.lemmas.Map.Keys.{any_passes_from_place}
use Rattle.std.specs.Global.{Vec}
use Rattle.std.specs.List.{list_any, list_all}
use Rattle.std.specs.Option.{option_map, option_map_or, option_and_then}
use Rattle.derivation.specs.Places.{same_sign}
use Rattle.substitutions.specs.Bindings.{Binding}
use Rattle.subsume.specs.Unused.{matches_in}
use Rattle.subsume.proofs.Pretests.{must_match}
use Rattle.unifiers.specs.Laws.{MatchesMake, MatchesAreFound}
use Rattle.unifiers.specs.Matching.{matched, matched_all}
use Rattle.fol_core.specs.ClauseView.{literal_of}
use Rattle.fol_core.specs.Literals.{Lit, ClauseTree}
use Rattle.fol_core.specs.Tree.{Tree, var, elem, app, Trees, none, more, trees_of}
use Rattle.fol_core.specs.TermView.{tree_of, tree_list}
use Rattle.fol_core.specs.declared.clause.Literal.{Literal}
use Rattle.fol_core.specs.declared.term.Term.{Term}
use Rattle.prover_steps.specs.Subsuming.{subsumes, matched_literal}
use Rattle.weights.specs.HintIndex.{head_mark, first_mark, row_of, row_for, rows_by, rows_of, is_among, looks_up, places_in, row_items, AreIndexed, first_among}
use Rattle.weights.specs.HintRows.{hint_row}
use Rattle.weights.specs.Hints.{HintRow, hint_place}
use Rattle.weights.specs.declared.hints.HintWeight.{HintWeight}
use Rattle.weights.proofs.Items.{next}

pub mark_none : (ts : List Term) → length ts ≡ 0 → first_mark (trees_of (tree_list ts)) ≡ 0
mark_none [] h = refl
mark_none (t ∷ ts) h = cc

pub mark_first : (ts : List Term) (t : Term) → 0 < length ts → t ≡ get_or ts 0 t → first_mark (trees_of (tree_list ts)) ≡ head_mark (tree_of t)
mark_first [] t h is = absurd (omega (arith, h))
mark_first (s ∷ ts) t h is = ap (λ u. head_mark (tree_of u)) (sym is)

pub rows_more : (n : ℕ) (ls : List Literal) (i : ℕ) (l : Literal) (all new : List ℕ) → i < length ls → l ≡ get_or ls i l
    → new ≡ all ++ rows_by n l.positive (literal_of l).atom
    → all ++ rows_of n (map literal_of (drop i ls)) ≡ new ++ rows_of n (map literal_of (drop (i + 1) ls))
rows_more n ls i l all new lt is e =
    ap (λ ks. all ++ rows_of n (map literal_of ks)) (next ls i l lt is)
    ∙ sym (append_assoc all (rows_by n l.positive (literal_of l).atom) (rows_of n (map literal_of (drop (i + 1) ls))))
    ∙ sym (ap (λ a. a ++ rows_of n (map literal_of (drop (i + 1) ls))) e)

pub rows_end : (n : ℕ) (ls : List Literal) (i : ℕ) (all : List ℕ) → length ls ≤ i → all ++ rows_of n (map literal_of (drop i ls)) ≡ all
rows_end n ls i all h = ap (λ ks. all ++ rows_of n (map literal_of ks)) (drop_all i ls h) ∙ append-nil all

abbrev placed : Bool → ℕ → List ℕ
placed b i = if b then i ∷ [] else []

-- one hint more stands behind the others
pub places_more : (n r : ℕ) (hs : List HintRow) (h : HintRow) → places_in n r (hs ++ h ∷ []) ≡ places_in n r hs ++ (if is_among (rows_of n h.clause) r then length hs ∷ [] else [])
places_more n r [] h = by (is_among (rows_of n h.clause) r)
  where
    by : (b : Bool) → placed b 0 ++ [] ≡ placed b 0
    by true = refl
    by false = refl
places_more n r (k ∷ hs) h =
    let first : List ℕ = if is_among (rows_of n k.clause) r then 0 ∷ [] else [] in
    ap (λ ps. first ++ map (λ i. i + 1) ps) (places_more n r hs h)
    ∙ ap (λ ps. first ++ ps) (map-append (λ i. i + 1) (places_in n r hs) (if is_among (rows_of n h.clause) r then length hs ∷ [] else []))
    ∙ sym (append_assoc first (map (λ i. i + 1) (places_in n r hs)) (map (λ i. i + 1) (if is_among (rows_of n h.clause) r then length hs ∷ [] else [])))
    ∙ ap (λ ps. first ++ map (λ i. i + 1) (places_in n r hs) ++ ps) (by (is_among (rows_of n h.clause) r))
  where
    by : (b : Bool) → map (λ i. i + 1) (if b then length hs ∷ [] else []) ≡ (if b then suc (length hs) ∷ [] else [])
    by true = let same : length hs + 1 ≡ suc (length hs) = omega arith in ap (λ m. m ∷ []) same
    by false = refl

is_among-append : (ps qs : List ℕ) (r : ℕ) → is_among (ps ++ qs) r ≡ (is_among ps r || is_among qs r)
is_among-append ps qs r = list_any-append (λ q. q == r) ps qs

-- What an atom is matched to begins with its symbol, and its first argument with that of its own.
begins : (s t : Tree) → is_some (matched s t []) ≡ true → (head_mark s ≡ 0) ⊎ (head_mark s ≡ head_mark t)
begins (var x) t h = inl refl
begins (elem k) t h = inl refl
begins (app f ss) (var x) h = absurd (false≢true h)
begins (app f ss) (elem k) h = absurd (false≢true h)
begins (app f ss) (app g ts) h = by (f == g) refl h
  where
    by : (b : Bool) → (f == g) ≡ b → is_some (if b then matched_all ss ts [] else None) ≡ true → (f + 1 ≡ 0) ⊎ (f + 1 ≡ g + 1)
    by true e h = inr (ap (λ k. k + 1) (eqb-true f g e))
    by false e h = absurd (false≢true h)

firsts : (ss ts : Trees) → is_some (matched_all ss ts []) ≡ true → (first_mark ss ≡ 0) ⊎ (first_mark ss ≡ first_mark ts)
firsts none ts h = inl refl
firsts (more s ss) none h = absurd (false≢true h)
firsts (more s ss) (more t ts) h = begins s t (by (matched s t []) h)
  where
    by : (o : Option (List Binding)) → is_some (option_and_then (λ cs. matched_all ss ts cs) o) ≡ true → is_some o ≡ true
    by None h = h
    by (Some bs) h = refl

one : (n r : ℕ) (b : Bool) (f : ℕ) (ss : Trees) (t : Tree) → is_some (matched (app f ss) t []) ≡ true → (row_of n b f (first_mark ss) == r) ≡ true → is_among (rows_by n b t) r ≡ true
one n r b f ss (var x) h looks = absurd (false≢true h)
one n r b f ss (elem k) h looks = absurd (false≢true h)
one n r b f ss (app g ts) h looks = by (f == g) refl h
  where
    marked : (f ≡ g) → (first_mark ss ≡ 0) ⊎ (first_mark ss ≡ first_mark ts) → is_among (rows_by n b (app g ts)) r ≡ true
    marked e (inl m) = ap (λ d. d || ((row_of n b g (first_mark ts) == r) || false)) (sym (ap₂ (λ k x. row_of n b k x == r) e m) ∙ looks)
    marked e (inr m) = or_right (row_of n b g 0 == r) _ (ap (λ d. d || false) (sym (ap₂ (λ k x. row_of n b k x == r) e m) ∙ looks))

    by : (d : Bool) → (f == g) ≡ d → is_some (if d then matched_all ss ts [] else None) ≡ true → is_among (rows_by n b (app g ts)) r ≡ true
    by true e h = marked (eqb-true f g e) (firsts ss ts h)
    by false e h = absurd (false≢true h)

-- A literal that is matched stands in the row in which the other one is looked up.
stands_by : (n r : ℕ) (a b : Bool) (s t : Tree) → is_some (if same_sign a b then matched s t [] else None) ≡ true → option_map_or (λ q. q == r) (row_for n a s) false ≡ true → is_among (rows_by n b t) r ≡ true
stands_by n r a b (var x) t h looks = absurd (false≢true looks)
stands_by n r a b (elem k) t h looks = absurd (false≢true looks)
stands_by n r true false (app f ss) t h looks = absurd (false≢true h)
stands_by n r false true (app f ss) t h looks = absurd (false≢true h)
stands_by n r true true (app f ss) t h looks = one n r true f ss t h looks
stands_by n r false false (app f ss) t h looks = one n r false f ss t h looks

stands_in : (n r : ℕ) (l : Lit) (d : ClauseTree) → matches_in d l ≡ true → looks_up n r l ≡ true → is_among (rows_of n d) r ≡ true
stands_in n r l [] h looks = absurd (false≢true h)
stands_in n r l (k ∷ d) h looks = is_among-append (rows_by n k.positive k.atom) (rows_of n d) r ∙ by (or_cases (is_some (matched_literal l k [])) (matches_in d l) h) (λ behind. stands_in n r l d behind looks)
  where
    by : (is_some (matched_literal l k []) ≡ true) ⊎ (matches_in d l ≡ true) → (matches_in d l ≡ true → is_among (rows_of n d) r ≡ true) → (is_among (rows_by n k.positive k.atom) r || is_among (rows_of n d) r) ≡ true
    by (inl here) rest = ap (λ b. b || is_among (rows_of n d) r) (stands_by n r l.positive k.positive l.atom k.atom here looks)
    by (inr behind) rest = or_right (is_among (rows_by n k.positive k.atom) r) _ (rest behind)

stands_some : (n r : ℕ) (c d : ClauseTree) → list_all (matches_in d) c ≡ true → list_any (looks_up n r) c ≡ true → is_among (rows_of n d) r ≡ true
stands_some n r [] d all looks = absurd (false≢true looks)
stands_some n r (l ∷ c) d all looks = by (matches_in d l) refl all (or_cases (looks_up n r l) (list_any (looks_up n r) c) looks) (λ others behind. stands_some n r c d others behind)
  where
    by : (b : Bool) → matches_in d l ≡ b → (b && list_all (matches_in d) c) ≡ true → (looks_up n r l ≡ true) ⊎ (list_any (looks_up n r) c ≡ true) → (list_all (matches_in d) c ≡ true → list_any (looks_up n r) c ≡ true → is_among (rows_of n d) r ≡ true) → is_among (rows_of n d) r ≡ true
    by true e all (inl here) rest = stands_in n r l d e here
    by true e all (inr behind) rest = rest all behind
    by false e all looks rest = absurd (false≢true all)

-- A hint that a clause matches stands in each row in which a literal of the clause is looked up.
pub stands : MatchesMake → MatchesAreFound → (n r : ℕ) (c d : ClauseTree) → list_any (looks_up n r) c ≡ true → subsumes c d ≡ true → is_among (rows_of n d) r ≡ true
stands makes found n r c d looks e = by (list_all (matches_in d) c) refl
  where
    by : (b : Bool) → list_all (matches_in d) c ≡ b → is_among (rows_of n d) r ≡ true
    by true all = stands_some n r c d all looks
    by false all = absurd (false≢true (sym (must_match makes found c d all) ∙ e))

-- places further behind
shifted : (h : HintRow) (hs : List HintRow) (c : ClauseTree) (ps : List ℕ) → first_among (h ∷ hs) c (map (λ i. i + 1) ps) ≡ option_map (λ i. i + 1) (first_among hs c ps)
shifted h hs c [] = refl
shifted h hs c (p ∷ ps) =
    let same : p + 1 ≡ suc p = omega arith in
    ap (λ o. if option_map_or (λ k. subsumes c k.clause) o false then Some (p + 1) else first_among (h ∷ hs) c (map (λ i. i + 1) ps)) (ap (slice_get (h ∷ hs)) same)
    ∙ by (option_map_or (λ k. subsumes c k.clause) (slice_get hs p) false) (shifted h hs c ps)
  where
    by : (b : Bool) → first_among (h ∷ hs) c (map (λ i. i + 1) ps) ≡ option_map (λ i. i + 1) (first_among hs c ps)
        → (if b then Some (p + 1) else first_among (h ∷ hs) c (map (λ i. i + 1) ps)) ≡ option_map (λ i. i + 1) (if b then Some p else first_among hs c ps)
    by true rest = refl
    by false rest = rest

-- Where each hint that a clause matches stands in a row, the first one there is the first one.
pub first_in : (n r : ℕ) (c : ClauseTree) → ((d : ClauseTree) → subsumes c d ≡ true → is_among (rows_of n d) r ≡ true) → (hs : List HintRow) → first_among hs c (places_in n r hs) ≡ hint_place hs c
first_in n r c stands [] = refl
first_in n r c stands (h ∷ hs) =
    by (is_among (rows_of n h.clause) r) (subsumes c h.clause) refl (stands h.clause)
    (shifted h hs c (places_in n r hs) ∙ ap (option_map (λ i. i + 1)) (first_in n r c stands hs))
  where
    by : (b s : Bool) → subsumes c h.clause ≡ s → (subsumes c h.clause ≡ true → b ≡ true) → first_among (h ∷ hs) c (map (λ i. i + 1) (places_in n r hs)) ≡ option_map (λ i. i + 1) (hint_place hs c)
        → first_among (h ∷ hs) c ((if b then 0 ∷ [] else []) ++ map (λ i. i + 1) (places_in n r hs)) ≡ (if s then Some 0 else option_map (λ i. i + 1) (hint_place hs c))
    by true s e needs rest =
        ap (λ d. if d then Some 0 else first_among (h ∷ hs) c (map (λ i. i + 1) (places_in n r hs))) e
        ∙ ap (λ o. if s then Some 0 else o) rest
    by false true e needs rest = absurd (false≢true (needs e))
    by false false e needs rest = rest

pub first_in_row : MatchesMake → MatchesAreFound → (rows : List (Vec ℕ)) (hs : List HintRow) (r : ℕ) (v : Vec ℕ) (c : ClauseTree) → AreIndexed rows hs → r < length rows → v ≡ get_or rows r v → list_any (looks_up (length rows) r) c ≡ true → first_among hs c v.items ≡ hint_place hs c
first_in_row makes found rows hs r v c indexed within is looks =
    ap (first_among hs c) (sym (ap (λ (o : Option (Vec ℕ)). option_map_or (λ w. w.items) o []) (slice_get-get_or rows r v within ∙ ap (λ w. Some w) (sym is))) ∙ indexed r within)
    ∙ first_in (length rows) r c (λ d e. stands makes found (length rows) r c d looks e) hs

among_step : (hs : List HintWeight) (row : List ℕ) (i : ℕ) (c : ClauseTree) (b : Bool) → i < length row
    → option_map_or (λ h. subsumes c h.clause) (slice_get (map hint_row hs) (get_or row i 0)) false ≡ b
    → first_among (map hint_row hs) c (drop i row) ≡ (if b then Some (get_or row i 0) else first_among (map hint_row hs) c (drop (i + 1) row))
among_step hs row i c b lt e =
    ap (first_among (map hint_row hs) c) (drop_more row i 0 lt)
    ∙ ap (λ d. if d then Some (get_or row i 0) else first_among (map hint_row hs) c (drop (i + 1) row)) e

hint_there : (hs : List HintWeight) (p : ℕ) (h : HintWeight) (c : ClauseTree) → p < length hs → h ≡ get_or hs p h → option_map_or (λ k. subsumes c k.clause) (slice_get (map hint_row hs) p) false ≡ subsumes c h.clause
hint_there hs p h c lt is = ap (λ o. option_map_or (λ k. subsumes c k.clause) o false) (slice_get-map hint_row hs p ∙ ap (option_map hint_row) (slice_get-get_or hs p h lt ∙ ap (λ k. Some k) (sym is)))

pub among_here : (hs : List HintWeight) (row : List ℕ) (i : ℕ) (h : HintWeight) (c : ClauseTree) → i < length row → get_or row i 0 < length hs → h ≡ get_or hs (get_or row i 0) h → subsumes c h.clause ≡ true → first_among (map hint_row hs) c (drop i row) ≡ Some (get_or row i 0)
among_here hs row i h c lt within there e = among_step hs row i c true lt (hint_there hs (get_or row i 0) h c within there ∙ e)

pub among_behind : (hs : List HintWeight) (row : List ℕ) (i : ℕ) (h : HintWeight) (c : ClauseTree) → i < length row → get_or row i 0 < length hs → h ≡ get_or hs (get_or row i 0) h → subsumes c h.clause ≡ false → first_among (map hint_row hs) c (drop i row) ≡ first_among (map hint_row hs) c (drop (i + 1) row)
among_behind hs row i h c lt within there e = among_step hs row i c false lt (hint_there hs (get_or row i 0) h c within there ∙ e)

pub among_past : (hs : List HintWeight) (row : List ℕ) (i : ℕ) (c : ClauseTree) → i < length row → length hs ≤ get_or row i 0 → first_among (map hint_row hs) c (drop i row) ≡ first_among (map hint_row hs) c (drop (i + 1) row)
among_past hs row i c lt past = among_step hs row i c false lt (ap (λ o. option_map_or (λ h. subsumes c h.clause) o false) (slice_get-map hint_row hs (get_or row i 0) ∙ ap (option_map hint_row) (slice_get_past hs (get_or row i 0) past)))

pub among_none : (hs : List HintWeight) (row : List ℕ) (i : ℕ) (c : ClauseTree) → length row ≤ i → first_among (map hint_row hs) c (drop i row) ≡ None
among_none hs row i c h = ap (first_among (map hint_row hs) c) (drop_all i row h)

pub looked_up : (ls : List Literal) (i : ℕ) (l : Literal) (n r : ℕ) → i < length ls → l ≡ get_or ls i l → row_for n l.positive (literal_of l).atom ≡ Some r → list_any (looks_up n r) (map literal_of ls) ≡ true
looked_up ls i l n r lt is e =
    any_passes_from_place (looks_up n r) (map literal_of ls) i (literal_of l) (slice_get-map literal_of ls i ∙ ap (option_map literal_of) (slice_get-get_or ls i l lt ∙ ap (λ k. Some k) (sym is)))
    (ap (λ o. option_map_or (λ q. q == r) o false) e ∙ eq-eqb r r refl)

pub indexed_more : (rows new : List (Vec ℕ)) (hs : List HintWeight) (i : ℕ) (h : HintWeight) (qs : List ℕ) → i < length hs → h ≡ get_or hs i h → AreIndexed rows (map hint_row (take i hs)) → qs ≡ rows_of (length rows) h.clause → length new ≡ length rows
    → ((r : ℕ) → r < length rows → row_items new r ≡ row_items rows r ++ (if is_among qs r then i ∷ [] else []))
    → AreIndexed new (map hint_row (take (i + 1) hs))
indexed_more rows new hs i h qs lt is indexed e len added r within =
    let inside : r < length rows = omega (arith, len, within) in
    let many : length (map hint_row (take i hs)) ≡ i = omega (arith, length-map (take i hs) hint_row, length-take i hs, lt) in
    let step : map hint_row (take (i + 1) hs) ≡ map hint_row (take i hs) ++ hint_row h ∷ [] = map_more hint_row hs i h lt ∙ ap (λ k. map hint_row (take i hs) ++ hint_row k ∷ []) (sym is) in
    added r inside
    ∙ ap (λ ps. ps ++ (if is_among qs r then i ∷ [] else [])) (indexed r inside)
    ∙ ap (λ ks. places_in (length rows) r (map hint_row (take i hs)) ++ (if is_among ks r then i ∷ [] else [])) e
    ∙ ap (λ m. places_in (length rows) r (map hint_row (take i hs)) ++ (if is_among (rows_of (length rows) h.clause) r then m ∷ [] else [])) (sym many)
    ∙ sym (places_more (length rows) r (map hint_row (take i hs)) (hint_row h))
    ∙ sym (ap₂ (λ n ks. places_in n r ks) len step)

pub indexed_all : (rows : List (Vec ℕ)) (hs : List HintWeight) (i : ℕ) → length hs ≤ i → AreIndexed rows (map hint_row (take i hs)) → AreIndexed rows (map hint_row hs)
indexed_all rows hs i h indexed = subst (λ ks. AreIndexed rows (map hint_row ks)) (take_all i hs h) indexed

set_same : (rows : List (Vec ℕ)) (i : ℕ) (w : Vec ℕ) → i < length rows → slice_get (set rows i w) i ≡ Some w
set_same [] i w h = absurd (omega (arith, h))
set_same (v ∷ rows) zero w h = refl
set_same (v ∷ rows) (suc i) w h = set_same rows i w (omega (arith, h))

set_other : (rows : List (Vec ℕ)) (i r : ℕ) (w : Vec ℕ) → (i ≡ r → ⊥) → slice_get (set rows i w) r ≡ slice_get rows r
set_other [] i r w h = refl
set_other (v ∷ rows) zero zero w h = absurd (h refl)
set_other (v ∷ rows) zero (suc r) w h = refl
set_other (v ∷ rows) (suc i) zero w h = refl
set_other (v ∷ rows) (suc i) (suc r) w h = set_other rows i r w (λ e. h (ap suc e))

pub pushed_at : (rows : List (Vec ℕ)) (i : ℕ) (v w : Vec ℕ) (x : ℕ) → i < length rows → v ≡ get_or rows i v → w.items ≡ v.items ++ x ∷ [] → (r : ℕ) → row_items (set rows i w) r ≡ row_items rows r ++ (if i == r then x ∷ [] else [])
pushed_at rows i v w x lt is e r = by (i == r) refl
  where
    there : row_items rows i ≡ v.items
    there = ap (λ (o : Option (Vec ℕ)). option_map_or (λ u. u.items) o []) (slice_get-get_or rows i v lt ∙ ap (λ u. Some u) (sym is))

    now : row_items (set rows i w) i ≡ row_items rows i ++ x ∷ []
    now = ap (λ (o : Option (Vec ℕ)). option_map_or (λ u. u.items) o []) (set_same rows i w lt) ∙ e ∙ sym (ap (λ ps. ps ++ x ∷ []) there)

    by : (b : Bool) → (i == r) ≡ b → row_items (set rows i w) r ≡ row_items rows r ++ (if b then x ∷ [] else [])
    by true h = subst (λ k. row_items (set rows i w) k ≡ row_items rows k ++ x ∷ []) (eqb-true i r h) now
    by false h = ap (λ (o : Option (Vec ℕ)). option_map_or (λ u. u.items) o []) (set_other rows i r w (λ e. false≢true (sym h ∙ eq-eqb i r e))) ∙ sym (append-nil (row_items rows r))

pub added : (rows new old : List (Vec ℕ)) (qs : List ℕ) (i q x : ℕ) → i < length qs → q ≡ get_or qs i q
    → ((r : ℕ) → r < length old → row_items rows r ≡ row_items old r ++ (if is_among (take i qs) r then x ∷ [] else []))
    → ((r : ℕ) → row_items new r ≡ row_items rows r ++ (if q == r then x ∷ [] else []))
    → is_among (take i qs) q ≡ false
    → (r : ℕ) → r < length old → row_items new r ≡ row_items old r ++ (if is_among (take (i + 1) qs) r then x ∷ [] else [])
added rows new old qs i q x lt is before pushed fresh r within =
    pushed r ∙ ap (λ ps. ps ++ (if q == r then x ∷ [] else [])) (before r within)
    ∙ append_assoc (row_items old r) (if is_among (take i qs) r then x ∷ [] else []) (if q == r then x ∷ [] else [])
    ∙ ap (λ ps. row_items old r ++ ps) (by (is_among (take i qs) r) (q == r) refl refl)
    ∙ sym (ap (λ b. row_items old r ++ (if b then x ∷ [] else [])) (ap (λ ps. is_among ps r) (take_more qs i q lt ∙ ap (λ k. take i qs ++ k ∷ []) (sym is)) ∙ is_among-append (take i qs) (q ∷ []) r))
  where
    by : (b d : Bool) → is_among (take i qs) r ≡ b → (q == r) ≡ d → (if b then x ∷ [] else []) ++ (if d then x ∷ [] else []) ≡ (if b || (d || false) then x ∷ [] else [])
    by true true e h = absurd (false≢true (sym fresh ∙ ap (is_among (take i qs)) (eqb-true q r h) ∙ e))
    by true false e h = refl
    by false true e h = refl
    by false false e h = refl
