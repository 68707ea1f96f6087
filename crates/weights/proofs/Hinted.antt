-- The first hint that a clause matches, among those that are left.
use Rattle.std.proofs.Common.{◌≡◌, ℕ, zero, suc, ◌+◌, ◌<◌, ◌≤◌, Bool, true, false, if◌then◌else◌, List, [], ◌∷◌, map, drop, get_or, length, Option, Some, None, is_some, unwrap_or, slice_get, refl, sym, ap, ◌∙◌, arith}
use Rattle.std.specs.Option.{option_and_then, option_map}
use Rattle.std.proofs.lemmas.List.{drop_all}
use Rattle.std.proofs.lemmas.Option.{slice_get-map, slice_get-get_or}
use Rattle.fol_core.specs.Literals.{ClauseTree}
use Rattle.fol_core.specs.Sizes.{size_of, sizes_of}
use Rattle.fol_core.specs.Tree.{Tree, var, elem, app, Trees, none, more}
use Rattle.prover_steps.specs.Searching.{clause_size}
use Rattle.prover_steps.specs.Subsuming.{subsumes}
use Rattle.subsume.specs.Variables.{standing}
use Rattle.term_matches.specs.Occurrences.{occurrences, occurrences_of}
use Rattle.weights.specs.Hints.{HintRow, first_hint, hint_place, weight_at, weight_by_hint, is_hinted, clause_weight}
use Rattle.weights.specs.HintRows.{hint_row}
use Rattle.weights.specs.Weighing.{WeightRow, atoms_weight}
use Rattle.weights.specs.declared.hints.HintWeight.{HintWeight}
use Rattle.weights.proofs.Items.{next}

-- the place of the first hint from one on
abbrev pub place_from : List HintWeight → ClauseTree → ℕ → Option ℕ
place_from hs c i = option_map (λ n. n + i) (hint_place (map hint_row (drop i hs)) c)

place_step : (hs : List HintWeight) (i : ℕ) (h : HintWeight) (c : ClauseTree) (b : Bool) → i < length hs → h ≡ get_or hs i h → subsumes c h.clause ≡ b
    → place_from hs c i ≡ option_map (λ n. n + i) (if b then Some 0 else option_map (λ n. n + 1) (hint_place (map hint_row (drop (i + 1) hs)) c))
place_step hs i h c b lt is e =
    ap (λ ks. option_map (λ n. n + i) (hint_place (map hint_row ks) c)) (next hs i h lt is)
    ∙ ap (λ d. option_map (λ n. n + i) (if d then Some 0 else option_map (λ n. n + 1) (hint_place (map hint_row (drop (i + 1) hs)) c))) e

pub hint_here : (hs : List HintWeight) (i : ℕ) (h : HintWeight) (c : ClauseTree) → i < length hs → h ≡ get_or hs i h → subsumes c h.clause ≡ true → place_from hs c i ≡ Some i
hint_here hs i h c lt is e = let same : 0 + i ≡ i = omega arith in place_step hs i h c true lt is e ∙ ap (λ n. Some n) same

pub hint_behind : (hs : List HintWeight) (i : ℕ) (h : HintWeight) (c : ClauseTree) → i < length hs → h ≡ get_or hs i h → subsumes c h.clause ≡ false → place_from hs c i ≡ place_from hs c (i + 1)
hint_behind hs i h c lt is e = place_step hs i h c false lt is e ∙ by (hint_place (map hint_row (drop (i + 1) hs)) c)
  where
    by : (o : Option ℕ) → option_map (λ n. n + i) (option_map (λ n. n + 1) o) ≡ option_map (λ n. n + (i + 1)) o
    by None = refl
    by (Some n) = let same : n + 1 + i ≡ n + (i + 1) = omega arith in ap (λ m. Some m) same

pub no_hint : (hs : List HintWeight) (i : ℕ) (c : ClauseTree) → length hs ≤ i → place_from hs c i ≡ None
no_hint hs i c h = ap (λ ks. option_map (λ n. n + i) (hint_place (map hint_row ks) c)) (drop_all i hs h)

pub from_start : (hs : List HintWeight) (c : ClauseTree) → hint_place (map hint_row hs) c ≡ place_from hs c 0
from_start hs c = by (hint_place (map hint_row hs) c)
  where
    by : (o : Option ℕ) → o ≡ option_map (λ n. n + 0) o
    by None = refl
    by (Some n) = let same : n ≡ n + 0 = omega arith in ap (λ m. Some m) same

-- at its place stands the first hint
there : (hs : List HintRow) (c : ClauseTree) → first_hint hs c ≡ option_and_then (λ n. slice_get hs n) (hint_place hs c)
there [] c = refl
there (h ∷ hs) c = by (subsumes c h.clause) (there hs c)
  where
    behind : (o : Option ℕ) → option_and_then (λ n. slice_get hs n) o ≡ option_and_then (λ n. slice_get (h ∷ hs) n) (option_map (λ n. n + 1) o)
    behind None = refl
    behind (Some n) = let same : suc n ≡ n + 1 = omega arith in ap (λ m. slice_get (h ∷ hs) m) same

    by : (b : Bool) → first_hint hs c ≡ option_and_then (λ n. slice_get hs n) (hint_place hs c)
        → (if b then Some h else first_hint hs c) ≡ option_and_then (λ n. slice_get (h ∷ hs) n) (if b then Some 0 else option_map (λ n. n + 1) (hint_place hs c))
    by true rest = refl
    by false rest = rest ∙ behind (hint_place hs c)

is_place : (hs : List HintRow) (c : ClauseTree) → is_some (hint_place hs c) ≡ is_some (first_hint hs c)
is_place [] c = refl
is_place (h ∷ hs) c = by (subsumes c h.clause) (is_place hs c)
  where
    kept : (o : Option ℕ) → is_some (option_map (λ n. n + 1) o) ≡ is_some o
    kept None = refl
    kept (Some n) = refl

    by : (b : Bool) → is_some (hint_place hs c) ≡ is_some (first_hint hs c) → is_some (if b then Some 0 else option_map (λ n. n + 1) (hint_place hs c)) ≡ is_some (if b then Some h else first_hint hs c)
    by true rest = refl
    by false rest = kept (hint_place hs c) ∙ rest

pub hinted_is : (hs : List HintRow) (c : ClauseTree) (o : Option ℕ) → o ≡ hint_place hs c → is_some o ≡ is_hinted hs c
hinted_is hs c o e = ap is_some e ∙ is_place hs c

weight_there : (hs : List HintRow) (c : ClauseTree) → weight_at hs (hint_place hs c) ≡ weight_by_hint hs c
weight_there hs c = by (hint_place hs c) ∙ sym (ap (option_and_then (λ h. h.weight)) (there hs c))
  where
    by : (o : Option ℕ) → weight_at hs o ≡ option_and_then (λ h. h.weight) (option_and_then (λ n. slice_get hs n) o)
    by None = refl
    by (Some n) = refl

pub weight_hinted : (rs : List WeightRow) (hs : List HintRow) (c : ClauseTree) (o : Option ℕ) → o ≡ hint_place hs c → clause_weight rs hs c ≡ unwrap_or (weight_at hs o) (atoms_weight rs c)
weight_hinted rs hs c o e = sym (ap (λ p. unwrap_or (weight_at hs p) (atoms_weight rs c)) e ∙ ap (λ w. unwrap_or w (atoms_weight rs c)) (weight_there hs c))

-- each literal has a symbol
one_at_least : (t : Tree) → 1 ≤ size_of t
one_at_least (var x) = omega arith
one_at_least (elem k) = omega arith
one_at_least (app f ts) = omega arith

pub is_room : (c : ClauseTree) → length c ≤ clause_size c
is_room [] = omega arith
is_room (l ∷ c) = let rest = is_room c in let one = one_at_least l.atom in omega (arith, rest, one)

-- variables stand in a term at most as often as there are symbols and variables in it
mutual
  few_variables : (t : Tree) → occurrences t ≤ size_of t
  few_variables (var x) = omega arith
  few_variables (elem k) = omega arith
  few_variables (app f ts) = let rest = all_few_variables ts in omega (arith, rest)

  all_few_variables : (ts : Trees) → occurrences_of ts ≤ sizes_of ts
  all_few_variables none = omega arith
  all_few_variables (more t ts) = let one = few_variables t in let rest = all_few_variables ts in omega (arith, one, rest)

pub is_room_for_variables : (c : ClauseTree) → standing c ≤ clause_size c
is_room_for_variables [] = omega arith
is_room_for_variables (l ∷ c) = let rest = is_room_for_variables c in let one = few_variables l.atom in omega (arith, rest, one)

pub weight_here : (hs : List HintWeight) (i : ℕ) (h : HintWeight) → i < length hs → h ≡ get_or hs i h → weight_at (map hint_row hs) (Some i) ≡ h.weight
weight_here hs i h lt is =
    ap (option_and_then (λ k. k.weight)) (slice_get-map hint_row hs i ∙ ap (option_map hint_row) (slice_get-get_or hs i h lt ∙ ap (λ k. Some k) (sym is)))

past_end : (hs : List HintWeight) (i : ℕ) → length hs ≤ i → slice_get (map hint_row hs) i ≡ None
past_end [] i h = refl
past_end (k ∷ hs) zero h = absurd (omega (arith, h))
past_end (k ∷ hs) (suc i) h = past_end hs i (omega (arith, h))

pub weight_nowhere : (hs : List HintWeight) (i : ℕ) → length hs ≤ i → weight_at (map hint_row hs) (Some i) ≡ None
weight_nowhere hs i h = ap (option_and_then (λ k. k.weight)) (past_end hs i h)
