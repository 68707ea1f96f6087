-- Each interpretation that extends a leaf is a solution.
use Rattle.std.proofs.Common.{◌≡◌, ℕ, zero, suc, ◌+◌, ◌*◌, ◌^◌, ◌<◌, ◌≤◌, nat_le, nat_lt, max, Bool, true, false, IsTrue, if◌then◌else◌, List, [], ◌∷◌, ◌++◌, length, map, Option, None, Some, inl, inr, refl, sym, ap, ◌∙◌, subst, arith}
use Rattle.std.specs.Prelude.{◌⊎◌}
use Rattle.std.specs.List.{AllByRecursion, filter, flat_map, range_with_len}
use Rattle.std.specs.Option.{option_and_then}
use Rattle.std.proofs.lemmas.Bool.{cases_lt, ltb-true, le-leb}
use Rattle.std.proofs.lemmas.Option.{none-some}
use Rattle.fol_core.specs.Literals.{ClauseTree, is_true_clause, AreTrueClauses}
use Rattle.fol_core.specs.Meaning.{Meaning, IsLawful}
use Rattle.fol_core.specs.declared.symbols.Kind.{Kind}
use Rattle.fol_core.specs.declared.symbols.Kind.TheVariants.{Function, Relation}
use Rattle.mace_cells.specs.Choices.{Decision}
use Rattle.mace_cells.specs.Numbers.{above_each, above_used}
use Rattle.mace_cells.specs.World.{World, Solves, cell_of, many_cells}
use Rattle.mace_cells.specs.declared.way.Candidates.{Candidates}
use Rattle.mace_cells.specs.declared.way.Candidates.TheVariants.{All, LeastIndex, InUse}
use Rattle.mace_ground.proofs.Grounding.{suffice, list_below}
use Rattle.mace_ground.proofs.Numbering.{place_below, digits_of}
use Rattle.mace_ground.specs.Cells.{Cell, digits, value_at}
use Rattle.mace_ground.specs.Instances.{assigned_by, variables_in, IsInstance}
use Rattle.model_tables.specs.Size.{bound_of}
use Rattle.model_tables.specs.Tables.{place_from}
use Rattle.plain_search.proofs.Leafing.{IsFull, decided}
use Rattle.plain_search.proofs.Narrowing.{AreSo, passes_are}
use Rattle.plain_search.proofs.Reaching.{IsIn, in_range}
use Rattle.plain_search.proofs.Solved.{digits_below, value_within}
use Rattle.plain_search.proofs.Sounding.{AreTrue, only_among}
use Rattle.plain_search.proofs.Stopping.{kept_takes, closure_is_closed}
use Rattle.plain_search.specs.Closing.{Told, told, kept, followed, Ground, ground, pass, instances_of, closure}
use Rattle.plain_search.specs.Fitting.{IsClauseOfCells}
use Rattle.plain_search.specs.Lefts.{ValuesLeft, only_value, Extends, is_same_cell, with_left, all_left}
use Rattle.plain_search.specs.PlainLaws.{IsClosed, IsOneOf, LeavesAreModels, LeavesAreFull}
use Rattle.plain_search.specs.Trying.{is_open, all_cells, open_cells, up_to, least_index, candidates, score, better, best, chosen, tried, decide, below, behind_closing, leaves_within}

-- where none is chosen none is open
best_none : (f : Cell → ℕ) (cs : List Cell) → best f cs ≡ None → cs ≡ []
best_none f [] h = refl
best_none f (c ∷ cs) h = by (best f cs) h
  where
    which : (d : Cell) (b : Bool) → (if b then Some d else Some c) ≡ None → c ∷ cs ≡ []
    which d true g = absurd (none-some _ (sym g))
    which d false g = absurd (none-some _ (sym g))

    by : (o : Option Cell) → better f c o ≡ None → c ∷ cs ≡ []
    by None g = absurd (none-some _ (sym g))
    by (Some d) g = which d (nat_lt (f c) (f d)) g

up_to_none : (k : ℕ) (cs : List Cell) → up_to k cs ≡ [] → least_index cs ≤ k → cs ≡ []
up_to_none k [] h l = refl
up_to_none k (c ∷ []) h l = absurd (let e : c ∷ [] ≡ [] = sym (ap (λ (b : Bool). if b then c ∷ [] else []) (le-leb _ _ l)) ∙ h in cc)
up_to_none k (c ∷ d ∷ cs) h l = by (nat_le (above_each c.arguments) k) refl h (up_to_none k (d ∷ cs))
  where
    by : (b : Bool) → nat_le (above_each c.arguments) k ≡ b → (if b then c ∷ up_to k (d ∷ cs) else up_to k (d ∷ cs)) ≡ [] → (up_to k (d ∷ cs) ≡ [] → least_index (d ∷ cs) ≤ k → d ∷ cs ≡ []) → c ∷ d ∷ cs ≡ []
    by true e g rest = absurd cc
    by false e g rest = elim (cases_lt k (above_each c.arguments)) [
      | inl less ↦ absurd (let f : d ∷ cs ≡ [] = rest g (omega (arith, l, less)) in cc)
      | inr most ↦ absurd (let f : true ≡ false = sym (le-leb _ _ most) ∙ e in cc)
    ]

candidates_none : (a : Candidates) (used : ℕ) (cs : List Cell) → candidates a used cs ≡ [] → cs ≡ []
candidates_none All used cs h = h
candidates_none LeastIndex used cs h = up_to_none (least_index cs) cs h (omega arith)
candidates_none InUse used cs h = up_to_none (max used (least_index cs)) cs h (omega arith)

filter_none : (t : Cell → Bool) (c : Cell) (cs : List Cell) → filter t cs ≡ [] → IsIn c cs → t c ≡ false
filter_none t c [] h i = absurd i
filter_none t c (d ∷ ds) h i = by (t d) refl h i (filter_none t c ds)
  where
    by : (b : Bool) → t d ≡ b → (if b then d ∷ filter t ds else filter t ds) ≡ [] → (c ≡ d) ⊎ IsIn c ds → (filter t ds ≡ [] → IsIn c ds → t c ≡ false) → t c ≡ false
    by true e g j rest = absurd cc
    by false e g (inl same) rest = ap t same ∙ e
    by false e g (inr j) rest = rest g j

pub none_open : (w : World) (ds : List Decision) (p : ValuesLeft) (c : Cell) → chosen w ds p ≡ None → IsIn c (all_cells w) → is_open (p c) ≡ false
none_open w ds p c h i =
    filter_none (λ d. is_open (p d)) c (all_cells w)
    (candidates_none w.way.candidates (above_used w.fixed ds) (open_cells w p) (best_none (score w.way.measure w p) (candidates w.way.candidates (above_used w.fixed ds) (open_cells w p)) h)) i

pub single : (us : List ℕ) → is_open us ≡ false → 0 < length us → (v : ℕ) × (only_value us ≡ Some v)
single [] h l = absurd (omega (arith, l))
single (v ∷ []) h l = (v, refl)
single (v ∷ u ∷ us) h l = absurd (let e : true ≡ false = h in cc)

-- each cell has a value left, and not too many
abbrev pub IsProper : World → ValuesLeft → Type 0
IsProper w p = (c : Cell) → (0 < length (p c)) × (length (p c) ≤ max w.size 2)

proper_step : (w : World) (p : ValuesLeft) (c : Cell) (v : ℕ) (positive : Bool) (u : ℕ) (us : List ℕ) → IsProper w p → kept positive v (p c) ≡ u ∷ us → IsProper w (with_left p c (u ∷ us))
proper_step w p c v positive u us h is d = by (is_same_cell c d)
  where
    few : length (u ∷ us) ≤ max w.size 2
    few =
        let same : length (kept positive v (p c)) ≡ suc (length us) = ap (λ (xs : List ℕ). length xs) is in
        let most = (h c).1 in
        elim (kept_takes positive v (p c)) [
          | inl less ↦ omega (arith, same, less, most)
          | inr all ↦ (let e : length (kept positive v (p c)) ≡ length (p c) = ap (λ (xs : List ℕ). length xs) all in omega (arith, same, e, most))
        ]

    by : (b : Bool) → (0 < length (if b then u ∷ us else p d)) × (length (if b then u ∷ us else p d) ≤ max w.size 2)
    by true = (omega arith, few)
    by false = h d

pub closure_proper : (w : World) (p q : ValuesLeft) → closure w p ≡ Some q → IsProper w p → IsProper w q
closure_proper w p q is h =
    subst (AreSo w.size (IsProper w) (proper_step w)) is
    (passes_are w.size (IsProper w) (proper_step w) (suc (many_cells w * max w.size 2)) (instances_of w.size w.clauses) p h)

pub decided_proper : (w : World) (q : ValuesLeft) (c : Cell) (v : ℕ) → IsProper w q → IsProper w (with_left q c (v ∷ []))
decided_proper w q c v h d = by (is_same_cell c d)
  where
    by : (b : Bool) → (0 < length (if b then v ∷ [] else q d)) × (length (if b then v ∷ [] else q d) ≤ max w.size 2)
    by true = (omega arith, omega arith)
    by false = h d

pub one_either : (p : ValuesLeft) (ps qs : List ValuesLeft) → IsOneOf p (ps ++ qs) → IsOneOf p ps ⊎ IsOneOf p qs
one_either p [] qs h = inr h
one_either p (q ∷ ps) qs (inl e) = inl (inl e)
one_either p (q ∷ ps) qs (inr i) = elim (one_either p ps qs i) [ inl h ↦ inl (inr h) | inr h ↦ inr h ]

one_of_flat : (find : ℕ → List ValuesLeft) (p : ValuesLeft) (us : List ℕ) → IsOneOf p (flat_map find us) → (u : ℕ) × IsOneOf p (find u)
one_of_flat find p [] h = absurd h
one_of_flat find p (u ∷ us) h = elim (one_either p (find u) (flat_map find us) h) [ inl i ↦ (u, i) | inr i ↦ one_of_flat find p us i ]

module _ (w : World) (clauses : AllByRecursion (IsClauseOfCells w) w.clauses) where
  abbrev pub IsEnd : ValuesLeft → Type 0
  IsEnd r = IsProper w r × IsClosed w r × ((ds : List Decision) × (chosen w ds r ≡ None))

  abbrev Ends : ℕ → Type 0
  Ends k = (ds : List Decision) (p r : ValuesLeft) → IsProper w p → IsOneOf r (leaves_within k w ds p) → IsEnd r

  below_ends : (k : ℕ) → Ends k → (ds : List Decision) (q r : ValuesLeft) → IsProper w q → IsClosed w q → (o : Option Cell) → chosen w ds q ≡ o → IsOneOf r (below (leaves_within k w) w ds q o) → IsEnd r
  below_ends k ends ds q r proper closed None e (inl same) = subst IsEnd (sym same) (proper, closed, (ds, e))
  below_ends k ends ds q r proper closed None e (inr i) = absurd i
  below_ends k ends ds q r proper closed (Some c) e i =
      let f = one_of_flat (λ u. leaves_within k w (decide c u ∷ ds) (with_left q c (u ∷ []))) r (tried w ds q c) i in
      ends (decide c f.0 ∷ ds) (with_left q c (f.0 ∷ [])) r (decided_proper w q c f.0 proper) f.1

  behind_ends : (k : ℕ) → Ends k → (ds : List Decision) (p r : ValuesLeft) → IsProper w p → (o : Option ValuesLeft) → closure w p ≡ o → IsOneOf r (behind_closing (leaves_within k w) w ds o) → IsEnd r
  behind_ends k ends ds p r proper None e i = absurd i
  behind_ends k ends ds p r proper (Some q) e i =
      below_ends k ends ds q r (closure_proper w p q e proper) (closure_is_closed w p q clauses (λ c. (proper c).1) e) (chosen w ds q) refl i

  all_end : (k : ℕ) → Ends k
  all_end zero ds p r proper i = absurd i
  all_end (suc k) ds p r proper i = behind_ends k (all_end k) ds p r proper (closure w p) refl i

  module _ (m : Meaning) (size : (x : ℕ) → m.within x ≡ nat_lt x w.size) (lawful : IsLawful m) where
    some : 0 < w.size
    some =
        let x = lawful.element in
        let less : x.0 < w.size = ltb-true x.0 w.size (sym (size x.0) ∙ x.1) in
        omega (arith, less)

    full_end : (r : ValuesLeft) → IsEnd r → Extends w.size m r → IsFull w r
    full_end r end extended c i =
        let below = in_range w c 0 (many_cells w) some (omega arith) i in
        let v = single (r c) (none_open w end.2.0 r c end.2.1 i) (end.0 c).0 in
        let same : value_at m c ≡ v.0 = only_among (r c) (value_at m c) v.0 v.1 (extended c below) in
        (v.0, (v.1, subst (λ (x : ℕ). x < bound_of w.size c.kind) same (value_within w.size m size lawful c.kind c.symbol c.arguments below)))

    -- clauses of such terms with elements
    abbrev AreFit : List Ground → Type 0
    AreFit [] = Unit {0}
    AreFit (g ∷ gs) = IsClauseOfCells w g.clause × ((x : ℕ) → assigned_by g.elements x < w.size) × AreFit gs

    fit_from : (c : ClauseTree) → IsClauseOfCells w c → (a k : ℕ) (gs : List Ground) → a + k ≤ w.size ^ variables_in c → AreFit gs → AreFit (map (λ j. ground c (digits w.size (variables_in c) j)) (range_with_len a k) ++ gs)
    fit_from c h a zero gs l rest = rest
    fit_from c h a (suc k) gs l rest =
        (h, (λ x. list_below w.size (digits w.size (variables_in c) a) x some (digits_below w.size (variables_in c) a some (omega (arith, l)))), fit_from c h (a + 1) k gs (omega (arith, l)) rest)

    fit : (cs : List ClauseTree) → AllByRecursion (IsClauseOfCells w) cs → AreFit (instances_of w.size cs)
    fit [] h = tt
    fit (c ∷ cs) h = fit_from c h.0 0 (w.size ^ variables_in c) (instances_of w.size cs) (omega arith) (fit cs h.1)

    pass_true : (r q : ValuesLeft) → IsFull w r → Extends w.size m r → (gs : List Ground) → AreFit gs → pass w.size gs r ≡ Some q → AreTrue w.size m gs
    pass_true r q full extended [] h is = tt
    pass_true r q full extended (g ∷ gs) h is =
        let t = told w.size r (assigned_by g.elements) g.clause in
        elim (decided w r full (assigned_by g.elements) h.1 m extended g.clause h.0) [
          | inl wrong ↦ absurd (none-some q (sym (ap (λ (s : Told). option_and_then (pass w.size gs) (followed r s)) wrong) ∙ is))
          | inr fine ↦ (fine.1, pass_true r q full extended gs h.2 (sym (ap (λ (s : Told). option_and_then (pass w.size gs) (followed r s)) fine.0) ∙ is))
        ]

    true_at : (c : ClauseTree) (a k j : ℕ) (gs : List Ground) → AreTrue w.size m (map (λ i. ground c (digits w.size (variables_in c) i)) (range_with_len a k) ++ gs) → a ≤ j → j < a + k → IsTrue (is_true_clause m (assigned_by (digits w.size (variables_in c) j)) c)
    true_at c a zero j gs h l u = absurd (omega (arith, l, u))
    true_at c a (suc k) j gs h l u = elim (cases_lt a j) [
      | inl less ↦ true_at c (a + 1) k j gs h.1 (omega (arith, less)) (omega (arith, u))
      | inr most ↦ (let same : a ≡ j = omega (arith, l, most) in subst (λ (i : ℕ). IsTrue (is_true_clause m (assigned_by (digits w.size (variables_in c) i)) c)) same h.0)
    ]

    true_behind : (c : ClauseTree) (a k : ℕ) (gs : List Ground) → AreTrue w.size m (map (λ i. ground c (digits w.size (variables_in c) i)) (range_with_len a k) ++ gs) → AreTrue w.size m gs
    true_behind c a zero gs h = h
    true_behind c a (suc k) gs h = true_behind c (a + 1) k gs h.1

    instance_true : (c : ClauseTree) (gs : List Ground) → AreTrue w.size m (map (λ i. ground c (digits w.size (variables_in c) i)) (range_with_len 0 (w.size ^ variables_in c)) ++ gs)
        → (xs : List ℕ) → IsInstance w.size c xs → IsTrue (is_true_clause m (assigned_by xs) c)
    instance_true c gs h xs is =
        let place = place_from w.size 0 xs in
        let power : w.size ^ length xs ≡ w.size ^ variables_in c = ap (λ (k : ℕ). w.size ^ k) is.0 in
        let few = place_below w.size xs is.1 in
        let same : digits w.size (variables_in c) place ≡ xs = ap (λ (k : ℕ). digits w.size k place) (sym is.0) ∙ digits_of w.size xs is.1 in
        subst (λ (ys : List ℕ). IsTrue (is_true_clause m (assigned_by ys) c)) same (true_at c 0 (w.size ^ variables_in c) place gs h (omega arith) (omega (arith, few, power)))

    clauses_true : (cs : List ClauseTree) → AreTrue w.size m (instances_of w.size cs) → AreTrueClauses m cs
    clauses_true [] h = tt
    clauses_true (c ∷ cs) h = (
      (suffice w.size m c some size).1 (instance_true c (instances_of w.size cs) h),
      clauses_true cs (true_behind c 0 (w.size ^ variables_in c) (instances_of w.size cs) h),
    )

    pub end_solves : (r : ValuesLeft) → IsEnd r → Extends w.size m r → Solves w m
    end_solves r end extended = record {
      size = size;
      lawful = lawful;
      holds = clauses_true w.clauses (pass_true r r (full_end r end extended) extended (instances_of w.size w.clauses) (fit w.clauses clauses) end.1);
    }

range_many : (a n : ℕ) → length (range_with_len a n) ≡ n
range_many a zero = refl
range_many a (suc n) = ap suc (range_many (a + 1) n)

pub all_proper : (w : World) → 0 < w.size → IsProper w (all_left w)
all_proper w some c =
    let many = range_many 0 (bound_of w.size c.kind) in
    let bounds = bound_fits c.kind in
    (omega (arith, many, bounds), omega (arith, many, bounds))
  where
    bound_fits : (kind : Kind) → (0 < bound_of w.size kind) × (bound_of w.size kind ≤ max w.size 2)
    bound_fits Function = (some, omega arith)
    bound_fits Relation = (omega arith, omega arith)

pub leaves_are_models : LeavesAreModels
leaves_are_models w p m clauses one size lawful extended =
    let end = all_end w clauses (suc (many_cells w)) [] (all_left w) p (all_proper w (some w clauses m size lawful)) one in
    end_solves w clauses m size lawful p end extended

pub in_cells : (w : World) (a n k : ℕ) → a ≤ k → k < a + n → IsIn (cell_of w k) (map (cell_of w) (range_with_len a n))
in_cells w a zero k l u = absurd (omega (arith, l, u))
in_cells w a (suc n) k l u = elim (cases_lt a k) [
  | inl less ↦ inr (in_cells w (a + 1) n k (omega (arith, less)) (omega (arith, u)))
  | inr most ↦ inl (ap (cell_of w) (omega (arith, l, most)))
]

pub leaves_are_full : LeavesAreFull
leaves_are_full w p k some clauses one below =
    let end = all_end w clauses (suc (many_cells w)) [] (all_left w) p (all_proper w some) one in
    let closed = none_open w end.2.0 p (cell_of w k) end.2.1 (in_cells w 0 (many_cells w) k (omega arith) (omega (arith, below))) in
    single (p (cell_of w k)) closed (end.0 (cell_of w k)).0
