-- The blocks that a search printed.
use Rattle.std.proofs.Common.{◌≡◌, ℕ, suc, ◌+◌, ◌^◌, ◌<◌, ◌≤◌, List, [], ◌∷◌, ◌++◌, length, inl, inr, refl, ap, sym, subst, ◌∙◌, append_assoc, append-nil, arith}
use Rattle.std.specs.List.{AllByRecursion}
use Rattle.clausify.specs.Behind.{SkolemsStandBehind}
use Rattle.fol_core.specs.Literals.{equality}
use Rattle.fol_problem.specs.Stated.{Stated}
use Rattle.fol_core.specs.SymbolTable.{Symbol}
use Rattle.ladr_cells.specs.Fitting.{FitsTable}
use Rattle.ladr_cells.specs.Showing.{IsOneOf}
use Rattle.ladr_cells.specs.Worlds.{ground_size}
use Rattle.ladr_intake.specs.Posed.{Posed}
use Rattle.ladr_io.specs.Times.{Times}
use Rattle.ladr_mace4.proofs.SearchBlocks.{SearchBlock, begins, skips, shows, exhausts, block_text, blocks_text, IsShownAmong, AreGood}
use Rattle.ladr_mace4.proofs.WholeModels.{model_printable, few_skolems}
use Rattle.ladr_mace4.specs.LeafModels.{LeavesAreModels, LeavesCoverModels}
use Rattle.ladr_mace4.specs.Models.{IsWholeModel}
use Rattle.ladr_mace4.specs.Plans.{size_behind}
use Rattle.ladr_mace4.specs.Rooms.{refused_cells}
use Rattle.ladr_mace4.specs.Skolems.{all_symbols}
use Rattle.ladr_mace4.specs.Story.{Size, skipped, searched, Now, between, opened, inside, models_in, models_in_all, models_at, models_by, models_text, size_text, sizes_text, text_at, HasEnded, HaveEnded, IsAtSize, StaysWithin, Stops, text_by, SearchGoes, SearchComes}
use Rattle.ladr_mace4.specs.declared.ends.SearchEnd.{SearchEnd}
use Rattle.ladr_mace4.specs.declared.ends.SearchEnd.TheVariants.{MaxModels, Exhausted, AllModels, MaxMegs, MaxSeconds, GroundLimit, ClauseLimit}
use Rattle.ladr_mace4.specs.declared.plan.Plan.{Plan}
use Rattle.ladr_models.specs.ReadsBack.{IsPrintable, ReadsBack}
use Rattle.ladr_options.specs.declared.options.Options.{Options}
use Rattle.ladr_problem.specs.Proper.{IsProper}
use Rattle.model_tables.specs.ModelText.{model_text}
use Rattle.model_tables.specs.Tables.{Finite}

-- the blocks of models, of a size, of sizes, and of the size that a search is at
abbrev pub models_blocks : ℕ → ℕ → List Finite → List SearchBlock
models_blocks n k [] = []
models_blocks n k (t ∷ ts) = shows n (suc k) t ∷ models_blocks n (suc k) ts

abbrev pub size_blocks : ℕ → ℕ → Size → List SearchBlock
size_blocks n k skipped = skips n ∷ []
size_blocks n k (searched ts chosen) = begins n ∷ (models_blocks n k ts ++ exhausts n ∷ [])

abbrev pub sizes_blocks : ℕ → ℕ → ℕ → List Size → List SearchBlock
sizes_blocks step n k [] = []
sizes_blocks step n k (size ∷ sizes) = size_blocks n k size ++ sizes_blocks step (n + step) (k + models_in size) sizes

abbrev pub now_blocks : ℕ → ℕ → Now → List SearchBlock
now_blocks n k between = []
now_blocks n k opened = begins n ∷ []
now_blocks n k (inside ts chosen) = begins n ∷ models_blocks n k ts

-- their texts
texts_append : (p : Stated) (cs bs : List SearchBlock) → blocks_text p (cs ++ bs) ≡ blocks_text p cs ++ blocks_text p bs
texts_append p [] bs = refl
texts_append p (a ∷ cs) bs = ap (λ (u : List ℕ). block_text p a ++ u) (texts_append p cs bs) ∙ sym (append_assoc (block_text p a) (blocks_text p cs) (blocks_text p bs))

models_same : (p : Stated) (n k : ℕ) (ts : List Finite) → models_text p k ts ≡ blocks_text p (models_blocks n k ts)
models_same p n k [] = refl
models_same p n k (t ∷ ts) = ap (λ (u : List ℕ). model_text (all_symbols p) (suc k) t ++ u) (models_same p n (suc k) ts)

size_same : (p : Stated) (n k : ℕ) (size : Size) → size_text p n k size ≡ blocks_text p (size_blocks n k size)
size_same p n k skipped = sym (append-nil _)
size_same p n k (searched ts chosen) =
    let last : block_text p (exhausts n) ≡ blocks_text p (exhausts n ∷ []) = sym (append-nil _) in
    ap (λ (u : List ℕ). block_text p (begins n) ++ u) (ap (λ (u : List ℕ). u ++ block_text p (exhausts n)) (models_same p n k ts) ∙ ap (λ (u : List ℕ). blocks_text p (models_blocks n k ts) ++ u) last ∙ sym (texts_append p (models_blocks n k ts) (exhausts n ∷ [])))

sizes_same : (p : Stated) (step n k : ℕ) (sizes : List Size) → sizes_text p step n k sizes ≡ blocks_text p (sizes_blocks step n k sizes)
sizes_same p step n k [] = refl
sizes_same p step n k (size ∷ sizes) =
    ap (λ (u : List ℕ). u ++ sizes_text p step (n + step) (k + models_in size) sizes) (size_same p n k size) ∙ ap (λ (u : List ℕ). blocks_text p (size_blocks n k size) ++ u) (sizes_same p step (n + step) (k + models_in size) sizes)
    ∙ sym (texts_append p (size_blocks n k size) (sizes_blocks step (n + step) (k + models_in size) sizes))

now_same : (p : Stated) (n k : ℕ) (now : Now) → text_at p n k now ≡ blocks_text p (now_blocks n k now)
now_same p n k between = refl
now_same p n k opened = sym (append-nil _)
now_same p n k (inside ts chosen) = ap (λ (u : List ℕ). block_text p (begins n) ++ u) (models_same p n k ts)

-- all blocks by then
abbrev pub blocks_by : Plan → List Size → Now → List SearchBlock
blocks_by s sizes now = sizes_blocks s.step s.start 0 sizes ++ now_blocks (size_behind s (length sizes)) (models_in_all sizes) now

by_same : (p : Stated) (s : Plan) (sizes : List Size) (now : Now) → text_by p s sizes now ≡ blocks_text p (blocks_by s sizes now)
by_same p s sizes now =
    let n = size_behind s (length sizes) in
    let k = models_in_all sizes in
    ap (λ (u : List ℕ). u ++ text_at p n k now) (sizes_same p s.step s.start 0 sizes) ∙ ap (λ (u : List ℕ). blocks_text p (sizes_blocks s.step s.start 0 sizes) ++ u) (now_same p n k now) ∙ sym (texts_append p (sizes_blocks s.step s.start 0 sizes) (now_blocks n k now))

-- good blocks, and others behind them
good_append : (p : Stated) (before cs bs : List SearchBlock) → AreGood p before cs → AreGood p (before ++ cs) bs → AreGood p before (cs ++ bs)
good_append p before [] bs g h = subst (λ (l : List SearchBlock). AreGood p l bs) (append-nil before) h
good_append p before (a ∷ cs) bs g h = (g.0, good_append p (before ++ a ∷ []) cs bs g.1 (subst (λ (l : List SearchBlock). AreGood p l bs) (sym (append_assoc before (a ∷ []) cs)) h))

among_behind : (n : ℕ) (t : Finite) (cs bs : List SearchBlock) → IsShownAmong n t bs → IsShownAmong n t (cs ++ bs)
among_behind n t [] bs h = h
among_behind n t (a ∷ cs) bs h = inr (among_behind n t cs bs h)

-- one of those that are shown is among their blocks
among : (n k : ℕ) (ts : List Finite) (u : Finite) → IsOneOf u ts → IsShownAmong n u (models_blocks n k ts)
among n k [] u h = absurd h
among n k (t ∷ ts) u (inl e) = inl (suc k, ap (λ (v : Finite). shows n (suc k) v) (sym e))
among n k (t ∷ ts) u (inr h) = inr (among n (suc k) ts u h)

-- that a text reads back
abbrev pub ReadBack : Type 0
ReadBack = (n k : ℕ) (symbols : List Symbol) (t : Finite) → IsPrintable n k symbols t → ReadsBack (model_text symbols k t) symbols t

-- that what bytes pose uses symbols as its table has them
abbrev pub FilesFit : (List ℕ → Posed → Type 0) → Type 0
FilesFit says = (bytes : List ℕ) (x : Posed) → says bytes x → FitsTable x.stated

pub record Laws : Type 0 where
  pub behind : SkolemsStandBehind
  pub back : ReadBack
  pub models : LeavesAreModels
  pub cover : LeavesCoverModels

-- the sizes and the numbers of models that a search prints
abbrev pub IsBounded : Plan → Type 0
IsBounded s = (s.end ≤ 200) × (s.wanted < 2 ^ 64)

-- where a search has come to an end no more models are printed than are wanted
printed_most : (p : Stated) (s : Plan) (t : Times) (n j k : ℕ) (now : Now) (end : SearchEnd) → Stops p s t n j now end → k < s.wanted → j ≡ k + models_at now → k + models_at now ≤ s.wanted
printed_most p s t n j k now MaxModels h fewer e = omega (arith, h.2, e)
printed_most p s t n j k now AllModels h fewer e = subst (λ (at : Now). k + models_at at ≤ s.wanted) (sym h.1) (omega (arith, fewer))
printed_most p s t n j k now Exhausted h fewer e = subst (λ (at : Now). k + models_at at ≤ s.wanted) (sym h.1) (omega (arith, fewer))
printed_most p s t n j k now MaxMegs h fewer e = subst (λ (at : Now). k + models_at at ≤ s.wanted) (sym h.1) (omega (arith, fewer))
printed_most p s t n j k now (GroundLimit size) h fewer e = subst (λ (at : Now). k + models_at at ≤ s.wanted) (sym h.1) (omega (arith, fewer))
printed_most p s t n j k now (MaxSeconds first last) h fewer e = omega (arith, h.3, e)
printed_most p s t n j k now (ClauseLimit formula) h fewer e = absurd h

-- nor while it goes on
goes_most : (p : Stated) (s : Plan) (n j : ℕ) (now : Now) → StaysWithin p s n j now → j ≤ s.wanted
goes_most p s n j now (inl fewer) = omega (arith, fewer)
goes_most p s n j now (inr all) = omega (arith, all.0)

module _ (laws : Laws) (p : Stated) (o : Options) (proper : IsProper p o) where
  few : length p.symbols ≤ equality
  few = omega (arith, proper.few)

  printable : (n k : ℕ) (u : Finite) → n ≤ 200 → k < 2 ^ 64 → ground_size n p < refused_cells → IsWholeModel p n u → IsPrintable n k (all_symbols p) u
  printable n k u most number room is = model_printable n k p u (laws.behind p few (few_skolems p n (omega (arith, is.interpretation.0)) room)) proper.tellable most number is

  good_models : (before : List SearchBlock) (n k : ℕ) (us : List Finite) → n ≤ 200 → k + length us < 2 ^ 64 → ground_size n p < refused_cells → AllByRecursion (IsWholeModel p n) us → AreGood p before (models_blocks n k us)
  good_models before n k [] most number room h = tt
  good_models before n k (u ∷ us) most number room h =
      let is = printable n (suc k) u most (omega (arith, number)) room h.0 in (
        ((h.0, laws.back n (suc k) (all_symbols p) u is), is.tellable.named),
        good_models (before ++ shows n (suc k) u ∷ []) n (suc k) us most (omega (arith, number)) room h.1,
      )

  good_size : (before : List SearchBlock) (s : Plan) (n k : ℕ) (size : Size) → n ≤ 200 → k + models_in size < 2 ^ 64 → HasEnded p s n size → AreGood p before (size_blocks n k size)
  good_size before s n k skipped most number h = (tt, tt)
  good_size before s n k (searched us chosen) most number h =
      let begun = before ++ begins n ∷ [] in (
        tt,
        good_append p begun (models_blocks n k us) (exhausts n ∷ []) (good_models begun n k us most number h.0.1.0 h.1.0)
            ((omega (arith, most), λ t is. (let some = h.2 t is in (some.0, among_behind n some.0 begun (models_blocks n k us) (among n k us some.0 some.1), some.2))), tt),
      )

  good_sizes : (before : List SearchBlock) (s : Plan) (n k : ℕ) (sizes : List Size) → s.end ≤ 200 → k + models_in_all sizes < 2 ^ 64 → HaveEnded p s n sizes → AreGood p before (sizes_blocks s.step n k sizes)
  good_sizes before s n k [] most number h = tt
  good_sizes before s n k (size ∷ sizes) most number h =
      good_append p before (size_blocks n k size) (sizes_blocks s.step (n + s.step) (k + models_in size) sizes) (good_size before s n k size (omega (arith, h.0, most)) (omega (arith, number)) h.1)
      (good_sizes (before ++ size_blocks n k size) s (n + s.step) (k + models_in size) sizes most (omega (arith, number)) h.2)

  good_now : (before : List SearchBlock) (s : Plan) (n k : ℕ) (now : Now) → s.end ≤ 200 → k + models_at now < 2 ^ 64 → IsAtSize p s n now → AreGood p before (now_blocks n k now)
  good_now before s n k between most number h = tt
  good_now before s n k opened most number h = (tt, tt)
  good_now before s n k (inside us chosen) most number h = (tt, good_models (before ++ begins n ∷ []) n k us (omega (arith, h.0.0, most)) number h.1.0 h.2.0)

  good_by : (s : Plan) (sizes : List Size) (now : Now) → s.end ≤ 200 → models_by sizes now < 2 ^ 64 → HaveEnded p s s.start sizes → IsAtSize p s (size_behind s (length sizes)) now → AreGood p [] (blocks_by s sizes now)
  good_by s sizes now most number ended stands =
      let front = sizes_blocks s.step s.start 0 sizes in
      good_append p [] front (now_blocks (size_behind s (length sizes)) (models_in_all sizes) now) (good_sizes [] s s.start 0 sizes most (omega (arith, number)) ended)
      (good_now front s (size_behind s (length sizes)) (models_in_all sizes) now most number stands)

  -- a search that goes on, and one that has come to an end
  pub goes_shows : (s : Plan) (t : Times) (text : List ℕ) → IsBounded s → SearchGoes p s t text → (blocks : List SearchBlock) × AreGood p [] blocks × (text ≡ blocks_text p blocks)
  goes_shows s t text bounded h =
      let most = goes_most p s (size_behind s (length h.sizes)) (models_by h.sizes h.now) h.now h.most in
      (blocks_by s h.sizes h.now, good_by s h.sizes h.now bounded.0 (omega (arith, most, bounded.1)) h.so_far.ended h.so_far.stands, h.text_is ∙ by_same p s h.sizes h.now)

  pub comes_shows : (s : Plan) (t : Times) (end : SearchEnd) (printed : ℕ) (text : List ℕ) → IsBounded s → SearchComes p s t end printed text → (blocks : List SearchBlock) × AreGood p [] blocks × (text ≡ blocks_text p blocks)
  comes_shows s t end printed text bounded h =
      let most = printed_most p s t (size_behind s (length h.sizes)) printed (models_in_all h.sizes) h.now end h.stops h.so_far.fewer h.count in
      (blocks_by s h.sizes h.now, good_by s h.sizes h.now bounded.0 (omega (arith, most, bounded.1)) h.so_far.ended h.so_far.stands, h.text_is ∙ by_same p s h.sizes h.now)
