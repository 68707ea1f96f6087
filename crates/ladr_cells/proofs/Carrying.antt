-- Tables that have the values of a renaming are the renamed ones.
use Rattle.std.proofs.Common.{◌≡◌, inl, inr, ℕ, ◌+◌, ◌<◌, true, ◌==◌, nat_le, List, [], ◌∷◌, ◌++◌, map, length, get_or, Option, Some, slice_get, slice_index, sym, ap, subst, ◌∙◌, arith}
use Rattle.std.specs.List.{list_any}
use Rattle.std.specs.Option.{option_map_or}
use Rattle.std.proofs.lemmas.Bool.{or_cases, or_left, eqb-true, false≢true, ltb-true}
use Rattle.std.proofs.lemmas.Bool.Decides.{nat_tests}
use Rattle.std.proofs.lemmas.List.{length-map}
use Rattle.std.proofs.lemmas.List.Folds.{list_any-append}
use Rattle.std.proofs.lemmas.Option.{slice_get-get_or}
use Rattle.cell_search.specs.Finites.{IsRowFor, AreTablesFor}
use Rattle.clausify.specs.Behind.{StandBehind}
use Rattle.clausify.specs.Input.{is_used, used_symbols, skolems, with_skolems, axioms_in_table}
use Rattle.fol_core.proofs.Places.{slice_get_more}
use Rattle.fol_core.specs.Fol.{Fol, verum, falsum, equal, atom, negation, conjunction, disjunction, implication, equivalence, forall, exists}
use Rattle.fol_core.specs.Free.{is_in}
use Rattle.fol_core.specs.Meaning.{Meaning}
use Rattle.fol_core.specs.Occurs.{occurs_in, above_elements, above_all_elements, above_numerals, size_needed, names_in, names_in_any, names}
use Rattle.fol_core.specs.SkolemAxioms.{SkolemAxiom}
use Rattle.fol_problem.specs.Stated.{Stated, AreNewTo}
use Rattle.fol_core.specs.SymbolTable.{Symbol, symbol, kind_at, arity_at}
use Rattle.fol_core.specs.Tree.{Tree, var, elem, app, Trees, none, more}
use Rattle.fol_core.specs.declared.symbols.Kind.{Kind}
use Rattle.fol_core.specs.declared.symbols.Kind.TheVariants.{Function, Relation}
use Rattle.ladr_cells.proofs.Celled.{block_in, found_in, passes}
use Rattle.ladr_cells.proofs.Listed.{occurring_apart, entry_of, listed_below, function_listed, bit_of, relation_listed}
use Rattle.ladr_cells.specs.Worlds.{world_for}
use Rattle.mace_cells.specs.Solutions.{IsCarried}
use Rattle.mace_cells.specs.World.{World, Solves, AreAlike}
use Rattle.mace_cells.specs.declared.way.Way.{Way}
use Rattle.mace_ground.proofs.Numbering.{by_number}
use Rattle.mace_ground.specs.Cells.{Block, Cell, cell, found, value_at, value_of_kind}
use Rattle.model_tables.proofs.Expanding.{same_top, kept_row}
use Rattle.model_tables.specs.Expansion.{IsExpansion}
use Rattle.model_tables.specs.Isomorphism as renaming
use Rattle.model_tables.specs.Isomorphism.{IsIsomorphism}
use Rattle.model_tables.specs.Size.{bound_of, AllBelow, formulas_of, IsInterpretation}
use Rattle.model_tables.specs.Tables.{Finite, row_of, has, listed_value, place_from, meaning_of}

-- an element that a formula names is below the number above all of these
mutual
  term_names : (k : ℕ) (t : Tree) → names_in k t ≡ true → k < above_elements t
  term_names k (var x) h = absurd (false≢true h)
  term_names k (elem n) h = omega (arith, eqb-true k n h)
  term_names k (app f ts) h = terms_name k ts h

  terms_name : (k : ℕ) (ts : Trees) → names_in_any k ts ≡ true → k < above_all_elements ts
  terms_name k none h = absurd (false≢true h)
  terms_name k (more t ts) h = elim (or_cases (names_in k t) (names_in_any k ts) h) [ inl e ↦ omega (arith, term_names k t e) | inr e ↦ omega (arith, terms_name k ts e) ]

names_below : (k : ℕ) (f : Fol) → names k f ≡ true → k < above_numerals f
names_below k verum h = absurd (false≢true h)
names_below k falsum h = absurd (false≢true h)
names_below k (equal s t) h = elim (or_cases (names_in k s) (names_in k t) h) [ inl e ↦ omega (arith, term_names k s e) | inr e ↦ omega (arith, term_names k t e) ]
names_below k (atom r ts) h = terms_name k ts h
names_below k (negation f) h = names_below k f h
names_below k (conjunction f g) h = elim (or_cases (names k f) (names k g) h) [ inl e ↦ omega (arith, names_below k f e) | inr e ↦ omega (arith, names_below k g e) ]
names_below k (disjunction f g) h = elim (or_cases (names k f) (names k g) h) [ inl e ↦ omega (arith, names_below k f e) | inr e ↦ omega (arith, names_below k g e) ]
names_below k (implication f g) h = elim (or_cases (names k f) (names k g) h) [ inl e ↦ omega (arith, names_below k f e) | inr e ↦ omega (arith, names_below k g e) ]
names_below k (equivalence f g) h = elim (or_cases (names k f) (names k g) h) [ inl e ↦ omega (arith, names_below k f e) | inr e ↦ omega (arith, names_below k g e) ]
names_below k (forall x f) h = names_below k f h
names_below k (exists x f) h = names_below k f h

named_below : (k : ℕ) (fs : List Fol) → list_any (λ f. names k f) fs ≡ true → k < size_needed fs
named_below k [] h = absurd (false≢true h)
named_below k (f ∷ fs) h = elim (or_cases (names k f) (list_any (λ f. names k f) fs) h) [ inl e ↦ omega (arith, names_below k f e) | inr e ↦ omega (arith, named_below k fs e) ]

all_renamed : (n : ℕ) (r : ℕ → ℕ) → ((x : ℕ) → x < n → r x < n) → (xs : List ℕ) → AllBelow n xs → AllBelow n (map r xs)
all_renamed n r f [] h = tt
all_renamed n r f (x ∷ xs) h = (f x h.0, all_renamed n r f xs h.1)

module _ (p : Stated) (n : ℕ) (way : Way) (some : 0 < n) (stand : StandBehind p) (new : AreNewTo p.formulas (axioms_in_table p.symbols p)) where
  abbrev table : List Symbol
  table = with_skolems p.symbols p

  abbrev witnesses : List SkolemAxiom
  witnesses = axioms_in_table p.symbols p

  abbrev all : List ℕ
  all = used_symbols p.symbols p.formulas ++ map (λ w. w.symbol) witnesses

  abbrev w : World
  w = world_for p n way

  -- a symbol of the formulas has a block of its kind and arity
  own_block : (s : ℕ) → s < length p.symbols → occurs_in s (formulas_of p) ≡ true
      → (first : ℕ) × ((b : Block) × ((found n w.blocks s ≡ Some (first, b)) × (b.kind ≡ kind_at p.symbols s) × (b.arity ≡ arity_at p.symbols s)))
  own_block s below used =
      let own : is_in s (used_symbols p.symbols p.formulas) ≡ true = passes (is_used p.formulas) 0 (length p.symbols) s used (omega arith) (omega (arith, below)) in
      let here : is_in s all ≡ true = list_any-append (λ y. s == y) (used_symbols p.symbols p.formulas) (map (λ w. w.symbol) witnesses) ∙ or_left (is_in s (used_symbols p.symbols p.formulas)) _ own in
      let q = found_in table n 0 s all here in
      let d : Symbol = symbol [] 0 Function in
      let there : slice_get p.symbols s ≡ Some (get_or p.symbols s d) = slice_get-get_or p.symbols s d below in
      let same : slice_get table s ≡ slice_get p.symbols s =
      ap (λ (t : List Symbol). slice_get t s) stand.table ∙ slice_get_more p.symbols (skolems p.symbols p.formulas) s (get_or p.symbols s d) there ∙ sym there in
      (q.0, (block_in table s, (q.1, ap (λ (o : Option Symbol). option_map_or (λ s. s.kind) o Function) same, ap (λ (o : Option Symbol). option_map_or (λ s. s.arity) o 0) same)))

  module _
      (t e u : Finite) (is : IsInterpretation n p t) (expanded : IsExpansion t witnesses e) (m : Meaning) (solves : Solves w m) (r back : ℕ → ℕ)
      (renames : IsCarried w.fixed r back (meaning_of e) m) (whole : AreTablesFor w u) (alike : AreAlike w m (meaning_of u)) where
    top : e.top + 1 ≡ n
    top = ap (λ (k : ℕ). k + 1) (same_top witnesses t e expanded) ∙ is.0

    stays_below : (x : ℕ) → x < n → r x < n
    stays_below x h =
        let inside : nat_le x e.top ≡ true = grind (arith, nat_tests, top) in
        ltb-true (r x) n (sym (solves.size (r x)) ∙ renames.within x ∙ inside)

    value_is : (kind : Kind) (s : ℕ) (xs : List ℕ) → value_of_kind m kind s (map r xs) ≡ value_of_kind (meaning_of u) kind s (map r xs) → row_of e s ≡ row_of t s
        → AllBelow (bound_of n kind) (row_of t s) → AllBelow (bound_of n kind) (row_of u s) → listed_value u s (map r xs) ≡ renaming.carried kind r (listed_value t s xs)
    value_is Function s xs same row below above =
        let listed_same : listed_value e s xs ≡ listed_value t s xs = (λ i. slice_index (row i) (place_from (same_top witnesses t e expanded i + 1) 0 xs)) in
        let here : (meaning_of u).function s (map r xs) ≡ listed_value u s (map r xs) = function_listed u s n (map r xs) whole.size (listed_below u s n (map r xs) some above) in
        let there : (meaning_of e).function s xs ≡ listed_value e s xs = function_listed e s n xs top (subst (λ (k : ℕ). k < n) (sym listed_same) (listed_below t s n xs some below)) in
        sym here ∙ sym same ∙ renames.functions s xs ∙ ap r (there ∙ listed_same)
    value_is Relation s xs same row below above =
        let listed_same : listed_value e s xs ≡ listed_value t s xs = (λ i. slice_index (row i) (place_from (same_top witnesses t e expanded i + 1) 0 xs)) in
        let two : 0 < 2 = omega arith in
        relation_listed (listed_value u s (map r xs)) (listed_value t s xs) (listed_below u s 2 (map r xs) two above) (listed_below t s 2 xs two below)
        (sym same ∙ ap bit_of (renames.relations s xs) ∙ ap (λ (k : ℕ). bit_of (k == 1)) listed_same)

    carries : (s : ℕ) (xs : List ℕ) → has t s ≡ true → length xs ≡ arity_at p.symbols s → AllBelow n xs → listed_value u s (map r xs) ≡ renaming.carried (kind_at p.symbols s) r (listed_value t s xs)
    carries s xs entry many below =
        let own = entry_of n p t s is entry in
        let b = own_block s own.0 own.1 in
        let ys = map r xs in
        let as_many : length ys ≡ b.1.0.arity = length-map xs r ∙ many ∙ sym b.1.1.2 in
        let number = by_number n w.blocks s b.0 b.1.0 ys b.1.1.0 as_many (all_renamed n r stays_below xs below) in
        let cells : value_at m (cell b.1.0.kind s ys) ≡ value_at (meaning_of u) (cell b.1.0.kind s ys) =
        subst (λ (c : Cell). value_at m c ≡ value_at (meaning_of u) c) number.1 (alike (b.0 + place_from n 0 ys) number.0) in
        let same : value_of_kind m (kind_at p.symbols s) s ys ≡ value_of_kind (meaning_of u) (kind_at p.symbols s) s ys =
        subst (λ (k : Kind). value_of_kind m k s ys ≡ value_of_kind (meaning_of u) k s ys) b.1.1.1 cells in
        let row : IsRowFor w (Some (b.0, b.1.0)) (row_of u s) = subst (λ (o : Option (ℕ × Block)). IsRowFor w o (row_of u s)) b.1.1.0 (whole.rows s) in
        value_is (kind_at p.symbols s) s xs same (kept_row witnesses t e expanded s (occurring_apart witnesses p.formulas new s own.1)) own.2
        (subst (λ (k : Kind). AllBelow (bound_of n k) (row_of u s)) b.1.1.1 row.1)

    pub isomorphic : IsIsomorphism n p r t u
    isomorphic = record {
      permutes = (stays_below, λ x y l k e. sym (renames.again x) ∙ ap back e ∙ renames.again y);
      fixes = λ k h. renames.fixes k (named_below k (formulas_of p) h);
      carries = carries;
    }
