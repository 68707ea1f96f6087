-- Refutations behind tables that have their symbols in other orders.
use Rattle.std.proofs.Common.{◌≡◌, inl, inr, ℕ, suc, ◌<◌, true, false, IsTrue, List, [], ◌∷◌, ◌++◌, length, map, get_or, Option, Some, None, is_some, unwrap_or, if◌then◌else◌, not, slice_get, refl, sym, ap, ap₂, ◌∙◌, subst}
use Rattle.std.specs.Option.{option_map_or}
use Rattle.std.proofs.lemmas.Bool.{or_left, or_right, eq-eqb}
use Rattle.std.proofs.lemmas.Option.{slice_get-get_or}
use Rattle.clausify.specs.Input.{all_arities, skolems, all_rows, clauses_in_table, skolem_numbers}
use Rattle.clausify.specs.Names.{next_constant, next_function, skolem_symbols, all_entered, entered_numbers}
use Rattle.derivation.specs.Lines.{InputRow, IsRefutation}
use Rattle.fol_core.specs.Bound.{has_symbol, have_symbol, uses_symbol}
use Rattle.fol_core.specs.Fol.{Fol, verum, falsum, equal, atom, negation, conjunction, disjunction, implication, equivalence, forall, exists}
use Rattle.fol_problem.specs.Stated.{Said, Stated, said, AreWellFormed, IsWellFormed}
use Rattle.fol_core.specs.SymbolTable.{Symbol, symbol, number_of, kind_at, is_same_kind, is_clash, entered, FindsEach, KeepsNumbers}
use Rattle.fol_core.specs.Tree.{Tree, var, elem, app, Trees, none, more}
use Rattle.fol_core.specs.declared.symbols.Kind.{Kind}
use Rattle.fol_core.specs.declared.symbols.Kind.TheVariants.{Function, Relation}
use Rattle.fol_core.proofs.Places.{slice_get_more, slice_get_last, slice_get-push_cases}
use Rattle.fol_core.proofs.SymbolLemmas.{symbol_there, number_of_push, FindsEach-push}
use Rattle.derivation_laws.specs.Moved.{Moving, moved_term, moved_terms, moved_formula, moved_lines, moved_said, moved_rows}
use Rattle.derivation_laws.specs.Tables.{StandsIn, AllStandIn, IsWithinTable, LeadsTo, IsTableOf, HasSkolems, RefutationIsRead}
use Rattle.derivation_laws.proofs.Exchanges.{leads_to}
use Rattle.derivation_laws.proofs.MovedLines.{refutation_moved}
use Rattle.derivation_laws.proofs.MovedRows.{all_rows_moved}

-- a formula stays where its symbols do
module _ (to : Moving) where
  mutual
    term_stays : (t : Tree) → ((n : ℕ) → IsTrue (has_symbol n t) → to n ≡ n) → moved_term to t ≡ t
    term_stays (var x) h = refl
    term_stays (elem k) h = refl
    term_stays (app f ts) h = ap₂ app (h f (or_left _ _ (eq-eqb f f refl))) (terms_stay ts (λ n k. h n (or_right _ _ k)))

    terms_stay : (ts : Trees) → ((n : ℕ) → IsTrue (have_symbol n ts) → to n ≡ n) → moved_terms to ts ≡ ts
    terms_stay none h = refl
    terms_stay (more t ts) h = ap₂ more (term_stays t (λ n k. h n (or_left _ _ k))) (terms_stay ts (λ n k. h n (or_right _ _ k)))

  pub formula_stays : (f : Fol) → ((n : ℕ) → IsTrue (uses_symbol n f) → to n ≡ n) → moved_formula to f ≡ f
  formula_stays verum h = refl
  formula_stays falsum h = refl
  formula_stays (equal s t) h = ap₂ equal (term_stays s (λ n k. h n (or_left _ _ k))) (term_stays t (λ n k. h n (or_right _ _ k)))
  formula_stays (atom r ts) h = ap₂ atom (h r (or_left _ _ (eq-eqb r r refl))) (terms_stay ts (λ n k. h n (or_right _ _ k)))
  formula_stays (negation f) h = ap negation (formula_stays f h)
  formula_stays (conjunction f g) h = ap₂ conjunction (formula_stays f (λ n k. h n (or_left _ _ k))) (formula_stays g (λ n k. h n (or_right _ _ k)))
  formula_stays (disjunction f g) h = ap₂ disjunction (formula_stays f (λ n k. h n (or_left _ _ k))) (formula_stays g (λ n k. h n (or_right _ _ k)))
  formula_stays (implication f g) h = ap₂ implication (formula_stays f (λ n k. h n (or_left _ _ k))) (formula_stays g (λ n k. h n (or_right _ _ k)))
  formula_stays (equivalence f g) h = ap₂ equivalence (formula_stays f (λ n k. h n (or_left _ _ k))) (formula_stays g (λ n k. h n (or_right _ _ k)))
  formula_stays (forall x f) h = ap (forall x) (formula_stays f h)
  formula_stays (exists x f) h = ap (exists x) (formula_stays f h)

  said_stays : (size : ℕ) → ((n : ℕ) → n < size → to n ≡ n) → (ss : List Said) → AreWellFormed size ss → moved_said to ss ≡ ss
  said_stays size h [] w = refl
  said_stays size h (s ∷ ss) w = ap₂ (λ f rest. said s.role f ∷ rest) (formula_stays s.formula (λ n k. h n (w.1 n k))) (said_stays size h ss w.2)

one_kind : (k : Kind) → is_same_kind k k ≡ true
one_kind Function = refl
one_kind Relation = refl

module _ (all : List Symbol) (once : FindsEach all) where
  number_in_all : (s : Symbol) (n : ℕ) → slice_get all n ≡ Some s → entered all s ≡ all
  number_in_all s n h = ap (λ (o : Option ℕ). if is_some o then all else all ++ s ∷ []) (once n s h)

  -- a symbol entered into a table within
  pub record Entered (table : List Symbol) (s : Symbol) : Type 0 where
    pub number : ℕ
    pub at : number_of (entered table s) s.name s.arity ≡ Some number
    pub there : slice_get (entered table s) number ≡ Some s
    pub finds : FindsEach (entered table s)
    pub within : IsWithinTable (entered table s) all
    pub keeps : KeepsNumbers table (entered table s)
    pub unclashing : is_clash table s ≡ false

  module _ (table : List Symbol) (finds : FindsEach table) (within : IsWithinTable table all) where
    pub enters : (s : Symbol) → StandsIn all s → Entered table s
    enters s stands = by (number_of table s.name s.arity) refl
      where
        by : (o : Option ℕ) → number_of table s.name s.arity ≡ o → Entered table s
        by (Some m) h =
            let old : table ≡ entered table s = sym (ap (λ (o : Option ℕ). if is_some o then table else table ++ s ∷ []) h) in
            let there = symbol_there table s.name s.arity m h in
            let inside = within m (symbol s.name s.arity (kind_at table m)) there in
            let one : number_of all s.name s.arity ≡ Some inside.0 = once inside.0 (symbol s.name s.arity (kind_at table m)) inside.1 in
            let two : number_of all s.name s.arity ≡ Some stands.0 = once stands.0 s stands.1 in
            let same : inside.0 ≡ stands.0 = ap (λ (o : Option ℕ). unwrap_or o 0) (sym one ∙ two) in
            let is : slice_get table m ≡ Some s = there ∙ sym inside.1 ∙ ap (slice_get all) same ∙ stands.1 in
            let kind : kind_at table m ≡ s.kind = ap (λ (o : Option Symbol). option_map_or (λ x. x.kind) o Function) is in
            record {
              number = m;
              at = subst (λ (t : List Symbol). number_of t s.name s.arity ≡ Some m) old h;
              there = subst (λ (t : List Symbol). slice_get t m ≡ Some s) old is;
              finds = subst FindsEach old finds;
              within = subst (λ (t : List Symbol). IsWithinTable t all) old within;
              keeps = subst (λ (t : List Symbol). KeepsNumbers table t) old (λ n x e. e);
              unclashing = ap (λ (o : Option ℕ). option_map_or (λ n. not (is_same_kind (kind_at table n) s.kind)) o false) h
                  ∙ ap (λ (k : Kind). not (is_same_kind k s.kind)) kind ∙ ap not (one_kind s.kind);
            }
        by None h =
            let new : table ++ s ∷ [] ≡ entered table s = sym (ap (λ (o : Option ℕ). if is_some o then table else table ++ s ∷ []) h) in
            record {
              number = length table;
              at = subst (λ (t : List Symbol). number_of t s.name s.arity ≡ Some (length table)) new (number_of_push table s.name s.arity s.kind h);
              there = subst (λ (t : List Symbol). slice_get t (length table) ≡ Some s) new (slice_get_last table s);
              finds = subst FindsEach new (FindsEach-push table s.name s.arity s.kind finds h);
              within = subst (λ (t : List Symbol). IsWithinTable t all) new
                  (λ n x e. elim (slice_get-push_cases table s x n e) [
                    | inl old ↦ within n x old
                    | inr last ↦ (stands.0, stands.1 ∙ ap Some last.1)
                  ]);
              keeps = subst (λ (t : List Symbol). KeepsNumbers table t) new (λ n x e. slice_get_more table (s ∷ []) n x e);
              unclashing = ap (λ (o : Option ℕ). option_map_or (λ n. not (is_same_kind (kind_at table n) s.kind)) o false) h;
            }

  -- and a list of them
  record AllEntered (table : List Symbol) (ss : List Symbol) : Type 0 where
    finds : FindsEach (all_entered table ss)
    within : IsWithinTable (all_entered table ss) all
    keeps : KeepsNumbers table (all_entered table ss)

  all_enter : (table : List Symbol) → FindsEach table → IsWithinTable table all → (ss : List Symbol) → AllStandIn all ss → AllEntered table ss
  all_enter table finds within [] stand = record { finds = finds; within = within; keeps = λ n x e. e }
  all_enter table finds within (s ∷ ss) stand =
      let one = enters table finds within s stand.0 in
      let rest = all_enter (entered table s) one.finds one.within ss stand.1 in
      record { finds = rest.finds; within = rest.within; keeps = λ n x e. rest.keeps n x (one.keeps n x e) }

  numbers_moved : (last : List Symbol) (to back : Moving) → LeadsTo all last to back → (table : List Symbol) → FindsEach table → IsWithinTable table all
      → (ss : List Symbol) → AllStandIn all ss → KeepsNumbers (all_entered table ss) last → map to (entered_numbers all ss) ≡ entered_numbers table ss
  numbers_moved last to back leads table finds within [] stand keeps = refl
  numbers_moved last to back leads table finds within (s ∷ ss) stand keeps =
      let one = enters table finds within s stand.0 in
      let rest = all_enter (entered table s) one.finds one.within ss stand.1 in
      let stays = number_in_all s stand.0.0 stand.0.1 in
      let number : unwrap_or (number_of (entered all s) s.name s.arity) 0 ≡ stand.0.0 =
      ap (λ (t : List Symbol). unwrap_or (number_of t s.name s.arity) 0) stays ∙ ap (λ (o : Option ℕ). unwrap_or o 0) (once stand.0.0 s stand.0.1) in
      let here : slice_get last one.number ≡ Some s = keeps one.number s (rest.keeps one.number s one.there) in
      let first : to (unwrap_or (number_of (entered all s) s.name s.arity) 0) ≡ unwrap_or (number_of (entered table s) s.name s.arity) 0 =
      ap to number ∙ leads.same stand.0.0 one.number s stand.0.1 here ∙ ap (λ (o : Option ℕ). unwrap_or o 0) (sym one.at) in
      ap₂ (λ n ns. n ∷ ns) first
      (ap (λ (t : List Symbol). map to (entered_numbers t ss)) stays ∙ numbers_moved last to back leads (entered table s) one.finds one.within ss stand.1 keeps)

numbers_count : (table ss : List Symbol) → length (entered_numbers table ss) ≡ length ss
numbers_count table [] = refl
numbers_count table (s ∷ ss) = ap suc (numbers_count (entered table s) ss)

symbols_count : (input : List Symbol) (c f : ℕ) (ns : List ℕ) → length (skolem_symbols input c f ns) ≡ length ns
symbols_count input c f [] = refl
symbols_count input c f (n ∷ ns) = ap suc (symbols_count input (next_constant input c n) (next_function input f n) ns)

-- numbers are exchanged so that the formulas and the Skolem symbols have those of the other table
pub table_moved : (p : Stated) (all table : List Symbol) → IsWellFormed p → HasSkolems p all → IsTableOf p table → IsWithinTable table all
    → (to : Moving) × (back : Moving) × LeadsTo all table to back × (moved_said to p.formulas ≡ p.formulas)
    × (map to (skolem_numbers all p) ≡ skolem_numbers table p) × (length (skolem_numbers all p) ≡ length (all_arities p.formulas))
table_moved p all table well has is within =
    let once = has.is_table.finds in
    let sk = skolems p.symbols p.formulas in
    let last = all_entered table sk in
    let entered_all = all_enter all once table is.finds within sk has.skolem in
    let leads = leads_to all last once entered_all.finds has.few entered_all.within in
    let to = leads.0 in
    let below : (n : ℕ) → n < length p.symbols → to n ≡ n = λ n h.
    let x = get_or p.symbols n (symbol [] 0 Function) in
    let at = slice_get-get_or p.symbols n (symbol [] 0 Function) h in
    leads.2.same n n x (has.is_table.keeps n x at) (entered_all.keeps n x (is.keeps n x at)) in (
      to,
      leads.1,
      record { exchange = leads.2.exchange; same = λ n m x h k. leads.2.same n m x h (entered_all.keeps m x k) },
      said_stays to (length p.symbols) below p.formulas well,
      numbers_moved all once last to leads.1 leads.2 table is.finds within sk has.skolem (λ n x e. e),
      numbers_count all sk ∙ symbols_count p.symbols 0 0 (all_arities p.formulas),
    )

pub refutation_read : RefutationIsRead
refutation_read p all table well has is within =
    let moved = table_moved p all table well has is within in
    let to = moved.0 in
    let rows : moved_rows to (clauses_in_table all p) ≡ clauses_in_table table p =
    sym (all_rows_moved to moved.2.exchange.equality_stays (skolem_numbers all p) p.formulas moved.5) ∙ ap₂ all_rows moved.4 moved.3 in (
      to,
      moved.1,
      moved.2,
      λ ls h.
          let with_rows = subst (λ (rows : List InputRow). IsRefutation (moved_said to p.formulas) rows (moved_lines to ls)) rows
          (refutation_moved to moved.1 p.formulas (clauses_in_table all p) ls moved.2.exchange h) in
          subst (λ (ss : List Said). IsRefutation ss (clauses_in_table table p) (moved_lines to ls)) moved.3 with_rows,
    )
