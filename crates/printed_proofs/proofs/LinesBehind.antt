-- Lines are read alike behind the table of their symbols and behind a part of it.
use Rattle.std.proofs.Common.{◌≡◌, ℕ, zero, suc, ◌<◌, Bool, true, false, ◌||◌, List, [], ◌∷◌, length, map, drop, get_or, Option, Some, None, slice_get, refl, sym, ap, ap₂, ◌∙◌, subst}
use Rattle.std.specs.List.{list_any}
use Rattle.std.specs.Option.{option_map}
use Rattle.std.proofs.lemmas.Bool.{or_parts}
use Rattle.std.proofs.lemmas.Option.{slice_get-get_or}
use Rattle.derivation.specs.declared.line.Content.{Content}
use Rattle.derivation.specs.declared.line.Content.TheVariants.{Formula, Clause}
use Rattle.derivation.specs.declared.line.Line.{Line}
use Rattle.fol_core.specs.Fol.{Fol, verum, falsum, equal, atom, negation, conjunction, disjunction, implication, equivalence, forall, exists}
use Rattle.fol_core.specs.FormulaView.{fol_of}
use Rattle.fol_core.specs.Literals.{Lit, ClauseTree, literal, equality}
use Rattle.fol_core.specs.RawTree.{RawTree}
use Rattle.fol_core.specs.SymbolTable.{Symbol, symbol, FindsEach, KeepsNumbers}
use Rattle.fol_core.specs.Tree.{app, none, more}
use Rattle.fol_core.specs.declared.symbols.Kind.TheVariants.{Function}
use Rattle.ladr_formulas.proofs.Growing.{grows_formula, grows_terms}
use Rattle.ladr_formulas.specs.ClauseIn.{atom_in, literal_in, prepended, literals_in, clause_in}
use Rattle.ladr_formulas.specs.Formulas.{Reading, Made, meets, names_of_variables, unread, terms_of}
use Rattle.ladr_lex.specs.Cuts.{Piece}
use Rattle.ladr_lex.specs.declared.misuse.Misuse.{Misuse}
use Rattle.ladr_lex.specs.declared.misuse.Misuse.TheVariants.{TwoKinds, UnfitAttribute}
use Rattle.ladr_problem.specs.Items.{lexemes}
use Rattle.ladr_rules.specs.Attributes.{attributed}
use Rattle.printed_proofs.specs.Refutations.{content_with, line_with, lines_with}
use Rattle.printed_proofs.proofs.OwnLines.{IsOwn, AreOwn, AllAreOwn}
use Rattle.proof_lines.specs.Faults.{IsLineRead}
use Rattle.proof_lines.specs.Answered.{ReadAnswer}
use Rattle.proof_lines.specs.Noted.{is_goal_word}
use Rattle.proof_lines.specs.Stated.{answers_made, answers_read_behind, line_made, line_misuse, symbols_behind, is_unfit, IsContentOf}
use Rattle.answers.specs.AnswerView.{answers_of}
use Rattle.clause_store.specs.Lines.{IsUnnoted, AreUnnoted}
use Rattle.printed_proofs.proofs.Unnoted.{AllAreUnnoted, asks_nothing, none_made, unasked}
use Rattle.proof_lines.specs.Strays.{is_stray_relation, brings_stray}
use Rattle.proof_lines.specs.declared.line.LineRead.{LineRead}
use Rattle.derivation_laws.specs.Moved.{Moving, moved_clause, moved_literal, moved_term, moved_formula}
use Rattle.derivation_laws.specs.Tables.{IsWithinTable, LeadsTo}
use Rattle.derivation_laws.proofs.MovedTables.{formula_stays}
use Rattle.proof_text.specs.Blocks.{TextBlock}
use Rattle.proof_text.specs.Proofs.{Reader, HasLines, no_line, further_line, HasProofs, no_block, further_block}
use Rattle.proof_words.specs.Written.{states_formula}
use Rattle.printed_proofs.specs.ReadBehind.{behind, IsReadBehind}
use Rattle.printed_proofs.proofs.ReadingBehind.{between, read_behind}

-- a clause is read of a moved formula, moved
module _ (to : Moving) (x : to equality ≡ equality) where
  atom_in_moved : (positive : Bool) (f : Fol) → atom_in positive (moved_formula to f) ≡ option_map (moved_literal to) (atom_in positive f)
  atom_in_moved positive verum = refl
  atom_in_moved positive falsum = refl
  atom_in_moved positive (equal s t) = ap (λ r. Some (literal positive (app r (more (moved_term to s) (more (moved_term to t) none))))) (sym x)
  atom_in_moved positive (atom r ts) = refl
  atom_in_moved positive (negation f) = refl
  atom_in_moved positive (conjunction f g) = refl
  atom_in_moved positive (disjunction f g) = refl
  atom_in_moved positive (implication f g) = refl
  atom_in_moved positive (equivalence f g) = refl
  atom_in_moved positive (forall y f) = refl
  atom_in_moved positive (exists y f) = refl

  literal_in_moved : (f : Fol) → literal_in (moved_formula to f) ≡ option_map (moved_literal to) (literal_in f)
  literal_in_moved verum = refl
  literal_in_moved falsum = refl
  literal_in_moved (equal s t) = atom_in_moved true (equal s t)
  literal_in_moved (atom r ts) = refl
  literal_in_moved (negation f) = atom_in_moved false f
  literal_in_moved (conjunction f g) = refl
  literal_in_moved (disjunction f g) = refl
  literal_in_moved (implication f g) = refl
  literal_in_moved (equivalence f g) = refl
  literal_in_moved (forall y f) = refl
  literal_in_moved (exists y f) = refl

  prepended_moved : (a : Option Lit) (b : Option ClauseTree) → prepended (option_map (moved_literal to) a) (option_map (moved_clause to) b) ≡ option_map (moved_clause to) (prepended a b)
  prepended_moved None None = refl
  prepended_moved None (Some c) = refl
  prepended_moved (Some l) None = refl
  prepended_moved (Some l) (Some c) = refl

  alone : (o : Option Lit) → option_map (λ (l : Lit). l ∷ []) (option_map (moved_literal to) o) ≡ option_map (moved_clause to) (option_map (λ (l : Lit). l ∷ []) o)
  alone None = refl
  alone (Some l) = refl

  single : (f : Fol) → option_map (λ (l : Lit). l ∷ []) (literal_in (moved_formula to f)) ≡ option_map (moved_clause to) (option_map (λ (l : Lit). l ∷ []) (literal_in f))
  single f = ap (option_map (λ (l : Lit). l ∷ [])) (literal_in_moved f) ∙ alone (literal_in f)

  literals_in_moved : (f : Fol) → literals_in (moved_formula to f) ≡ option_map (moved_clause to) (literals_in f)
  literals_in_moved verum = single verum
  literals_in_moved falsum = single falsum
  literals_in_moved (equal s t) = single (equal s t)
  literals_in_moved (atom r ts) = single (atom r ts)
  literals_in_moved (negation f) = single (negation f)
  literals_in_moved (conjunction f g) = single (conjunction f g)
  literals_in_moved (disjunction f g) = ap₂ prepended (literal_in_moved f) (literals_in_moved g) ∙ prepended_moved (literal_in f) (literals_in g)
  literals_in_moved (implication f g) = single (implication f g)
  literals_in_moved (equivalence f g) = single (equivalence f g)
  literals_in_moved (forall y f) = single (forall y f)
  literals_in_moved (exists y f) = single (exists y f)

  clause_in_moved : (f : Fol) → clause_in (moved_formula to f) ≡ option_map (moved_clause to) (clause_in f)
  clause_in_moved falsum = refl
  clause_in_moved verum = literals_in_moved verum
  clause_in_moved (equal s t) = literals_in_moved (equal s t)
  clause_in_moved (atom r ts) = literals_in_moved (atom r ts)
  clause_in_moved (negation f) = literals_in_moved (negation f)
  clause_in_moved (conjunction f g) = literals_in_moved (conjunction f g)
  clause_in_moved (disjunction f g) = literals_in_moved (disjunction f g)
  clause_in_moved (implication f g) = literals_in_moved (implication f g)
  clause_in_moved (equivalence f g) = literals_in_moved (equivalence f g)
  clause_in_moved (forall y f) = literals_in_moved (forall y f)
  clause_in_moved (exists y f) = literals_in_moved (exists y f)

-- what breaks no row
meets_none : (b : Bool) (row : Misuse) (s : Reading) → (meets b row s).least ≡ None → (b ≡ false) × (s.least ≡ None)
meets_none true row s h = absurd (cc)
meets_none false row s h = (refl, h)

meets_nothing : (a b : Bool) (s : Reading) → a ≡ false → b ≡ false → s.least ≡ None → (meets a TwoKinds (meets b UnfitAttribute s)).least ≡ None
meets_nothing true b s h k sound = absurd (cc)
meets_nothing false true s h k sound = absurd (cc)
meets_nothing false false s h k sound = sound

-- a test that no symbol of a table passes, none behind passes
failing : (test : Symbol → Bool) (all : List Symbol) (n : ℕ) (s : Symbol) → slice_get all n ≡ Some s → list_any test all ≡ false → test s ≡ false
failing test [] n s h e = absurd (cc)
failing test (x ∷ xs) zero s h e = (let same : x ≡ s = cc in subst (λ (y : Symbol). test y ≡ false) same (or_parts (test x) (list_any test xs) e).0)
failing test (x ∷ xs) (suc n) s h e = failing test xs n s h (or_parts (test x) (list_any test xs) e).1

pub all_fail : (test : Symbol → Bool) (xs : List Symbol) → ((n : ℕ) (s : Symbol) → slice_get xs n ≡ Some s → test s ≡ false) → list_any test xs ≡ false
all_fail test [] h = refl
all_fail test (x ∷ xs) h = ap₂ (λ a b. a || b) (h zero x refl) (all_fail test xs (λ n s e. h (suc n) s e))

none_behind : (test : Symbol → Bool) (k : ℕ) (xs : List Symbol) → list_any test xs ≡ false → list_any test (drop k xs) ≡ false
none_behind test zero xs h = h
none_behind test (suc k) [] h = refl
none_behind test (suc k) (x ∷ xs) h = none_behind test k xs (or_parts (test x) (list_any test xs) h).1

module _ (g : Reader) (all : List Symbol) (once : FindsEach all) (few : KeepsNumbers g.problem all) (no_stray : list_any (is_stray_relation g.problem) all ≡ false) where
  -- a part of the table, with the problem's symbols first
  pub record Part (table : List Symbol) : Type 0 where
    pub finds : FindsEach table
    pub within : IsWithinTable table all
    pub problem : KeepsNumbers g.problem table

  made_keeps : (table : List Symbol) (by_formula : Bool) (t : RawTree) → KeepsNumbers table (line_made g.style table by_formula t).reading.symbols
  made_keeps table true t = (grows_formula g.style [] (attributed t).formula (unread table)).symbols
  made_keeps table false t = (grows_formula g.style [] t (unread table)).symbols

  answers_keep : (s : Reading) (us : List ReadAnswer) → KeepsNumbers s.symbols (answers_made g.style s us).reading.symbols
  answers_keep s [] = λ n x e. e
  answers_keep s (a ∷ us) =
      let first : Reading = (terms_of g.style [] s a.terms).reading in
      λ n x e. answers_keep first us n x ((grows_terms g.style [] s a.terms).symbols n x e)

  whole_keeps : (table : List Symbol) (by_formula : Bool) (t : RawTree) (us : List ReadAnswer) → KeepsNumbers table (symbols_behind g.style table by_formula t us)
  whole_keeps table by_formula t us = λ n s e. answers_keep (line_made g.style table by_formula t).reading us n s (made_keeps table by_formula t n s e)

  made_behind : (by_formula : Bool) (t : RawTree) (table : List Symbol) → Part table → (line_made g.style all by_formula t).reading.symbols ≡ all → (line_made g.style all by_formula t).reading.least ≡ None
      → IsReadBehind all moved_formula (line_made g.style all by_formula t) (line_made g.style table by_formula t)
  made_behind true t table part stays sound = read_behind g.style all table (attributed t).formula once part.finds part.within stays sound
  made_behind false t table part stays sound = read_behind g.style all table t once part.finds part.within stays sound

  module _ (last : List Symbol) (to back : Moving) (leads : LeadsTo all last to back) (keeps : KeepsNumbers g.problem last) where
    pub below : (n : ℕ) → n < length g.problem → to n ≡ n
    below n h =
        let s = get_or g.problem n (symbol [] 0 Function) in
        let at = slice_get-get_or g.problem n (symbol [] 0 Function) h in
        leads.same n n s (few n s at) (keeps n s at)

    content_behind : (by_formula : Bool) (t : RawTree) (m other : Made Fol) (content : Content) → IsOwn (length g.problem) content → other.reading ≡ behind other.reading.symbols m.reading → other.tree ≡ moved_formula to m.tree
        → IsContentOf by_formula t m content → IsContentOf by_formula t other (content_with to content)
    content_behind true t m other (Formula f label) own same tree h = (
      sym (formula_stays to (fol_of f.shape) (λ n k. below n (own n k))) ∙ ap (moved_formula to) h.0 ∙ sym tree,
      h.1 ∙ ap names_in (sym same),
      h.2,
    )
      where
        names_in : Reading → List (List ℕ)
        names_in s = names_of_variables s.variables
    content_behind true t m other (Clause c) own same tree h = h
    content_behind false t m other (Formula f label) own same tree h = h
    content_behind false t m other (Clause c) own same tree h =
        ap clause_in tree ∙ clause_in_moved to leads.exchange.equality_stays m.tree ∙ ap (option_map (moved_clause to)) h

  -- a line
  record LineBehind (table : List Symbol) (ts : List Piece) (r : LineRead) : Type 0 where
    after : List Symbol
    part : Part after
    keeps : KeepsNumbers table after
    read : (last : List Symbol) (to back : Moving) → LeadsTo all last to back → KeepsNumbers after last → IsLineRead g.tables g.style g.problem table (lexemes ts) (record { line = line_with to r.line; len = r.len }) after

  line_behind : (table : List Symbol) (ts : List Piece) (r : LineRead) → Part table → IsLineRead g.tables g.style g.problem all (lexemes ts) r all → IsOwn (length g.problem) r.line.content → IsUnnoted r.line → LineBehind table ts r
  line_behind table ts r part is own bare =
      let by_formula = states_formula is.parts.words.first in
      let t = is.parts.content in
      let made = line_made g.style all by_formula t in
      let other = line_made g.style table by_formula t in
      let goal = is_goal_word is.parts.words.first in
      let no_asks = unasked r.line.notes bare.0 in
      let none : is.parts.answers ≡ [] = none_made g.style made.reading is.parts.answers (sym is.line.answers ∙ ap answers_of bare.1) in
      let unmisused : line_misuse g.style g.problem all by_formula t [] ≡ None = subst (λ us. line_misuse g.style g.problem all by_formula t us ≡ None) none is.unmisused in
      let symbols : all ≡ made.reading.symbols = is.symbols ∙ ap (λ us. symbols_behind g.style all by_formula t us) none in
      let strays = meets_none (brings_stray g.problem (length all) made.reading.symbols) TwoKinds (meets (is_unfit by_formula t) UnfitAttribute made.reading) unmisused in
      let unfit = meets_none (is_unfit by_formula t) UnfitAttribute made.reading strays.1 in
      let found = made_behind by_formula t table part (sym symbols) unfit.1 in
      let after = other.reading.symbols in
      let keeps = made_keeps table by_formula t in
      let no_more : brings_stray g.problem (length table) after ≡ false =
      none_behind (is_stray_relation g.problem) (length table) after
      (all_fail (is_stray_relation g.problem) after (λ n s e. let there = found.within n s e in failing (is_stray_relation g.problem) all there.0 s there.1 no_stray)) in
      record {
        after = after;
        part = record { finds = found.finds; within = found.within; problem = λ n s e. keeps n s (part.problem n s e) };
        keeps = keeps;
        read = λ last to back leads later. record {
          parts = is.parts;
          first = is.first;
          shallow = is.shallow;
          unmisused =
              subst (λ us. line_misuse g.style g.problem table by_formula t us ≡ None) (sym none)
              (meets_nothing (brings_stray g.problem (length table) after) (is_unfit by_formula t) other.reading no_more unfit.0 (ap (λ (s : Reading). s.least) found.same ∙ unfit.1));
          line = record {
            number = is.line.number;
            words = is.line.words;
            content = content_behind last to back leads (λ n s e. later n s (keeps n s (part.problem n s e))) by_formula t made other r.line.content own found.same (found.tree last to back leads later) is.line.content;
            asks = no_asks ∙ sym (asks_nothing g.style all table goal t (sym is.line.asks ∙ no_asks));
            answers = ap answers_of bare.1 ∙ ap (λ us. (answers_read_behind g.style table by_formula t us).tree) (sym none);
          };
          symbols = ap (λ us. symbols_behind g.style table by_formula t us) (sym none);
        };
      }

  lines_keep : (table : List Symbol) (ts : List Piece) (ls : List Line) (last : List Symbol) (us : List Piece) → HasLines g table ts ls last us → KeepsNumbers table last
  lines_keep table ts [] last us no_line = λ n s e. e
  lines_keep table ts (l ∷ ls) last us (further_line {mid = mid} r is rest) = λ n s e.
      lines_keep mid (drop r.len ts) ls last us rest n s
      (subst (λ (t : List Symbol). slice_get t n ≡ Some s) (sym is.symbols) (whole_keeps table (states_formula is.parts.words.first) is.parts.content is.parts.answers n s e))

  -- the lines of a block
  record LinesRead (table : List Symbol) (ts us : List Piece) (ls : List Line) : Type 0 where
    after : List Symbol
    part : Part after
    keeps : KeepsNumbers table after
    read : (last : List Symbol) (to back : Moving) → LeadsTo all last to back → KeepsNumbers after last → HasLines g table ts (lines_with to ls) after us

  lines_behind : (before : List Symbol) (ts : List Piece) (ls : List Line) (end : List Symbol) (us : List Piece) → HasLines g before ts ls end us → before ≡ all → end ≡ all
      → (table : List Symbol) → Part table → AreOwn (length g.problem) ls → AreUnnoted ls → LinesRead table ts us ls
  lines_behind before ts [] end us no_line b e table part own bare = record { after = table; part = part; keeps = λ n s h. h; read = λ last to back leads later. no_line }
  lines_behind before ts (l ∷ ls) end us (further_line {mid = mid} r is rest) b e table part own bare =
      let grows : KeepsNumbers all mid = λ n s h.
      subst (λ (t : List Symbol). slice_get t n ≡ Some s) (sym is.symbols) (whole_keeps before (states_formula is.parts.words.first) is.parts.content is.parts.answers n s (subst (λ (t : List Symbol). slice_get t n ≡ Some s) (sym b) h)) in
      let stays : mid ≡ all = between mid end all grows (lines_keep mid (drop r.len ts) ls end us rest) e in
      let here : IsLineRead g.tables g.style g.problem all (lexemes ts) r all =
      subst (λ (t : List Symbol). IsLineRead g.tables g.style g.problem t (lexemes ts) r all) b (subst (λ (t : List Symbol). IsLineRead g.tables g.style g.problem before (lexemes ts) r t) stays is) in
      let one = line_behind table ts r part here own.0 bare.0 in
      let more = lines_behind mid (drop r.len ts) ls end us rest stays e one.after one.part own.1 bare.1 in
      record {
        after = more.after;
        part = more.part;
        keeps = λ n s h. more.keeps n s (one.keeps n s h);
        read = λ last to back leads later.
            further_line (record { line = line_with to r.line; len = r.len }) (one.read last to back leads (λ n s h. later n s (more.keeps n s h))) (more.read last to back leads later);
      }

  -- the lines of all blocks
  pub record ProofsBehind (table : List Symbol) (bs : List TextBlock) (ps : List (List Line)) : Type 0 where
    pub after : List Symbol
    pub part : Part after
    pub keeps : KeepsNumbers table after
    pub read : (last : List Symbol) (to back : Moving) → LeadsTo all last to back → KeepsNumbers after last → HasProofs g table bs (map (lines_with to) ps) after

  proofs_keep : (table : List Symbol) (bs : List TextBlock) (ps : List (List Line)) (last : List Symbol) → HasProofs g table bs ps last → KeepsNumbers table last
  proofs_keep table [] [] last no_block = λ n s e. e
  proofs_keep table [] (ls ∷ ps) last h = elim h [ ]
  proofs_keep table (b ∷ bs) [] last h = elim h [ ]
  proofs_keep table (b ∷ bs) (ls ∷ ps) last (further_block {mid = mid} h rest) = λ n s e.
      proofs_keep mid bs ps last rest n s (lines_keep table h.0 ls mid [] h.2 n s e)

  pub proofs_behind : (before : List Symbol) (bs : List TextBlock) (ps : List (List Line)) (end : List Symbol) → HasProofs g before bs ps end → before ≡ all → end ≡ all
      → (table : List Symbol) → Part table → AllAreOwn (length g.problem) ps → AllAreUnnoted ps → ProofsBehind table bs ps
  proofs_behind before [] [] end no_block b e table part own bare = record { after = table; part = part; keeps = λ n s h. h; read = λ last to back leads later. no_block }
  proofs_behind before [] (ls ∷ ps) end h b e table part own bare = elim h [ ]
  proofs_behind before (x ∷ bs) [] end h b e table part own bare = elim h [ ]
  proofs_behind before (x ∷ bs) (ls ∷ ps) end (further_block {mid = mid} h rest) b e table part own bare =
      let grows : KeepsNumbers all mid = λ n s k. lines_keep before h.0 ls mid [] h.2 n s (subst (λ (t : List Symbol). slice_get t n ≡ Some s) (sym b) k) in
      let stays : mid ≡ all = between mid end all grows (proofs_keep mid bs ps end rest) e in
      let one = lines_behind before h.0 ls mid [] h.2 b stays table part own.0 bare.0 in
      let more = proofs_behind mid bs ps end rest stays e one.after one.part own.1 bare.1 in
      record {
        after = more.after;
        part = more.part;
        keeps = λ n s k. more.keeps n s (one.keeps n s k);
        read = λ last to back leads later.
            further_block (h.0, h.1, one.read last to back leads (λ n s k. later n s (more.keeps n s k))) (more.read last to back leads later);
      }
