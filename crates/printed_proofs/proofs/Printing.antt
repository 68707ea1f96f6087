-- Printed refutations are read as refutations.
use Rattle.std.proofs.Common.{◌≡◌, ℕ, suc, ◌-◌, ◌<◌, ◌^◌, Bool, false, List, [], ◌∷◌, ◌++◌, length, map, None, refl, sym, ap, ap₂, ◌∙◌, subst, arith}
use Rattle.std.specs.Global.{Vec}
use Rattle.std.specs.List.{AllByRecursion, list_any}
use Rattle.std.proofs.lemmas.List.{length-map}
use Rattle.clausify.specs.Input.{clauses_in_table}
use Rattle.derivation.specs.Lines.{FirstWord, ContentTree, formula, LineTree, IsRefutation}
use Rattle.derivation.specs.View.{first_word_of, content_of, line_tree, lines_of}
use Rattle.derivation.specs.declared.line.Content.{Content}
use Rattle.derivation.specs.declared.line.Content.TheVariants.{Formula, Clause}
use Rattle.derivation.specs.declared.line.Derivation.{Derivation}
use Rattle.derivation.specs.declared.line.Line.{Line}
use Rattle.derivation.specs.declared.words.First.{First}
use Rattle.derivation.specs.declared.words.First.TheVariants as first
use Rattle.fol_core.specs.FormulaView.{fol_of}
use Rattle.fol_problem.specs.Stated.{Stated, said, stated, stated_of, all_said, AreWellFormed}
use Rattle.fol_core.specs.SymbolTable.{Symbol, FindsEach, KeepsNumbers}
use Rattle.ladr_formulas.specs.declared.styles.Mode.{Mode}
use Rattle.ladr_formulas.specs.declared.styles.Mode.TheVariants.{Prover}
use Rattle.ladr_lex.specs.Operators.{OperatorRow}
use Rattle.ladr_problem.proofs.Good.{said_same}
use Rattle.ladr_problem.specs.File.{Says, problem}
use Rattle.ladr_problem.specs.Proper.{IsProper}
use Rattle.ladr_problem.specs.Sofar.{Sofar, said_in, stated_in}
use Rattle.ladr_problem.specs.Whole.{IsOf}
use Rattle.ladr_problem.specs.declared.read.FileRead.{FileRead}
use Rattle.printed_proofs.specs.Refutations.{content_with, line_with, lines_with, AreAllRefuting, lines_printed, HaveCountedLines, ArePrintableRefutations, whole_text, lines_had, ReadsRefutations}
use Rattle.printed_proofs.proofs.LinesBehind.{Part, proofs_behind, below}
use Rattle.printed_proofs.proofs.OwnLines.{IsOwn, AreOwn, AllAreOwn, lines_own}
use Rattle.printed_proofs.proofs.Unnoted.{proofs_unnoted}
use Rattle.printed_proofs.specs.Printed.{PrintedProof, ArePrintableProofs, HoldsNoProof, proofs_text}
use Rattle.printed_proofs.proofs.PrintedBlocks.{framed, proofs_read}
use Rattle.proof_lines.specs.ContentTokens.{LineTables, line_tables}
use Rattle.proof_lines.specs.Strays.{is_stray_relation}
use Rattle.proof_print.specs.LineTexts.{frame_text}
use Rattle.proof_print.specs.Names.{AreOfClauses}
use Rattle.proof_print.specs.Reread.{row_tables, ArePrintable}
use Rattle.proof_words.specs.Written.{written_first}
use Rattle.words_print.specs.Sayable.{IsSayableFirst}
use Rattle.derivation_laws.specs.Moved.{Moving, moved_content, moved_first, moved_line, moved_lines}
use Rattle.derivation_laws.specs.Tables.{IsTableOf, KeepsRefutations}
use Rattle.derivation_laws.proofs.MovedTables.{formula_stays, refutation_read}
use Rattle.proof_text.specs.Proofs.{Reader, HasProofs}
use Rattle.proof_text.specs.Refused.{reader_of}
use Rattle.proof_text.specs.declared.text.ProofRead.{ProofRead}

-- the operators of clauses, by their rows
tables_same : (prolog : Bool) (formulas clauses : List OperatorRow) → AreOfClauses prolog formulas clauses → row_tables formulas clauses ≡ line_tables prolog formulas
tables_same prolog formulas clauses h = λ i. record { formulas = (row_tables formulas clauses).formulas; clauses = record (row_tables formulas clauses).clauses { op = λ name. h name i } }

-- first words that can be said put no terms in
abbrev AreSaid : List Line → Type 0
AreSaid ls = AllByRecursion (λ (l : Line). IsSayableFirst (written_first l.just.first)) ls

lines_said : (g : LineTables) (prolog : Bool) (known table : List Symbol) (ls : List Line) → ArePrintable g prolog known table ls → AreSaid ls
lines_said g prolog known table [] h = tt
lines_said g prolog known table (l ∷ ls) h = (h.0.words.first, lines_said g prolog known table ls h.1)

proofs_said : (g : LineTables) (prolog : Bool) (known table : List Symbol) (ps : List PrintedProof) → ArePrintableProofs g prolog known table ps → AllByRecursion AreSaid (lines_printed ps)
proofs_said g prolog known table [] h = tt
proofs_said g prolog known table (p ∷ ps) h = (lines_said g prolog known table p.lines h.1, proofs_said g prolog known table ps h.2)

first_stays : (to : Moving) (w : First) → IsSayableFirst (written_first w) → first_word_of w ≡ moved_first to (first_word_of w)
first_stays to first.Assumption h = refl
first_stays to first.Goal h = refl
first_stays to (first.Clausify n) h = refl
first_stays to (first.Deny n) h = refl
first_stays to (first.Copy n) h = refl
first_stays to (first.BackRewrite n) h = refl
first_stays to (first.BackUnitDel n) h = refl
first_stays to (first.Resolve n s) h = refl
first_stays to (first.Hyper n ss) h = refl
first_stays to (first.Ur n ss) h = refl
first_stays to (first.Factor n a b) h = refl
first_stays to (first.Para p) h = refl
first_stays to (first.XxRes n a) h = refl
first_stays to (first.Instantiate n s) h = absurd h

-- lines of the code are moved as their trees are, where formulas stay
module _ (to : Moving) (size : ℕ) (stays : (n : ℕ) → n < size → to n ≡ n) where
  content_same : (c : Content) → IsOwn size c → content_of (content_with to c) ≡ moved_content to (content_of c)
  content_same (Formula f label) own = ap formula (sym (formula_stays to (fol_of f.shape) (λ n k. stays n (own n k))))
  content_same (Clause c) own = refl

  line_same : (l : Line) → IsOwn size l.content → IsSayableFirst (written_first l.just.first) → line_tree (line_with to l) ≡ moved_line to (line_tree l)
  line_same l own said = ap₂ (λ (c : ContentTree) (w : FirstWord). record (line_tree l) { content = c; first = w }) (content_same l.content own) (first_stays to l.just.first said)

  lines_same : (ls : List Line) → AreOwn size ls → AreSaid ls → lines_of (lines_with to ls) ≡ moved_lines to (lines_of ls)
  lines_same [] own said = refl
  lines_same (l ∷ ls) own said = ap₂ (λ (k : LineTree) (ks : List LineTree). k ∷ ks) (line_same l own.0 said.0) (lines_same ls own.1 said.1)

-- the formulas of refutations are the problem's
all_own : (g : Reader) (p : Stated) (all : List Symbol) → g.problem ≡ p.symbols → AreWellFormed (length p.symbols) p.formulas → (once : FindsEach all) (few : KeepsNumbers g.problem all) (no_stray : list_any (is_stray_relation g.problem) all ≡ false)
    → (ps : List (List Line)) → AreAllRefuting p all ps → AllAreOwn (length g.problem) ps
all_own g p all is well once few no_stray [] h = tt
all_own g p all is well once few no_stray (ls ∷ ps) h = (
  subst (λ (t : List Symbol). AreOwn (length t) ls) (sym is) (lines_own (length p.symbols) p.formulas well (clauses_in_table all p) [] None ls h.0.0),
  all_own g p all is well once few no_stray ps h.1,
)

-- so refutations stay refutations
all_refute : (p : Stated) (all table : List Symbol) (to : Moving) (size : ℕ) → ((n : ℕ) → n < size → to n ≡ n) → KeepsRefutations p all table to → (ps : List (List Line)) → AllAreOwn size ps
    → AllByRecursion AreSaid ps → AreAllRefuting p all ps → AreAllRefuting p table (map (lines_with to) ps)
all_refute p all table to size stays keeps [] own said h = tt
all_refute p all table to size stays keeps (ls ∷ ps) own said h = (
  subst (IsRefutation p.formulas (clauses_in_table table p)) (sym (lines_same to size stays ls own.0 said.0)) (keeps (lines_of ls) h.0),
  all_refute p all table to size stays keeps ps own.1 said.1 h.1,
)

same_said : (s : Sofar) (f : FileRead) → IsOf s f → all_said f.problem.inputs.items ≡ said_in s
same_said s f of = sym (said_same f.problem.inputs.items) ∙ ap (map (λ x. said x.0 x.1.formula)) of.formulas

pub same_stated : (s : Sofar) (f : FileRead) → IsOf s f → stated_in s ≡ stated_of f.problem
same_stated s f of = sym (λ i. stated (of.symbols i) (same_said s f of i))

-- a vector of the machine with these items, where there is some vector
with_items : {A B : Type 0} (v : Vec A) (xs : List B) → length xs < 2 ^ 63 → Vec B
with_items v xs h = record { ptr = v.ptr; len = length xs; cap = length xs; alloc = v.alloc; items = xs; ok = (refl, omega arith); small = h }

items_kept : {A B : Type 0} (v : Vec A) (xs : List B) (h : length xs < 2 ^ 63) → (with_items v xs h).items ≡ xs
unfolding with_items
items_kept v xs h = refl

-- proofs of the code with these lines
derivations : {A : Type 0} (v : Vec A) (ps : List (List Line)) → HaveCountedLines ps → (ds : List Derivation) × (map (λ (d : Derivation). d.lines.items) ds ≡ ps) × (length ds ≡ length ps)
derivations v [] h = ([], refl, refl)
derivations v (ls ∷ ps) h =
    let rest = derivations v ps h.1 in (
      record { lines = with_items v ls h.0 } ∷ rest.0,
      ap₂ (λ (x : List Line) (xs : List (List Line)). x ∷ xs) (items_kept v ls h.0) rest.1,
      ap suc rest.2,
    )

moved_count : (to : Moving) (ps : List (List Line)) → HaveCountedLines ps → HaveCountedLines (map (lines_with to) ps)
moved_count to [] h = tt
moved_count to (ls ∷ ps) h = (subst (λ (n : ℕ). n < 2 ^ 63) (sym (length-map ls (line_with to))) h.0, moved_count to ps h.1)

module _ (proper : (m : Mode) (bytes : List ℕ) (s : Sofar) → Says m bytes (problem s) → IsProper (stated_in s) s.settings.options) where
  pub refutations_read : (input : List ℕ) (s : Sofar) (f : FileRead) (clauses : List OperatorRow) (table : List Symbol) (ps : List PrintedProof) (tail : List ℕ) → length input < 2 ^ 64
      → Says Prover input (problem s) → IsOf s f → ArePrintableRefutations f clauses table ps → HoldsNoProof tail → ReadsRefutations (whole_text input f clauses table ps tail) f table ps
  refutations_read input s f clauses table ps tail short says is_of h none =
      let prolog = f.problem.options.prolog_style_variables in
      let p = stated_of f.problem in
      let g = reader_of f in
      let rest = proofs_text (row_tables f.operators clauses) table prolog ps ++ tail in
      let bytes = frame_text input ++ rest in
      let is_proper = subst (λ (q : Stated). IsProper q s.settings.options) (same_stated s f is_of) (proper Prover input s says) in
      let once = h.can.skolems.is_table.finds in
      let few_table = h.can.skolems.is_table.keeps in
      let printed = proofs_read f.operators clauses prolog f.problem.symbols table ps tail (length bytes - length rest) h.can.lawful h.can.can h.printable none in
      let found : HasProofs g table printed.blocks (lines_printed ps) table =
      subst (λ (t : LineTables). HasProofs (record g { tables = t }) table printed.blocks (lines_printed ps) table) (tables_same prolog f.operators clauses h.can.of_clauses) printed.proofs in
      let own = all_own g p table refl is_proper.well_formed once few_table h.can.no_stray (lines_printed ps) h.refute in
      let bare = proofs_unnoted (row_tables f.operators clauses) prolog f.problem.symbols table ps h.printable in
      let part : Part g table once few_table h.can.no_stray f.problem.symbols = record {
        finds = is_proper.tellable.different;
        within = λ n x e. (n, few_table n x e);
        problem = λ n x e. e;
      } in
      let again = proofs_behind g table once few_table h.can.no_stray table printed.blocks (lines_printed ps) table found refl refl f.problem.symbols part own bare in
      let is_table : IsTableOf p again.after = record { finds = again.part.finds; keeps = again.part.problem } in
      let moved = refutation_read p table again.after is_proper.well_formed h.can.skolems is_table again.part.within in
      let to = moved.0 in
      let lines = map (lines_with to) (lines_printed ps) in
      let made = derivations f.problem.inputs lines (moved_count to (lines_printed ps) h.counted.1) in
      let few : length made.0 < 2 ^ 63 = subst (λ (n : ℕ). n < 2 ^ 63) (sym (made.2 ∙ length-map (lines_printed ps) (lines_with to))) h.counted.0 in
      let read : ProofRead = record {
        problem = f.problem;
        operators = record { formulas = f.operators; clauses = clauses };
        symbols = again.after;
        proofs = with_items f.problem.inputs made.0 few;
      } in
      let are : lines_had read ≡ lines = ap (map (λ (d : Derivation). d.lines.items)) (items_kept f.problem.inputs made.0 few) ∙ made.1 in
      let refute = all_refute p table again.after to (length f.problem.symbols)
      (below g table once few_table h.can.no_stray again.after to moved.1 moved.2 again.part.problem) moved.3 (lines_printed ps) own
      (proofs_said (row_tables f.operators clauses) prolog f.problem.symbols table ps h.printable) h.refute in
      record {
        read = read;
        is_read = record {
          file = f;
          blocks = printed.blocks;
          has_problem = record { input = input; rest = rest; framed = framed input rest short; sofar = s; says = says; is_of = is_of; blocks = printed.found };
          problem_is = refl;
          operators_are = tables_same prolog f.operators clauses h.can.of_clauses;
          closed = printed.all_closed;
          proofs_are = subst (λ (qs : List (List Line)). HasProofs g f.problem.symbols printed.blocks qs again.after) (sym are) (again.read again.after to moved.1 moved.2 (λ n x e. e));
        };
        problem_is = refl;
        keeps = again.part.problem;
        to = to;
        back = moved.1;
        leads = moved.2;
        proofs_are = are;
        refute = subst (AreAllRefuting p again.after) (sym are) refute;
      }
