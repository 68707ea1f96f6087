-- The printed proofs of a state are printable refutations of the file's problem.
use Rattle.std.proofs.Common.{◌≡◌, ℕ, suc, ◌≤◌, ◌<◌, ◌^◌, Bool, length, List, [], ◌∷◌, ◌++◌, map, refl, sym, ap, ap₂, ◌∙◌, subst}
use Rattle.std.specs.List.{AllByRecursion}
use Rattle.clause_store.specs.Ancestors.{AreAncestors}
use Rattle.clause_store.specs.Lines.{PlainLine, plain_line, plain_trees}
use Rattle.clausify.specs.Input.{clauses_in_table}
use Rattle.derivation.specs.Lines.{InputRow, IsRefutation}
use Rattle.derivation.specs.View.{lines_of}
use Rattle.fol_core.specs.Literals.{ClauseTree, equality}
use Rattle.fol_problem.specs.Stated.{Stated, stated_of}
use Rattle.fol_core.specs.SymbolTable.{Symbol}
use Rattle.ladr_lex.specs.Operators.{OperatorRow}
use Rattle.ladr_problem.specs.declared.read.FileRead.{FileRead}
use Rattle.ladr_prover9.proofs.ProofTexts.{printed}
use Rattle.ladr_prover9.specs.ProofTexts.{head_of_proof, proof_text, IsProofText, AreProofTexts}
use Rattle.ladr_prover9.specs.Quests.{Quest, quest_in, quest_lines}
use Rattle.ladr_prover9.specs.Shown.{AreRefutingLines}
use Rattle.derivation_laws.specs.Signatures.{LinesAreIn, LinesStayIn}
use Rattle.search_lines.specs.Shapes.{IsFitLine}
use Rattle.printed_proofs.specs.Files.{full_table, may_be_used, IsClauseOfFile, CanPrintFile}
use Rattle.printed_proofs.specs.Refutations.{AreAllRefuting, lines_printed, HaveCountedLines}
use Rattle.printed_proofs.specs.Printed.{PrintedProof, ArePrintableProofs, proofs_text}
use Rattle.proof_lines.specs.ContentTokens.{LineTables}
use Rattle.proof_print.specs.LineTexts.{proof_bytes}
use Rattle.proof_print.specs.Names.{AreOfClauses}
use Rattle.proof_print.specs.Reread.{row_tables}
use Rattle.prover_steps.proofs.Lists.{all_kept}
use Rattle.prover_steps.specs.Searching.{FoundProof, SearchState}
use Rattle.search_lines.specs.Rows.{IsFitRow, AreFitRows}
use Rattle.accepted_output.proofs.Lines.{trees_same, IsFitPlain, state_fit, lines_put_in, rows_shallow, rows_in, lines_printable}
use Rattle.accepted_output.proofs.Operators.{tables_same}
use Rattle.accepted_output.proofs.Signatures.{signature_of}
use Rattle.accepted_output.proofs.Skolems.{rows_same}
use Rattle.accepted_output.specs.Accepted.{AreLinesFound}

module _ (bytes : List ℕ) (f : FileRead) (clauses : List OperatorRow) (are : AreOfClauses f.problem.options.prolog_style_variables f.operators clauses) (can : CanPrintFile f clauses)
    (few : length (full_table f) ≤ equality) (rows_fit : AreFitRows f (clauses_in_table f.problem.symbols (stated_of f.problem)))
    (fit_lines : (g : FileRead) (c : ClauseTree) → IsFitRow g c → IsClauseOfFile g c) (stay : LinesStayIn) (t : SearchState) (made : AllByRecursion IsFitLine t.lines) where
  abbrev quest : Quest
  quest = quest_in bytes f

  abbrev p : Stated
  p = stated_of f.problem

  abbrev prolog : Bool
  prolog = f.problem.options.prolog_style_variables

  abbrev table : List Symbol
  table = full_table f

  abbrev tables : LineTables
  tables = row_tables f.operators clauses

  abbrev all : List PlainLine
  all = quest_lines quest t

  -- the lines that each proof rests on are a refutation
  abbrev pub AllRefute : List FoundProof → Type 0
  AllRefute ps = AllByRecursion (λ (r : FoundProof). (lines : List PlainLine) → AreAncestors all r.line lines → AreRefutingLines quest.search lines) ps

  all_fit : AllByRecursion (IsFitPlain f.problem.inputs.items) all
  all_fit = state_fit f.problem.inputs.items p.formulas (clauses_in_table p.symbols p) t (rows_shallow f (clauses_in_table p.symbols p) rows_fit) made

  -- one of them
  record IsPrinted (k : ℕ) (r : FoundProof) (text : List ℕ) : Type 0 where
    proof : PrintedProof
    printable : ArePrintableProofs tables prolog f.problem.symbols table (proof ∷ [])
    refute : IsRefutation p.formulas (clauses_in_table table p) (lines_of proof.lines)
    counted : length proof.lines < 2 ^ 63
    found : AreAncestors all r.line (map plain_line proof.lines)
    is : proof_bytes tables table prolog proof.heads proof.lines ≡ text

  one_printed : (k : ℕ) (r : FoundProof) (text : List ℕ) → ((lines : List PlainLine) → AreAncestors all r.line lines → AreRefutingLines quest.search lines) → IsProofText quest all k r text → IsPrinted k r text
  one_printed k r text refutes h =
      let had = h.had.had in
      let same = h.had.are in
      let refute : IsRefutation p.formulas (clauses_in_table p.symbols p) (plain_trees (map plain_line had)) =
      subst (λ (ls : List PlainLine). IsRefutation p.formulas (clauses_in_table p.symbols p) (plain_trees ls)) (sym same) (refutes h.lines h.ancestors) in
      let fit : AllByRecursion (IsFitPlain f.problem.inputs.items) (map plain_line had) =
      subst (AllByRecursion (IsFitPlain f.problem.inputs.items)) (sym (same ∙ h.ancestors.lines)) (all_kept (IsFitPlain f.problem.inputs.items) (λ l. h.ancestors.among l.number) all all_fit) in
      let inside : LinesAreIn (signature_of table (may_be_used f)) (plain_trees (map plain_line had)) =
      stay (signature_of table (may_be_used f)) p.formulas (clauses_in_table p.symbols p) (plain_trees (map plain_line had)) (rows_in f few (clauses_in_table p.symbols p) rows_fit)
      (lines_put_in f.problem.inputs.items (signature_of table (may_be_used f)) (map plain_line had) fit) refute.0 in
      record {
        proof = record { heads = head_of_proof k r h.lines; lines = had };
        printable = (h.had.head, lines_printable f few clauses can fit_lines had h.had.bounded h.had.unnoted fit inside, tt);
        refute = subst (λ (rows : List InputRow). IsRefutation p.formulas rows (lines_of had)) (rows_same p) (subst (IsRefutation p.formulas (clauses_in_table p.symbols p)) (trees_same had) refute);
        counted = h.had.counted;
        found = subst (AreAncestors all r.line) (sym same) h.ancestors;
        is = printed quest tables table prolog (head_of_proof k r h.lines) had k r (tables_same prolog f.operators clauses are) refl refl (ap (head_of_proof k r) (sym same))
            ∙ ap (λ (ls : List PlainLine). proof_text quest (head_of_proof k r ls) ls) same ∙ sym h.text_is;
      }

  -- all of them
  pub record ArePrinted (rs : List FoundProof) (text : List ℕ) : Type 0 where
    pub proofs : List PrintedProof
    pub printable : ArePrintableProofs tables prolog f.problem.symbols table proofs
    pub refute : AreAllRefuting p table (lines_printed proofs)
    pub counted : HaveCountedLines (lines_printed proofs)
    pub many : length proofs ≡ length rs
    pub found : AreLinesFound all rs (lines_printed proofs)
    pub is : proofs_text tables table prolog proofs ≡ text

  pub all_printed : (k : ℕ) (rs : List FoundProof) (text : List ℕ) → AllRefute rs → AreProofTexts quest all k rs text → ArePrinted rs text
  all_printed k [] text refutes h = record { proofs = []; printable = tt; refute = tt; counted = tt; many = refl; found = tt; is = sym h }
  all_printed k (r ∷ rs) text refutes h =
      let one = one_printed k r h.0 refutes.0 h.2 in
      let rest = all_printed (suc k) rs h.1 refutes.1 h.3 in
      record {
        proofs = one.proof ∷ rest.proofs;
        printable = (one.printable.0, one.printable.1, rest.printable);
        refute = (one.refute, rest.refute);
        counted = (one.counted, rest.counted);
        many = ap suc rest.many;
        found = (one.found, rest.found);
        is = ap₂ (λ (u v : List ℕ). u ++ v) one.is rest.is ∙ sym h.4;
      }
