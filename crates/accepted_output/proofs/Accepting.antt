-- A check accepts what a run writes that has found proofs.
use Rattle.std.proofs.Common.{◌≡◌, inl, inr, append-nil, ℕ, ◌≤◌, ◌<◌, ◌^◌, Bool, true, false, length, List, [], ◌∷◌, ◌++◌, Option, refl, sym, ap, ◌∙◌, subst, append_assoc, arith}
use Rattle.std.specs.Prelude.{IsTrue}
use Rattle.std.proofs.lemmas.Bool.{true≢false, false≢true}
use Rattle.std.proofs.lemmas.List.{append_cancel_left, length-map}
use Rattle.clause_store.specs.Lines.{PlainLine}
use Rattle.clausify.specs.Input.{clauses_in_table}
use Rattle.fol_core.specs.Literals.{ClauseTree, equality}
use Rattle.fol_core.specs.SkolemAxioms.{SkolemAxiom}
use Rattle.fol_problem.specs.Stated.{Stated, stated_of}
use Rattle.fol_core.specs.SymbolTable.{Symbol}
use Rattle.ladr_formulas.specs.declared.styles.Mode.{Mode}
use Rattle.ladr_formulas.specs.declared.styles.Mode.TheVariants.{Prover}
use Rattle.ladr_intake.specs.Command.{MayStand}
use Rattle.ladr_intake.specs.Refusals.{refuses}
use Rattle.ladr_io.specs.Streams.{Inflow}
use Rattle.ladr_io.specs.Times.{Times}
use Rattle.ladr_lex.specs.Operators.{OperatorRow, are_lawful}
use Rattle.ladr_lex.specs.declared.limits.TheConstants.{MOST_BYTES, MOST_SYMBOLS}
use Rattle.ladr_print.specs.StatesAs.{KeepsFixed}
use Rattle.ladr_problem.specs.File.{Says, Outcome, problem}
use Rattle.ladr_problem.specs.File as file
use Rattle.ladr_problem.specs.Proper.{IsProper}
use Rattle.ladr_problem.specs.Sofar.{Sofar, stated_in}
use Rattle.ladr_problem.specs.Whole.{IsOf}
use Rattle.ladr_problem.specs.declared.read.FileRead.{FileRead}
use Rattle.ladr_prover9.proofs.Reading.{stated_same, quest_same}
use Rattle.ladr_prover9.proofs.Showing.{IsOwnEnd}
use Rattle.ladr_prover9.proofs.StandingProofs.{first}
use Rattle.ladr_prover9.specs.Askings.{IsSoundQuest}
use Rattle.ladr_prover9.specs.Finding.{KeepsLimits, Proves, Proving}
use Rattle.ladr_prover9.specs.Lines.{proved_line, closing_lines}
use Rattle.ladr_prover9.specs.ProofTexts.{AreProofTexts, IsStateText}
use Rattle.ladr_prover9.specs.Quests.{Quest, quest_by, quest_in, quest_seconds, asks, quest_lines, IsHad}
use Rattle.ladr_prover9.specs.Story.{ProofsCome}
use Rattle.ladr_prover9.specs.declared.ends.ProverEnd.{ProverEnd}
use Rattle.ladr_prover9.specs.declared.ends.ProverEnd.TheVariants.{MaxProofs, SosEmpty, MaxMegs, MaxSeconds, MaxGiven, MaxKept, ClauseLimit}
use Rattle.derivation_laws.specs.Signatures.{LinesStayIn}
use Rattle.search_lines.specs.Shapes.{MadeLinesAreFit}
use Rattle.printed_proofs.specs.Accepted.{HasFewClauses, AreAccepted}
use Rattle.printed_proofs.specs.Files.{full_table, HasFewSymbols, IsClauseOfFile, CanPrintFile}
use Rattle.printed_proofs.specs.Refutations.{AreCounted, lines_printed, ArePrintableRefutations, whole_text}
use Rattle.printed_proofs.specs.Printed.{PrintedProof, HoldsNoProof}
use Rattle.proof_print.specs.LineTexts.{proof_banner, frame_text}
use Rattle.proof_text.specs.Blocks.{nothing}
use Rattle.proof_print.specs.Names.{AreOfClauses}
use Rattle.prover_proofs.specs.ProofLaws.{FoundProofsRefute}
use Rattle.prover_setup.specs.SearchInputs.{setting_in, start_in, rows_in, IsReachedIn}
use Rattle.prover_steps.specs.Ending.{StartIsWithinLimits, ReachedAreWithinLimits}
use Rattle.prover_steps.specs.Searching.{FoundProof, SearchState, is_nil}
use Rattle.search_lines.specs.Rows.{IsFitRow, AreFitRows}
use Rattle.accepted_output.proofs.Closing.{closing_none, none_told}
use Rattle.accepted_output.proofs.Operators.{clause_rows, of_clauses, rows_lawful}
use Rattle.accepted_output.proofs.Proofs.{ArePrinted, all_printed}
use Rattle.accepted_output.proofs.Skolems.{witnesses_same}
use Rattle.accepted_output.specs.Accepted.{HasPrinted, AreAcceptedAs, AreAllAccepted, TellsProved, OutputsAreAccepted, HasPrintedSoFar, TellsProof, ProofsSoFarAreAccepted}

-- a problem is no longer than a file may be
short_file : (m : Mode) (bytes : List ℕ) (o : Outcome) (s : Sofar) → Says m bytes o → o ≡ problem s → length bytes ≤ MOST_BYTES
short_file m bytes _ s (file.too_long many) e = absurd cc
short_file m bytes _ s (file.items tokens inside cut f) e = inside

some_proof : (ps : List FoundProof) → is_nil ps ≡ false → 0 < length ps
some_proof [] e = absurd (true≢false e)
some_proof (p ∷ ps) e = omega arith

none_printed : (q : Quest) (all : List PlainLine) (k : ℕ) (ps : List FoundProof) (text : List ℕ) → AreProofTexts q all k ps text → is_nil ps ≡ true → text ≡ []
none_printed q all k [] text h e = h
none_printed q all k (p ∷ ps) text h e = absurd (false≢true e)

-- no banner stands in nothing
no_banner : (before after : List ℕ) → [] ≡ before ++ (proof_banner ++ after) → ⊥
no_banner [] after e = let same : 0 ≡ 61 = ap first e in absurd (omega (arith, same))
no_banner (b ∷ before) after e = absurd cc

none_written : (input text : List ℕ) → text ≡ [] → TellsProof input text → ⊥
none_written input text e told = let same : 0 ≡ 37 = ap first (sym e ∙ told.3) in absurd (omega (arith, same))

module _ (once : (m : Mode) (bytes : List ℕ) (o p : Outcome) → Says m bytes o → Says m bytes p → o ≡ p)
    (proper : (m : Mode) (bytes : List ℕ) (s : Sofar) → Says m bytes (problem s) → IsProper (stated_in s) s.settings.options)
    (operators : (m : Mode) (bytes : List ℕ) (s : Sofar) → Says m bytes (problem s) → IsTrue (are_lawful s.settings.operators) × KeepsFixed s.settings.operators)
    (sound : (bytes : List ℕ) (q : Quest) → asks bytes q → IsSoundQuest q)
    (found : FoundProofsRefute)
    (printable : (input : List ℕ) (s : Sofar) (f : FileRead) (clauses : List OperatorRow) → Says Prover input (problem s) → IsOf s f → IsTrue (are_lawful clauses)
    → AreOfClauses f.problem.options.prolog_style_variables f.operators clauses → HasFewSymbols f → CanPrintFile f clauses)
    (rows : (bytes : List ℕ) (s : Sofar) (f : FileRead) → Says Prover bytes (problem s) → IsOf s f → HasFewSymbols f → AreFitRows f (clauses_in_table f.problem.symbols (stated_of f.problem)))
    (fit_lines : (g : FileRead) (c : ClauseTree) → IsFitRow g c → IsClauseOfFile g c)
    (stay : LinesStayIn) (made : MadeLinesAreFit)
    (check : (input : List ℕ) (s : Sofar) (f : FileRead) (clauses : List OperatorRow) (table : List Symbol) (ps : List PrintedProof) (tail : List ℕ) → length input < 2 ^ 64
    → Says Prover input (problem s) → IsOf s f → ArePrintableRefutations f clauses table ps → HasFewClauses f table → HoldsNoProof tail → 0 < length ps → AreAccepted (whole_text input f clauses table ps tail) f table ps) where
  -- bytes ask for one thing
  abbrev problem_of : Sofar → Outcome → Sofar
  problem_of s (problem t) = t
  problem_of s o = s

  asks_once : (bytes : List ℕ) (x q : Quest) → asks bytes x → asks bytes q → x ≡ q
  asks_once bytes x q a b = sym a.2 ∙ ap (λ (o : Outcome). quest_by bytes (problem_of a.0 o)) (once Prover bytes (problem a.0) (problem b.0) a.1 b.1) ∙ b.2

  -- of a file that the code has
  module _ (bytes : List ℕ) (s : Sofar) (f : FileRead) (says : Says Prover bytes (problem s)) (is_of : IsOf s f) where
    abbrev quest : Quest
    quest = quest_in bytes f

    abbrev p : Stated
    p = stated_of f.problem

    abbrev prolog : Bool
    prolog = f.problem.options.prolog_style_variables

    abbrev clauses : List OperatorRow
    clauses = clause_rows prolog f.operators

    lawful : IsTrue (are_lawful clauses)
    lawful = rows_lawful prolog f.operators (subst (λ (rows : List OperatorRow). IsTrue (are_lawful rows)) (sym is_of.operators) (operators Prover bytes s says).0)

    few_symbols : KeepsLimits quest → HasFewSymbols f
    few_symbols within =
        let is = subst (λ (q : Stated). IsProper q s.settings.options) (stated_same s f is_of) (proper Prover bytes s says) in
        let many : length f.problem.symbols ≤ MOST_SYMBOLS = is.few in
        omega (arith, many, within.witnesses)

    short : length bytes < 2 ^ 64
    short = omega (arith, short_file Prover bytes (problem s) s says refl)

    asked : asks bytes quest
    asked = (s, says, quest_same s f is_of bytes)

    -- the text of a state, with what holds no proof behind it
    module _ (within : KeepsLimits quest) (t : SearchState) (reached : IsReachedIn quest.search t) (front : List ℕ) (prints : IsStateText quest t front) (few_proofs : length t.proofs < 2 ^ 63) (tail : List ℕ) (tail_none : HoldsNoProof tail) where
      few : HasFewSymbols f
      few = few_symbols within

      can : CanPrintFile f clauses
      can = printable bytes s f clauses says is_of lawful (of_clauses prolog f.operators) few

      printed : ArePrinted bytes f clauses (of_clauses prolog f.operators) can can.can.skolems.few (rows bytes s f says is_of few) fit_lines stay t
          (made (setting_in quest.search) p.formulas (rows_in quest.search) t reached) t.proofs prints.proofs
      printed =
          let is = sound bytes quest asked in
          all_printed bytes f clauses (of_clauses prolog f.operators) can can.can.skolems.few (rows bytes s f says is_of few) fit_lines stay t
          (made (setting_in quest.search) p.formulas (rows_in quest.search) t reached) 1 t.proofs prints.proofs
          (found quest.formulas p.formulas (rows_in quest.search) (setting_in quest.search) t is.say is.keeps is.rows reached) prints.are

      counted : AreCounted (lines_printed printed.proofs)
      counted = (subst (λ (n : ℕ). n < 2 ^ 63) (sym (length-map printed.proofs (λ (q : PrintedProof). q.lines) ∙ printed.many)) few_proofs, printed.counted)

      limits : HasFewClauses f (full_table f)
      limits = record { clauses = within.clauses; skolems = subst (λ (ws : List SkolemAxiom). length ws ≤ equality) (witnesses_same p) (let most = within.witnesses in omega (arith, most)) }

      checked : 0 < length t.proofs → AreAccepted (whole_text bytes f clauses (full_table f) printed.proofs tail) f (full_table f) printed.proofs
      checked some = check bytes s f clauses (full_table f) printed.proofs tail short says is_of
          (record { can = can.can; printable = printed.printable; refute = printed.refute; counted = counted }) limits tail_none (subst (λ (n : ℕ). 0 < n) (sym printed.many) some)

      whole_is : front ++ tail ≡ whole_text bytes f clauses (full_table f) printed.proofs tail
      whole_is =
          ap (λ (u : List ℕ). u ++ tail) prints.text_is ∙ append_assoc (frame_text bytes) prints.proofs tail
          ∙ ap (λ (u : List ℕ). frame_text bytes ++ (u ++ tail)) (sym printed.is)

      accepted_as : (Is : Quest → SearchState → List ℕ → Type 0) → Is quest t (front ++ tail) → 0 < length t.proofs → (n : ℕ) × AreAcceptedAs Is bytes (front ++ tail) n
      accepted_as Is is some =
          let good = checked some in (
            length printed.proofs,
            subst (λ (u : List ℕ). AreAcceptedAs Is bytes u (length printed.proofs)) (sym whole_is)
                (record {
                  file = f;
                  asked = asked;
                  asked_alone = λ q h. asks_once bytes quest q asked h;
                  state = t;
                  printed = subst (Is quest t) whole_is is;
                  many = sym printed.many;
                  proofs = printed.proofs;
                  found = printed.found;
                  reading = good.reading;
                  alone = good.alone;
                  outcome = good.outcome;
                }),
          )

    module _ (within : KeepsLimits quest) (seconds : Option ℕ) (times : Times) (end : ProverEnd) (mine : IsOwnEnd end) (t : SearchState) (front : List ℕ) (come : ProofsCome quest seconds times end t front) where
      accepted : 0 < length t.proofs → (n : ℕ) × AreAllAccepted bytes (front ++ closing_lines t end) n
      accepted some =
          accepted_as within t come.reached front come.prints come.counted (closing_lines t end) (closing_none t end mine) HasPrinted
          (record { seconds = seconds; times = times; end = end; front = front; comes = come; text_is = refl }) some

      told : TellsProved bytes (front ++ closing_lines t end) → is_nil t.proofs ≡ true → ⊥
      told h none =
          let empty = none_printed quest (quest_lines quest t) 1 t.proofs come.prints.proofs come.prints.are none in
          none_told t end mine h.0 h.1 h.2
          (append_cancel_left (frame_text bytes) (closing_lines t end) (h.0 ++ (proved_line ++ h.1))
          (ap (λ (u : List ℕ). frame_text bytes ++ (u ++ closing_lines t end)) (sym empty) ∙ sym (append_assoc (frame_text bytes) come.prints.proofs (closing_lines t end))
          ∙ ap (λ (u : List ℕ). u ++ closing_lines t end) (sym come.prints.text_is) ∙ h.3)) none

      accepted_told : TellsProved bytes (front ++ closing_lines t end) → (n : ℕ) × AreAllAccepted bytes (front ++ closing_lines t end) n
      accepted_told h = by (is_nil t.proofs) refl
        where
          by : (b : Bool) → is_nil t.proofs ≡ b → (n : ℕ) × AreAllAccepted bytes (front ++ closing_lines t end) n
          by true e = absurd (told h e)
          by false e = accepted (some_proof t.proofs e)

    -- before the end, in a state that is reached
    module _ (within : KeepsLimits quest) (t : SearchState) (reached : IsReachedIn quest.search t) (text : List ℕ) (prints : IsStateText quest t text) (few_proofs : length t.proofs < 2 ^ 63) where
      accepted_so_far : 0 < length t.proofs → (n : ℕ) × AreAcceptedAs HasPrintedSoFar bytes text n
      accepted_so_far some =
          subst (λ (u : List ℕ). (n : ℕ) × AreAcceptedAs HasPrintedSoFar bytes u n) (append-nil text)
          (accepted_as within t reached text prints few_proofs [] (λ i. nothing) HasPrintedSoFar
          (record { reached = reached; prints = subst (IsStateText quest t) (sym (append-nil text)) prints }) some)

      told_none : TellsProof bytes text → is_nil t.proofs ≡ true → ⊥
      told_none h none =
          let empty = none_printed quest (quest_lines quest t) 1 t.proofs prints.proofs prints.are none in
          no_banner h.0 h.1 (append_cancel_left (frame_text bytes) [] (h.0 ++ (proof_banner ++ h.1))
          (ap (λ (u : List ℕ). frame_text bytes ++ u) (sym empty) ∙ sym prints.text_is ∙ h.3))

      told_so_far : TellsProof bytes text → (n : ℕ) × AreAcceptedAs HasPrintedSoFar bytes text n
      told_so_far h = by (is_nil t.proofs) refl
        where
          by : (b : Bool) → is_nil t.proofs ≡ b → (n : ℕ) × AreAcceptedAs HasPrintedSoFar bytes text n
          by true e = absurd (told_none h e)
          by false e = accepted_so_far (some_proof t.proofs e)

    -- what stands while a run goes on
    module _ (starts : StartIsWithinLimits) (keep : ReachedAreWithinLimits) (wanted : f.problem.options.max_proofs < 2 ^ 63) where
      few_found : (t : SearchState) → IsReachedIn quest.search t → length t.proofs < 2 ^ 63
      few_found t reached =
          let st = setting_in quest.search in
          let most = (keep st (start_in quest.search) t (starts st p.formulas (rows_in quest.search)) reached).proofs in
          omega (arith, most, wanted)

      goes_accepted : (seconds : Option ℕ) (times : Times) (text : List ℕ) → Proving quest seconds times text → TellsProof bytes text → (n : ℕ) × AreAcceptedAs HasPrintedSoFar bytes text n
      goes_accepted seconds times text (inl h) told = absurd (none_written bytes text h.0 told)
      goes_accepted seconds times text (inr (within, inl go)) told = told_so_far within go.state go.reached text go.prints (few_found go.state go.reached) told
      goes_accepted seconds times text (inr (within, inr (end, (t, come)))) told = told_so_far within t come.reached text come.prints come.counted told

    -- the whole output of a run that comes to an end of its own
    comes_accepted : (seconds : Option ℕ) (times : Times) (end : ProverEnd) (text : List ℕ) → IsOwnEnd end
        → KeepsLimits quest × ((t : SearchState) × ((front : List ℕ) × ProofsCome quest seconds times end t front × (text ≡ front ++ closing_lines t end))) → TellsProved bytes text → (n : ℕ) × AreAllAccepted bytes text n
    comes_accepted seconds times end text mine (within, (t, (front, come, is))) h =
        subst (λ (u : List ℕ). (n : ℕ) × AreAllAccepted bytes u n) (sym is) (accepted_told within seconds times end mine t front come (subst (TellsProved bytes) is h))

    proves_accepted : (seconds : Option ℕ) (times : Times) (end : ProverEnd) (text : List ℕ) → Proves quest seconds times end text → TellsProved bytes text → (n : ℕ) × AreAllAccepted bytes text n
    proves_accepted seconds times MaxProofs text h told = comes_accepted seconds times MaxProofs text tt h told
    proves_accepted seconds times SosEmpty text h told = comes_accepted seconds times SosEmpty text tt h told
    proves_accepted seconds times MaxMegs text h told = comes_accepted seconds times MaxMegs text tt h told
    proves_accepted seconds times (MaxSeconds a b) text h told = comes_accepted seconds times (MaxSeconds a b) text tt h told
    proves_accepted seconds times MaxGiven text h told = comes_accepted seconds times MaxGiven text tt h told
    proves_accepted seconds times MaxKept text h told = comes_accepted seconds times MaxKept text tt h told
    proves_accepted seconds times (ClauseLimit formula) text h told =
        let same : 108 ≡ 37 = ap first (sym h.2 ∙ told.3) in
        absurd (omega (arith, same))

  pub outputs_accepted : OutputsAreAccepted
  outputs_accepted word from from' to to' times end run had =
      let bytes = run.bytes in
      let text = run.tells.0 in
      let comes = run.tells.1 in
      let says = had.is_said in
      let f = had.had in
      let q = quest_in bytes f in
      let is = asks_once bytes comes.1.0 q comes.1.1 (had.says, says, quest_same had.says f had.is_had bytes) in
      record {
        written = text;
        wrote = run.tells.2.took;
        accepted = proves_accepted bytes had.says f says had.is_had (quest_seconds word q) times end text
            (subst (λ (x : Quest). Proves x (quest_seconds word x) times end text) is comes.1.2);
      }

  -- a run that goes on with these bytes
  stands_accepted : StartIsWithinLimits → ReachedAreWithinLimits → (word : Option ℕ) (from from' : Inflow) (times : Times) (bytes : List ℕ) (had : IsHad bytes) → had.had.problem.options.max_proofs < 2 ^ 63 → (text : List ℕ)
      → MayStand asks (refuses Prover) (times.count ≡ 0) (λ x. Proving x (quest_seconds word x) times) (λ x. Proves x (quest_seconds word x) times) from from' bytes text
      → TellsProof bytes text → (n : ℕ) × AreAcceptedAs HasPrintedSoFar bytes text n
  stands_accepted starts keep word from from' times bytes had wanted text (inl h) told = absurd (none_written bytes text h.0 told)
  stands_accepted starts keep word from from' times bytes had wanted text (inr (read, (x, asked_x, goes))) told =
      let q = quest_in bytes had.had in
      let is = asks_once bytes x q asked_x (had.says, had.is_said, quest_same had.says had.had had.is_had bytes) in
      goes_accepted bytes had.says had.had had.is_said had.is_had starts keep wanted (quest_seconds word q) times text
      (subst (λ (y : Quest). Proving y (quest_seconds word y) times text) is goes) told

  pub so_far_accepted : StartIsWithinLimits → ReachedAreWithinLimits → ProofsSoFarAreAccepted
  so_far_accepted starts keep word from from' to to' times run (inl had) = record {
    written = run.tells.0;
    wrote = run.tells.2.took;
    accepted = stands_accepted starts keep word from from' times run.bytes had (let few = had.wanted in omega (arith, few)) run.tells.0 run.tells.1;
  }
  so_far_accepted starts keep word from from' to to' times run (inr took) = record {
    written = [];
    wrote = took.took;
    accepted = λ told. absurd (none_written run.bytes [] refl told);
  }
