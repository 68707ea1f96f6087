-- Bytes offer one thing, and then they aren't refused.
use Rattle.std.proofs.Common.{◌≡◌, ℕ, ◌-◌, ◌<◌, Bool, List, [], ◌∷◌, ◌++◌, length, map, take, drop, Some, None, refl, sym, ap, ap₂, ◌∙◌, subst, arith}
use Rattle.std.specs.List.{list_all}
use Rattle.std.proofs.lemmas.Bool.{true≢false}
use Rattle.std.proofs.lemmas.List.{take-append-drop}
use Rattle.derivation.specs.declared.line.Line.{Line}
use Rattle.fol_problem.specs.Asks.{asks_of}
use Rattle.fol_problem.specs.Stated.{stated_of}
use Rattle.fol_problem.specs.declared.problem.Input.{Input}
use Rattle.fol_problem.specs.declared.problem.Role.{Role}
use Rattle.fol_core.specs.SymbolTable.{Symbol}
use Rattle.ladr_check.proofs.Offering.{proofs_lines}
use Rattle.ladr_check.proofs.OneFrame.{framed_once, framed_sound}
use Rattle.ladr_check.proofs.OneReading.{OneLine, heads, no_line_there, blocks_once, read_once, none_read, lines_once, proofs_once}
use Rattle.ladr_check.specs.Offered.{Offered, proofs_in, offered_by, offers, error_of, refuses_proofs}
use Rattle.ladr_formulas.specs.Formulas.{style_of}
use Rattle.ladr_formulas.specs.declared.styles.Mode.{Mode}
use Rattle.ladr_formulas.specs.declared.styles.Mode.TheVariants.{Prover}
use Rattle.ladr_intake.proofs.Readings.{same_stated}
use Rattle.ladr_intake.specs.declared.stops.Refused.{Refused}
use Rattle.ladr_intake.specs.declared.stops.Refused.TheVariants.{Unreadable, Misuse, TooLarge}
use Rattle.ladr_lex.specs.Cuts.{Piece, Cuts}
use Rattle.ladr_lex.specs.Lexeme.{Lexeme}
use Rattle.ladr_lex.proofs.Unique.{cut_once}
use Rattle.ladr_problem.specs.File.{Outcome, Says, problem, unreadable, misused, too_large}
use Rattle.ladr_problem.specs.Items.{lexemes}
use Rattle.ladr_problem.specs.Places.{IsReadError}
use Rattle.ladr_problem.specs.Sofar.{Listed, Sofar, input_of, stated_in}
use Rattle.ladr_problem.specs.declared.read.FileRead.{FileRead}
use Rattle.ladr_problem.specs.declared.refusal.ReadError.{ReadError}
use Rattle.ladr_problem.specs.declared.refusal.ReadError.TheVariants as errors
use Rattle.proof_lines.specs.ContentTokens.{LineTables, line_tables}
use Rattle.proof_lines.specs.Faults.{IsLineRead, IsLineFault, IsBadOfLine, IsBadLineToken}
use Rattle.proof_lines.specs.Lines.{LineParts}
use Rattle.proof_lines.specs.Stated.{is_deep_with, line_misuse}
use Rattle.proof_lines.specs.declared.fault.LineFault.{LineFault}
use Rattle.proof_lines.specs.declared.fault.LineFault.TheVariants as fault
use Rattle.proof_lines.specs.declared.line.LineRead.{LineRead}
use Rattle.proof_text.specs.Blocks.{TextBlock, bare, end_of_block, lines_in}
use Rattle.proof_text.specs.Proofs.{Reader, HasLines, no_line, further_line, HasBlockLines, HasProofs, no_block, further_block}
use Rattle.proof_text.specs.Refused.{reader_of, HasProblem, HasRefusedBlock, IsBlockRefused, IsLineRefused, IsProofRead, IsProofError}
use Rattle.proof_text.specs.Refused as refused
use Rattle.proof_text.specs.declared.text.ProofRead.{ProofRead}
use Rattle.proof_words.specs.Written.{states_formula}

abbrev pub OneOutcome : Type 0
OneOutcome = (m : Mode) (bytes : List ℕ) (o p : Outcome) → Says m bytes o → Says m bytes p → o ≡ p

abbrev pub BadTokens : Type 0
BadTokens = (g : LineTables) (ts : List Lexeme) (k : ℕ) → IsBadOfLine g ts k → IsBadLineToken g ts k

-- what formulas ask for, as they were listed
abbrev asks_listed : List (Role × Listed) → List (List ℕ)
asks_listed fs = map (λ (x : Role × Listed). x.1.answer) fs

asks_read : (is : List Input) → map (λ (i : Input). i.answer.items) is ≡ asks_listed (map input_of is)
asks_read [] = refl
asks_read (i ∷ is) = ap (λ rest. i.answer.items ∷ rest) (asks_read is)

same_sofar : (s t : Sofar) → problem s ≡ problem t → s ≡ t
same_sofar s t e = cc

-- a line that can be read has no fault
module _ (one : OneLine) (bad : BadTokens) (g : Reader) where
  pub unfaulty : (table mid : List Symbol) (ts : List Lexeme) (r : LineRead) (why : LineFault) → IsLineRead g.tables g.style g.problem table ts r mid → IsLineFault g.tables g.style g.problem table ts why → (why ≡ fault.Memory → ⊥) → ⊥
  unfaulty table mid ts r (fault.Bad k) h f m = (bad g.tables ts k f).none (take r.len ts) (drop r.len ts) h.parts (sym (take-append-drop r.len ts)) h.first.1
  unfaulty table mid ts r fault.Deep h f m =
      let same = one g.tables ts h.parts f.0 r.len f.1 h.first f.2 in
      true≢false (sym f.3 ∙ ap (λ (l : LineParts). is_deep_with (states_formula l.words.first) l.content l.answers) (sym same.0) ∙ h.shallow)
  unfaulty table mid ts r (fault.Misused misuse) h f m =
      let same = one g.tables ts h.parts f.0 r.len f.1 h.first f.2 in
      let none : None ≡ Some misuse = sym h.unmisused ∙ ap (λ (l : LineParts). line_misuse g.style g.problem table (states_formula l.words.first) l.content l.answers) same.0 ∙ f.4 in
      absurd cc
  unfaulty table mid ts r fault.Memory h f m = m refl

  -- lines that are all of a block don't stop at one of them
  pub unstopped : {table other last mid : List Symbol} {ts us vs left : List Piece} {ls ms : List Line} (why : LineFault) → HasLines g table ts ls last vs → HasLines g other us ms mid left → table ≡ other → ts ≡ us → vs ≡ []
      → 0 < length left → IsLineFault g.tables g.style g.problem mid (lexemes left) why → (why ≡ fault.Memory → ⊥) → ⊥
  unstopped {ts = ts} {us = us} why no_line no_line t e v some f m = (let none : length us ≡ 0 = ap length (sym e ∙ v) in omega (arith, some, none))
  unstopped {other = other} {us = us} why no_line (further_line q so k) t e v some f m = none_read one g us other _ q (sym e ∙ v) so
  unstopped {table} {other} {ts = ts} {us = us} why (further_line {mid = mid} r is h) no_line t e v some f m =
      unfaulty other mid (lexemes us) r why (subst (λ (x : List Symbol). IsLineRead g.tables g.style g.problem x (lexemes us) r mid) t (subst (λ (x : List Piece). IsLineRead g.tables g.style g.problem table (lexemes x) r mid) e is)) f m
  unstopped {table} {other} {ts = ts} {us = us} why (further_line {mid = mid} r is h) (further_line {mid = next} q so k) t e v some f m =
      let moved = subst (λ (x : List Symbol). IsLineRead g.tables g.style g.problem x (lexemes us) r mid) t (subst (λ (x : List Piece). IsLineRead g.tables g.style g.problem table (lexemes x) r mid) e is) in
      let same = read_once one g other mid next (lexemes us) r q moved so in
      unstopped why h k same.2 (ap₂ (λ (n : ℕ) (x : List Piece). drop n x) same.0 e) v some f m

  -- behind the blocks before a block its lines are read
  read_behind : {table other last mid : List Symbol} {bs cs : List TextBlock} {ps qs : List (List Line)} (b : TextBlock) (behind : List TextBlock) → HasProofs g table bs ps last → HasProofs g other cs qs mid → table ≡ other → bs ≡ cs ++ (b ∷ behind)
      → (ls : List Line) × (x : List Symbol) × HasBlockLines g mid b ls x
  read_behind b behind no_block no_block t e = absurd (no_line_there _ _ e)
  read_behind b behind no_block (further_block there k) t e = absurd (no_line_there _ _ e)
  read_behind {table} b behind (further_block {mid = mid} {b = c} {ls = ls} here h) no_block t e =
      (ls, mid, subst (λ (x : List Symbol). HasBlockLines g x b ls mid) t (subst (λ (x : TextBlock). HasBlockLines g table x ls mid) (heads c b _ _ e).0 here))
  read_behind {table} {other} b behind (further_block {b = c} here h) (further_block {b = d} there k) t e =
      let parts = heads c d _ _ e in
      let cut = subst (λ (x : TextBlock). Cuts x.start (bare x) here.0) parts.0 here.1 in
      let tokens : here.0 ≡ there.0 = cut_once d.start (bare d) here.0 there.0 cut there.1 in
      read_behind b behind h k (lines_once one g here.2 there.2 t tokens refl refl).1 parts.1

  pub unmemory : (bytes : List ℕ) (end : ℕ) (shut : Bool) (ts : List Piece) (e : ReadError) → IsLineRefused bytes end shut ts fault.Memory e → ⊥
  unmemory bytes end shut ts (errors.Unreadable p) h = h
  unmemory bytes end shut ts (errors.Misuse p row) h = h
  unmemory bytes end shut ts (errors.TooLarge byte what) h = h
  unmemory bytes end shut ts errors.Memory h = h

  pub unrefused_block : (table last : List Symbol) (bytes : List ℕ) (bs : List TextBlock) (ps : List (List Line)) (e : ReadError) → HasProofs g table bs ps last → HasRefusedBlock g table bytes bs e → ⊥
  unrefused_block table last bytes bs ps e h r =
      let b = r.block in
      let there = read_behind b r.behind h r.read refl r.split in
      let x = r.here in
      let tokens : there.2.0 ≡ x.tokens = cut_once b.start (bare b) there.2.0 x.tokens there.2.1 x.cut in
      unstopped x.why there.2.2 x.read refl tokens refl x.some x.is_fault
      (λ is. unmemory bytes (end_of_block b) b.closed x.left e (subst (λ (w : LineFault). IsLineRefused bytes (end_of_block b) b.closed x.left w e) is x.refused))

module _ (says : OneOutcome) (bytes : List ℕ) where
  -- a text has one problem
  pub record SameProblem (f g : FileRead) (bs cs : List TextBlock) : Type 0 where
    pub stated : stated_of f.problem ≡ stated_of g.problem
    pub asks : asks_of f.problem ≡ asks_of g.problem
    pub symbols : f.problem.symbols ≡ g.problem.symbols
    pub readers : reader_of f ≡ reader_of g
    pub blocks : bs ≡ cs

  pub same_problems : (f g : FileRead) (bs cs : List TextBlock) → HasProblem bytes f bs → HasProblem bytes g cs → SameProblem f g bs cs
  same_problems f g bs cs h k =
      let texts = framed_once bytes h.input k.input h.rest k.rest h.framed k.framed in
      let told = says Prover k.input (problem h.sofar) (problem k.sofar) (subst (λ (t : List ℕ). Says Prover t (problem h.sofar)) texts.0 h.says) k.says in
      let sofar : h.sofar ≡ k.sofar = same_sofar h.sofar k.sofar told in
      let options = h.is_of.options ∙ ap (λ (s : Sofar). s.settings.options) sofar ∙ sym k.is_of.options in
      let operators = h.is_of.operators ∙ ap (λ (s : Sofar). s.settings.operators) sofar ∙ sym k.is_of.operators in
      let symbols = h.is_of.symbols ∙ ap (λ (s : Sofar). s.symbols) sofar ∙ sym k.is_of.symbols in
      record {
        stated = sym (same_stated h.sofar f h.is_of) ∙ ap stated_in sofar ∙ same_stated k.sofar g k.is_of;
        asks = asks_read f.problem.inputs.items ∙ ap asks_listed (h.is_of.formulas ∙ ap (λ (s : Sofar). s.formulas) sofar ∙ sym k.is_of.formulas) ∙ sym (asks_read g.problem.inputs.items);
        symbols = symbols;
        readers = λ i. record {
          tables = line_tables (options i).prolog_style_variables (operators i);
          style = style_of Prover (options i).prolog_style_variables;
          problem = symbols i;
        };
        blocks = blocks_once h.blocks k.blocks (ap (λ (t : List ℕ). length bytes - length t) texts.1) (ap lines_in texts.1);
      }

  module _ (one : OneLine) where
    same_offer : (r q : ProofRead) → IsProofRead bytes r → IsProofRead bytes q → offered_by r ≡ offered_by q
    same_offer r q h k =
        let same = same_problems h.file k.file h.blocks k.blocks h.has_problem k.has_problem in
        let mine = subst (λ (x : Reader). HasProofs x h.file.problem.symbols h.blocks (map (λ d. d.lines.items) r.proofs.items) r.symbols) same.readers h.proofs_are in
        let both = proofs_once one (reader_of k.file) mine k.proofs_are same.symbols same.blocks in
        let stated : stated_of r.problem ≡ stated_of q.problem = ap stated_of h.problem_is ∙ same.stated ∙ sym (ap stated_of k.problem_is) in
        let proofs : proofs_in r.proofs.items ≡ proofs_in q.proofs.items = sym (proofs_lines r.proofs.items) ∙ both.2 ∙ proofs_lines q.proofs.items in
        let asks : asks_of r.problem ≡ asks_of q.problem = ap asks_of h.problem_is ∙ same.asks ∙ sym (ap asks_of k.problem_is) in
        λ i. record { stated = stated i; asks = asks i; symbols = both.1 i; proofs = proofs i }

    pub offered_once : (x y : Offered) → offers bytes x → offers bytes y → x ≡ y
    offered_once x y h k = sym h.2 ∙ same_offer h.0 k.0 h.1 k.1 ∙ k.2

    module _ (bad : BadTokens) where
      pub problem_sound : (input : List ℕ) (s : Sofar) (e : ReadError) → Says Prover input (problem s) → IsReadError Prover input e → (e ≡ errors.Memory → ⊥) → ⊥
      problem_sound input s (errors.Unreadable place) h k m = let e : problem s ≡ unreadable place.byte = says Prover input (problem s) (unreadable place.byte) h k.0 in absurd cc
      problem_sound input s (errors.Misuse place why) h k m = let e : problem s ≡ misused place.byte why = says Prover input (problem s) (misused place.byte why) h k.0 in absurd cc
      problem_sound input s (errors.TooLarge byte what) h k m = let e : problem s ≡ too_large byte what = says Prover input (problem s) (too_large byte what) h k in absurd cc
      problem_sound input s errors.Memory h k m = m refl

      read_unrefused : {e : ReadError} (r : ProofRead) → IsProofRead bytes r → IsProofError bytes e → (e ≡ errors.Memory → ⊥) → ⊥
      read_unrefused r h (refused.frame byte un at) m = framed_sound bytes h.has_problem.input h.has_problem.rest byte h.has_problem.framed un
      read_unrefused r h (refused.problem {e} {input} {rest} framed is) m =
          let texts = framed_once bytes input h.has_problem.input rest h.has_problem.rest framed h.has_problem.framed in
          problem_sound h.has_problem.input h.has_problem.sofar e h.has_problem.says (subst (λ (t : List ℕ). IsReadError Prover t e) texts.0 is) m
      read_unrefused r h (refused.line {e} {f} {bs} has at) m =
          let same = same_problems f h.file bs h.blocks has h.has_problem in
          let there = subst (λ (x : Reader). HasRefusedBlock x h.file.problem.symbols bytes h.blocks e) same.readers
          (subst (λ (x : List Symbol). HasRefusedBlock (reader_of f) x bytes h.blocks e) same.symbols (subst (λ (x : List TextBlock). HasRefusedBlock (reader_of f) f.problem.symbols bytes x e) same.blocks at)) in
          unrefused_block one bad (reader_of h.file) h.file.problem.symbols r.symbols bytes h.blocks _ e h.proofs_are there
      read_unrefused r h (refused.open_block {e} {f} {bs} has read open_one at) m =
          let same = same_problems f h.file bs h.blocks has h.has_problem in
          true≢false (sym h.closed ∙ ap (list_all (λ (b : TextBlock). b.closed)) (sym same.blocks) ∙ open_one)
      read_unrefused r h refused.memory m = m refl

      pub no_memory : (why : Refused) → error_of why ≡ errors.Memory → ⊥
      no_memory (Unreadable place) e = absurd cc
      no_memory (Misuse place why) e = absurd cc
      no_memory (TooLarge byte what) e = absurd cc

      pub unrefused : (x : Offered) (why : Refused) → offers bytes x → refuses_proofs bytes why → ⊥
      unrefused x why h k = read_unrefused h.0 h.1 k (no_memory why)
