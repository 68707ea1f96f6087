-- Bytes are refused in one way, and then they offer nothing.
use Rattle.std.proofs.Common.{◌≡◌, inl, inr, ℕ, ◌+◌, ◌<◌, Bool, List, ◌∷◌, ◌++◌, length, drop, Option, Some, None, refl, sym, ap, ap₂, ◌∙◌, subst, arith}
use Rattle.std.specs.Prelude.{MatchOption}
use Rattle.std.specs.List.{prefix_len}
use Rattle.derivation.specs.declared.line.Line.{Line}
use Rattle.fol_core.specs.SymbolTable.{Symbol}
use Rattle.ladr_check.proofs.OneFrame.{framed_once, framed_sound}
use Rattle.ladr_check.proofs.OneOffer.{OneOutcome, BadTokens, unfaulty, unstopped, unmemory, unrefused_block, SameProblem, same_problems, problem_sound, no_memory, unrefused}
use Rattle.ladr_check.proofs.OneReading.{OneLine, heads, read_once, lines_once}
use Rattle.ladr_check.specs.Offered.{error_of, refuses_proofs}
use Rattle.ladr_check.specs.Shown.{IsRefusedAlone}
use Rattle.ladr_formulas.specs.declared.styles.Mode.TheVariants.{Prover}
use Rattle.ladr_formulas.specs.declared.styles.Style.{Style}
use Rattle.ladr_intake.specs.declared.stops.Refused.{Refused}
use Rattle.ladr_intake.specs.declared.stops.Refused.TheVariants.{Unreadable, Misuse, TooLarge}
use Rattle.ladr_lex.specs.Comments.{is_in_line}
use Rattle.ladr_lex.specs.Cuts.{Piece, Cuts}
use Rattle.ladr_lex.specs.Lexeme.{Lexeme}
use Rattle.ladr_lex.specs.Places.{line_of, column_of}
use Rattle.ladr_lex.proofs.Unique.{cut_once}
use Rattle.ladr_problem.specs.File.{unreadable, misused, too_large}
use Rattle.ladr_problem.specs.Items.{lexemes}
use Rattle.ladr_problem.specs.Places.{shown_at, IsPlace, IsReadError}
use Rattle.ladr_problem.specs.declared.read.FileRead.{FileRead}
use Rattle.ladr_problem.specs.declared.refusal.Place.{Place}
use Rattle.ladr_problem.specs.declared.refusal.ReadError.{ReadError}
use Rattle.ladr_problem.specs.declared.refusal.ReadError.TheVariants as errors
use Rattle.proof_lines.specs.ContentTokens.{LineTables}
use Rattle.proof_lines.specs.Faults.{IsLineRead, IsLineFault}
use Rattle.proof_lines.specs.declared.fault.LineFault.{LineFault}
use Rattle.proof_lines.specs.declared.fault.LineFault.TheVariants as fault
use Rattle.proof_lines.specs.declared.line.LineRead.{LineRead}
use Rattle.proof_text.specs.Blocks.{TextBlock, bare, end_of_block}
use Rattle.proof_text.specs.Frame.{first_line, count_told, IsFramed, EndsInside, IsUnframed}
use Rattle.proof_text.specs.Proofs.{Reader, HasLines, no_line, further_line, HasBlockLines, HasProofs, no_block, further_block}
use Rattle.proof_text.specs.Refused.{IsPlaceOf, IsUnreadableAt, IsLineRefused, IsBlockRefused, HasRefusedBlock, reader_of, HasProblem, IsProofError}
use Rattle.proof_text.specs.Refused as refused

abbrev pub OneFault : Type 0
OneFault =
    (g : LineTables) (st : Style) (problem table : List Symbol) (ts : List Lexeme) (a b : LineFault) → IsLineFault g st problem table ts a → IsLineFault g st problem table ts b
    → ¬ a ≡ fault.Memory → ¬ b ≡ fault.Memory → a ≡ b

-- a byte has one place
place_once : (bytes token : List ℕ) (p q : Place) → p.byte ≡ q.byte → IsPlaceOf bytes token p → IsPlaceOf bytes token q → p ≡ q
place_once bytes token p q at h k =
    let line : p.line ≡ q.line = h.line ∙ ap (line_of bytes) at ∙ sym k.line in
    let column : p.column ≡ q.column = h.column ∙ ap (column_of bytes) at ∙ sym k.column in
    λ i. record { byte = at i; line = line i; column = column i; token = (h.token_is ∙ sym k.token_is) i }

unreadable_once : (bytes : List ℕ) (byte : ℕ) (a b : ReadError) → IsUnreadableAt bytes byte a → IsUnreadableAt bytes byte b → a ≡ b
unreadable_once bytes byte (errors.Unreadable p) (errors.Unreadable q) h k = ap errors.Unreadable (place_once bytes _ p q (h.0 ∙ sym k.0) h.1 k.1)
unreadable_once bytes byte (errors.Misuse p row) b h k = absurd h
unreadable_once bytes byte (errors.TooLarge n what) b h k = absurd h
unreadable_once bytes byte errors.Memory b h k = absurd h
unreadable_once bytes byte (errors.Unreadable p) (errors.Misuse q row) h k = absurd k
unreadable_once bytes byte (errors.Unreadable p) (errors.TooLarge n what) h k = absurd k
unreadable_once bytes byte (errors.Unreadable p) errors.Memory h k = absurd k

-- a frame has one fault
inside_once : (bytes : List ℕ) (end i j : ℕ) → EndsInside bytes end i → EndsInside bytes end j → i ≡ j
inside_once bytes end i j (inl h) (inl k) = h.1 ∙ sym k.1
inside_once bytes end i j (inl h) (inr k) = absurd (omega (arith, h.0, k.0))
inside_once bytes end i j (inr h) (inl k) = absurd (omega (arith, h.0, k.0))
inside_once bytes end i j (inr h) (inr k) = h.1 ∙ sym k.1

unframed_once : (bytes : List ℕ) (i j : ℕ) → IsUnframed bytes i → IsUnframed bytes j → i ≡ j
unframed_once bytes i j = by (count_told (first_line bytes))
  where
    by : (o : Option ℕ) → MatchOption o (i ≡ 0) (λ n. EndsInside bytes (prefix_len is_in_line bytes + 1 + n) i)
        → MatchOption o (j ≡ 0) (λ n. EndsInside bytes (prefix_len is_in_line bytes + 1 + n) j) → i ≡ j
    by None h k = h ∙ sym k
    by (Some n) h k = inside_once bytes (prefix_len is_in_line bytes + 1 + n) i j h k

-- a problem is refused in one way
problem_place : (input : List ℕ) (p q : Place) → p.byte ≡ q.byte → IsPlace input p → IsPlace input q → p ≡ q
problem_place input p q at h k =
    let tokens : h.tokens ≡ k.tokens = cut_once 0 input h.tokens k.tokens h.cut k.cut in
    let line : p.line ≡ q.line = h.line ∙ ap (line_of input) at ∙ sym k.line in
    let column : p.column ≡ q.column = h.column ∙ ap (column_of input) at ∙ sym k.column in
    let token : p.token ≡ q.token = h.token ∙ ap₂ shown_at tokens at ∙ sym k.token in
    λ i. record { byte = at i; line = line i; column = column i; token = token i }

module _ (says : OneOutcome) where
  problem_once : (input : List ℕ) (a b : ReadError) → IsReadError Prover input a → IsReadError Prover input b → ¬ a ≡ errors.Memory → ¬ b ≡ errors.Memory → a ≡ b
  problem_once input (errors.Unreadable p) (errors.Unreadable q) h k m n =
      let told : unreadable p.byte ≡ unreadable q.byte = says Prover input (unreadable p.byte) (unreadable q.byte) h.0 k.0 in
      let at : p.byte ≡ q.byte = cc in
      ap errors.Unreadable (problem_place input p q at h.1 k.1)
  problem_once input (errors.Unreadable p) (errors.Misuse q row) h k m n =
      let told : unreadable p.byte ≡ misused q.byte row = says Prover input (unreadable p.byte) (misused q.byte row) h.0 k.0 in absurd cc
  problem_once input (errors.Unreadable p) (errors.TooLarge byte what) h k m n =
      let told : unreadable p.byte ≡ too_large byte what = says Prover input (unreadable p.byte) (too_large byte what) h.0 k in absurd cc
  problem_once input (errors.Misuse p row) (errors.Unreadable q) h k m n =
      let told : misused p.byte row ≡ unreadable q.byte = says Prover input (misused p.byte row) (unreadable q.byte) h.0 k.0 in absurd cc
  problem_once input (errors.Misuse p row) (errors.Misuse q other) h k m n =
      let told : misused p.byte row ≡ misused q.byte other = says Prover input (misused p.byte row) (misused q.byte other) h.0 k.0 in
      let at : p.byte ≡ q.byte = cc in
      let rows : row ≡ other = cc in
      ap₂ errors.Misuse (problem_place input p q at h.1 k.1) rows
  problem_once input (errors.Misuse p row) (errors.TooLarge byte what) h k m n =
      let told : misused p.byte row ≡ too_large byte what = says Prover input (misused p.byte row) (too_large byte what) h.0 k in absurd cc
  problem_once input (errors.TooLarge byte what) (errors.Unreadable q) h k m n =
      let told : too_large byte what ≡ unreadable q.byte = says Prover input (too_large byte what) (unreadable q.byte) h k.0 in absurd cc
  problem_once input (errors.TooLarge byte what) (errors.Misuse q row) h k m n =
      let told : too_large byte what ≡ misused q.byte row = says Prover input (too_large byte what) (misused q.byte row) h k.0 in absurd cc
  problem_once input (errors.TooLarge byte what) (errors.TooLarge other limit) h k m n =
      let told : too_large byte what ≡ too_large other limit = says Prover input (too_large byte what) (too_large other limit) h k in
      let at : byte ≡ other = cc in
      let limits : what ≡ limit = cc in
      ap₂ errors.TooLarge at limits
  problem_once input errors.Memory b h k m n = absurd (m refl)
  problem_once input (errors.Unreadable p) errors.Memory h k m n = absurd (n refl)
  problem_once input (errors.Misuse p row) errors.Memory h k m n = absurd (n refl)
  problem_once input (errors.TooLarge byte what) errors.Memory h k m n = absurd (n refl)

-- a fault of a line is told in one way
told_once : (bytes : List ℕ) (end : ℕ) (shut : Bool) (ts : List Piece) (why : LineFault) (a b : ReadError) → IsLineRefused bytes end shut ts why a → IsLineRefused bytes end shut ts why b → a ≡ b
told_once bytes end shut ts (fault.Bad k) (errors.Unreadable p) (errors.Unreadable q) h i = ap errors.Unreadable (place_once bytes _ p q (h.0 ∙ sym i.0) h.1 i.1)
told_once bytes end shut ts (fault.Bad k) (errors.Unreadable p) (errors.Misuse q row) h i = absurd i
told_once bytes end shut ts (fault.Bad k) (errors.Unreadable p) (errors.TooLarge byte what) h i = absurd i
told_once bytes end shut ts (fault.Bad k) (errors.Unreadable p) errors.Memory h i = absurd i
told_once bytes end shut ts (fault.Bad k) (errors.Misuse p row) b h i = absurd h
told_once bytes end shut ts (fault.Bad k) (errors.TooLarge byte what) b h i = absurd h
told_once bytes end shut ts (fault.Bad k) errors.Memory b h i = absurd h
told_once bytes end shut ts fault.Deep (errors.TooLarge byte what) (errors.TooLarge other limit) h i = ap₂ errors.TooLarge (h.0 ∙ sym i.0) (h.1 ∙ sym i.1)
told_once bytes end shut ts fault.Deep (errors.TooLarge byte what) (errors.Unreadable q) h i = absurd i
told_once bytes end shut ts fault.Deep (errors.TooLarge byte what) (errors.Misuse q row) h i = absurd i
told_once bytes end shut ts fault.Deep (errors.TooLarge byte what) errors.Memory h i = absurd i
told_once bytes end shut ts fault.Deep (errors.Unreadable p) b h i = absurd h
told_once bytes end shut ts fault.Deep (errors.Misuse p row) b h i = absurd h
told_once bytes end shut ts fault.Deep errors.Memory b h i = absurd h
told_once bytes end shut ts (fault.Misused m) (errors.Misuse p row) (errors.Misuse q other) h i =
    ap₂ errors.Misuse (place_once bytes _ p q (h.0.0 ∙ sym i.0.0) h.0.1 i.0.1) (h.1 ∙ sym i.1)
told_once bytes end shut ts (fault.Misused m) (errors.Misuse p row) (errors.Unreadable q) h i = absurd i
told_once bytes end shut ts (fault.Misused m) (errors.Misuse p row) (errors.TooLarge byte what) h i = absurd i
told_once bytes end shut ts (fault.Misused m) (errors.Misuse p row) errors.Memory h i = absurd i
told_once bytes end shut ts (fault.Misused m) (errors.Unreadable p) b h i = absurd h
told_once bytes end shut ts (fault.Misused m) (errors.TooLarge byte what) b h i = absurd h
told_once bytes end shut ts (fault.Misused m) errors.Memory b h i = absurd h
told_once bytes end shut ts fault.Memory (errors.Unreadable p) b h i = absurd h
told_once bytes end shut ts fault.Memory (errors.Misuse p row) b h i = absurd h
told_once bytes end shut ts fault.Memory (errors.TooLarge byte what) b h i = absurd h
told_once bytes end shut ts fault.Memory errors.Memory b h i = absurd h

module _ (one : OneLine) (bad : BadTokens) (faults : OneFault) (g : Reader) where
  -- lines stop at one place
  record SameStop (last end : List Symbol) (us vs : List Piece) : Type 0 where
    tables : last ≡ end
    left : us ≡ vs

  abbrev Stops : List Symbol → List Piece → LineFault → Type 0
  Stops table ts why = (0 < length ts) × IsLineFault g.tables g.style g.problem table (lexemes ts) why × (¬ why ≡ fault.Memory)

  unread : (table mid : List Symbol) (ts : List Piece) (r : LineRead) (why : LineFault) → IsLineRead g.tables g.style g.problem table (lexemes ts) r mid → Stops table ts why → ⊥
  unread table mid ts r why is stop = unfaulty one bad g table mid (lexemes ts) r why is stop.1 stop.2

  abbrev Read : List Symbol → List Piece → LineRead → List Symbol → Type 0
  Read table ts r mid = IsLineRead g.tables g.style g.problem table (lexemes ts) r mid

  moved_read : (table other : List Symbol) (ts us : List Piece) (r : LineRead) (mid : List Symbol) → table ≡ other → ts ≡ us → Read table ts r mid → Read other us r mid
  moved_read table other ts us r mid t e h = subst (λ (x : List Symbol). Read x us r mid) t (subst (λ (x : List Piece). Read table x r mid) e h)

  moved_stop : (table other : List Symbol) (ts us : List Piece) (why : LineFault) → table ≡ other → ts ≡ us → Stops table ts why → Stops other us why
  moved_stop table other ts us why t e h = subst (λ (x : List Symbol). Stops x us why) t (subst (λ (x : List Piece). Stops table x why) e h)

  stop_once : {table other last end : List Symbol} {ts us vs ws : List Piece} {ls ms : List Line} (why because : LineFault) → HasLines g table ts ls last vs → HasLines g other us ms end ws → table ≡ other → ts ≡ us
      → Stops last vs why → Stops end ws because → SameStop last end vs ws
  stop_once why because no_line no_line t e h k = record { tables = t; left = e }
  stop_once {table} {other} {ts = ts} {us = us} why because no_line (further_line q so rest) t e h k =
      absurd (unread other _ us q why so (moved_stop table other ts us why t e h))
  stop_once {table} {other} {ts = ts} {us = us} why because (further_line r is rest) no_line t e h k =
      absurd (unread other _ us r because (moved_read table other ts us r _ t e is) k)
  stop_once {table} {other} {ts = ts} {us = us} why because (further_line {mid = mid} r is rest) (further_line {mid = next} q so more) t e h k =
      let same = read_once one g other mid next (lexemes us) r q (moved_read table other ts us r mid t e is) so in
      stop_once why because rest more same.2 (ap₂ (λ (n : ℕ) (x : List Piece). drop n x) same.0 e) h k

  unforgotten : (bytes : List ℕ) (end : ℕ) (shut : Bool) (ts : List Piece) (why : LineFault) (e : ReadError) → IsLineRefused bytes end shut ts why e → ¬ why ≡ fault.Memory
  unforgotten bytes end shut ts why e h is = unmemory one bad g bytes end shut ts e (subst (λ (w : LineFault). IsLineRefused bytes end shut ts w e) is h)

  -- a block is refused in one way
  block_once : (table : List Symbol) (bytes : List ℕ) (b : TextBlock) (e f : ReadError) → IsBlockRefused g table bytes b e → IsBlockRefused g table bytes b f → e ≡ f
  block_once table bytes b e f h k =
      let m = unforgotten bytes (end_of_block b) b.closed h.left h.why e h.refused in
      let n = unforgotten bytes (end_of_block b) b.closed k.left k.why f k.refused in
      let tokens : h.tokens ≡ k.tokens = cut_once b.start (bare b) h.tokens k.tokens h.cut k.cut in
      let same = stop_once h.why k.why h.read k.read refl tokens (h.some, h.is_fault, m) (k.some, k.is_fault, n) in
      let here = moved_stop h.last k.last h.left k.left h.why same.tables same.left (h.some, h.is_fault, m) in
      let why : h.why ≡ k.why = faults g.tables g.style g.problem k.last (lexemes k.left) h.why k.why here.1 k.is_fault m n in
      let told = subst (λ (w : LineFault). IsLineRefused bytes (end_of_block b) b.closed k.left w e) why (subst (λ (us : List Piece). IsLineRefused bytes (end_of_block b) b.closed us h.why e) same.left h.refused) in
      told_once bytes (end_of_block b) b.closed k.left k.why e f told k.refused

  -- a block whose lines are read isn't refused
  unrefused_lines : (table last : List Symbol) (bytes : List ℕ) (b : TextBlock) (ls : List Line) (e : ReadError) → HasBlockLines g table b ls last → IsBlockRefused g table bytes b e → ⊥
  unrefused_lines table last bytes b ls e h x =
      let tokens : h.0 ≡ x.tokens = cut_once b.start (bare b) h.0 x.tokens h.1 x.cut in
      unstopped one bad g x.why h.2 x.read refl tokens refl x.some x.is_fault (unforgotten bytes (end_of_block b) b.closed x.left x.why e x.refused)

  -- so the first block that is refused is one
  first_once : {table other mid next : List Symbol} {bs cs : List TextBlock} {ps qs : List (List Line)} (bytes : List ℕ) (b c : TextBlock) (behind after : List TextBlock) (e f : ReadError) → HasProofs g table bs ps mid
      → HasProofs g other cs qs next → table ≡ other → bs ++ (b ∷ behind) ≡ cs ++ (c ∷ after) → IsBlockRefused g mid bytes b e → IsBlockRefused g next bytes c f → e ≡ f
  first_once {table} {other} bytes b c behind after e f no_block no_block t s h k =
      let here = subst (λ (x : List Symbol). IsBlockRefused g x bytes c e) t (subst (λ (x : TextBlock). IsBlockRefused g table bytes x e) (heads b c behind after s).0 h) in
      block_once other bytes c e f here k
  first_once {table} {other} bytes b c behind after e f no_block (further_block {mid = mid} {b = d} {ls = ls} there rest) t s h k =
      let here = subst (λ (x : List Symbol). IsBlockRefused g x bytes d e) t (subst (λ (x : TextBlock). IsBlockRefused g table bytes x e) (heads b d _ _ s).0 h) in
      absurd (unrefused_lines other mid bytes d ls e there here)
  first_once {table} {other} bytes b c behind after e f (further_block {mid = mid} {b = d} {ls = ls} there rest) no_block t s h k =
      let here = subst (λ (x : List Symbol). IsBlockRefused g x bytes d f) (sym t) (subst (λ (x : TextBlock). IsBlockRefused g other bytes x f) (sym (heads d c _ _ s).0) k) in
      absurd (unrefused_lines table mid bytes d ls f there here)
  first_once bytes b c behind after e f (further_block {b = d} here rest) (further_block {b = x} there more) t s h k =
      let parts = heads d x _ _ s in
      let cut = subst (λ (y : TextBlock). Cuts y.start (bare y) here.0) parts.0 here.1 in
      let tokens : here.0 ≡ there.0 = cut_once x.start (bare x) here.0 there.0 cut there.1 in
      first_once bytes b c behind after e f rest more (lines_once one g here.2 there.2 t tokens refl refl).1 parts.1 h k

  blocks_refused_once : (table : List Symbol) (bytes : List ℕ) (bs : List TextBlock) (e f : ReadError) → HasRefusedBlock g table bytes bs e → HasRefusedBlock g table bytes bs f → e ≡ f
  blocks_refused_once table bytes bs e f h k = first_once bytes h.block k.block h.behind k.behind e f h.read k.read refl (sym h.split ∙ k.split) h.here k.here

module _ (says : OneOutcome) (one : OneLine) (bad : BadTokens) (faults : OneFault) (bytes : List ℕ) where
  -- what is refused in lines, behind the problem of another reading
  moved_block : (f g : FileRead) (bs cs : List TextBlock) (e : ReadError) → SameProblem says bytes f g bs cs → HasRefusedBlock (reader_of f) f.problem.symbols bytes bs e → HasRefusedBlock (reader_of g) g.problem.symbols bytes cs e
  moved_block f g bs cs e same h =
      subst (λ (x : Reader). HasRefusedBlock x g.problem.symbols bytes cs e) same.readers
      (subst (λ (x : List Symbol). HasRefusedBlock (reader_of f) x bytes cs e) same.symbols (subst (λ (x : List TextBlock). HasRefusedBlock (reader_of f) f.problem.symbols bytes x e) same.blocks h))

  moved_proofs : (f g : FileRead) (bs cs : List TextBlock) (ps : List (List Line)) (last : List Symbol) → SameProblem says bytes f g bs cs → HasProofs (reader_of f) f.problem.symbols bs ps last
      → HasProofs (reader_of g) g.problem.symbols cs ps last
  moved_proofs f g bs cs ps last same h =
      subst (λ (x : Reader). HasProofs x g.problem.symbols cs ps last) same.readers
      (subst (λ (x : List Symbol). HasProofs (reader_of f) x cs ps last) same.symbols (subst (λ (x : List TextBlock). HasProofs (reader_of f) f.problem.symbols x ps last) same.blocks h))

  -- a text with a problem isn't refused before its lines
  no_frame : (f : FileRead) (bs : List TextBlock) (byte : ℕ) → HasProblem bytes f bs → IsUnframed bytes byte → ⊥
  no_frame f bs byte h un = framed_sound bytes h.input h.rest byte h.framed un

  no_problem : (f : FileRead) (bs : List TextBlock) (input rest : List ℕ) (e : ReadError) → HasProblem bytes f bs → IsFramed bytes input rest → IsReadError Prover input e → ¬ e ≡ errors.Memory → ⊥
  no_problem f bs input rest e h framed is m =
      let texts = framed_once bytes input h.input rest h.rest framed h.framed in
      problem_sound says bytes one bad h.input h.sofar e h.says (subst (λ (t : List ℕ). IsReadError Prover t e) texts.0 is) m

  error_once : {e f : ReadError} → IsProofError bytes e → IsProofError bytes f → ¬ e ≡ errors.Memory → ¬ f ≡ errors.Memory → e ≡ f
  error_once {e} {f} (refused.frame i un at) (refused.frame j other there) m n =
      unreadable_once bytes i e f at (subst (λ (k : ℕ). IsUnreadableAt bytes k f) (unframed_once bytes j i other un) there)
  error_once (refused.frame i un at) (refused.problem framed is) m n = absurd (framed_sound bytes _ _ i framed un)
  error_once (refused.frame i un at) (refused.line has there) m n = absurd (no_frame _ _ i has un)
  error_once (refused.frame i un at) (refused.open_block has read shut there) m n = absurd (no_frame _ _ i has un)
  error_once (refused.problem framed is) (refused.frame i un at) m n = absurd (framed_sound bytes _ _ i framed un)
  error_once {e} {f} (refused.problem {input = input} {rest = rest} framed is) (refused.problem {input = other} {rest = more} there so) m n =
      let texts = framed_once bytes input other rest more framed there in
      problem_once says other e f (subst (λ (t : List ℕ). IsReadError Prover t e) texts.0 is) so m n
  error_once {e} {f} (refused.problem {input = input} {rest = rest} framed is) (refused.line has there) m n = absurd (no_problem _ _ input rest e has framed is m)
  error_once {e} {f} (refused.problem {input = input} {rest = rest} framed is) (refused.open_block has read shut there) m n = absurd (no_problem _ _ input rest e has framed is m)
  error_once (refused.line has at) (refused.frame i un there) m n = absurd (no_frame _ _ i has un)
  error_once {e} {f} (refused.line has at) (refused.problem {input = input} {rest = rest} framed is) m n = absurd (no_problem _ _ input rest f has framed is n)
  error_once {e} {f} (refused.line {f = file} {bs = bs} has at) (refused.line {f = other} {bs = cs} too there) m n =
      blocks_refused_once one bad faults (reader_of other) other.problem.symbols bytes cs e f (moved_block file other bs cs e (same_problems says bytes file other bs cs has too) at) there
  error_once {e} {f} (refused.line {f = file} {bs = bs} has at) (refused.open_block {f = other} {bs = cs} {ps = ps} {last = last} too read shut there) m n =
      absurd (unrefused_block one bad (reader_of other) other.problem.symbols last bytes cs ps e read (moved_block file other bs cs e (same_problems says bytes file other bs cs has too) at))
  error_once (refused.open_block has read shut at) (refused.frame i un there) m n = absurd (no_frame _ _ i has un)
  error_once {e} {f} (refused.open_block has read shut at) (refused.problem {input = input} {rest = rest} framed is) m n = absurd (no_problem _ _ input rest f has framed is n)
  error_once {e} {f} (refused.open_block {f = file} {bs = bs} {ps = ps} {last = last} has read shut at) (refused.line {f = other} {bs = cs} too there) m n =
      absurd (unrefused_block one bad (reader_of file) file.problem.symbols last bytes bs ps f read (moved_block other file cs bs f (same_problems says bytes other file cs bs too has) there))
  error_once {e} {f} (refused.open_block has read shut at) (refused.open_block too more open_one there) m n = unreadable_once bytes (length bytes) e f at there
  error_once refused.memory k m n = absurd (m refl)
  error_once (refused.frame i un at) refused.memory m n = absurd (n refl)
  error_once (refused.problem framed is) refused.memory m n = absurd (n refl)
  error_once (refused.line has at) refused.memory m n = absurd (n refl)
  error_once (refused.open_block has read shut at) refused.memory m n = absurd (n refl)

  same_refused : (why other : Refused) → error_of why ≡ error_of other → why ≡ other
  same_refused (Unreadable p) (Unreadable q) e = (let at : p ≡ q = cc in ap Unreadable at)
  same_refused (Unreadable p) (Misuse q row) e = absurd cc
  same_refused (Unreadable p) (TooLarge byte what) e = absurd cc
  same_refused (Misuse p row) (Unreadable q) e = absurd cc
  same_refused (Misuse p row) (Misuse q other) e = (let at : p ≡ q = cc in let rows : row ≡ other = cc in ap₂ Misuse at rows)
  same_refused (Misuse p row) (TooLarge byte what) e = absurd cc
  same_refused (TooLarge byte what) (Unreadable q) e = absurd cc
  same_refused (TooLarge byte what) (Misuse q row) e = absurd cc
  same_refused (TooLarge byte what) (TooLarge other limit) e = (let at : byte ≡ other = cc in let limits : what ≡ limit = cc in ap₂ TooLarge at limits)

  pub refused_alone : (why : Refused) → refuses_proofs bytes why → IsRefusedAlone bytes why
  refused_alone why h = (
    h,
    (λ other k. same_refused why other (error_once h k (no_memory says bytes one bad why) (no_memory says bytes one bad other))),
    λ x k. unrefused says bytes one bad x why k h,
  )
