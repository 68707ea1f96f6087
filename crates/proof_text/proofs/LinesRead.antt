-- Lines read one behind the other.
use Rattle.std.proofs.Common.{◌≡◌, ◌∙◌, inl, inr, ℕ, zero, suc, ◌+◌, ◌-◌, ◌<◌, ◌≤◌, Bool, true, false, not, List, [], ◌∷◌, ◌++◌, length, map, take, drop, get_or, refl, ap, sym, subst, arith}
use Rattle.std.proofs.lemmas.List.{drop-drop, length-append, length-drop, length-map, map-append, take_more, take_all, take-append-drop, drop_more, drop_all}
use Rattle.std.proofs.lemmas.Bool.{false≢true}
use Rattle.std.specs.List.{concat}
use Rattle.std.specs.Prelude.{if◌then◌else◌, codes}
use Rattle.fol_core.specs.SymbolTable.{Symbol, KeepsNumbers}
use Rattle.derivation.specs.declared.line.Derivation.{Derivation}
use Rattle.derivation.specs.declared.line.Line.{Line}
use Rattle.ladr_lex.specs.Cuts.{Piece, pieces_of, Cuts}
use Rattle.ladr_lex.specs.Comments.{begins_with}
use Rattle.ladr_lex.specs.Lexeme.{Lexeme, lexeme_of, lexemes_of}
use Rattle.ladr_lex.specs.declared.token.Token.{Token}
use Rattle.ladr_problem.specs.Items.{lexemes}
use Rattle.ladr_problem.specs.declared.refusal.ReadError.{ReadError}
use Rattle.proof_lines.specs.Faults.{IsLineRead, IsLineFault}
use Rattle.proof_lines.specs.declared.fault.LineFault.{LineFault}
use Rattle.proof_lines.specs.declared.line.LineRead.{LineRead}
use Rattle.proof_lines.proofs.Contents.{lexemes_long}
use Rattle.proof_lines.proofs.PartLemmas.{rest_is}
use Rattle.proof_text.specs.Blocks.{TextBlock, block, bared, bare, blank}
use Rattle.proof_text.specs.Found.{IsBlockRead, AreBlocksRead, none, further}
use Rattle.proof_text.specs.declared.blocks.BlockRead.{BlockRead}
use Rattle.proof_text.specs.declared.proofs.LineStop.{LineStop}
use Rattle.proof_text.specs.Proofs.{Reader, HasLines, no_line, further_line, HasBlockLines, HasProofs, no_block, further_block}
use Rattle.proof_text.specs.Refused.{IsLineRefused, IsBlockRefused, HasRefusedBlock}
use Rattle.proof_text.specs.Going.{lines_of_all, IsLinesStop, OrMemory}

pub lexemes_pieces : (ts : List Token) → lexemes (pieces_of ts) ≡ lexemes_of ts
lexemes_pieces [] = refl
lexemes_pieces (t ∷ ts) = ap (λ xs. lexeme_of t ∷ xs) (lexemes_pieces ts)

pub pieces_drop : (n : ℕ) (ts : List Token) → pieces_of (drop n ts) ≡ drop n (pieces_of ts)
pieces_drop zero ts = refl
pieces_drop (suc n) [] = refl
pieces_drop (suc n) (t ∷ ts) = pieces_drop n ts

-- one line more
pub lines_more : (g : Reader) {table mid : List Symbol} {ts us : List Piece} {ls : List Line} (last : List Symbol) (r : LineRead) → HasLines g table ts ls mid us
    → IsLineRead g.tables g.style g.problem mid (lexemes us) r last → HasLines g table ts (ls ++ r.line ∷ []) last (drop r.len us)
lines_more g last r no_line is = further_line r is no_line
lines_more g last r (further_line q first h) is = further_line q first (lines_more g last r h is)

-- one block more
pub proofs_more : (g : Reader) {table mid : List Symbol} {bs : List TextBlock} {ps : List (List Line)} (last : List Symbol) (b : TextBlock) (ls : List Line) → HasProofs g table bs ps mid
    → HasBlockLines g mid b ls last → HasProofs g table (bs ++ b ∷ []) (ps ++ ls ∷ []) last
proofs_more g last b ls no_block h = further_block h no_block
proofs_more g last b ls (further_block first k) h = further_block first (proofs_more g last b ls k h)

lexemes_rest : (ts : List Token) (at : ℕ) → lexemes_of (take (length ts - at) (drop at ts)) ≡ lexemes (drop at (pieces_of ts))
lexemes_rest ts at = ap lexemes_of (rest_is at ts) ∙ sym (lexemes_pieces (drop at ts)) ∙ ap lexemes (pieces_drop at ts)

pieces_rest : (ts : List Token) (at : ℕ) → pieces_of (take (length ts - at) (drop at ts)) ≡ drop at (pieces_of ts)
pieces_rest ts at = ap pieces_of (rest_is at ts) ∙ pieces_drop at ts

pieces_long : (ts : List Token) → length (pieces_of ts) ≡ length ts
pieces_long [] = refl
pieces_long (t ∷ ts) = ap suc (pieces_long ts)

-- the line at a place
pub next_line : (g : Reader) (table mid last : List Symbol) (ls : List Line) (ts : List Token) (at : ℕ) (r : LineRead) → HasLines g table (pieces_of ts) ls mid (drop at (pieces_of ts))
    → IsLineRead g.tables g.style g.problem mid (lexemes_of (take (length ts - at) (drop at ts))) r last
    → HasLines g table (pieces_of ts) (ls ++ r.line ∷ []) last (drop (at + r.len) (pieces_of ts))
next_line g table mid last ls ts at r h is =
    let read : IsLineRead g.tables g.style g.problem mid (lexemes (drop at (pieces_of ts))) r last = subst (λ us. IsLineRead g.tables g.style g.problem mid us r last) (lexemes_rest ts at) is in
    subst (λ us. HasLines g table (pieces_of ts) (ls ++ r.line ∷ []) last us) (drop-drop r.len at (pieces_of ts)) (lines_more g last r h read)

some_taken : (n : ℕ) (us vs : List Lexeme) (x : Lexeme) → take n us ≡ x ∷ vs → 0 < n
some_taken zero us vs x e = absurd cc
some_taken (suc n) us vs x e = omega arith

-- a line is one token at least, and within those that are left
pub line_some : (g : Reader) (mid last : List Symbol) (ts : List Token) (at : ℕ) (r : LineRead)
    → IsLineRead g.tables g.style g.problem mid (lexemes_of (take (length ts - at) (drop at ts))) r last → 0 < r.len
line_some g mid last ts at r is = some_taken r.len (lexemes_of (take (length ts - at) (drop at ts))) (is.first.1.item ++ is.first.1.words) is.first.1.number is.first.1.split

pub line_within : (g : Reader) (mid last : List Symbol) (ts : List Token) (at : ℕ) (r : LineRead) → at ≤ length ts
    → IsLineRead g.tables g.style g.problem mid (lexemes_of (take (length ts - at) (drop at ts))) r last → at + r.len ≤ length ts
line_within g mid last ts at r h is =
    let long : length (lexemes_of (take (length ts - at) (drop at ts))) ≡ length ts - at = lexemes_long (take (length ts - at) (drop at ts)) ∙ ap length (rest_is at ts) ∙ length-drop at ts in
    omega (arith, is.first.0, long, h)

-- all lines are read
pub whole_lines : (g : Reader) (table last : List Symbol) (ls : List Line) (ts : List Token) (at : ℕ) → length ts ≤ at
    → HasLines g table (pieces_of ts) ls last (drop at (pieces_of ts)) → HasLines g table (pieces_of ts) ls last []
whole_lines g table last ls ts at h read =
    let none_left : drop at (pieces_of ts) ≡ [] = drop_all at (pieces_of ts) (omega (arith, pieces_long ts, h)) in
    subst (λ us. HasLines g table (pieces_of ts) ls last us) none_left read

-- a line is refused at a place
pub lines_stop : (g : Reader) (table mid : List Symbol) (ls : List Line) (ts : List Token) (at : ℕ) (fault : LineFault) → at < length ts
    → HasLines g table (pieces_of ts) ls mid (drop at (pieces_of ts)) → IsLineFault g.tables g.style g.problem mid (lexemes_of (take (length ts - at) (drop at ts))) fault
    → IsLinesStop g table (pieces_of ts) (record { at = at; fault = fault })
lines_stop g table mid ls ts at fault h read is = record {
  lines = ls;
  last = mid;
  within = omega (arith, pieces_long ts, h);
  read = read;
  is_fault = subst (λ us. IsLineFault g.tables g.style g.problem mid us fault) (lexemes_rest ts at) is;
}

pub stop_within : (g : Reader) (table : List Symbol) (ts : List Token) (stop : LineStop) → IsLinesStop g table (pieces_of ts) stop → stop.at < length ts
stop_within g table ts stop is = omega (arith, is.within, pieces_long ts)

-- an item is pushed where that didn't fail
pub pushed : {A : Type 0} (ok failed : Bool) (new more old : List A) → new ≡ (if ok then more else old) → ok ≡ not failed → failed ≡ false → new ≡ more
pushed true failed new more old e n f = e
pushed false failed new more old e n f = absurd (false≢true (n ∙ ap not f))

pub keeps_on : (first second third : List Symbol) → KeepsNumbers first second → KeepsNumbers second third → KeepsNumbers first third
keeps_on first second third h k = λ n s e. k n s (h n s e)

bared_so : (passed : Bool) (line : List ℕ) → length (if passed then map blank line else line) ≡ length line
bared_so true line = length-map line blank
bared_so false line = refl

bare_long : (ls : List (List ℕ)) → length (concat (map bared ls)) ≡ length (concat ls)
bare_long [] = refl
bare_long (l ∷ ls) =
    let first : length (bared l) ≡ length l = bared_so (begins_with (codes "%") l) l in
    let a : length (bared l ++ concat (map bared ls)) ≡ length (bared l) + length (concat (map bared ls)) = length-append (bared l) (concat (map bared ls)) in
    let b : length (l ++ concat ls) ≡ length l + length (concat ls) = length-append l (concat ls) in
    a ∙ (omega (arith, first, bare_long ls)) ∙ sym b

-- a block's bytes end where it ends
pub block_end : (b : TextBlock) (r : BlockRead) → IsBlockRead b r → r.start + length r.bytes.items ≡ r.end
block_end b r is = (let long : length r.bytes.items ≡ length (concat b.lines) = ap length is.bytes ∙ bare_long b.lines in omega (arith, long, is.start, is.end))

block_cut : (b : TextBlock) (r : BlockRead) (ts : List Piece) → IsBlockRead b r → Cuts r.start r.bytes.items ts → Cuts b.start (bare b) ts
block_cut b r ts is cut = subst (λ (i : ℕ). Cuts i (bare b) ts) is.start (subst (λ us. Cuts r.start us ts) is.bytes cut)

pub block_lines : (g : Reader) (table last : List Symbol) (b : TextBlock) (r : BlockRead) (ts : List Piece) (ls : List Line) → IsBlockRead b r → Cuts r.start r.bytes.items ts
    → HasLines g table ts ls last [] → HasBlockLines g table b ls last
block_lines g table last b r ts ls is cut h = (ts, block_cut b r ts is cut, h)

-- the line at a place of a block is refused
pub block_refused : (g : Reader) (table : List Symbol) (bytes : List ℕ) (b : TextBlock) (r : BlockRead) (ts : List Token) (at : ℕ) (fault : LineFault) (e : ReadError) → IsBlockRead b r
    → Cuts r.start r.bytes.items (pieces_of ts) → IsLinesStop g table (pieces_of ts) (record { at = at; fault = fault })
    → OrMemory (IsLineRefused bytes r.end r.closed (pieces_of (take (length ts - at) (drop at ts))) fault) e → OrMemory (IsBlockRefused g table bytes b) e
block_refused g table bytes b r ts at fault e is cut stop (inl memory) = inl memory
block_refused g table bytes b r ts at fault e is cut stop (inr told) =
    let left : List Piece = drop at (pieces_of ts) in
    let long : length left ≡ length (pieces_of ts) - at = length-drop at (pieces_of ts) in
    let here : IsLineRefused bytes r.end r.closed left fault e = subst (λ us. IsLineRefused bytes r.end r.closed us fault e) (pieces_rest ts at) told in
    let closed : IsLineRefused bytes r.end b.closed left fault e = subst (λ (c : Bool). IsLineRefused bytes r.end c left fault e) is.closed here in
    inr (record {
      tokens = pieces_of ts;
      cut = block_cut b r (pieces_of ts) is cut;
      lines = stop.lines;
      last = stop.last;
      left = left;
      read = stop.read;
      some = omega (arith, long, stop.within);
      why = fault;
      is_fault = stop.is_fault;
      refused = subst (λ (end : ℕ). IsLineRefused bytes end b.closed left fault e) is.end closed;
    })

-- the block under a number
pub record HasBlockAt (bs : List TextBlock) (k : ℕ) (r : BlockRead) : Type 0 where
  pub here : TextBlock
  pub is : IsBlockRead here r
  pub split : bs ≡ take k bs ++ (here ∷ drop (k + 1) bs)
  pub more : take (k + 1) bs ≡ take k bs ++ here ∷ []

same_long : {bs : List TextBlock} {rs : List BlockRead} → AreBlocksRead bs rs → length bs ≡ length rs
same_long none = refl
same_long (further is more) = ap suc (same_long more)

read_under : {bs : List TextBlock} {rs : List BlockRead} (k : ℕ) (b : TextBlock) (r : BlockRead) → AreBlocksRead bs rs → k < length rs → IsBlockRead (get_or bs k b) (get_or rs k r)
read_under k b r none h = absurd (omega (arith, h))
read_under zero b r (further is more) h = is
read_under (suc k) b r (further is more) h = read_under k b r more (omega (arith, h))

pub block_under : (bs : List TextBlock) (rs : List BlockRead) (k : ℕ) (r : BlockRead) → AreBlocksRead bs rs → k < length rs → r ≡ get_or rs k r → HasBlockAt bs k r
block_under bs rs k r read h is =
    let long : length bs ≡ length rs = same_long read in
    let first : k < length bs = omega (arith, long, h) in
    let none_there : TextBlock = block 0 [] false in
    record {
      here = get_or bs k none_there;
      is = subst (λ q. IsBlockRead (get_or bs k none_there) q) (sym is) (read_under k none_there r read h);
      split = sym (take-append-drop k bs) ∙ ap (λ cs. take k bs ++ cs) (drop_more bs k none_there first);
      more = take_more bs k none_there first;
    }

-- the proof of one block more
pub next_proof : (g : Reader) (table mid last : List Symbol) (bs : List TextBlock) (k : ℕ) (r : BlockRead) (ds : List Derivation) (d : Derivation) (at : HasBlockAt bs k r)
    → HasProofs g table (take k bs) (lines_of_all ds) mid → HasBlockLines g mid at.here d.lines.items last → HasProofs g table (take (k + 1) bs) (lines_of_all (ds ++ d ∷ [])) last
next_proof g table mid last bs k r ds d at h here =
    let proofs : HasProofs g table (take k bs ++ at.here ∷ []) (lines_of_all ds ++ d.lines.items ∷ []) last = proofs_more g last at.here d.lines.items h here in
    let named : HasProofs g table (take k bs ++ at.here ∷ []) (lines_of_all (ds ++ d ∷ [])) last =
    subst (λ ps. HasProofs g table (take k bs ++ at.here ∷ []) ps last) (sym (map-append (λ (p : Derivation). p.lines.items) ds (d ∷ []))) proofs in
    subst (λ cs. HasProofs g table cs (lines_of_all (ds ++ d ∷ [])) last) (sym at.more) named

-- the block under a number is refused
pub refused_under : (g : Reader) (table mid : List Symbol) (bytes : List ℕ) (bs : List TextBlock) (k : ℕ) (r : BlockRead) (ps : List (List Line)) (e : ReadError) (at : HasBlockAt bs k r)
    → HasProofs g table (take k bs) ps mid → OrMemory (IsBlockRefused g mid bytes at.here) e → OrMemory (HasRefusedBlock g table bytes bs) e
refused_under g table mid bytes bs k r ps e at h (inl memory) = inl memory
refused_under g table mid bytes bs k r ps e at h (inr here) = inr (record {
  before = take k bs;
  block = at.here;
  behind = drop (k + 1) bs;
  split = at.split;
  proofs = ps;
  middle = mid;
  read = h;
  here = here;
})

-- all blocks are read
pub all_proofs : (g : Reader) (table last : List Symbol) (bs : List TextBlock) (rs : List BlockRead) (k : ℕ) (ps : List (List Line)) → AreBlocksRead bs rs → length rs ≤ k
    → HasProofs g table (take k bs) ps last → HasProofs g table bs ps last
all_proofs g table last bs rs k ps read h proofs =
    let whole : take k bs ≡ bs = take_all k bs (omega (arith, same_long read, h)) in
    subst (λ cs. HasProofs g table cs ps last) whole proofs
