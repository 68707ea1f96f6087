-- Lines gathered to blocks.
use Rattle.std.proofs.Common.{◌≡◌, ◌∙◌, ℕ, ◌+◌, ◌-◌, ◌≤◌, true, false, List, [], ◌∷◌, ◌++◌, length, map, drop, refl, ap, ap₂, sym, subst, append_assoc, append-nil, arith}
use Rattle.std.proofs.lemmas.List.{length-append, drop_all, map-append}
use Rattle.std.proofs.lemmas.List.Folds.{list_any-append, concat-append}
use Rattle.std.specs.Prelude.{slice_range}
use Rattle.std.specs.List.{list_any, concat}
use Rattle.proof_text.specs.Blocks.{TextBlock, block, HasBlocks, nothing, outside, closed, still_open, lines_in, is_proof_banner, is_end_banner, bared}
use Rattle.proof_text.specs.Found.{IsBlockRead, AreBlocksRead, none, further, IsBlockFound, HasFoundBlocks}
use Rattle.proof_text.specs.Found as found
use Rattle.proof_text.specs.declared.blocks.BlockRead.{BlockRead}
use Rattle.proof_text.proofs.LineLemmas.{slice_long}

-- a line stands at a place, and the text goes on at another
pub record HasLineAt (bytes line : List ℕ) (at end : ℕ) : Type 0 where
  pub lines : lines_in (drop at bytes) ≡ line ∷ lines_in (drop end bytes)
  pub place : end ≡ at + length line

-- the lines of a block so far, none of which ends it
pub record Gathered (bytes : List ℕ) (start at : ℕ) (text : List ℕ) : Type 0 where
  pub inner : List (List ℕ)
  pub no_end : list_any is_end_banner inner ≡ false
  pub split : lines_in (drop start bytes) ≡ inner ++ lines_in (drop at bytes)
  pub place : at ≡ start + length (concat inner)
  pub text_is : text ≡ concat (map bared inner)

pub gathered_none : (bytes : List ℕ) (start : ℕ) → Gathered bytes start start []
gathered_none bytes start = record { inner = []; no_end = refl; split = refl; place = omega arith; text_is = refl }

concat_single : (l : List ℕ) → concat (l ∷ []) ≡ l
concat_single l = append-nil l

pub gathered_more : (bytes : List ℕ) (start at end : ℕ) (text line : List ℕ) → Gathered bytes start at text → HasLineAt bytes line at end → is_end_banner line ≡ false
    → Gathered bytes start end (text ++ bared line)
gathered_more bytes start at end text line g l goes = record {
  inner = g.inner ++ line ∷ [];
  no_end = list_any-append is_end_banner g.inner (line ∷ []) ∙ (rw (g.no_end, goes) refl);
  split = g.split ∙ ap (λ ls. g.inner ++ ls) l.lines ∙ sym (append_assoc g.inner (line ∷ []) (lines_in (drop end bytes)));
  place =
      let long : length (concat (g.inner ++ line ∷ [])) ≡ length (concat g.inner) + length line =
      ap length (concat-append g.inner (line ∷ []) ∙ ap (λ us. concat g.inner ++ us) (concat_single line)) ∙ length-append (concat g.inner) line in
      omega (arith, g.place, l.place, long);
  text_is = ap₂ (λ us vs. us ++ vs) g.text_is (sym (concat_single (bared line))) ∙ sym (concat-append (map bared g.inner) (bared line ∷ [])) ∙ ap concat (sym (map-append bared g.inner (line ∷ [])));
}

pub closed_at : (bytes : List ℕ) (start at next : ℕ) (text line : List ℕ) (r : BlockRead) → Gathered bytes start at text → HasLineAt bytes line at next → is_end_banner line ≡ true
    → r.start ≡ start → r.end ≡ at → r.bytes.items ≡ text → r.closed ≡ true → IsBlockFound bytes start r next
closed_at bytes start at next text line r g l ends a b c d =
    found.closed g.inner line g.no_end ends (g.split ∙ ap (λ ls. g.inner ++ ls) l.lines) (omega (arith, g.place, l.place))
    (record { start = a; end = b ∙ g.place; bytes = c ∙ g.text_is; closed = d })

pub open_at : (bytes : List ℕ) (start at : ℕ) (text : List ℕ) (r : BlockRead) → Gathered bytes start at text → at ≡ length bytes
    → r.start ≡ start → r.end ≡ at → r.bytes.items ≡ text → r.closed ≡ false → IsBlockFound bytes start r at
open_at bytes start at text r g whole a b c d =
    let empty : lines_in (drop at bytes) ≡ [] = ap lines_in (drop_all at bytes (omega (arith, whole))) in
    found.still_open g.inner g.no_end (g.split ∙ ap (λ ls. g.inner ++ ls) empty ∙ append-nil g.inner) whole
    (record { start = a; end = b ∙ g.place; bytes = c ∙ g.text_is; closed = d })

-- blocks that were found in front of a place
pub record Passed (bytes : List ℕ) (from at : ℕ) (found : List BlockRead) : Type 0 where
  pub blocks : List TextBlock
  pub read : AreBlocksRead blocks found
  pub onward : (more : List TextBlock) → HasBlocks at (lines_in (drop at bytes)) more → HasBlocks from (lines_in (drop from bytes)) (blocks ++ more)

pub passed_none : (bytes : List ℕ) (from : ℕ) → Passed bytes from from []
passed_none bytes from = record { blocks = []; read = none; onward = λ more h. h }

pub passed_line : (bytes : List ℕ) (from at end : ℕ) (line : List ℕ) (rs : List BlockRead) → Passed bytes from at rs → HasLineAt bytes line at end → is_proof_banner line ≡ false
    → Passed bytes from end rs
passed_line bytes from at end line rs p l plain = record {
  blocks = p.blocks;
  read = p.read;
  onward = λ more h.
      let there : HasBlocks (at + length line) (lines_in (drop end bytes)) more = subst (λ (i : ℕ). HasBlocks i (lines_in (drop end bytes)) more) l.place h in
      p.onward more (subst (λ ls. HasBlocks at ls more) (sym l.lines) (outside plain there));
}

read_more : {bs : List TextBlock} {rs : List BlockRead} (b : TextBlock) (r : BlockRead) → AreBlocksRead bs rs → IsBlockRead b r → AreBlocksRead (bs ++ b ∷ []) (rs ++ r ∷ [])
read_more b r none h = further h none
read_more b r (further i is) h = further i (read_more b r is h)

no_line_there : {A : Type 0} (x : A) (xs : List A) → x ∷ xs ≡ [] → ⊥
no_line_there x xs e = (let l : length (x ∷ xs) ≡ 0 = ap length e in omega (arith, l))

no_blocks : {i : ℕ} {ls : List (List ℕ)} {more : List TextBlock} → HasBlocks i ls more → ls ≡ [] → more ≡ []
no_blocks nothing e = refl
no_blocks (outside n h) e = absurd (no_line_there _ _ e)
no_blocks (closed end a b c h) e = absurd (no_line_there _ _ e)
no_blocks (still_open a b) e = absurd (no_line_there _ _ e)

pub passed_block : (bytes : List ℕ) (from at start next : ℕ) (line : List ℕ) (rs : List BlockRead) (r : BlockRead) → Passed bytes from at rs → HasLineAt bytes line at start
    → is_proof_banner line ≡ true → IsBlockFound bytes start r next → Passed bytes from next (rs ++ r ∷ [])
passed_block bytes from at start next line rs r p l begins (found.closed inner end inside ends split place read) = record {
  blocks = p.blocks ++ block start inner true ∷ [];
  read = read_more (block start inner true) r p.read read;
  onward = λ more h.
      let long : next ≡ at + length line + length (concat inner) + length end = omega (arith, place, l.place) in
      let there : HasBlocks (at + length line + length (concat inner) + length end) (lines_in (drop next bytes)) more = subst (λ (i : ℕ). HasBlocks i (lines_in (drop next bytes)) more) long h in
      let made : HasBlocks at (line ∷ (inner ++ (end ∷ lines_in (drop next bytes)))) (block (at + length line) inner true ∷ more) = closed end begins inside ends there in
      let whole : lines_in (drop at bytes) ≡ line ∷ (inner ++ (end ∷ lines_in (drop next bytes))) = l.lines ∙ ap (λ ls. line ∷ ls) split in
      let named : HasBlocks at (lines_in (drop at bytes)) (block start inner true ∷ more) =
      subst (λ ls. HasBlocks at ls (block start inner true ∷ more)) (sym whole) (subst (λ (i : ℕ). HasBlocks at (line ∷ (inner ++ (end ∷ lines_in (drop next bytes)))) (block i inner true ∷ more)) (sym l.place) made) in
      subst (λ bs. HasBlocks from (lines_in (drop from bytes)) bs) (sym (append_assoc p.blocks (block start inner true ∷ []) more)) (p.onward (block start inner true ∷ more) named);
}
passed_block bytes from at start next line rs r p l begins (found.still_open inner inside split whole read) = record {
  blocks = p.blocks ++ block start inner false ∷ [];
  read = read_more (block start inner false) r p.read read;
  onward = λ more h.
      let empty : lines_in (drop next bytes) ≡ [] = ap lines_in (drop_all next bytes (omega (arith, whole))) in
      let last : more ≡ [] = no_blocks h empty in
      let made : HasBlocks at (line ∷ inner) (block (at + length line) inner false ∷ []) = still_open begins inside in
      let all : lines_in (drop at bytes) ≡ line ∷ inner = l.lines ∙ ap (λ ls. line ∷ ls) split in
      let named : HasBlocks at (lines_in (drop at bytes)) (block start inner false ∷ []) =
      subst (λ ls. HasBlocks at ls (block start inner false ∷ [])) (sym all) (subst (λ (i : ℕ). HasBlocks at (line ∷ inner) (block i inner false ∷ [])) (sym l.place) made) in
      subst (λ bs. HasBlocks from (lines_in (drop from bytes)) bs) (sym (append_assoc p.blocks (block start inner false ∷ []) more ∙ ap (λ ms. p.blocks ++ block start inner false ∷ ms) last)) (p.onward (block start inner false ∷ []) named);
}

pub at_line : (bytes : List ℕ) (at end : ℕ) → at ≤ end → end ≤ length bytes → lines_in (drop at bytes) ≡ slice_range bytes at end ∷ lines_in (drop end bytes)
    → HasLineAt bytes (slice_range bytes at end) at end
at_line bytes at end h k lines = (let long : length (slice_range bytes at end) ≡ end - at = slice_long bytes at end h k in record { lines = lines; place = omega (arith, long, h) })

-- at the end all are found
pub all_found : (bytes : List ℕ) (from at : ℕ) (rs : List BlockRead) → Passed bytes from at rs → length bytes ≤ at → HasFoundBlocks from (lines_in (drop from bytes)) rs
all_found bytes from at rs p h =
    let empty : lines_in (drop at bytes) ≡ [] = ap lines_in (drop_all at bytes h) in
    let last : HasBlocks at (lines_in (drop at bytes)) [] = subst (λ ls. HasBlocks at ls []) (sym empty) nothing in
    (p.blocks, subst (λ bs. HasBlocks from (lines_in (drop from bytes)) bs) (append-nil p.blocks) (p.onward [] last), p.read)
