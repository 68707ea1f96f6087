-- The tokens that are computed cut the text.
use Rattle.std.proofs.Common.{◌≡◌, ℕ, zero, suc, ◌+◌, ◌≤◌, List, [], ◌∷◌, ◌++◌, length, take, drop, Option, Some, None, refl, sym, ap, ◌∙◌, subst, append_assoc, arith}
use Rattle.std.proofs.lemmas.List.{length-append, length-take-le, take-append-drop, nil_from_length}
use Rattle.ladr_lex.specs.Cuts.{Piece, IsLongest, Cuts, nothing, gap, token}
use Rattle.ladr_lex.specs.Lexed.{kind_beginning, length_behind, piece, lexed_behind, lexed}
use Rattle.ladr_lex.specs.Starts.{start_of}
use Rattle.ladr_lex.specs.declared.token.TokenKind.{TokenKind}
use Rattle.ladr_lex.proofs.Extents.{told, behind_grows, extent}

pub behind_within : (b : ℕ) (bs : List ℕ) → length_behind b bs ≤ length bs
behind_within b bs = (extent (start_of b) b bs refl).within

-- what is computed is the longest
pub longest_at : (b : ℕ) (bs : List ℕ) → IsLongest (kind_beginning b bs) (b ∷ take (length_behind b bs) bs) (drop (length_behind b bs) bs)
longest_at b bs =
    let n = length_behind b bs in
    record {
      fits = (extent (start_of b) b bs refl).fits;
      longest = λ other more rest e h.
          let split : (take n bs ++ more) ++ rest ≡ bs = append_assoc (take n bs) more rest ∙ ap (λ (l : List ℕ). take n bs ++ l) (sym e) ∙ take-append-drop n bs in
          let whole = told other (b ∷ (take n bs ++ more)) h in
          let grows = behind_grows (start_of b) b (take n bs ++ more) rest in
          let bound = ap (λ (l : List ℕ). length_behind b l) split in
          nil_from_length more (omega (arith, whole.all, grows, bound, length-append (take n bs) more, length-take-le n bs (behind_within b bs)));
    }

cuts_more : (i b : ℕ) (bs : List ℕ) (n : ℕ) (o : Option TokenKind) (ps : List Piece) → IsLongest o (b ∷ take n bs) (drop n bs) → n ≤ length bs →
    Cuts (suc i + n) (drop n bs) ps → Cuts i (b ∷ bs) (piece o (b ∷ take n bs) i ++ ps)
cuts_more i b bs n o ps l w c =
    let whole : (b ∷ take n bs) ++ drop n bs ≡ b ∷ bs = ap (λ (l : List ℕ). b ∷ l) (take-append-drop n bs) in
    let place : suc i + n ≡ i + length (b ∷ take n bs) = omega (arith, length-take-le n bs w) in
    subst (λ (l : List ℕ). Cuts i l (piece o (b ∷ take n bs) i ++ ps)) whole (one o l (subst (λ (k : ℕ). Cuts k (drop n bs) ps) place c))
  where
    one : (o : Option TokenKind) → IsLongest o (b ∷ take n bs) (drop n bs) → Cuts (i + length (b ∷ take n bs)) (drop n bs) ps →
        Cuts i ((b ∷ take n bs) ++ drop n bs) (piece o (b ∷ take n bs) i ++ ps)
    one None l c = gap l c
    one (Some kind) l c = token kind l c

cuts_lexed : (i n : ℕ) (bs : List ℕ) → n ≤ length bs → Cuts (i + n) (drop n bs) (lexed_behind i n bs)
cuts_lexed i zero [] h = nothing
cuts_lexed i (suc n) [] h = absurd (omega arith)
cuts_lexed i (suc n) (b ∷ bs) h = subst (λ (m : ℕ). Cuts m (drop n bs) (lexed_behind (suc i) n bs)) (omega arith) (cuts_lexed (suc i) n bs (omega arith))
cuts_lexed i zero (b ∷ bs) h =
    let n = length_behind b bs in
    subst (λ (m : ℕ). Cuts m (b ∷ bs) (lexed_behind i zero (b ∷ bs))) (omega arith)
    (cuts_more i b bs n (kind_beginning b bs) _ (longest_at b bs) (behind_within b bs) (cuts_lexed (suc i) n bs (behind_within b bs)))

-- the tokens of bytes that stand at a place
pub cuts_at : (i : ℕ) (bytes : List ℕ) → Cuts i bytes (lexed_behind i 0 bytes)
cuts_at i bytes = subst (λ (k : ℕ). Cuts k bytes (lexed_behind i 0 bytes)) (omega arith) (cuts_lexed i 0 bytes (omega arith))

pub cuts_text : (bytes : List ℕ) → Cuts 0 bytes (lexed bytes)
cuts_text bytes = cuts_at 0 bytes
