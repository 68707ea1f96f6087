-- A text is cut in one way: what cuts it is what is computed.
use Rattle.std.proofs.Common.{◌≡◌, ℕ, zero, suc, ◌+◌, ◌≤◌, List, [], ◌∷◌, ◌++◌, length, take, drop, Option, Some, None, refl, sym, ap, ◌∙◌, subst, add-zero, arith}
use Rattle.std.specs.Prelude.{IsTrue}
use Rattle.std.proofs.lemmas.List.{append-nil, take-append-drop, length-take-le}
use Rattle.ladr_lex.specs.Cuts.{Piece, can_be, IsLongest, Cuts, nothing, gap, token}
use Rattle.ladr_lex.specs.Lexed.{kind_beginning, length_behind, piece, lexed_behind}
use Rattle.ladr_lex.specs.declared.token.TokenKind.{TokenKind}
use Rattle.ladr_lex.proofs.Extents.{told}
use Rattle.ladr_lex.proofs.Lexing.{behind_within, longest_at}

-- of two fronts of one list one is a front of the other
data Fronts (t r u s : List ℕ) : Type 0 where
  shorter : (more : List ℕ) → u ≡ t ++ more → r ≡ more ++ s → Fronts t r u s
  longer : (more : List ℕ) → t ≡ u ++ more → s ≡ more ++ r → Fronts t r u s

fronts_more : (x : ℕ) (t r u s : List ℕ) → Fronts t r u s → Fronts (x ∷ t) r (x ∷ u) s
fronts_more x t r u s (shorter more e f) = shorter more (ap (λ (l : List ℕ). x ∷ l) e) f
fronts_more x t r u s (longer more e f) = longer more (ap (λ (l : List ℕ). x ∷ l) e) f

fronts : (t r u s : List ℕ) → t ++ r ≡ u ++ s → Fronts t r u s
fronts [] r u s e = shorter u refl e
fronts (x ∷ t) r [] s e = longer (x ∷ t) refl (sym e)
fronts (x ∷ t) r (y ∷ u) s e =
    let same : x ≡ y = cc in
    subst (λ (z : ℕ). Fronts (x ∷ t) r (z ∷ u) s) same (fronts_more x t r u s (fronts t r u s (cc)))

-- at one place one text is the longest
longest_unique : (k l : Option TokenKind) (t r u s : List ℕ) → IsLongest k t r → IsLongest l u s → t ++ r ≡ u ++ s → (t ≡ u) × (r ≡ s)
longest_unique k l t r u s one two e =
    elim (fronts t r u s e) [
      | shorter more e f ↦ (let none = one.longest l more s f (subst (λ (w : List ℕ). IsTrue (can_be l w)) e two.fits) in (sym (append-nil t) ∙ ap (λ (w : List ℕ). t ++ w) (sym none) ∙ sym e, f ∙ ap (λ (w : List ℕ). w ++ s) none))
      | longer more e f ↦ (let none = two.longest k more r f (subst (λ (w : List ℕ). IsTrue (can_be k w)) e one.fits) in (e ∙ ap (λ (w : List ℕ). u ++ w) none ∙ append-nil u, sym (f ∙ ap (λ (w : List ℕ). w ++ r) none)))
    ]

-- what the first byte of the longest text tells
record Leads (o : Option TokenKind) (b : ℕ) (m rest : List ℕ) : Type 0 where
  kind : kind_beginning b (m ++ rest) ≡ o
  text : take (length_behind b (m ++ rest)) (m ++ rest) ≡ m
  rest_of : drop (length_behind b (m ++ rest)) (m ++ rest) ≡ rest

leads : (o : Option TokenKind) (b : ℕ) (m rest : List ℕ) → IsLongest o (b ∷ m) rest → Leads o b m rest
leads o b m rest l =
    let bs = m ++ rest in
    let n = length_behind b bs in
    let found = longest_at b bs in
    let same = longest_unique (kind_beginning b bs) o (b ∷ take n bs) (drop n bs) (b ∷ m) rest found l (ap (λ (w : List ℕ). b ∷ w) (take-append-drop n bs)) in
    let tail : take n bs ≡ m = cc in
    record {
      kind = sym (told (kind_beginning b bs) (b ∷ take n bs) found.fits).kind ∙ ap (kind_beginning b) tail ∙ (told o (b ∷ m) l.fits).kind;
      text = tail;
      rest_of = same.1;
    }

-- bytes that belong to what is before are passed over
pub lexed_skip : (i n : ℕ) (bs : List ℕ) → n ≤ length bs → lexed_behind i n bs ≡ lexed_behind (i + n) 0 (drop n bs)
lexed_skip i zero bs h = ap (λ (k : ℕ). lexed_behind k 0 bs) (sym (add-zero i))
lexed_skip i (suc n) [] h = absurd (omega arith)
lexed_skip i (suc n) (b ∷ bs) h = lexed_skip (suc i) n bs (omega arith) ∙ ap (λ (k : ℕ). lexed_behind k 0 (drop n bs)) (omega arith)

pub lexed_front : (i b : ℕ) (bs : List ℕ) → lexed_behind i 0 (b ∷ bs) ≡ piece (kind_beginning b bs) (b ∷ take (length_behind b bs) bs) i ++ lexed_behind (suc i + length_behind b bs) 0 (drop (length_behind b bs) bs)
lexed_front i b bs = ap (λ (l : List Piece). piece (kind_beginning b bs) (b ∷ take (length_behind b bs) bs) i ++ l) (lexed_skip (suc i) (length_behind b bs) bs (behind_within b bs))

lexed_longest : (i : ℕ) (o : Option TokenKind) (text rest : List ℕ) → IsLongest o text rest → lexed_behind i 0 (text ++ rest) ≡ piece o text i ++ lexed_behind (i + length text) 0 rest
lexed_longest i o [] rest l = absurd (told o [] l.fits)
lexed_longest i o (b ∷ m) rest l =
    let t = leads o b m rest l in
    let place : suc i + length_behind b (m ++ rest) ≡ i + length (b ∷ m) = omega (arith, ap length t.text, length-take-le (length_behind b (m ++ rest)) (m ++ rest) (behind_within b (m ++ rest))) in
    lexed_front i b (m ++ rest) ∙ (λ j. piece (t.kind j) (b ∷ t.text j) i ++ lexed_behind (place j) 0 (t.rest_of j))

-- the tokens are those computed
pub is_lexed : {i : ℕ} {bytes : List ℕ} {ts : List Piece} → Cuts i bytes ts → ts ≡ lexed_behind i 0 bytes
is_lexed nothing = refl
is_lexed (gap {i} {text} {rest} l c) = is_lexed c ∙ sym (lexed_longest i None text rest l)
is_lexed (token {i} {text} {rest} kind l c) = ap (λ (ps : List Piece). record { kind = kind; text = text; start = i } ∷ ps) (is_lexed c) ∙ sym (lexed_longest i (Some kind) text rest l)

pub cut_once : (i : ℕ) (bytes : List ℕ) (ps qs : List Piece) → Cuts i bytes ps → Cuts i bytes qs → ps ≡ qs
cut_once i bytes ps qs one two = is_lexed one ∙ sym (is_lexed two)
