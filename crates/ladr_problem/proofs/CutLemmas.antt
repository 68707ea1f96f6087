-- The first item of tokens.
use Rattle.std.proofs.Common.{◌≡◌, ℕ, ◌+◌, ◌<◌, ◌≤◌, Bool, true, false, ◌||◌, cond, List, [], ◌∷◌, ◌++◌, length, refl, ap, ◌∙◌, arith}
use Rattle.std.specs.Prelude.{◌==◌}
use Rattle.std.proofs.lemmas.Bool.Decides.{nat_tests}
use Rattle.std.proofs.lemmas.List.{append-nil, drop_all}
use Rattle.ladr_lex.specs.Cuts.{Piece, pieces_of}
use Rattle.ladr_lex.specs.Item.{is_stop, has_stop, IsItem, stopped, last, CutsItem}
use Rattle.ladr_lex.specs.Lexed.{lexed_behind, lexed_from}
use Rattle.ladr_lex.specs.Lexeme.{lexeme_of, lexemes_of}
use Rattle.ladr_lex.specs.declared.token.Token.{Token}
use Rattle.ladr_problem.specs.Items.{in_first_item, items_of, in_front, lexemes}

or_false : (a b : Bool) → (a || b) ≡ false → (a ≡ false) × (b ≡ false)
or_false true b e = absurd cc
or_false false b e = (refl, e)

met : (b : Bool) (x y : List (List Piece)) → b ≡ true → cond b x y ≡ x
met b x y e = rw e refl

passed : (b : Bool) (x y : List (List Piece)) → b ≡ false → cond b x y ≡ y
passed b x y e = rw e refl

-- up to the first full stop
first_item : (ps qs : List Piece) (p : Piece) → has_stop ps ≡ false → is_stop p.kind ≡ true → items_of ((ps ++ p ∷ []) ++ qs) ≡ in_front (ps ++ p ∷ []) (items_of qs)
first_item [] qs p none stop = met (is_stop p.kind) _ _ stop
first_item (r ∷ ps) qs p none stop =
    let parts = or_false (is_stop r.kind) (has_stop ps) none in
    passed (is_stop r.kind) _ _ parts.0 ∙ ap (in_first_item r) (first_item ps qs p parts.1 stop) ∙ joined r ps p (items_of qs)
  where
    joined : (r : Piece) (ps : List Piece) (p : Piece) (items : List (List Piece)) → in_first_item r (in_front (ps ++ p ∷ []) items) ≡ in_front ((r ∷ ps) ++ p ∷ []) items
    joined r [] p items = refl
    joined r (q ∷ ps) p items = refl

-- all of them, where there is none
whole_item : (ps : List Piece) → has_stop ps ≡ false → items_of ps ≡ in_front ps []
whole_item [] none = refl
whole_item (p ∷ []) none = passed (is_stop p.kind) _ _ (or_false (is_stop p.kind) false none).0
whole_item (p ∷ q ∷ ps) none =
    let parts = or_false (is_stop p.kind) (has_stop (q ∷ ps)) none in
    passed (is_stop p.kind) _ _ parts.0 ∙ ap (in_first_item p) (whole_item (q ∷ ps) parts.1)

front_items : (i : ℕ) {ps : List Piece} {bs : List ℕ} → IsItem ps bs → items_of (ps ++ lexed_behind i 0 bs) ≡ in_front ps (items_of (lexed_behind i 0 bs))
front_items i (stopped {rest} ps p none stop) = first_item ps (lexed_behind i 0 rest) p none stop
front_items i (last {ps} none) = ap items_of (append-nil ps) ∙ whole_item ps none

-- the items that are left begin with the one that is cut
pub items_ahead : (start : ℕ) (bytes : List ℕ) (item : List Piece) (at next : ℕ) → CutsItem start bytes item at next →
    items_of (lexed_from start at bytes) ≡ in_front item (items_of (lexed_from start next bytes))
items_ahead start bytes item at next c = ap items_of c.cut ∙ front_items (start + next) c.whole

-- at the end none are left
pub no_items : (start : ℕ) (bytes : List ℕ) (at : ℕ) → length bytes ≤ at → items_of (lexed_from start at bytes) ≡ []
no_items start bytes at h = ap (λ (bs : List ℕ). items_of (lexed_behind (start + at) 0 bs)) (drop_all at bytes h)

pub some_left : (n : ℕ) (b : Bool) → b ≡ (n == 0) → b ≡ false → 0 < n
some_left n b e h = grind (arith, nat_tests)

-- an item that has tokens, and one that has none
pub front_some : (ts : List Token) (items : List (List Piece)) → 0 < length ts → in_front (pieces_of ts) items ≡ pieces_of ts ∷ items
front_some [] items h = absurd (omega arith)
front_some (t ∷ ts) items h = refl

pub front_none : (ts : List Token) (items : List (List Piece)) → length ts ≡ 0 → in_front (pieces_of ts) items ≡ items
front_none [] items h = refl
front_none (t ∷ ts) items h = absurd (omega arith)

-- tokens as lexemes, with their places and without
pub lexemes_pieces : (ts : List Token) → lexemes (pieces_of ts) ≡ lexemes_of ts
lexemes_pieces [] = refl
lexemes_pieces (t ∷ ts) = ap (λ xs. lexeme_of t ∷ xs) (lexemes_pieces ts)
