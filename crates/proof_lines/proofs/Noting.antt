-- Marks of answers look back alone: those of a front are the front of the marks.
use Rattle.std.specs.List.{list_any}
use Rattle.std.proofs.lemmas.Bool.{or_parts}
use Rattle.std.proofs.Common.{◌≡◌, ◌∙◌, ℕ, zero, suc, ◌+◌, ◌<◌, ◌≤◌, Bool, true, false, ◌||◌, List, [], ◌∷◌, ◌++◌, length, get_or, take, drop, refl, ap, sym, append_assoc, append-nil}
use Rattle.std.proofs.lemmas.List.{drop_more, drop_all, take-append-drop}
use Rattle.std.proofs.Math.Seq.{take-append_seam, drop-append_seam}
use Rattle.fol_core.specs.RawTree.{RawTree}
use Rattle.ladr_commands.specs.Wanted.{is_stop}
use Rattle.ladr_lex.specs.Lexeme.{Lexeme, open_paren, close_paren, open_square, close_square, comma, full_stop, symbol, unreadable, lexeme_of, lexemes_of}
use Rattle.ladr_lex.specs.declared.token.Token.{Token}
use Rattle.ladr_reader.specs.Marks.{if_marked}
use Rattle.ladr_reader.specs.Reads.{Item}
use Rattle.ladr_reader.specs.Table.{OperatorTable}
use Rattle.proof_lines.specs.AnswerMarks.{answer_marks, begins_answer, is_name_at, marks_from, noted, noted_from, spot_behind}
use Rattle.proof_lines.specs.ContentTokens.{content_in, behind_content_in}
use Rattle.proof_lines.specs.declared.marks.Spot.{Spot}
use Rattle.proof_lines.specs.declared.marks.Spot.TheVariants.{Elsewhere}
use Rattle.proof_lines.proofs.Stops.{item_cut}

-- one token more has its mark
pub marks_next :
    (ms : List Bool) (s : Spot) (ts : List Token) (i : ℕ) (t : Token) → i < length ts → t ≡ get_or ts i t →
    answer_marks (lexemes_of ts) ≡ ms ++ marks_from s (lexemes_of (drop i ts)) →
    answer_marks (lexemes_of ts)
    ≡ (ms ++ is_name_at s (lexeme_of t) ∷ []) ++ marks_from (spot_behind s (lexeme_of t)) (lexemes_of (drop (i + 1) ts))
marks_next ms s ts i t h is e =
    e
    ∙ ap (λ us. ms ++ marks_from s (lexemes_of us)) (drop_more ts i t h ∙ ap (λ u. u ∷ drop (i + 1) ts) (sym is))
    ∙ sym (append_assoc ms (is_name_at s (lexeme_of t) ∷ []) (marks_from (spot_behind s (lexeme_of t)) (lexemes_of (drop (i + 1) ts))))

pub marks_end :
    (ms : List Bool) (s : Spot) (ts : List Token) (i : ℕ) → length ts ≤ i →
    answer_marks (lexemes_of ts) ≡ ms ++ marks_from s (lexemes_of (drop i ts)) → answer_marks (lexemes_of ts) ≡ ms
marks_end ms s ts i past e = e ∙ ap (λ us. ms ++ marks_from s (lexemes_of us)) (drop_all i ts past) ∙ append-nil ms

-- whether an answer begins from here on
abbrev pub BeginsAt : List Token → ℕ → Spot → Type 0
BeginsAt ts i s = begins_answer (lexemes_of ts) ≡ list_any (λ m. m) (marks_from s (lexemes_of (drop i ts)))

pub begins_here : (ts : List Token) (i : ℕ) (s : Spot) (t : Token) → i < length ts → t ≡ get_or ts i t → is_name_at s (lexeme_of t) ≡ true → BeginsAt ts i s → begins_answer (lexemes_of ts) ≡ true
begins_here ts i s t h is named e =
    e ∙ ap (λ us. list_any (λ m. m) (marks_from s (lexemes_of us))) (drop_more ts i t h ∙ ap (λ u. u ∷ drop (i + 1) ts) (sym is))
    ∙ ap (λ b. b || list_any (λ m. m) (marks_from (spot_behind s (lexeme_of t)) (lexemes_of (drop (i + 1) ts)))) named

pub begins_later : (ts : List Token) (i : ℕ) (s : Spot) (t : Token) → i < length ts → t ≡ get_or ts i t → is_name_at s (lexeme_of t) ≡ false → BeginsAt ts i s → BeginsAt ts (i + 1) (spot_behind s (lexeme_of t))
begins_later ts i s t h is unnamed e =
    e ∙ ap (λ us. list_any (λ m. m) (marks_from s (lexemes_of us))) (drop_more ts i t h ∙ ap (λ u. u ∷ drop (i + 1) ts) (sym is))
    ∙ ap (λ b. b || list_any (λ m. m) (marks_from (spot_behind s (lexeme_of t)) (lexemes_of (drop (i + 1) ts)))) unnamed

pub begins_nowhere : (ts : List Token) (i : ℕ) (s : Spot) → length ts ≤ i → BeginsAt ts i s → begins_answer (lexemes_of ts) ≡ false
begins_nowhere ts i s past e = e ∙ ap (λ us. list_any (λ m. m) (marks_from s (lexemes_of us))) (drop_all i ts past)

-- where none begins the tokens are read as they are
unmarked_from : (s : Spot) (ts : List Lexeme) → list_any (λ m. m) (marks_from s ts) ≡ false → noted_from s ts ≡ ts
unmarked_from s [] e = refl
unmarked_from s (t ∷ ts) e =
    let parts = or_parts (is_name_at s t) (list_any (λ m. m) (marks_from (spot_behind s t) ts)) e in
    ap (λ b. if_marked b t ∷ noted_from (spot_behind s t) ts) parts.0 ∙ ap (λ us. t ∷ us) (unmarked_from (spot_behind s t) ts parts.1)

pub unmarked : (ts : List Lexeme) → begins_answer ts ≡ false → noted ts ≡ ts
unmarked ts e = unmarked_from Elsewhere ts e

-- a marked full stop is one
pub stop_kept : (m : Bool) (t : Lexeme) → is_stop (if_marked m t) ≡ is_stop t
stop_kept false t = refl
stop_kept true open_paren = refl
stop_kept true close_paren = refl
stop_kept true open_square = refl
stop_kept true close_square = refl
stop_kept true comma = refl
stop_kept true full_stop = refl
stop_kept true (symbol k s) = refl
stop_kept true unreadable = refl

-- there are as many
pub noted_long : (s : Spot) (ts : List Lexeme) → length (noted_from s ts) ≡ length ts
noted_long s [] = refl
noted_long s (t ∷ ts) = ap suc (noted_long (spot_behind s t) ts)

-- a front
pub noted_front : (k : ℕ) (s : Spot) (ts : List Lexeme) → take k (noted_from s ts) ≡ noted_from s (take k ts)
noted_front zero s ts = refl
noted_front (suc k) s [] = refl
noted_front (suc k) s (t ∷ ts) = ap (λ us. if_marked (is_name_at s t) t ∷ us) (noted_front k (spot_behind s t) ts)

-- the content
pub noted_content : (s : Spot) (ts : List Lexeme) → content_in (noted_from s ts) ≡ noted_from s (content_in ts)
noted_content s [] = refl
noted_content s (t ∷ ts) = by (is_stop t) refl (noted_content (spot_behind s t) ts)
  where
    kept : is_stop (if_marked (is_name_at s t) t) ≡ is_stop t
    kept = stop_kept (is_name_at s t) t

    by : (b : Bool) → is_stop t ≡ b → content_in (noted_from (spot_behind s t) ts) ≡ noted_from (spot_behind s t) (content_in ts) →
        content_in (noted_from s (t ∷ ts)) ≡ noted_from s (content_in (t ∷ ts))
    by true e h = rw (kept, e) refl
    by false e h = rw (kept, e) (ap (λ us. if_marked (is_name_at s t) t ∷ us) h)

-- what is cut off before marks are put is what is cut off behind them
pub noted_take : (k : ℕ) (ts : List Lexeme) → take k (noted ts) ≡ noted (take k ts)
noted_take k ts = noted_front k Elsewhere ts

pub content_noted : (ts : List Lexeme) → content_in (noted ts) ≡ noted (content_in ts)
content_noted ts = noted_content Elsewhere ts

-- tokens that are marked are as many up to the content's end
pub content_lengths : (s : Spot) (ts : List Lexeme) → length (content_in (noted_from s ts)) ≡ length (content_in ts)
content_lengths s ts = ap length (noted_content s ts) ∙ noted_long s (content_in ts)

-- content is cut by its length
by_length : (ts : List Lexeme) → take (length (content_in ts)) ts ≡ content_in ts
by_length [] = refl
by_length (t ∷ ts) = by (is_stop t) refl (by_length ts)
  where
    by : (b : Bool) → is_stop t ≡ b → take (length (content_in ts)) ts ≡ content_in ts → take (length (content_in (t ∷ ts))) (t ∷ ts) ≡ content_in (t ∷ ts)
    by true e h = rw e refl
    by false e h = rw e (ap (λ us. t ∷ us) h)

behind_length : (ts : List Lexeme) → drop (length (content_in ts)) ts ≡ behind_content_in ts
behind_length [] = refl
behind_length (t ∷ ts) = by (is_stop t) refl (behind_length ts)
  where
    by : (b : Bool) → is_stop t ≡ b → drop (length (content_in ts)) ts ≡ behind_content_in ts → drop (length (content_in (t ∷ ts))) (t ∷ ts) ≡ behind_content_in (t ∷ ts)
    by true e h = rw e refl
    by false e h = rw e h

-- marked tokens that are an item are the content of those that they are
pub noted_cut : (g : OperatorTable) (item more : List Lexeme) (t : RawTree) → Item g (noted item) t →
    (content_in (item ++ more) ≡ item) × (behind_content_in (item ++ more) ≡ more)
noted_cut g item more t i =
    let n : ℕ = length (content_in (item ++ more)) in
    let front : take (length item) (noted (item ++ more)) ≡ noted item = noted_take (length item) (item ++ more) ∙ ap noted (take-append_seam item more) in
    let whole : noted (item ++ more) ≡ noted item ++ drop (length item) (noted (item ++ more)) =
    sym (take-append-drop (length item) (noted (item ++ more))) ∙ ap (λ us. us ++ drop (length item) (noted (item ++ more))) front in
    let cut : content_in (noted (item ++ more)) ≡ noted item = ap content_in whole ∙ (item_cut g (noted item) (drop (length item) (noted (item ++ more))) t i).0 in
    let long : n ≡ length item = sym (content_lengths Elsewhere (item ++ more)) ∙ ap length cut ∙ noted_long Elsewhere item in (
      sym (by_length (item ++ more)) ∙ ap (λ (k : ℕ). take k (item ++ more)) long ∙ take-append_seam item more,
      sym (behind_length (item ++ more)) ∙ ap (λ (k : ℕ). drop k (item ++ more)) long ∙ drop-append_seam item more,
    )
