-- The kind of a token is that of its bytes.
use Rattle.std.proofs.Common.{◌≡◌, ℕ, suc, true, false, List, [], ◌∷◌, take, Some, inl, inr, refl, sym, ap}
use Rattle.std.specs.Prelude.{is_some}
use Rattle.std.specs.List.{prefix_len}
use Rattle.std.proofs.lemmas.Bool.{cases_Bool}
use Rattle.ladr_lex.specs.Bytes.{is_quotable}
use Rattle.ladr_lex.specs.Lexed.{quote_ends, is_block, is_ended, kind_begun_by, kind_beginning, behind_in, length_behind}
use Rattle.ladr_lex.specs.Starts.{start_of, kind_with, kind_in}
use Rattle.ladr_lex.specs.declared.bytes.TokenStart.{TokenStart}
use Rattle.ladr_lex.specs.declared.bytes.TokenStart.TheVariants.{Blank, Word, Sign, Quote, Percent, Single}
use Rattle.ladr_lex.specs.declared.token.TokenKind.{TokenKind}
use Rattle.ladr_lex.specs.declared.token.TokenKind.TheVariants.{Quoted}

-- a quoted symbol has bytes behind its first quote
quoted_more : (bs : List ℕ) → quote_ends bs ≡ true → kind_with Quote (take (suc (prefix_len is_quotable bs)) bs) ≡ Quoted
quoted_more [] h = absurd (cc)
quoted_more (b ∷ bs) h = refl

begun : (t : TokenStart) (b : ℕ) (bs : List ℕ) → is_some (kind_begun_by t bs) ≡ true → kind_begun_by t bs ≡ Some (kind_with t (take (behind_in t b bs) bs))
begun Blank b bs h = absurd (cc)
begun Word b bs h = refl
begun Sign b bs h = refl
begun Quote b bs h =
    elim (cases_Bool (quote_ends bs)) [
      | inl y ↦ rw y (ap (λ (k : TokenKind). Some k) (sym (quoted_more bs y)))
      | inr n ↦ rw n refl
    ]
begun Percent b bs h =
    elim (cases_Bool (is_block bs)) [
      | inr n ↦ absurd (let none : is_some (kind_begun_by Percent bs) ≡ false = rw n refl in cc)
      | inl y ↦ elim (cases_Bool (is_ended bs)) [
        | inl e ↦ absurd (let none : is_some (kind_begun_by Percent bs) ≡ false = rw (y, e) refl in cc)
        | inr n ↦ rw (y, n) refl
      ]
    ]
begun (Single kind) b bs h = refl

pub kind_told : (b : ℕ) (bs : List ℕ) → is_some (kind_beginning b bs) ≡ true → kind_beginning b bs ≡ Some (kind_in (b ∷ take (length_behind b bs) bs))
kind_told b bs h = begun (start_of b) b bs h
