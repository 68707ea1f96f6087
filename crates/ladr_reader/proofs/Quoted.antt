-- What begins with a quote.
use Rattle.std.proofs.Common.{◌≡◌, ℕ, true, false, List, [], ◌∷◌, None, refl, sym, subst}
use Rattle.std.proofs.lemmas.Bool.{and_parts, eqb-true}
use Rattle.ladr_lex.specs.Cuts.{is_quoted}
use Rattle.ladr_lex.specs.Numeral.{is_numeral}
use Rattle.ladr_reader.specs.Table.{quantifier_of}

-- what holds of bytes behind a quote holds of a quoted symbol
pub behind_quote : (P : List ℕ → Type 0) → ((bs : List ℕ) → P (34 ∷ bs)) → (text : List ℕ) → is_quoted text ≡ true → P text
behind_quote P all [] h = absurd (cc)
behind_quote P all (b ∷ bs) h = subst (λ (c : ℕ). P (c ∷ bs)) (sym (eqb-true b 34 (and_parts _ _ h).0)) (all bs)

pub no_word : (text : List ℕ) → is_quoted text ≡ true → quantifier_of text ≡ None
no_word = behind_quote (λ text. quantifier_of text ≡ None) (λ bs. refl)

pub no_numeral : (text : List ℕ) → is_quoted text ≡ true → is_numeral text ≡ false
no_numeral = behind_quote (λ text. is_numeral text ≡ false) (λ bs. refl)
