-- Clauses of the formula of another line.
use Rattle.std.proofs.Common.{◌≡◌, inl, inr, ℕ, Bool, true, false, ◌==◌, ◌-◌, if◌then◌else◌, List, [], ◌∷◌, map, length, Option, Some, None, unwrap_or, refl, arith, sym, ap, ◌∙◌, subst}
use Rattle.std.proofs.lemmas.Bool.{eqb-true, eq-eqb, false≢true}
use Rattle.answered_lines.specs.Lines.{Asked, AnsweredRow, AnsweredLine, plain_lines, answered_at, counted, IsSome, IsRowWith, IsFormulaWith, IsInputWith}
use Rattle.answered_lines.specs.View.{answered_lines_of}
use Rattle.answers.specs.AnswerTrees.{Answer}
use Rattle.derivation.specs.Later.{LaterWord}
use Rattle.derivation.specs.Lines.{ContentTree, formula, is_formula_at, assumed, wanted}
use Rattle.derivation.specs.View.{later_of, lines_of}
use Rattle.derivation.specs.declared.line.Line.{Line}
use Rattle.derivation.specs.declared.row.Row.TheVariants as causes
use Rattle.derivation.specs.declared.words.Later.{Later}
use Rattle.fol_core.specs.Fol.{Fol}
use Rattle.proof_check.proofs.EarlierSteps.{plainly}
use Rattle.proof_check.specs.Found.{InputAs}
use Rattle.stated_lines.specs.Held.{IsInputOfLine}

-- whether words stand behind
no_word : (ws : List Later) → length ws ≡ 0 → map later_of ws ≡ []
no_word [] h = refl
no_word (w ∷ ws) h = absurd (omega arith)

some_word : (ws : List Later) → map later_of ws ≡ [] → length ws ≡ 0
some_word [] none = refl
some_word (w ∷ ws) none = cc

pub no_words : (ws : List Later) (n : ℕ) → n ≡ length ws → (n == 0) ≡ true → map later_of ws ≡ []
no_words ws n is e = no_word ws (sym is ∙ eqb-true n 0 e)

pub some_words : (ws : List Later) (n : ℕ) → n ≡ length ws → (n == 0) ≡ false → map later_of ws ≡ [] → ⊥
some_words ws n is e none = false≢true (sym e ∙ eq-eqb n 0 (is ∙ some_word ws none))

-- the line at a number has it
number_is : (ls : List AnsweredLine) (n : ℕ) (l : AnsweredLine) → answered_at ls n ≡ Some l → l.line.number ≡ n
number_is [] n l e = cc
number_is (k ∷ ls) n l e = by (k.line.number == n) (λ h. eqb-true k.line.number n h) (λ f. number_is ls n l f) e
  where
    by : (b : Bool) → (b ≡ true → k.line.number ≡ n) → (answered_at ls n ≡ Some l → l.line.number ≡ n) → (if b then Some k else answered_at ls n) ≡ Some l → l.line.number ≡ n
    by true is rest e = let same : k ≡ l = ap (λ o. unwrap_or o k) e in ap (λ (m : AnsweredLine). m.line.number) (sym same) ∙ is cc
    by false is rest e = rest e

module _ (ss : List Asked) (rows : List AnsweredRow) (ls : List Line) (goal : Bool) (n : ℕ) (content : ContentTree) (us : List Answer) where
  abbrev all : List AnsweredLine
  all = answered_lines_of ls

  -- what is one of the line's formula is one of that of its number, and only that
  input_of : (l : AnsweredLine) → answered_at all n ≡ Some l → IsInputOfLine ss rows l goal content us → IsInputWith ss rows all goal n content us
  input_of l at h = (h.0, h.1, (l, at, h.2.0, h.2.1, h.2.2), subst (λ m. IsSome (IsRowWith goal h.0 h.1 ss m content us) rows) (number_is all n l at) h.3)

  of_input : (l : AnsweredLine) → answered_at all n ≡ Some l → IsInputWith ss rows all goal n content us → IsInputOfLine ss rows l goal content us
  of_input l at h =
      let same : h.2.0 ≡ l = ap (λ o. unwrap_or o l) (sym h.2.1 ∙ at) in
      subst (λ (k : AnsweredLine). IsInputOfLine ss rows k goal content us) same
      (h.0, h.1, (h.2.2, h.2.3, h.2.4), subst (λ m. IsSome (IsRowWith goal h.0 h.1 ss m content us) rows) (sym (number_is all n h.2.0 h.2.1)) h.3)

  module _ (ws : List LaterWord) where
    formula_plain : (b : Bool) → is_formula_at (lines_of ls) n ≡ b → is_formula_at (plain_lines all) n ≡ b
    formula_plain b e = ap (λ ks. is_formula_at ks n) (plainly ls) ∙ e

    pub input_missing : is_formula_at (lines_of ls) n ≡ false → InputAs ss rows all goal n ws content us (Some causes.NoParent)
    input_missing e = inl (refl, formula_plain false e)

    pub input_apart : (l : AnsweredLine) → is_formula_at (lines_of ls) n ≡ true → answered_at all n ≡ Some l → (IsInputOfLine ss rows l goal content us → ⊥) → InputAs ss rows all goal n ws content us (Some causes.NoClause)
    input_apart l there at apart = inr (inl (refl, formula_plain true there, λ is. apart (of_input l at is)))

    pub input_worded : (l : AnsweredLine) → answered_at all n ≡ Some l → IsInputOfLine ss rows l goal content us → (ws ≡ [] → ⊥) → InputAs ss rows all goal n ws content us (Some causes.OtherClause)
    input_worded l at is words = inr (inr (refl, input_of l at is, words))

    pub input_is : (l : AnsweredLine) → answered_at all n ≡ Some l → IsInputOfLine ss rows l goal content us → ws ≡ [] → InputAs ss rows all goal n ws content us None
    input_is l at is none = (input_of l at is, none)
