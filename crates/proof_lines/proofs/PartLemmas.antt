-- The parts of a line put together.
use Rattle.std.proofs.Common.{◌≡◌, ◌∙◌, ℕ, suc, ◌+◌, ◌-◌, ◌≤◌, true, List, [], ◌∷◌, ◌++◌, length, take, drop, Some, None, refl, ap, ap₂, sym, subst, arith, inl, inr}
use Rattle.std.proofs.lemmas.List.{length-take-le, length-drop, take-append-drop, take_all}
use Rattle.derivation.specs.declared.line.Just.{Just}
use Rattle.fol_core.specs.SymbolTable.{Symbol}
use Rattle.ladr_formulas.specs.declared.styles.Style.{Style}
use Rattle.ladr_lex.specs.Lexeme.{Lexeme, lexeme_of, lexemes_of}
use Rattle.ladr_lex.specs.Numeral.{whole_number}
use Rattle.ladr_lex.specs.declared.token.Token.{Token}
use Rattle.proof_lines.specs.ContentTokens.{LineTables, HasKind, content_in, behind_content_in}
use Rattle.proof_lines.specs.Faults.{IsBadBehindNumber, IsBadOfLine, IsLineFault, by_part}
use Rattle.proof_lines.specs.Lines.{LineParts, IsProofLine}
use Rattle.proof_lines.specs.Parsed.{first_number, IsContentSeen, kind_seen, AreTermsSeen, IsBehindRead, IsPartFault, IsPartsRead}
use Rattle.proof_lines.specs.declared.content.ContentRead.{ContentRead}
use Rattle.proof_lines.specs.declared.content.ContentRead.TheVariants as seen
use Rattle.proof_lines.specs.declared.content.Terms.{Terms}
use Rattle.proof_lines.specs.declared.fault.PartFault.{PartFault}
use Rattle.proof_lines.specs.declared.fault.PartFault.TheVariants.{Bad, Memory}
use Rattle.proof_lines.specs.declared.parts.Behind.{Behind}
use Rattle.proof_lines.proofs.Contents.{lexemes_long, lexemes_append}
use Rattle.proof_lines.proofs.FirstWords.{wider}
use Rattle.proof_words.specs.Classes.{is_of, word_text, token_number}
use Rattle.proof_words.specs.Faults.{AreFirstWords, IsBadWordToken}
use Rattle.proof_words.specs.Spelling.{line_words}
use Rattle.proof_words.specs.Written.{written_of, written_first, states_formula}
use Rattle.proof_words.specs.declared.class.TokenClass.TheVariants.{Number}
use Rattle.proof_words.specs.declared.names.ContentKind.{ContentKind}

take_both : (A B : List Lexeme) (n : ℕ) → take (length A + n) (A ++ B) ≡ A ++ take n B
take_both [] B n = (let m : 0 + n ≡ n = omega arith in ap (λ (k : ℕ). take k B) m)
take_both (a ∷ A) B n = (let m : length (a ∷ A) + n ≡ suc (length A + n) = omega arith in rw m (ap (λ us. a ∷ us) (take_both A B n)))

halves : (ts : List Token) (end : ℕ) → lexemes_of ts ≡ lexemes_of (take end ts) ++ lexemes_of (drop end ts)
halves ts end = ap lexemes_of (sym (take-append-drop end ts)) ∙ lexemes_append (take end ts) (drop end ts)

front_long : (ts : List Token) (end : ℕ) → end ≤ length ts → length (lexemes_of (take end ts)) ≡ end
front_long ts end h = lexemes_long (take end ts) ∙ length-take-le end ts h

-- the rest of tokens as a slice
pub rest_is : (n : ℕ) (ts : List Token) → take (length ts - n) (drop n ts) ≡ drop n ts
rest_is n ts = (let l : length (drop n ts) ≡ length ts - n = length-drop n ts in take_all (length ts - n) (drop n ts) (omega (arith, l)))

-- content and words, one behind the other
pub behind_read : (g : LineTables) (ts : List Token) (end n : ℕ) (kind : ContentKind) (terms : Terms) (just : Just) → end ≤ length ts
    → AreTermsSeen g (states_formula (written_first just.first)) (lexemes_of (take end ts)) terms
    → AreFirstWords (line_words kind) (lexemes_of (drop end ts)) (written_of just) n
    → IsBehindRead g (lexemes_of ts) (record { terms = terms; just = just; len = end + n })
behind_read g ts end n kind terms just h seen words =
    let front = front_long ts end h in
    let back : length (lexemes_of (drop end ts)) ≡ length (drop end ts) = lexemes_long (drop end ts) in
    let all : length (lexemes_of ts) ≡ length ts = lexemes_long ts in
    let rest : length (drop end ts) ≡ length ts - end = length-drop end ts in
    record {
      item = lexemes_of (take end ts);
      words = take n (lexemes_of (drop end ts));
      within = omega (arith, words.0, back, all, rest, h);
      split = ap₂ take (ap (λ (k : ℕ). k + n) (sym front)) (halves ts end) ∙ take_both (lexemes_of (take end ts)) (lexemes_of (drop end ts)) n;
      content = seen;
      says = wider kind (take n (lexemes_of (drop end ts))) [] (written_of just) words.1;
    }

seen_kind : (g : LineTables) (item : List Lexeme) (content : ContentRead) → IsContentSeen g item content → HasKind g item (kind_seen content)
seen_kind g item seen.Formula h = (h.0, h.1)
seen_kind g item (seen.Clause c) h = (h.1, (h.0.0, h.0.1, h.0.2))
seen_kind g item (seen.Either c) h = (h.0, (h.1.0, h.1.1, h.1.2))

-- words that can't stand behind content
pub bad_behind : (g : LineTables) (ts : List Token) (end k : ℕ) (content : ContentRead) (kind : ContentKind) → end ≤ length ts → kind ≡ kind_seen content
    → lexemes_of (take end ts) ≡ content_in (lexemes_of ts) → lexemes_of (drop end ts) ≡ behind_content_in (lexemes_of ts)
    → IsContentSeen g (lexemes_of (take end ts)) content → IsBadWordToken (line_words kind) (lexemes_of (drop end ts)) k
    → IsBadBehindNumber g (lexemes_of ts) (end + k)
bad_behind g ts end k content kind h i front back seen bad = inr (record {
  kind = kind;
  token = k;
  content = subst (λ us. HasKind g us kind) front (subst (HasKind g (lexemes_of (take end ts))) (sym i) (seen_kind g (lexemes_of (take end ts)) content seen));
  bad = subst (λ us. IsBadWordToken (line_words kind) us k) back bad;
  behind = ap (λ (n : ℕ). n + k) (sym (front_long ts end h) ∙ ap length front);
})

some_number : (t : Token) (n : ℕ) → whole_number (word_text (lexeme_of t)) ≡ Some n → (is_of Number (lexeme_of t) ≡ true) × (n ≡ token_number (lexeme_of t))
some_number t n e = (rw e refl, rw e refl)

-- a number in front of both
pub parts_read : (g : LineTables) (t : Token) (ts : List Token) (n : ℕ) (b : Behind) → whole_number (word_text (lexeme_of t)) ≡ Some n
    → IsBehindRead g (lexemes_of ts) b → IsPartsRead g (lexemes_of (t ∷ ts)) (record { number = n; behind = b })
parts_read g t ts n b e h =
    let number = some_number t n e in
    let parts : LineParts = record { number = n; content = h.content.0; answers = h.content.1; words = written_of b.just } in
    let m : b.len + 1 ≡ suc b.len = omega arith in
    let whole : IsProofLine g (lexeme_of t ∷ take b.len (lexemes_of ts)) parts = record {
      number = lexeme_of t;
      item = h.item;
      words = h.words;
      split = ap (λ us. lexeme_of t ∷ us) h.split;
      is_number = number.0;
      number_is = number.1;
      content = h.content.2;
      says = h.says;
    } in
    record {
      line = parts;
      first = (omega (arith, h.within), subst (λ (k : ℕ). IsProofLine g (take k (lexemes_of (t ∷ ts))) parts) (sym m) whole);
      number_is = refl;
      words_are = refl;
      terms_are = h.content.3;
    }

pub first_read : (g : LineTables) (ts : List Token) (n : ℕ) (b : Behind) → first_number (lexemes_of ts) ≡ Some n
    → IsBehindRead g (lexemes_of (drop 1 ts)) b → IsPartsRead g (lexemes_of ts) (record { number = n; behind = b })
first_read g [] n b e h = absurd cc
first_read g (t ∷ ts) n b e h = parts_read g t ts n b e h

-- no number
pub none_first : (g : LineTables) (ts : List Token) → first_number (lexemes_of ts) ≡ None → IsBadOfLine g (lexemes_of ts) 0
none_first g [] e = refl
none_first g (t ∷ ts) e = inl (rw e refl, refl)

-- a bad token behind it
pub bad_first : (g : LineTables) (ts : List Token) (n k : ℕ) → first_number (lexemes_of ts) ≡ Some n → IsBadBehindNumber g (lexemes_of (drop 1 ts)) k
    → IsBadOfLine g (lexemes_of ts) (k + 1)
bad_first g [] n k e h = absurd cc
bad_first g (t ∷ ts) n k e h = (let m : k + 1 ≡ suc k = omega arith in inr ((some_number t n e).0, (k, m, h)))

-- what is bad of the parts is bad of the line
pub part_fault : (g : LineTables) (st : Style) (problem table : List Symbol) (ts : List Lexeme) (fault : PartFault) → IsPartFault (IsBadOfLine g ts) fault → IsLineFault g st problem table ts (by_part fault)
part_fault g st problem table ts (Bad k) h = h
part_fault g st problem table ts Memory h = tt
