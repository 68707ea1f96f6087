-- Tokens begin with one line at most.
use Rattle.std.proofs.Common.{◌≡◌, ◌∙◌, inl, inr, ℕ, suc, ◌+◌, Bool, true, false, List, [], ◌∷◌, ◌++◌, length, take, drop, ap, ap₂, sym, subst, append_assoc, arith}
use Rattle.std.proofs.lemmas.List.{length-append, take-append-drop, length-take-le}
use Rattle.std.proofs.Math.Seq.{take-append_seam}
use Rattle.fol_core.specs.RawTree.{RawTree}
use Rattle.ladr_lex.specs.Lexeme.{Lexeme, comma}
use Rattle.ladr_reader.proofs.Complete.{item_one}
use Rattle.proof_lines.specs.Answered.{ReadAnswer}
use Rattle.proof_lines.specs.ContentTokens.{LineTables, IsContent, content_in, behind_content_in}
use Rattle.proof_lines.specs.Lines.{LineParts, IsFirstLine}
use Rattle.proof_lines.proofs.AnsweredClauses.{clause_one, item_of}
use Rattle.proof_lines.proofs.Noting.{noted_cut}
use Rattle.proof_lines.proofs.Stops.{item_cut}
use Rattle.proof_words.specs.Classes.{is_of, token_number}
use Rattle.proof_words.specs.Faults.{AreFirstWords}
use Rattle.proof_words.specs.Spelling.{SaysWords, line_words}
use Rattle.proof_words.specs.Written.{states_formula}
use Rattle.proof_words.specs.declared.class.TokenClass.TheVariants.{Number}
use Rattle.proof_words.specs.declared.names.ContentKind.TheVariants.{Either}
use Rattle.proof_words.proofs.Spellings.{one_front}

-- content of either kind is an item of a table
pub content_cut : (g : LineTables) (by_formula : Bool) (item more : List Lexeme) (t : RawTree) (us : List ReadAnswer) → IsContent g by_formula item t us →
    (content_in (item ++ more) ≡ item) × (behind_content_in (item ++ more) ≡ more)
content_cut g true item more t us i = item_cut g.formulas item more t i.0
content_cut g false item more t [] i = item_cut g.clauses item more t (item_of g.clauses item t i.0)
content_cut g false item more t (a ∷ us) i = noted_cut g.clauses item more i.0 i.1

content_one : (g : LineTables) (by_formula : Bool) (item : List Lexeme) (t u : RawTree) (us vs : List ReadAnswer) → IsContent g by_formula item t us → IsContent g by_formula item u vs → (t ≡ u) × (us ≡ vs)
content_one g true item t u us vs i j = (item_one g.formulas item t u i.0 j.0, i.1 ∙ sym j.1)
content_one g false item t u us vs i j = clause_one g.clauses item t u us vs i j

abbrev pub head_or : Lexeme → List Lexeme → Lexeme
head_or u [] = u
head_or u (t ∷ ts) = t

abbrev pub behind_head : List Lexeme → List Lexeme
behind_head [] = []
behind_head (t ∷ ts) = ts

-- what a first line is, part by part, of the tokens
pub record FirstParts (g : LineTables) (ts : List Lexeme) (l : LineParts) (n : ℕ) : Type 0 where
  pub number : Lexeme
  pub rest : List Lexeme
  pub is : ts ≡ number ∷ rest
  pub fits : is_of Number number ≡ true
  pub number_is : l.number ≡ token_number number
  pub content : IsContent g (states_formula l.words.first) (content_in rest) l.content l.answers
  pub count : ℕ
  pub words : AreFirstWords (line_words Either) (behind_content_in rest) l.words count
  pub len : n ≡ suc (length (content_in rest) + count)

pub first_parts : (g : LineTables) (ts : List Lexeme) (l : LineParts) (n : ℕ) → IsFirstLine g ts l n → FirstParts g ts l n
first_parts g ts l n h =
    let line = h.1 in
    let back = drop n ts in
    let rest : List Lexeme = line.item ++ (line.words ++ back) in
    let whole : ts ≡ line.number ∷ rest =
    sym (take-append-drop n ts) ∙ ap (λ us. us ++ back) line.split ∙ ap (λ us. line.number ∷ us) (append_assoc line.item line.words back) in
    let cut = content_cut g (states_formula l.words.first) line.item (line.words ++ back) l.content l.answers line.content in
    let front : take (length line.words) (line.words ++ back) ≡ line.words = take-append_seam line.words back in
    let inside : length (line.words ++ back) ≡ length line.words + length back = length-append line.words back in
    let first : AreFirstWords (line_words Either) (line.words ++ back) l.words (length line.words) = (omega arith, subst (λ us. SaysWords (line_words Either) us l.words) (sym front) line.says) in
    let long : length (take n ts) ≡ suc (length line.item + length line.words) = ap length line.split ∙ ap suc (length-append line.item line.words) in
    let short : length (take n ts) ≡ n = length-take-le n ts h.0 in
    record {
      number = line.number;
      rest = rest;
      is = whole;
      fits = line.is_number;
      number_is = line.number_is;
      content = subst (λ us. IsContent g (states_formula l.words.first) us l.content l.answers) (sym cut.0) line.content;
      count = length line.words;
      words = subst (λ us. AreFirstWords (line_words Either) us l.words (length line.words)) (sym cut.1) first;
      len = sym short ∙ long ∙ ap (λ us. suc (length us + length line.words)) (sym cut.0);
    }

same_parts : (l m : LineParts) → l.number ≡ m.number → l.content ≡ m.content → l.answers ≡ m.answers → l.words ≡ m.words → l ≡ m
same_parts l m a b d c = λ i. record { number = a i; content = b i; answers = d i; words = c i }

pub one_line : (g : LineTables) (ts : List Lexeme) (l m : LineParts) (i j : ℕ) → IsFirstLine g ts l i → IsFirstLine g ts m j → (l ≡ m) × (i ≡ j)
one_line g ts l m i j h k =
    let a = first_parts g ts l i h in
    let b = first_parts g ts m j k in
    let heads : a.number ≡ b.number = ap (head_or comma) (sym a.is ∙ b.is) in
    let rests : a.rest ≡ b.rest = ap behind_head (sym a.is ∙ b.is) in
    let here : AreFirstWords (line_words Either) (behind_content_in a.rest) m.words b.count = subst (λ us. AreFirstWords (line_words Either) (behind_content_in us) m.words b.count) (sym rests) b.words in
    let words = one_front (line_words Either) (behind_content_in a.rest) l.words m.words a.count b.count a.words here in
    let there : IsContent g (states_formula m.words.first) (content_in a.rest) m.content m.answers = subst (λ us. IsContent g (states_formula m.words.first) (content_in us) m.content m.answers) (sym rests) b.content in
    let same : IsContent g (states_formula l.words.first) (content_in a.rest) m.content m.answers = subst (λ w. IsContent g (states_formula w.first) (content_in a.rest) m.content m.answers) (sym words.0) there in
    let contents = content_one g (states_formula l.words.first) (content_in a.rest) l.content m.content l.answers m.answers a.content same in (
      same_parts l m (a.number_is ∙ ap token_number heads ∙ sym b.number_is) contents.0 contents.1 words.0,
      a.len ∙ ap₂ (λ us n. suc (length (content_in us) + n)) rests words.1 ∙ sym b.len,
    )
