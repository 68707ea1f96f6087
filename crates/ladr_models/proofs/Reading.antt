-- The text of an interpretation reads back.
use Rattle.std.proofs.Common.{◌≡◌, ℕ, ◌+◌, ◌-◌, List, [], ◌∷◌, map, refl, sym, ap, ap₂, ◌∙◌, subst, arith}
use Rattle.std.proofs.lemmas.Bool.{and_from, le-leb}
use Rattle.fol_core.specs.SymbolTable.{Symbol}
use Rattle.ladr_commands.specs.ByName.{by_name}
use Rattle.ladr_commands.specs.Commands.{tester_commands, interpretation_item}
use Rattle.ladr_commands.specs.Form.{form_outcome}
use Rattle.ladr_commands.proofs.Forms.{read_of}
use Rattle.ladr_lex.specs.Cuts.{pieces_of, Cuts}
use Rattle.ladr_lex.specs.Lexeme.{Lexeme, lexeme_of, lexemes_of}
use Rattle.ladr_lex.specs.declared.token.Token.{Token}
use Rattle.ladr_lex.proofs.Unique.{cut_once}
use Rattle.ladr_interpretations.specs.NamedText.{table_text}
use Rattle.ladr_models.proofs.Entries.{named, texts_are}
use Rattle.ladr_models.proofs.Parsing.{all_said, tester_said}
use Rattle.ladr_models.proofs.Tabling.{found_differ, rows_back, all_new, all_filled, all_plain}
use Rattle.ladr_models.proofs.Writing.{all_tokens, whole_text, whole_written}
use Rattle.ladr_models.specs.ReadsBack.{IsPrintable, SayTables, ReadsBack}
use Rattle.ladr_print.proofs.Writes.{Has}
use Rattle.ladr_reader.specs.Worked.{lexemes_in}
use Rattle.model_tables.specs.ModelText.{entry_lines, model_text}
use Rattle.model_tables.specs.Tables.{Listing, Finite}

text_is : (ss : List Symbol) (n k : ℕ) (t : Finite) → t.top + 1 ≡ n → model_text ss k t ≡ whole_text n k (entry_lines (map table_text (named ss t.rows)))
unfolding model_text
text_is ss n k t e = ap₂ (λ (m : ℕ) (ls : List (List ℕ)). whole_text m k (entry_lines ls)) e (texts_are ss t.rows)

-- the tokens of the text say the tables
tokens_say : (n k : ℕ) (ss : List Symbol) (t : Finite) (ts : List Lexeme) → IsPrintable n k ss t → ts ≡ all_tokens n k (named ss t.rows) → SayTables ts ss t
tokens_say n k ss t ts h e =
    let es = named ss t.rows in
    let listings = h.rows in
    let differ = found_differ ss h.tellable.different in
    let said = all_said n k es (omega (arith, h.most)) h.number (all_plain n ss t.rows h.most listings h.tellable.named) in
    let says = ap (form_outcome interpretation_item) e ∙ said in
    record {
      read = by_name n es;
      says = says;
      only = λ c d. ap (read_of c) (sym d ∙ says);
      command = ap (form_outcome tester_commands) e ∙ tester_said n k es ∙ said;
      good =
          and_from _ _ (and_from _ _ (and_from _ _ (le-leb 1 n (omega (arith, h.size))) (le-leb n 200 h.most)) (all_filled n ss t.rows listings))
          (all_new ss t.rows differ);
      tables =
          ap₂ (λ (top : ℕ) (rows : List Listing). record { top = top; rows = rows }) {x = n - 1} {y = t.top} (omega (arith, h.size))
          (rows_back n ss t.rows listings differ);
    }

text_has : (n k : ℕ) (ss : List Symbol) (t : Finite) → IsPrintable n k ss t → Has (model_text ss k t) (all_tokens n k (named ss t.rows))
text_has n k ss t h =
    subst (λ (text : List ℕ). Has text (all_tokens n k (named ss t.rows))) (sym (text_is ss n k t h.size))
    (whole_written n k (named ss t.rows) (omega (arith, h.most)) h.number (all_plain n ss t.rows h.most h.rows h.tellable.named))

pub reads_back : (n k : ℕ) (ss : List Symbol) (t : Finite) → IsPrintable n k ss t → ReadsBack (model_text ss k t) ss t
reads_back n k ss t h =
    let has = text_has n k ss t h 0 in
    record {
      pieces = has.pieces;
      cuts = has.cuts;
      only = λ others c. cut_once 0 (model_text ss k t) others has.pieces c has.cuts;
      say = tokens_say n k ss t (lexemes_in has.pieces) h has.are;
    }

-- tokens with their places
same_lexemes : (ts : List Token) → lexemes_of ts ≡ lexemes_in (pieces_of ts)
same_lexemes [] = refl
same_lexemes (t ∷ ts) = ap (λ (us : List Lexeme). lexeme_of t ∷ us) (same_lexemes ts)

pub tokens_back : (n k : ℕ) (ss : List Symbol) (t : Finite) (ts : List Token) → IsPrintable n k ss t → Cuts 0 (model_text ss k t) (pieces_of ts) → SayTables (lexemes_of ts) ss t
tokens_back n k ss t ts h c =
    let has = text_has n k ss t h 0 in
    tokens_say n k ss t (lexemes_of ts) h
    (same_lexemes ts ∙ ap lexemes_in (cut_once 0 (model_text ss k t) (pieces_of ts) has.pieces c has.cuts) ∙ has.are)
