-- The content and the words of a line as the code has them.
use Rattle.std.specs.Prelude.{◌≡◌, ℕ, ◌+◌, ◌≤◌, Bool, true, false, List, [], ◌∷◌, ◌++◌, length, take, Option, Some, None}
use Rattle.fol_core.specs.RawTree.{RawTree}
use Rattle.fol_core.specs.RawView.{raw_of, raw_list}
use Rattle.fol_core.specs.declared.raw.Raw.{Raw}
use Rattle.fol_core.specs.SymbolTable.{Symbol}
use Rattle.derivation.specs.declared.line.Content.{Content}
use Rattle.ladr_formulas.specs.declared.styles.Style.{Style}
use Rattle.ladr_lex.specs.Lexeme.{Lexeme}
use Rattle.ladr_lex.specs.Numeral.{whole_number}
use Rattle.ladr_reader.specs.Capped.{disjuncts}
use Rattle.proof_lines.specs.Answered.{ReadAnswer, answer_views}
use Rattle.proof_lines.specs.ContentTokens.{LineTables, IsContent, IsSomeContent}
use Rattle.proof_lines.specs.Literals.{read_as_clause}
use Rattle.proof_lines.specs.Stated.{is_too_deep, is_deep_with, line_made, line_misuse, symbols_behind, IsContentOf}
use Rattle.proof_lines.specs.declared.answered.AnsweredRaw.{AnsweredRaw}
use Rattle.proof_lines.specs.declared.content.ContentRead.{ContentRead}
use Rattle.proof_lines.specs.declared.content.ContentRead.TheVariants as seen
use Rattle.proof_lines.specs.declared.content.Terms.{Terms}
use Rattle.proof_lines.specs.declared.content.Terms.TheVariants.{Formula, Clause}
use Rattle.proof_lines.specs.declared.fault.LineFault.{LineFault}
use Rattle.proof_lines.specs.declared.fault.LineFault.TheVariants as fault
use Rattle.proof_lines.specs.declared.fault.PartFault.{PartFault}
use Rattle.proof_lines.specs.declared.fault.PartFault.TheVariants.{Bad, Memory}
use Rattle.proof_lines.specs.Lines.{LineParts, IsFirstLine}
use Rattle.proof_lines.specs.declared.parts.Behind.{Behind}
use Rattle.proof_lines.specs.declared.parts.Parts.{Parts}
use Rattle.proof_words.specs.Classes.{word_text}
use Rattle.proof_words.specs.Spelling.{SaysWords, line_words}
use Rattle.proof_words.specs.Written.{written_of, written_first, states_formula}
use Rattle.proof_words.specs.declared.names.ContentKind.{ContentKind}
use Rattle.proof_words.specs.declared.names.ContentKind.TheVariants as kind

-- the number that tokens begin with
abbrev pub first_number : List Lexeme → Option ℕ
first_number [] = None
first_number (t ∷ ts) = whole_number (word_text t)

-- the code has the term, or nothing where it is too deep
abbrev pub HasTermRead : RawTree → Option Raw → Type 0
HasTermRead t (Some raw) = (raw_of raw ≡ t) × (is_too_deep true t ≡ false)
HasTermRead t None = is_too_deep true t ≡ true

-- the code has the literals and the answers, or nothing where a literal or a term is too deep
abbrev pub AreLiteralsRead : RawTree → List ReadAnswer → Option AnsweredRaw → Type 0
AreLiteralsRead t us (Some c) =
    (raw_list c.literals.items ≡ disjuncts t) × (read_as_clause (disjuncts t) ≡ true)
    × (answer_views c.answers.items ≡ us) × (is_deep_with false t us ≡ false)
AreLiteralsRead t us None = is_deep_with false t us ≡ true

-- the content is one of a clause, and the code has it; or of a formula
abbrev pub IsClauseSeen : LineTables → List Lexeme → Option AnsweredRaw → Type 0
IsClauseSeen g ts o =
    (t : RawTree) × (us : List ReadAnswer) × IsContent g false ts t us × AreLiteralsRead t us o

abbrev pub IsContentSeen : LineTables → List Lexeme → ContentRead → Type 0
IsContentSeen g ts seen.Formula = IsSomeContent g true ts × ¬ IsSomeContent g false ts
IsContentSeen g ts (seen.Clause c) = IsClauseSeen g ts c × ¬ IsSomeContent g true ts
IsContentSeen g ts (seen.Either c) = IsSomeContent g true ts × IsClauseSeen g ts c

abbrev pub kind_seen : ContentRead → ContentKind
kind_seen seen.Formula = kind.Formula
kind_seen (seen.Clause c) = kind.Clause
kind_seen (seen.Either c) = kind.Either

-- what is left of the content behind the words: the term of a formula, or a clause with its answers
abbrev pub AreTermsRead : Bool → RawTree → List ReadAnswer → Terms → Type 0
AreTermsRead true t us (Formula f) = HasTermRead t f × (us ≡ [])
AreTermsRead false t us (Clause c) = AreLiteralsRead t us c
AreTermsRead by_formula t us terms = ⊥

abbrev pub AreTermsSeen : LineTables → Bool → List Lexeme → Terms → Type 0
AreTermsSeen g by_formula ts terms =
    (t : RawTree) × (us : List ReadAnswer) × IsContent g by_formula ts t us
    × AreTermsRead by_formula t us terms

-- the tokens begin with content and words, and the code has both
pub record IsBehindRead (g : LineTables) (ts : List Lexeme) (b : Behind) : Type 0 where
  pub item : List Lexeme
  pub words : List Lexeme
  pub within : b.len ≤ length ts
  pub split : take b.len ts ≡ item ++ words
  pub content : AreTermsSeen g (states_formula (written_first b.just.first)) item b.terms
  pub says : SaysWords (line_words kind.Either) words (written_of b.just)

-- the tokens begin with a line, and the code has its parts
pub record IsPartsRead (g : LineTables) (ts : List Lexeme) (p : Parts) : Type 0 where
  pub line : LineParts
  pub first : IsFirstLine g ts line (p.behind.len + 1)
  pub number_is : line.number ≡ p.number
  pub words_are : line.words ≡ written_of p.behind.just
  pub terms_are :
      AreTermsRead (states_formula line.words.first) line.content line.answers p.behind.terms

-- nothing is said of memory
abbrev pub IsPartFault : (ℕ → Type 0) → PartFault → Type 0
IsPartFault IsBad (Bad k) = IsBad k
IsPartFault IsBad Memory = Unit {0}

-- the code has the disjuncts of a term that is a clause
abbrev pub IsClauseTerm : RawTree → List Raw → Type 0
IsClauseTerm t literals = (raw_list literals ≡ disjuncts t) × (read_as_clause (disjuncts t) ≡ true)

-- the term and the answers break no row, the code has what the term states, and behind both this
-- table
pub record IsTermStated
    (st : Style) (problem table : List Symbol) (by_formula : Bool) (t : RawTree)
    (us : List ReadAnswer) (content : Content) (after : List Symbol) : Type 0 where
  pub unmisused : line_misuse st problem table by_formula t us ≡ None
  pub content_is : IsContentOf by_formula t (line_made st table by_formula t) content
  pub symbols : after ≡ symbols_behind st table by_formula t us

-- they break this row at least; nothing is said of memory
abbrev pub IsStatedFault :
    Style → List Symbol → List Symbol → Bool → RawTree → List ReadAnswer → LineFault → Type 0
IsStatedFault st problem table by_formula t us (fault.Misused misuse) =
    line_misuse st problem table by_formula t us ≡ Some misuse
IsStatedFault st problem table by_formula t us fault.Memory = Unit {0}
IsStatedFault st problem table by_formula t us other = ⊥

-- they are too deep, or else break a row
abbrev pub IsTermFaultOf :
    Style → List Symbol → List Symbol → Bool → RawTree → List ReadAnswer → LineFault → Type 0
IsTermFaultOf st problem table by_formula t us (fault.Bad k) = ⊥
IsTermFaultOf st problem table by_formula t us fault.Deep = is_deep_with by_formula t us ≡ true
IsTermFaultOf st problem table by_formula t us (fault.Misused misuse) =
    (is_deep_with by_formula t us ≡ false)
    × (line_misuse st problem table by_formula t us ≡ Some misuse)
IsTermFaultOf st problem table by_formula t us fault.Memory = Unit {0}
