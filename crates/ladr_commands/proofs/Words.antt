-- The words of commands, and what stands behind them.
use Rattle.std.proofs.Common.{◌≡◌, ℕ, Bool, true, false, if◌then◌else◌, List, ◌∷◌, Option, Some, None, is_some, refl, sym, ◌∙◌, ap, subst, codes, bytes_eq}
use Rattle.std.proofs.lemmas.Bool.{false≢true}
use Rattle.std.proofs.lemmas.Slice.Eq.{bytes_eq-Decides}
use Rattle.ladr_lex.specs.Lexeme.{Sort, Lexeme, ordinary, quoted, special, symbol}
use Rattle.ladr_commands.specs.Commands.{behind_first_token, behind_word, commands_of}
use Rattle.ladr_commands.specs.Form.{Form, token, form_outcome, SaysCommand}
use Rattle.ladr_commands.specs.Wanted.{fits, word_of, is_word, is_interpretation, is_kind_word, kind_said, is_equality}
use Rattle.ladr_commands.specs.SpelledParts.{kind_word}
use Rattle.ladr_commands.specs.declared.command.Command.{Command}
use Rattle.ladr_commands.specs.declared.wanted.Wanted.{Wanted}
use Rattle.ladr_commands.specs.declared.wanted.Wanted.TheVariants.{CommandWord, TesterWord}
use Rattle.ladr_commands.specs.declared.word.Word.{Word}
use Rattle.ladr_commands.specs.declared.word.Word.TheVariants.{Set, Clear, Assign, Op, FunctionOrder, PredicateOrder, Formulas, List as ListOf, If, EndIf}

abbrev pub text_of : Word → List ℕ
text_of Set = codes "set"
text_of Clear = codes "clear"
text_of Assign = codes "assign"
text_of Op = codes "op"
text_of FunctionOrder = codes "function_order"
text_of PredicateOrder = codes "predicate_order"
text_of Formulas = codes "formulas"
text_of ListOf = codes "list"
text_of If = codes "if"
text_of EndIf = codes "end_if"

pub word_of-text : (w : Word) → word_of (text_of w) ≡ Some w
word_of-text Set = refl
word_of-text Clear = refl
word_of-text Assign = refl
word_of-text Op = refl
word_of-text FunctionOrder = refl
word_of-text PredicateOrder = refl
word_of-text Formulas = refl
word_of-text ListOf = refl
word_of-text If = refl
word_of-text EndIf = refl

pub not_interpretation : (k : Sort) (w : Word) → is_interpretation (symbol k (text_of w)) ≡ false
not_interpretation ordinary Set = refl
not_interpretation ordinary Clear = refl
not_interpretation ordinary Assign = refl
not_interpretation ordinary Op = refl
not_interpretation ordinary FunctionOrder = refl
not_interpretation ordinary PredicateOrder = refl
not_interpretation ordinary Formulas = refl
not_interpretation ordinary ListOf = refl
not_interpretation ordinary If = refl
not_interpretation ordinary EndIf = refl
not_interpretation quoted w = refl
not_interpretation special w = refl

-- what stands behind the word of a command
pub behind_first : (k : Sort) (w : Word) → behind_first_token (symbol k (text_of w)) ≡ behind_word w
behind_first k w = rw (not_interpretation k w, word_of-text w) refl

-- a token of the class goes before
pub step : (w : Wanted) (onward : Lexeme → Form) (t : Lexeme) (rest : List Lexeme) → fits w t ≡ true → form_outcome (token w onward) (t ∷ rest) ≡ form_outcome (onward t) rest
step w onward t rest i = rw i refl

pub said_behind : (tester : Bool) (k : Sort) (w : Word) (ts : List Lexeme) (c : Command) → SaysCommand (behind_word w) ts c → SaysCommand (commands_of tester) (symbol k (text_of w) ∷ ts) c
said_behind false k w ts c h = step CommandWord behind_first_token (symbol k (text_of w)) ts (ap is_some (word_of-text w)) ∙ ap (λ f. form_outcome f ts) (behind_first k w) ∙ h
said_behind true k w ts c h = step TesterWord behind_first_token (symbol k (text_of w)) ts (rw (not_interpretation k w, word_of-text w) refl) ∙ ap (λ f. form_outcome f ts) (behind_first k w) ∙ h

-- one of the words by which a text is told
chosen : (P : Word → Type 0) (s x : List ℕ) (v w : Word) (o : Option Word) → (s ≡ x → P v) → (o ≡ Some w → P w) → (if bytes_eq s x then Some v else o) ≡ Some w → P w
chosen P s x v w o now later e = by (bytes_eq s x) refl
  where
    word_in : Word → Option Word → Word
    word_in u (Some t) = t
    word_in u None = u

    by : (b : Bool) → bytes_eq s x ≡ b → P w
    by true i = let h : Some v ≡ Some w = rw i at e in subst P (ap (word_in w) h) (now ((bytes_eq-Decides s x).0 i))
    by false i = later (rw i at e)

abbrev IsText : List ℕ → Word → Type 0
IsText s w = s ≡ text_of w

abbrev IsSomething : Option Word → Type 0
IsSomething (Some v) = Unit {0}
IsSomething None = ⊥

pub text_of-word : (s : List ℕ) (w : Word) → word_of s ≡ Some w → s ≡ text_of w
text_of-word s w e =
    chosen (IsText s) s (codes "set") Set w _ (λ i. i)
    (chosen (IsText s) s (codes "clear") Clear w _ (λ i. i)
    (chosen (IsText s) s (codes "assign") Assign w _ (λ i. i)
    (chosen (IsText s) s (codes "op") Op w _ (λ i. i)
    (chosen (IsText s) s (codes "function_order") FunctionOrder w _ (λ i. i)
    (chosen (IsText s) s (codes "predicate_order") PredicateOrder w _ (λ i. i)
    (chosen (IsText s) s (codes "formulas") Formulas w _ (λ i. i)
    (chosen (IsText s) s (codes "list") ListOf w _ (λ i. i)
    (chosen (IsText s) s (codes "if") If w _ (λ i. i)
    (chosen (IsText s) s (codes "end_if") EndIf w None (λ i. i) (λ i. absurd (subst IsSomething (sym i) tt)))))))))))
    e

-- a token that is a word
pub word_is : (word : List ℕ) (t : Lexeme) → is_word word t ≡ true → t ≡ symbol ordinary word
word_is word (symbol ordinary text) e = ap (symbol ordinary) ((bytes_eq-Decides text word).0 e)
word_is word t e = absurd (false≢true e)

pub equality_is : (t : Lexeme) → is_equality t ≡ true → t ≡ symbol special (codes "=")
equality_is (symbol special text) e = ap (symbol special) ((bytes_eq-Decides text (codes "=")).0 e)
equality_is t e = absurd (false≢true e)

pub kind_is : (t : Lexeme) → is_kind_word t ≡ true → t ≡ kind_word (kind_said t)
kind_is t e = by (is_word (codes "function") t) refl
  where
    by : (b : Bool) → is_word (codes "function") t ≡ b → t ≡ kind_word (kind_said t)
    by true i = rw i (word_is (codes "function") t i)
    by false i = rw i (word_is (codes "relation") t (rw i at e))
