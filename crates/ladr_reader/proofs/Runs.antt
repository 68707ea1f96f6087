-- Runs over the tokens of the code.
use Rattle.std.proofs.Common.{◌≡◌, ℕ, ◌≤◌, ◌<◌, ◌+◌, List, [], ◌∷◌, ◌++◌, Option, Some, None, length, take, drop, get_or, refl, ap, ◌∙◌, sym, subst, arith, suc, max, Result, Ok, Err, IfOk, IfErr}
use Rattle.std.proofs.lemmas.List.{take_more, take-append-drop, take_all, drop_all}
use Rattle.fol_core.specs.RawTree.{RawTree, depth}
use Rattle.fol_core.specs.RawView.{raw_of}
use Rattle.fol_core.specs.declared.raw.Raw.{Raw}
use Rattle.ladr_lex.specs.declared.limits.TheConstants.{MOST_LEVELS}
use Rattle.ladr_lex.specs.Lexeme.{Lexeme, unreadable, lexemes_of}
use Rattle.ladr_lex.specs.declared.token.Token.{Token}
use Rattle.ladr_reader.specs.Capped.{disjuncts_within, disjuncts}
use Rattle.ladr_reader.specs.Faults.{IsTermFault, IsFaultWhere}
use Rattle.ladr_reader.specs.Machine.{State, standing, step, next, go, Standing, Done}
use Rattle.ladr_reader.specs.Nesting.{most_open, nesting}
use Rattle.ladr_reader.specs.ReadingView.{at_spot}
use Rattle.ladr_reader.specs.Reads.{Item, BeginsItem, IsBadToken}
use Rattle.ladr_reader.specs.Table.{OperatorTable}
use Rattle.ladr_reader.specs.declared.fault.TermFault.{TermFault}
use Rattle.ladr_reader.specs.declared.fault.TermFault.TheVariants.{Bad, Deep, Memory}
use Rattle.ladr_reader.specs.declared.place.Spot.{Spot}
use Rattle.ladr_reader.specs.declared.place.Spot.TheVariants.{AtOperand, AtSymbol, AtWord, AtTerm, AtStop}
use Rattle.ladr_reader.specs.declared.stack.Frame.{Frame}
use Rattle.ladr_reader.proofs.Complete.{item_read, place_of}
use Rattle.ladr_reader.proofs.Lawful.{Lawful}
use Rattle.ladr_reader.proofs.Levels.{unbuilt}
use Rattle.ladr_reader.proofs.Live.{HasNames, begins}
use Rattle.ladr_reader.proofs.Moves.{operand, go_append}
use Rattle.ladr_reader.proofs.Sound.{runs, sound}

-- the tokens of the code as lexemes
pub lexemes_length : (tokens : List Token) → length (lexemes_of tokens) ≡ length tokens
lexemes_length [] = refl
lexemes_length (t ∷ ts) = ap suc (lexemes_length ts)

-- a run over one token more
pub run_more :
    (n : ℕ) (g : OperatorTable) (ts : List Lexeme) (i : ℕ) (x : Lexeme) (place : Standing) (fs : List Frame) → i < length ts →
    x ≡ get_or ts i unreadable → go n g (operand []) (take i ts) ≡ standing (Some place) fs →
    go n g (operand []) (take (i + 1) ts) ≡ step n g place fs x
run_more n g ts i x place fs h is e =
    ap (λ (xs : List Lexeme). go n g (operand []) xs) (take_more ts i unreadable h)
    ∙ go_append n g (operand []) (take i ts) (get_or ts i unreadable ∷ [])
    ∙ ap (λ (s : Option State). next n g s (get_or ts i unreadable)) e
    ∙ ap (λ (l : Lexeme). step n g place fs l) (sym is)

go_none : (n : ℕ) (g : OperatorTable) (xs : List Lexeme) → go n g None xs ≡ None
go_none n g [] = refl
go_none n g (x ∷ xs) = go_none n g xs

-- no item begins with tokens that stop the machine
not_begun : (n : ℕ) (g : OperatorTable) (xs : List Lexeme) → go n g (operand []) xs ≡ None → ¬ BeginsItem g xs
not_begun n g xs e b =
    let stuck : go n g (operand []) (xs ++ b.more) ≡ None =
    go_append n g (operand []) xs b.more ∙ ap (λ (s : Option State). go n g s b.more) e ∙ go_none n g b.more
    in
    let read = item_read n g b.item in
    cc

-- an item begins with its first tokens
item_begins : (g : OperatorTable) (ts : List Lexeme) (i : ℕ) (t : RawTree) → Item g ts t → BeginsItem g (take i ts)
item_begins g ts i t item = record { more = drop i ts; tree = t; item = rw (take-append-drop i ts) item }

-- the tokens are no item, and token k is the first bad one
abbrev pub IsBadAt : OperatorTable → List Lexeme → ℕ → Type 0
IsBadAt g ts k = IsBadToken g ts k × ((t : RawTree) → ¬ Item g ts t)

-- the token that stops the machine is the first bad one
pub bad_at :
    (n : ℕ) (g : OperatorTable) → Lawful g → HasNames g → (ts : List Lexeme) (i : ℕ) (place : Standing) (fs : List Frame) →
    i ≤ length ts → go n g (operand []) (take i ts) ≡ standing (Some place) fs →
    go n g (operand []) (take (i + 1) ts) ≡ None → IsBadAt g ts i
bad_at n g lawful names ts i place fs h e stuck = (
  record {
    within = h;
    before = begins n g lawful names place fs (take i ts) (runs n g lawful (take i ts) place fs e);
    here = λ _. not_begun n g (take (i + 1) ts) stuck;
  },
  λ t item. not_begun n g (take (i + 1) ts) stuck (item_begins g ts (i + 1) t item),
)

-- the end of the tokens is the first bad one where the machine doesn't stand behind an item
pub bad_end :
    (n : ℕ) (g : OperatorTable) → Lawful g → HasNames g → (ts : List Lexeme) (k : ℕ) (place : Standing) (fs : List Frame) →
    length ts ≡ k → go n g (operand []) (take k ts) ≡ standing (Some place) fs →
    ((t : Option (List RawTree)) (q : ℕ) → place ≡ Done t q → ⊥) → IsBadAt g ts k
bad_end n g lawful names ts k place fs l e other =
    let whole : take k ts ≡ ts = take_all k ts (omega arith) in (
      record {
        within = omega arith;
        before = begins n g lawful names place fs (take k ts) (runs n g lawful (take k ts) place fs e);
        here = λ h. absurd (omega arith);
      },
      λ t item. other (disjuncts_within n t) item.precedence
          (ap place_of (sym e ∙ ap (λ (xs : List Lexeme). go n g (operand []) xs) whole ∙ item_read n g item)),
    )

-- no item ends where the reader stands elsewhere
pub unstopped :
    (spot : Spot) (s : List ℕ) (u : Option (List RawTree)) → ((q : ℕ) → spot ≡ AtStop q → ⊥) →
    (t : Option (List RawTree)) (q : ℕ) → at_spot spot s u ≡ Done t q → ⊥
unstopped AtOperand s u other t q e = cc
unstopped AtSymbol s u other t q e = cc
unstopped (AtWord w) s u other t q e = cc
unstopped (AtTerm p) s u other t q e = cc
unstopped (AtStop p) s u other t q e = other p refl

-- what the tokens are where the machine stands behind an item
pub done_item :
    (n : ℕ) (g : OperatorTable) → Lawful g → (ts : List Lexeme) (i : ℕ) (place : Standing) (fs : List Frame) (t : Option (List RawTree))
    (q : ℕ) → length ts ≤ i → go n g (operand []) (take i ts) ≡ standing (Some place) fs → place ≡ Done t q →
    (u : RawTree) × (t ≡ disjuncts_within n u) × Item g ts u
done_item n g lawful ts i place fs t q h e d =
    sound n g lawful ts t q fs
    (ap (λ (xs : List Lexeme). go n g (operand []) xs) (sym (take_all i ts h))
    ∙ e
    ∙ ap (λ (p : Standing). standing (Some p) fs) d)

-- the parentheses of all tokens
pub all_noted :
    (ts : List Lexeme) (i most unclosed n : ℕ) → length ts ≤ i → n ≡ max most unclosed →
    max most (most_open unclosed (drop i ts)) ≡ most_open 0 ts → n ≡ most_open 0 ts
all_noted ts i most unclosed n h e a =
    e ∙ ap (λ (xs : List Lexeme). max most (most_open unclosed xs)) (sym (drop_all i ts h)) ∙ a

-- the answer for an item is its tree, unless it is nested too deep
abbrev pub Answers : OperatorTable → List Lexeme → Result Raw TermFault → Type 0
Answers g ts r =
    IfOk r (λ raw. Item g ts (raw_of raw)) × IfOk r (λ raw. nesting ts (raw_of raw) ≤ MOST_LEVELS) × IfErr r (IsTermFault g ts)

pub answered :
    (g : OperatorTable) (ts : List Lexeme) (t : RawTree) (n : ℕ) (r : Result Raw TermFault) → Item g ts t → n ≡ most_open 0 ts →
    IfOk r (λ raw. (raw_of raw ≡ t) × (max (depth t) n ≤ MOST_LEVELS)) →
    IfErr r (λ fault. (fault ≡ Deep) × (MOST_LEVELS < max (depth t) n)) → Answers g ts r
answered g ts t n (Ok raw) item e ok err = (
  subst (Item g ts) (sym ok.0) item,
  subst (λ (u : RawTree). nesting ts u ≤ MOST_LEVELS) (sym ok.0) (subst (λ (k : ℕ). max (depth t) k ≤ MOST_LEVELS) e ok.1),
  tt,
)
answered g ts t n (Err fault) item e ok err = (
  tt,
  tt,
  subst (IsTermFault g ts) (sym err.0) (t, item, subst (λ (k : ℕ). MOST_LEVELS < max (depth t) k) e err.1),
)

-- what is too deep in one sense is so in another
pub deep_as : {P Q : RawTree → Type 0} → ((t : RawTree) → P t → Q t) → (g : OperatorTable) (ts : List Lexeme) (f : TermFault) → IsFaultWhere P g ts f → IsFaultWhere Q g ts f
deep_as leads g ts (Bad k) h = h
deep_as leads g ts Deep h = (h.0, h.1, leads h.0 h.2)
deep_as leads g ts Memory h = tt

-- what a run over given tokens tells
pub run_item :
    (g : OperatorTable) → Lawful g → (ts : List Lexeme) (t : RawTree) (q : ℕ) →
    go MOST_LEVELS g (operand []) ts ≡ standing (Some (Done (Some (disjuncts t)) q)) [] → Item g ts t
run_item g lawful ts t q e =
    let read = sound MOST_LEVELS g lawful ts (Some (disjuncts t)) q [] e in
    let same : read.0 ≡ t = unbuilt MOST_LEVELS read.0 t (sym read.1) in
    subst (Item g ts) same read.2

pub stuck_item : (g : OperatorTable) (ts : List Lexeme) → go MOST_LEVELS g (operand []) ts ≡ None → (t : RawTree) → ¬ Item g ts t
stuck_item g ts e t item = let read = item_read MOST_LEVELS g item in cc
