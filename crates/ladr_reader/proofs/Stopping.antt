-- Tokens up to a delimiter, with a full stop behind them.
use Rattle.std.proofs.Common.{◌≡◌, ℕ, ◌<◌, ◌≤◌, ◌+◌, List, [], ◌∷◌, ◌++◌, Option, Some, None, length, drop, take, get_or, refl, sym, ap, ◌∙◌, arith, zero, suc}
use Rattle.std.specs.Option.{option_map_or}
use Rattle.std.proofs.lemmas.List.{drop_all}
use Rattle.fol_core.specs.RawTree.{RawTree, named, no_raws}
use Rattle.ladr_lex.specs.Lexeme.{Lexeme, full_stop, unreadable, lexeme_of, lexemes_of}
use Rattle.ladr_lex.specs.declared.token.Token.{Token}
use Rattle.ladr_reader.specs.Capped.{disjuncts_within}
use Rattle.ladr_reader.specs.Fronts.{open_behind, term_run}
use Rattle.ladr_reader.specs.Machine.{Standing, Operand, Named, Word, Term, Done, standing, step, behind_term, whole}
use Rattle.ladr_reader.specs.ReadingView.{at_spot}
use Rattle.ladr_reader.specs.Table.{OperatorTable}
use Rattle.ladr_reader.specs.declared.place.Spot.{Spot}
use Rattle.ladr_reader.specs.declared.place.Spot.TheVariants.{AtOperand, AtSymbol, AtWord, AtTerm, AtStop}
use Rattle.ladr_reader.specs.declared.roles.Follow.TheVariants.{Stops}
use Rattle.ladr_reader.specs.declared.stack.Frame.{Frame}
use Rattle.ladr_reader.specs.declared.stack.Frame.TheVariants.{Group, Applied, Waiting}
use Rattle.ladr_reader.proofs.Complete.{place_of}
use Rattle.ladr_reader.proofs.Marking.{marked_from}

-- the run goes on behind a token that is no delimiter
pub run_goes :
    (tokens : List Token) (i : ℕ) (x : Token) (n m : ℕ) → i < length tokens → x ≡ get_or tokens i x → Some m ≡ open_behind (lexeme_of x) n →
    length (term_run n (drop i (lexemes_of tokens))) ≡ suc (length (term_run m (drop (i + 1) (lexemes_of tokens))))
run_goes tokens i x n m h is e =
    ap (λ ts. length (term_run n ts)) (marked_from [] tokens i x h is)
    ∙ ap (λ o. length (option_map_or (λ k. lexeme_of x ∷ term_run k (drop (i + 1) (lexemes_of tokens))) o [])) (sym e)

pub run_ends :
    (tokens : List Token) (i : ℕ) (x : Token) (n : ℕ) → i < length tokens → x ≡ get_or tokens i x → None ≡ open_behind (lexeme_of x) n →
    length (term_run n (drop i (lexemes_of tokens))) ≡ 0
run_ends tokens i x n h is e =
    ap (λ ts. length (term_run n ts)) (marked_from [] tokens i x h is)
    ∙ ap (λ o. length (option_map_or (λ k. lexeme_of x ∷ term_run k (drop (i + 1) (lexemes_of tokens))) o [])) (sym e)

pub run_over : (ts : List Lexeme) (i n : ℕ) → length ts ≤ i → length (term_run n (drop i ts)) ≡ 0
run_over ts i n h = ap (λ xs. length (term_run n xs)) (drop_all i ts h)

-- it is the first tokens
pub run_first : (n : ℕ) (ts : List Lexeme) → take (length (term_run n ts)) ts ≡ term_run n ts
run_first n [] = refl
run_first n (t ∷ ts) = by (open_behind t n) (λ m. run_first m ts)
  where
    by : (o : Option ℕ) → ((m : ℕ) → take (length (term_run m ts)) ts ≡ term_run m ts)
        → take (length (option_map_or (λ m. t ∷ term_run m ts) o [])) (t ∷ ts) ≡ option_map_or (λ m. t ∷ term_run m ts) o []
    by None rest = refl
    by (Some m) rest = ap (λ us. t ∷ us) (rest m)

pub run_within : (n : ℕ) (ts : List Lexeme) → length (term_run n ts) ≤ length ts
run_within n [] = omega arith
run_within n (t ∷ ts) = by (open_behind t n) (λ m. run_within m ts)
  where
    by : (o : Option ℕ) → ((m : ℕ) → length (term_run m ts) ≤ length ts) → length (option_map_or (λ m. t ∷ term_run m ts) o []) ≤ suc (length ts)
    by None rest = omega arith
    by (Some m) rest = let h = rest m in omega (arith, h)

pub taken : (n : ℕ) (tokens : List Token) → n ≤ length tokens → n ≡ length (take n tokens)
taken zero tokens h = refl
taken (suc n) [] h = absurd (omega (arith, h))
taken (suc n) (t ∷ ts) h = ap suc (taken n ts (omega (arith, h)))

pub lexemes_first : (n : ℕ) (tokens : List Token) → lexemes_of (take n tokens) ≡ take n (lexemes_of tokens)
lexemes_first zero tokens = refl
lexemes_first (suc n) [] = refl
lexemes_first (suc n) (t ∷ ts) = ap (λ us. lexeme_of t ∷ us) (lexemes_first n ts)

-- the tokens, and the full stop behind them
pub stopped_length : (tokens : List Token) → length (lexemes_of tokens ++ full_stop ∷ []) ≡ suc (length tokens)
stopped_length [] = refl
stopped_length (t ∷ ts) = ap suc (stopped_length ts)

pub stopped_at :
    (tokens : List Token) (i : ℕ) (x : Token) → i < length tokens → x ≡ get_or tokens i x →
    lexeme_of x ≡ get_or (lexemes_of tokens ++ full_stop ∷ []) i unreadable
stopped_at [] i x h is = absurd (omega arith)
stopped_at (t ∷ ts) zero x h is = ap lexeme_of is
stopped_at (t ∷ ts) (suc i) x h is = stopped_at ts i x (omega arith) is

pub stop_at : (tokens : List Token) → full_stop ≡ get_or (lexemes_of tokens ++ full_stop ∷ []) (length tokens) unreadable
stop_at [] = refl
stop_at (t ∷ ts) = stop_at ts

-- behind a full stop the machine stands behind an item
stops_behind :
    (n : ℕ) (t : Option (List RawTree)) (q : ℕ) (fs : List Frame) (p : Standing) (gs : List Frame) →
    behind_term n Stops t q fs ≡ standing (Some p) gs → (u : Option (List RawTree)) × (r : ℕ) × (p ≡ Done u r)
stops_behind n t q [] p gs e = (t, q, sym (ap place_of e))
stops_behind n t q (Group ∷ fs) p gs e = cc
stops_behind n t q (Applied s us ∷ fs) p gs e = cc
stops_behind n t q (Waiting part side own ∷ fs) p gs e = stops_behind n (whole n part t) own fs p gs e

pub stops :
    (n : ℕ) (g : OperatorTable) (place : Standing) (fs : List Frame) (p : Standing) (gs : List Frame) →
    step n g place fs full_stop ≡ standing (Some p) gs → (u : Option (List RawTree)) × (r : ℕ) × (p ≡ Done u r)
stops n g Operand fs p gs e = cc
stops n g (Named s) fs p gs e = stops_behind n (disjuncts_within n (named s no_raws)) 0 fs p gs e
stops n g (Word w) fs p gs e = cc
stops n g (Term t q) fs p gs e = stops_behind n t q fs p gs e
stops n g (Done t q) fs p gs e = cc

-- and has its term
pub term_there : (spot : Spot) (s : List ℕ) (u t : Option (List RawTree)) (q : ℕ) → at_spot spot s u ≡ Done t q → u ≡ t
term_there AtOperand s u t q e = cc
term_there AtSymbol s u t q e = cc
term_there (AtWord w) s u t q e = cc
term_there (AtTerm p) s u t q e = cc
term_there (AtStop p) s u t q e = cc
