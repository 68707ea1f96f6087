-- How the machine moves.
use Rattle.std.proofs.Common.{◌≡◌, ℕ, ◌≤◌, Bool, true, false, List, [], ◌∷◌, ◌++◌, Option, Some, None, refl, sym, ap, ◌∙◌, rules}
use Rattle.fol_core.specs.RawTree.{RawTree, named, no_raws, raws_of}
use Rattle.fol_core.specs.declared.raw.Quantifier.{Quantifier}
use Rattle.ladr_lex.specs.Lexeme.{Sort, Lexeme, symbol}
use Rattle.ladr_lex.specs.Operators.{if_prefix, if_after}
use Rattle.ladr_lex.specs.declared.operators.Operator.{Operator}
use Rattle.ladr_reader.specs.Capped.{unless_too_deep, with_last_argument, whole_of, disjuncts_within, finished}
use Rattle.ladr_reader.specs.Machine.{State, standing, may_stand_on, closes, whole, behind_operator, behind_symbol_name, behind_term, next, go, Operand, Named}
use Rattle.ladr_reader.specs.Table.{OperatorTable, left, right, takes, grows, ends, operator_grows}
use Rattle.ladr_reader.specs.declared.roles.Follow.{Follow}
use Rattle.ladr_reader.specs.declared.roles.Follow.TheVariants.{Applies, Closes, Separates, Stops, Operates, FollowsNot}
use Rattle.ladr_reader.specs.declared.sides.Side.{Side}
use Rattle.ladr_reader.specs.declared.sides.Side.TheVariants.{Nothing, Below, UpTo}
use Rattle.ladr_reader.specs.declared.stack.Frame.{Frame}
use Rattle.ladr_reader.specs.declared.stack.Frame.TheVariants.{Group, Applied, Waiting}
use Rattle.ladr_reader.specs.declared.stack.Part.{Part}
use Rattle.ladr_reader.specs.declared.stack.Part.TheVariants.{Prefix, Infix, Quantified}
use Rattle.ladr_reader.proofs.Bounds.{takes_less, ends_or_takes, ends_left}
use Rattle.ladr_reader.proofs.Levels.{none_capped, with_capped, finished_built}

-- before an operand
abbrev pub operand : List Frame → Option State
operand fs = standing (Some Operand) fs

-- one run after another
pub go_append : (n : ℕ) (g : OperatorTable) (s : Option State) (xs ys : List Lexeme) → go n g s (xs ++ ys) ≡ go n g (go n g s xs) ys
go_append n g s [] ys = refl
go_append n g s (x ∷ xs) ys = go_append n g (next n g s x) xs ys

-- the terms that parts become
pub prefix_whole : (n : ℕ) (s : List ℕ) (t : RawTree) → whole n (Prefix s) (disjuncts_within n t) ≡ disjuncts_within n (named s (raws_of (t ∷ [])))
prefix_whole n s t = ap (λ (o : Option (List RawTree)). finished n s o (disjuncts_within n t)) (sym (none_capped n)) ∙ finished_built n s [] t

pub infix_whole :
    (n : ℕ) (s : List ℕ) (t u : RawTree) →
    whole n (Infix s (unless_too_deep n t)) (disjuncts_within n u) ≡ disjuncts_within n (named s (raws_of (t ∷ u ∷ [])))
infix_whole n s t u =
    ap (λ (o : Option (List RawTree)). finished n s o (disjuncts_within n u))
    (ap (λ (o : Option (List RawTree)). with_last_argument o (unless_too_deep n t)) (sym (none_capped n)) ∙ with_capped n [] t)
    ∙ finished_built n s (t ∷ []) u

-- the first moves of terms
pub begin_name :
    (n : ℕ) (g : OperatorTable) (k : Sort) (s : List ℕ) (fs : List Frame) → g.word s ≡ None → if_prefix (g.op s) ≡ None →
    next n g (operand fs) (symbol k s) ≡ standing (Some (Named s)) fs
begin_name n g k s fs w e = rw (w, e)

pub begin_word :
    (n : ℕ) (g : OperatorTable) (k j : Sort) (w : Quantifier) (s x : List ℕ) (fs : List Frame) → g.word s ≡ Some w →
    g.variable j x ≡ true → may_stand_on fs 750 false ≡ true →
    next n g (next n g (operand fs) (symbol k s)) (symbol j x) ≡ operand (Waiting (Quantified w x) UpTo 750 ∷ fs)
begin_word n g k j w s x fs e v h = rw (e, h, v)

pub begin_prefix :
    (n : ℕ) (g : OperatorTable) (k : Sort) (s : List ℕ) (o : Operator) (fs : List Frame) → g.word s ≡ None →
    if_prefix (g.op s) ≡ Some o → may_stand_on fs o.precedence false ≡ true →
    next n g (operand fs) (symbol k s) ≡ operand (Waiting (Prefix s) (right o.kind) o.precedence ∷ fs)
begin_prefix n g k s o fs w e h = rw (w, e, h)

-- an atom ends before a token that ends terms of precedence 0
pub behind_atom :
    (n : ℕ) (f : Follow) (s : List ℕ) (fs : List Frame) → closes f 0 ≡ true →
    behind_symbol_name n f s fs ≡ behind_term n f (disjuncts_within n (named s no_raws)) 0 fs
behind_atom n Applies s fs h = cc
behind_atom n Closes s fs h = refl
behind_atom n Separates s fs h = refl
behind_atom n Stops s fs h = refl
behind_atom n (Operates t o) s fs h = refl
behind_atom n FollowsNot s fs h = refl

-- a token that ends a term ends those within it
pub closes_less : (f : Follow) (p q : ℕ) → q ≤ p → closes f p ≡ true → closes f q ≡ true
closes_less Applies p q h c = c
closes_less Closes p q h c = refl
closes_less Separates p q h c = refl
closes_less Stops p q h c = refl
closes_less (Operates s o) p q h c = takes_less (left o.kind) o.precedence p q h c
closes_less FollowsNot p q h c = c

-- where an operator's term may stand, its left argument may
pub allows_left :
    (o : Operator) (q : ℕ) (b : Bool) (fs : List Frame) → takes (left o.kind) o.precedence q ≡ true →
    may_stand_on fs o.precedence (grows o.kind) ≡ true → may_stand_on fs q b ≡ true
allows_left o q b [] t h = refl
allows_left o q b (Group ∷ fs) t h = refl
allows_left o q b (Applied s us ∷ fs) t h = refl
allows_left o q b (Waiting part side p ∷ fs) t h = ends_left side o.kind p o.precedence q b t h

-- an operator that may stand on top takes the term before it as its left argument
pub after_operator :
    (n : ℕ) (s : List ℕ) (o : Operator) (t : Option (List RawTree)) (q : ℕ) (fs : List Frame) →
    takes (left o.kind) o.precedence q ≡ true → may_stand_on fs o.precedence (grows o.kind) ≡ true →
    behind_term n (Operates s o) t q fs ≡ behind_operator n (right o.kind) s o t fs
after_operator n s o t q [] e h = rw e
after_operator n s o t q (Group ∷ fs) e h = rw e
after_operator n s o t q (Applied r us ∷ fs) e h = rw e
after_operator n s o t q (Waiting part side p ∷ fs) e h = rw (ends_or_takes side o.kind p o.precedence h, e, h)

-- an operator with a right argument waits for it
pub behind_infix :
    (n : ℕ) (side : Side) (s : List ℕ) (o : Operator) (t : Option (List RawTree)) (q : ℕ) (b : Bool) (fs : List Frame) →
    ends side o.precedence q b ≡ true →
    behind_operator n side s o t fs ≡ operand (Waiting (Infix s (whole_of n t)) side o.precedence ∷ fs)
behind_infix n Nothing s o t q b fs h = cc
behind_infix n Below s o t q b fs h = refl
behind_infix n UpTo s o t q b fs h = refl

-- a token that ends the term that a part becomes
pub after_waiting :
    (n : ℕ) (f : Follow) (part : Part) (side : Side) (p q : ℕ) (t u : Option (List RawTree)) (fs : List Frame) →
    closes f p ≡ true → whole n part t ≡ u → behind_term n f t q (Waiting part side p ∷ fs) ≡ behind_term n f u p fs
after_waiting n f part side p q t u fs c e = rw (c, e)

-- a prefix operator's term doesn't grow to the left
pub prefix_grows : (o : Option Operator) (p : Operator) → if_prefix o ≡ Some p → operator_grows (if_after o) ≡ false
prefix_grows None p h = refl
prefix_grows (Some o) p h = search rules
