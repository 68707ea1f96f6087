-- The machine goes on as the control does, whatever names and trees it holds.
use Rattle.std.proofs.Common.{◌≡◌, ℕ, ◌≤◌, ◌<◌, ◌+◌, Bool, true, false, ◌&&◌, List, [], ◌∷◌, Option, Some, None, length, take, get_or, refl, sym, ap, ◌∙◌, if◌then◌else◌}
use Rattle.std.specs.Option.{is_some}
use Rattle.fol_core.specs.RawTree.{RawTree}
use Rattle.fol_core.specs.declared.raw.Quantifier.{Quantifier}
use Rattle.ladr_lex.specs.Lexeme.{Lexeme, unreadable}
use Rattle.ladr_lex.specs.declared.operators.Operator.{Operator}
use Rattle.ladr_reader.specs.Control.{Control, at, turn_of, waits_allow, ends_terms, start, bind_variable, turn_operator, turn_close, turn_comma, turn_stop, turn_act, turn_behind, turn_behind_name, control_step}
use Rattle.ladr_reader.specs.Machine.{State, standing, start_of, follow_of, variable_of, may_stand_on, closes, whole, begin, bind, behind_operator, behind_close, behind_comma, behind_stop, behind_symbol_name, act, behind_term, step, go, Standing, Operand, Named, Word, Term, Done}
use Rattle.ladr_reader.specs.Reads.{Item}
use Rattle.ladr_reader.specs.Table.{OperatorTable, left, right, takes, grows}
use Rattle.ladr_reader.specs.declared.recognizing.Place.{Place}
use Rattle.ladr_reader.specs.declared.recognizing.Place.TheVariants.{BeforeOperand, BehindName, BehindWord, BehindTerm, BehindItem}
use Rattle.ladr_reader.specs.declared.roles.Follow.{Follow}
use Rattle.ladr_reader.specs.declared.roles.Follow.TheVariants.{Applies, Closes, Separates, Stops, Operates, FollowsNot}
use Rattle.ladr_reader.specs.declared.roles.TermStart.{TermStart}
use Rattle.ladr_reader.specs.declared.roles.TermStart.TheVariants.{Opens, Quantifies, Precedes, Names, StartsNot}
use Rattle.ladr_reader.specs.declared.sides.Side.{Side}
use Rattle.ladr_reader.specs.declared.sides.Side.TheVariants.{Nothing, Below, UpTo}
use Rattle.ladr_reader.specs.declared.stack.Frame.{Frame}
use Rattle.ladr_reader.specs.declared.stack.Frame.TheVariants.{Group, Applied, Waiting}
use Rattle.ladr_reader.specs.declared.waits.Wait.{Wait}
use Rattle.ladr_reader.specs.declared.waits.Wait.TheVariants.{Parenthesis, Arguments, Last}
use Rattle.ladr_reader.proofs.Lawful.{Lawful}
use Rattle.ladr_reader.proofs.Live.{HasNames}
use Rattle.ladr_reader.proofs.Moves.{operand}
use Rattle.ladr_reader.proofs.Runs.{IsBadAt, run_more, bad_at, bad_end, done_item}

-- what of a state decides which tokens may come
abbrev pub wait_of : Frame → Wait
wait_of Group = Parenthesis
wait_of (Applied s us) = Arguments
wait_of (Waiting part side p) = Last side p

abbrev pub waits_of : List Frame → List Wait
waits_of [] = []
waits_of (f ∷ fs) = wait_of f ∷ waits_of fs

abbrev pub kind_of : Standing → Place
kind_of Operand = BeforeOperand
kind_of (Named s) = BehindName
kind_of (Word w) = BehindWord
kind_of (Term t q) = BehindTerm q
kind_of (Done t q) = BehindItem

abbrev pub control_of : Option State → Option Control
control_of None = None
control_of (Some s) = at (Some (kind_of s.place)) (waits_of s.stack)

under_test : (b c : Bool) (s : Option State) (e : Option Control) → b ≡ c → control_of s ≡ e → control_of (if b then s else None) ≡ (if c then e else None)
under_test true c s e h k = rw (sym h) k
under_test false c s e h k = rw (sym h) refl

allowed : (fs : List Frame) (q : ℕ) (b : Bool) → may_stand_on fs q b ≡ waits_allow (waits_of fs) q b
allowed [] q b = refl
allowed (Group ∷ fs) q b = refl
allowed (Applied s us ∷ fs) q b = refl
allowed (Waiting part side p ∷ fs) q b = refl

ended : (f : Follow) (p : ℕ) → closes f p ≡ ends_terms (turn_of f) p
ended Applies p = refl
ended Closes p = refl
ended Separates p = refl
ended Stops p = refl
ended (Operates s o) p = refl
ended FollowsNot p = refl

started : (s : TermStart) (fs : List Frame) → control_of (begin s fs) ≡ start s (waits_of fs)
started Opens fs = refl
started (Quantifies w) fs = under_test (may_stand_on fs 750 false) _ _ _ (allowed fs 750 false) refl
started (Precedes s o) fs = under_test (may_stand_on fs o.precedence false) _ _ _ (allowed fs o.precedence false) refl
started (Names s) fs = refl
started StartsNot fs = refl

bound : (w : Quantifier) (x : Option (List ℕ)) (fs : List Frame) → control_of (bind w x fs) ≡ bind_variable (is_some x) (waits_of fs)
bound w None fs = refl
bound w (Some x) fs = refl

operated : (n : ℕ) (side : Side) (s : List ℕ) (o : Operator) (t : Option (List RawTree)) (fs : List Frame) → control_of (behind_operator n side s o t fs) ≡ turn_operator side o.precedence (waits_of fs)
operated n Nothing s o t fs = refl
operated n Below s o t fs = refl
operated n UpTo s o t fs = refl

closed : (n : ℕ) (t : Option (List RawTree)) (fs : List Frame) → control_of (behind_close n t fs) ≡ turn_close (waits_of fs)
closed n t [] = refl
closed n t (Group ∷ fs) = refl
closed n t (Applied s us ∷ fs) = refl
closed n t (Waiting part side p ∷ fs) = refl

separated : (n : ℕ) (t : Option (List RawTree)) (fs : List Frame) → control_of (behind_comma n t fs) ≡ turn_comma (waits_of fs)
separated n t [] = refl
separated n t (Group ∷ fs) = refl
separated n t (Applied s us ∷ fs) = refl
separated n t (Waiting part side p ∷ fs) = refl

stopped : (t : Option (List RawTree)) (q : ℕ) (fs : List Frame) → control_of (behind_stop t q fs) ≡ turn_stop (waits_of fs)
stopped t q [] = refl
stopped t q (f ∷ fs) = refl

acted : (n : ℕ) (f : Follow) (t : Option (List RawTree)) (q : ℕ) (fs : List Frame) → control_of (act n f t q fs) ≡ turn_act (turn_of f) q (waits_of fs)
acted n Applies t q fs = refl
acted n Closes t q fs = closed n t fs
acted n Separates t q fs = separated n t fs
acted n Stops t q fs = stopped t q fs
acted n (Operates s o) t q fs =
    under_test (takes (left o.kind) o.precedence q && may_stand_on fs o.precedence (grows o.kind)) _ _ _
    (ap (λ (b : Bool). takes (left o.kind) o.precedence q && b) (allowed fs o.precedence (grows o.kind)))
    (operated n (right o.kind) s o t fs)
acted n FollowsNot t q fs = refl

either : (b c : Bool) (s t : Option State) (e f : Option Control) → b ≡ c → control_of s ≡ e → control_of t ≡ f → control_of (if b then s else t) ≡ (if c then e else f)
either true c s t e f h k l = rw (sym h) k
either false c s t e f h k l = rw (sym h) l

behind : (n : ℕ) (f : Follow) (t : Option (List RawTree)) (q : ℕ) (fs : List Frame) → control_of (behind_term n f t q fs) ≡ turn_behind (turn_of f) q (waits_of fs)
behind n f t q [] = acted n f t q []
behind n f t q (Group ∷ fs) = acted n f t q (Group ∷ fs)
behind n f t q (Applied s us ∷ fs) = acted n f t q (Applied s us ∷ fs)
behind n f t q (Waiting part side p ∷ fs) =
    either (closes f p) (ends_terms (turn_of f) p) _ _ _ _ (ended f p) (behind n f (whole n part t) p fs) (acted n f t q (Waiting part side p ∷ fs))

named : (n : ℕ) (f : Follow) (s : List ℕ) (fs : List Frame) → control_of (behind_symbol_name n f s fs) ≡ turn_behind_name (turn_of f) (waits_of fs)
named n Applies s fs = refl
named n Closes s fs = behind n Closes _ 0 fs
named n Separates s fs = behind n Separates _ 0 fs
named n Stops s fs = behind n Stops _ 0 fs
named n (Operates r o) s fs = behind n (Operates r o) _ 0 fs
named n FollowsNot s fs = behind n FollowsNot _ 0 fs

pub stepped : (n : ℕ) (g : OperatorTable) (place : Standing) (fs : List Frame) (x : Lexeme) → control_of (step n g place fs x) ≡ control_step g (kind_of place) (waits_of fs) x
stepped n g Operand fs x = started (start_of g x) fs
stepped n g (Named s) fs x = named n (follow_of g x) s fs
stepped n g (Word w) fs x = bound w (variable_of g.variable x) fs
stepped n g (Term t q) fs x = behind n (follow_of g x) t q fs
stepped n g (Done t q) fs x = refl

-- the state that the control is of
pub record IsStateOf (s : Option State) (place : Place) (ws : List Wait) : Type 0 where
  pub stands : Standing
  pub stack : List Frame
  pub is : s ≡ standing (Some stands) stack
  pub kind : kind_of stands ≡ place
  pub waits : waits_of stack ≡ ws

abbrev place_in : Option Control → Place
place_in None = BeforeOperand
place_in (Some c) = c.place

abbrev waits_in : Option Control → List Wait
waits_in None = []
waits_in (Some c) = c.waits

state_of : (s : Option State) (place : Place) (ws : List Wait) → control_of s ≡ at (Some place) ws → IsStateOf s place ws
state_of None place ws e = cc
state_of (Some s) place ws e = record { stands = s.place; stack = s.stack; is = refl; kind = ap place_in e; waits = ap waits_in e }

-- where the control stands behind the first tokens
abbrev pub IsControl : OperatorTable → List Lexeme → Place → List Wait → Type 0
IsControl g ts place ws = control_of (go 0 g (operand []) ts) ≡ at (Some place) ws

-- one token more
pub control_more :
    (g : OperatorTable) (ts : List Lexeme) (i : ℕ) (x : Lexeme) (place : Place) (ws : List Wait) → i < length ts →
    x ≡ get_or ts i unreadable → IsControl g (take i ts) place ws →
    control_of (go 0 g (operand []) (take (i + 1) ts)) ≡ control_step g place ws x
control_more g ts i x place ws h is e =
    let s = state_of _ place ws e in
    ap control_of (run_more 0 g ts i x s.stands s.stack h is s.is)
    ∙ stepped 0 g s.stands s.stack x
    ∙ (λ j. control_step g (s.kind j) (s.waits j) x)

none_of : (s : Option State) → control_of s ≡ None → s ≡ None
none_of None e = refl
none_of (Some s) e = cc

-- the token that stops the control is the first bad one
pub control_bad :
    (g : OperatorTable) → Lawful g → HasNames g → (ts : List Lexeme) (i : ℕ) (place : Place) (ws : List Wait) →
    i ≤ length ts → IsControl g (take i ts) place ws → control_of (go 0 g (operand []) (take (i + 1) ts)) ≡ None → IsBadAt g ts i
control_bad g lawful names ts i place ws h e stuck =
    let s = state_of _ place ws e in
    bad_at 0 g lawful names ts i s.stands s.stack h s.is (none_of _ stuck)

-- the end of the tokens is the first bad one where the control doesn't stand behind an item
pub control_end :
    (g : OperatorTable) → Lawful g → HasNames g → (ts : List Lexeme) (k : ℕ) (place : Place) (ws : List Wait) →
    length ts ≡ k → IsControl g (take k ts) place ws → (place ≡ BehindItem → ⊥) → IsBadAt g ts k
control_end g lawful names ts k place ws l e other =
    let s = state_of _ place ws e in
    bad_end 0 g lawful names ts k s.stands s.stack l s.is (λ t q d. other (sym s.kind ∙ ap kind_of d))

behind_item : (p : Standing) → kind_of p ≡ BehindItem → (t : Option (List RawTree)) × (q : ℕ) × (p ≡ Done t q)
behind_item Operand e = cc
behind_item (Named s) e = cc
behind_item (Word w) e = cc
behind_item (Term t q) e = cc
behind_item (Done t q) e = (t, q, refl)

-- and where it does, the tokens are one
pub control_item :
    (g : OperatorTable) → Lawful g → (ts : List Lexeme) (i : ℕ) (place : Place) (ws : List Wait) →
    length ts ≤ i → IsControl g (take i ts) place ws → place ≡ BehindItem → (t : RawTree) × Item g ts t
control_item g lawful ts i place ws h e b =
    let s = state_of _ place ws e in
    let d = behind_item s.stands (s.kind ∙ b) in
    let read = done_item 0 g lawful ts i s.stands s.stack d.0 d.1 h s.is d.2 in
    (read.0, read.2)
