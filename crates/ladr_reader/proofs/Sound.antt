-- What the machine has read is what the tokens are.
use Rattle.std.proofs.Common.{◌≡◌, ℕ, ◌≤◌, Bool, true, false, ◌&&◌, if◌then◌else◌, List, [], ◌∷◌, ◌++◌, Option, Some, None, refl, ap, ◌∙◌, sym, subst, append_assoc, append-nil}
use Rattle.fol_core.specs.RawTree.{RawTree, named, quantified, no_raws, raws_of}
use Rattle.fol_core.specs.declared.raw.Quantifier.{Quantifier}
use Rattle.ladr_lex.specs.Lexeme.{Sort, Lexeme, open_paren, close_paren, comma, full_stop, symbol}
use Rattle.ladr_lex.specs.Operators.{if_prefix, if_after}
use Rattle.ladr_lex.specs.declared.operators.Operator.{Operator}
use Rattle.ladr_reader.specs.Capped.{with_last_argument, whole_of, disjuncts_within, finished}
use Rattle.ladr_reader.specs.Machine.{State, standing, start_of, start_of_symbol, follow_of, follow_of_symbol, variable_of, may_stand_on, closes, whole, begin, bind, behind_operator, behind_close, behind_comma, behind_stop, behind_symbol_name, act, behind_term, step, next, go, Standing, Operand, Named, Word, Term, Done}
use Rattle.ladr_reader.specs.Reads.{Reads, atom, applied, group, bound, prefixed, postfixed, infixed, ReadsAll, single, further, Item}
use Rattle.ladr_reader.specs.Table.{OperatorTable, left, right, takes, grows, ends, tree_grows}
use Rattle.ladr_reader.specs.declared.sides.Side.{Side}
use Rattle.ladr_reader.specs.declared.sides.Side.TheVariants.{Nothing, Below, UpTo}
use Rattle.ladr_reader.specs.declared.stack.Frame.{Frame}
use Rattle.ladr_reader.specs.declared.stack.Frame.TheVariants.{Group, Applied, Waiting}
use Rattle.ladr_reader.specs.declared.stack.Part.{Part}
use Rattle.ladr_reader.specs.declared.stack.Part.TheVariants.{Prefix, Infix, Quantified}
use Rattle.ladr_reader.proofs.Lawful.{Lawful, after_own, prefix_room, below_room, up_to_room, reads_at_most}
use Rattle.ladr_reader.proofs.Levels.{all_capped, none_capped, with_capped, whole_built, finished_built, quantification_built}
use Rattle.ladr_reader.proofs.Moves.{operand, prefix_whole, infix_whole, prefix_grows}
use Rattle.ladr_reader.proofs.Splits.{Split, longer, joined, pushed, changed}

-- what is built is the tree of the tokens, a term that may stand on top of what waits
pub record Becomes (n : ℕ) (g : OperatorTable) (fs : List Frame) (made : Option (List RawTree)) (p : ℕ) (ts : List Lexeme) : Type 0 where
  pub tree : RawTree
  pub is : made ≡ disjuncts_within n tree
  pub reads : Reads g ts tree p
  pub fits : may_stand_on fs p (tree_grows g tree) ≡ true

-- with its last argument the part is such a term, and an atom may be its last argument
pub record Waits (n : ℕ) (g : OperatorTable) (fs : List Frame) (part : Part) (side : Side) (p : ℕ) (ts : List Lexeme) : Type 0 where
  pub becomes :
      (xs : List Lexeme) (t : RawTree) (q : ℕ) → Reads g xs t q → ends side p q (tree_grows g t) ≡ true →
      Becomes n g fs (whole n part (disjuncts_within n t)) p (ts ++ xs)
  pub room : (b : Bool) → ends side p 0 b ≡ true

-- arguments, each with its comma
pub data Given (g : OperatorTable) : List Lexeme → List RawTree → Type 0 where
  nothing : Given g [] []
  some : {ts : List Lexeme} {us : List RawTree} → ReadsAll g ts us → Given g (ts ++ comma ∷ []) us

-- a symbol that is no word and no prefix operator
pub record IsName (g : OperatorTable) (s : List ℕ) (ts : List Lexeme) : Type 0 where
  pub sort : Sort
  pub no_word : g.word s ≡ None
  pub no_prefix : if_prefix (g.op s) ≡ None
  pub is : ts ≡ symbol sort s ∷ []

-- such a symbol, an open parenthesis and arguments
pub record HasArguments (n : ℕ) (g : OperatorTable) (s : List ℕ) (made : Option (List RawTree)) (ts : List Lexeme) : Type 0 where
  pub sort : Sort
  pub no_word : g.word s ≡ None
  pub no_prefix : if_prefix (g.op s) ≡ None
  pub tokens : List Lexeme
  pub trees : List RawTree
  pub given : Given g tokens trees
  pub is_built : made ≡ all_capped n trees
  pub is : ts ≡ symbol sort s ∷ open_paren ∷ tokens

-- a word whose term may stand on top of what waits
pub record IsWord (g : OperatorTable) (fs : List Frame) (w : Quantifier) (ts : List Lexeme) : Type 0 where
  pub sort : Sort
  pub name : List ℕ
  pub is_word : g.word name ≡ Some w
  pub fits : may_stand_on fs 750 false ≡ true
  pub is : ts ≡ symbol sort name ∷ []

-- a readable item
pub record IsItem (n : ℕ) (g : OperatorTable) (made : Option (List RawTree)) (ts : List Lexeme) : Type 0 where
  pub tree : RawTree
  pub is : made ≡ disjuncts_within n tree
  pub item : Item g ts tree

-- the tokens of all that waits
abbrev pub Spells : ℕ → OperatorTable → List Frame → List Lexeme → Type 0
Spells n g [] vs = vs ≡ []
Spells n g (Group ∷ fs) vs = Split (Spells n g fs) (λ ts. ts ≡ open_paren ∷ []) vs
Spells n g (Applied s us ∷ fs) vs = Split (Spells n g fs) (HasArguments n g s us) vs
Spells n g (Waiting part side p ∷ fs) vs = Split (Spells n g fs) (Waits n g fs part side p) vs

-- the tokens that lead to a place
abbrev pub IsAt : ℕ → OperatorTable → Standing → List Frame → List Lexeme → Type 0
IsAt n g Operand fs vs = Spells n g fs vs
IsAt n g (Named s) fs vs = Split (Spells n g fs) (IsName g s) vs
IsAt n g (Word w) fs vs = Split (Spells n g fs) (IsWord g fs w) vs
IsAt n g (Term t q) fs vs = Split (Spells n g fs) (Becomes n g fs t q) vs
IsAt n g (Done t q) fs vs = IsItem n g t vs

abbrev pub MayBe : ℕ → OperatorTable → Option State → List Lexeme → Type 0
MayBe n g None vs = Unit {0}
MayBe n g (Some s) vs = IsAt n g s.place s.stack vs

-- under a test
when : (n : ℕ) (g : OperatorTable) (b : Bool) (s : Option State) (vs : List Lexeme) → (b ≡ true → MayBe n g s vs) → MayBe n g (if b then s else None) vs
when n g true s vs f = f refl
when n g false s vs f = tt

either :
    (n : ℕ) (g : OperatorTable) (b : Bool) (s t : Option State) (vs : List Lexeme) → MayBe n g s vs → MayBe n g t vs →
    MayBe n g (if b then s else t) vs
either n g true s t vs h k = h
either n g false s t vs h k = k

-- a term of precedence 0 may stand on top of what waits
fits_zero : (n : ℕ) (g : OperatorTable) (fs : List Frame) (vs : List Lexeme) (b : Bool) → Spells n g fs vs → may_stand_on fs 0 b ≡ true
fits_zero n g [] vs b h = refl
fits_zero n g (Group ∷ fs) vs b h = refl
fits_zero n g (Applied s us ∷ fs) vs b h = refl
fits_zero n g (Waiting part side p ∷ fs) vs b h = h.is_back.room b

-- one more argument
given_more :
    (g : OperatorTable) {ts xs : List Lexeme} {us : List RawTree} {t : RawTree} {p : ℕ} → Given g ts us → Reads g xs t p →
    p ≤ 999 → ReadsAll g (ts ++ xs) (us ++ t ∷ [])
given_more g nothing r h = single r h
given_more g {xs = xs} (some {ts} rs) r h = rw (append_assoc ts (comma ∷ []) xs) (further rs r h)

-- behind a name the machine goes on as behind an atom
behind_symbol :
    (n : ℕ) (o : Option Operator) (r s : List ℕ) (fs : List Frame) →
    behind_symbol_name n (follow_of_symbol o r) s fs ≡ behind_term n (follow_of_symbol o r) (disjuncts_within n (named s no_raws)) 0 fs
behind_symbol n None r s fs = refl
behind_symbol n (Some o) r s fs = refl

both_left : (a b : Bool) → (a && b) ≡ true → a ≡ true
both_left true b h = refl
both_left false b h = h

both_right : (a b : Bool) → (a && b) ≡ true → b ≡ true
both_right true b h = h
both_right false b h = cc

module _ (n : ℕ) (g : OperatorTable) (lawful : Lawful g) where
  symbol_starts :
      (k : Sort) (s : List ℕ) (fs : List Frame) (vs : List Lexeme) → Spells n g fs vs →
      (w : Option Quantifier) → g.word s ≡ w → (o : Option Operator) → if_prefix (g.op s) ≡ o →
      MayBe n g (begin (start_of_symbol w o s) fs) (vs ++ symbol k s ∷ [])
  symbol_starts k s fs vs h (Some w) e o d =
      when n g (may_stand_on fs 750 false) (standing (Some (Word w)) fs) (vs ++ symbol k s ∷ [])
      (λ fits. pushed (Spells n g fs) (IsWord g fs w) vs (symbol k s ∷ []) h
      (record { sort = k; name = s; is_word = e; fits = fits; is = refl }))
  symbol_starts k s fs vs h None e None d =
      pushed (Spells n g fs) (IsName g s) vs (symbol k s ∷ []) h
      (record { sort = k; no_word = e; no_prefix = d; is = refl })
  symbol_starts k s fs vs h None e (Some o) d =
      when n g (may_stand_on fs o.precedence false) (operand (Waiting (Prefix s) (right o.kind) o.precedence ∷ fs)) (vs ++ symbol k s ∷ [])
      (λ fits. pushed (Spells n g fs) (Waits n g fs (Prefix s) (right o.kind) o.precedence) vs (symbol k s ∷ []) h
      (record {
        becomes = λ xs t q r l. record {
          tree = named s (raws_of (t ∷ []));
          is = prefix_whole n s t;
          reads = prefixed k s o e d r l;
          fits = ap (λ (b : Bool). may_stand_on fs o.precedence b) (prefix_grows (g.op s) o d) ∙ fits;
        };
        room = λ b. prefix_room g lawful s o b d;
      }))

  starts : (x : Lexeme) (fs : List Frame) (vs : List Lexeme) → Spells n g fs vs → MayBe n g (begin (start_of g x) fs) (vs ++ x ∷ [])
  starts open_paren fs vs h = pushed (Spells n g fs) (λ ts. ts ≡ open_paren ∷ []) vs (open_paren ∷ []) h refl
  starts (symbol k s) fs vs h = symbol_starts k s fs vs h (g.word s) refl (if_prefix (g.op s)) refl
  starts x fs vs h = tt

  pub variable_binds :
      (j : Sort) (y : List ℕ) (w : Quantifier) (fs : List Frame) (vs : List Lexeme) →
      Split (Spells n g fs) (IsWord g fs w) vs → (b : Bool) → g.variable j y ≡ b →
      MayBe n g (bind w (if b then Some y else None) fs) (vs ++ symbol j y ∷ [])
  variable_binds j y w fs vs h false e = tt
  variable_binds j y w fs vs h true e =
      longer (Spells n g fs) (IsWord g fs w) (Waits n g fs (Quantified w y) UpTo 750) vs (symbol j y ∷ []) h
      (λ bs b. record {
        becomes = λ xs t q r l. record {
          tree = quantified w y t;
          is = quantification_built n w y t;
          reads = rw b.is (bound b.sort j w b.name y b.is_word e r l);
          fits = b.fits;
        };
        room = λ _. refl;
      })

  binds :
      (x : Lexeme) (w : Quantifier) (fs : List Frame) (vs : List Lexeme) → Split (Spells n g fs) (IsWord g fs w) vs →
      MayBe n g (bind w (variable_of g.variable x) fs) (vs ++ x ∷ [])
  binds (symbol j y) w fs vs h = variable_binds j y w fs vs h (g.variable j y) refl
  binds x w fs vs h = tt

  -- behind a term and a closing parenthesis
  pub closed :
      (fs : List Frame) (vs : List Lexeme) (t : Option (List RawTree)) (q : ℕ) → Split (Spells n g fs) (Becomes n g fs t q) vs →
      MayBe n g (behind_close n t fs) (vs ++ close_paren ∷ [])
  closed [] vs t q h = tt
  closed (Waiting part side p ∷ fs) vs t q h = tt
  closed (Group ∷ fs) vs t q h =
      let C : List Lexeme → Type 0 = λ xs. Becomes n g fs t 0 (xs ++ close_paren ∷ []) in
      longer (Spells n g fs) C (Becomes n g fs t 0) vs (close_paren ∷ [])
      (joined (Spells n g fs) (λ ts. ts ≡ open_paren ∷ []) (Becomes n g (Group ∷ fs) t q) C vs h
      (λ ws bs w b. record {
        tree = b.tree;
        is = b.is;
        reads = rw w (group b.reads);
        fits = fits_zero n g fs h.is_front.front (tree_grows g b.tree) h.is_front.is_front;
      }))
      (λ bs b. b)
  closed (Applied s us ∷ fs) vs t q h =
      let made : Option (List RawTree) = finished n s us t in
      let C : List Lexeme → Type 0 = λ xs. Becomes n g fs made 0 (xs ++ close_paren ∷ []) in
      longer (Spells n g fs) C (Becomes n g fs made 0) vs (close_paren ∷ [])
      (joined (Spells n g fs) (HasArguments n g s us) (Becomes n g (Applied s us ∷ fs) t q) C vs h
      (λ ws bs w b. record {
        tree = named s (raws_of (w.trees ++ b.tree ∷ []));
        is = (λ i. finished n s (w.is_built i) (b.is i)) ∙ finished_built n s w.trees b.tree;
        reads = rw w.is (applied w.sort s w.no_word w.no_prefix (given_more g w.given b.reads (reads_at_most g lawful b.reads)));
        fits = fits_zero n g fs h.is_front.front (tree_grows g (named s (raws_of (w.trees ++ b.tree ∷ [])))) h.is_front.is_front;
      }))
      (λ bs b. b)

  -- behind a term and a comma
  separated :
      (fs : List Frame) (vs : List Lexeme) (t : Option (List RawTree)) (q : ℕ) → Split (Spells n g fs) (Becomes n g fs t q) vs →
      MayBe n g (behind_comma n t fs) (vs ++ comma ∷ [])
  separated [] vs t q h = tt
  separated (Waiting part side p ∷ fs) vs t q h = tt
  separated (Group ∷ fs) vs t q h = tt
  separated (Applied s us ∷ fs) vs t q h =
      let C : List Lexeme → Type 0 = λ xs. HasArguments n g s (with_last_argument us (whole_of n t)) (xs ++ comma ∷ []) in
      longer (Spells n g fs) C (HasArguments n g s (with_last_argument us (whole_of n t))) vs (comma ∷ [])
      (joined (Spells n g fs) (HasArguments n g s us) (Becomes n g (Applied s us ∷ fs) t q) C vs h
      (λ ws bs w b. record {
        sort = w.sort;
        no_word = w.no_word;
        no_prefix = w.no_prefix;
        tokens = (w.tokens ++ bs) ++ comma ∷ [];
        trees = w.trees ++ b.tree ∷ [];
        given = some (given_more g w.given b.reads (reads_at_most g lawful b.reads));
        is_built = (λ i. with_last_argument (w.is_built i) (whole_of n (b.is i)))
            ∙ ap (with_last_argument (all_capped n w.trees)) (whole_built n b.tree)
            ∙ with_capped n w.trees b.tree;
        is = ap (λ (ts : List Lexeme). (ts ++ bs) ++ comma ∷ []) w.is;
      }))
      (λ bs b. b)

  -- behind a term and a full stop
  pub stopped :
      (fs : List Frame) (vs : List Lexeme) (t : Option (List RawTree)) (q : ℕ) → Split (Spells n g fs) (Becomes n g fs t q) vs →
      MayBe n g (behind_stop t q fs) (vs ++ full_stop ∷ [])
  stopped (f ∷ fs) vs t q h = tt
  stopped [] vs t q h =
      let b = h.is_back in
      record {
        tree = b.tree;
        is = b.is;
        item = record {
          tokens = h.back;
          precedence = q;
          reads = b.reads;
          bounded = reads_at_most g lawful b.reads;
          stops = ap (λ (ts : List Lexeme). ts ++ full_stop ∷ []) (h.joins ∙ ap (λ (ts : List Lexeme). ts ++ h.back) h.is_front);
        };
      }

  -- an infix operator waits for its right argument
  infix_waits :
      (k : Sort) (s : List ℕ) (o : Operator) (fs : List Frame) (t : Option (List RawTree)) (q : ℕ) (side : Side) →
      right o.kind ≡ side → ((b : Bool) → ends side o.precedence 0 b ≡ true) → if_after (g.op s) ≡ Some o →
      takes (left o.kind) o.precedence q ≡ true → may_stand_on fs o.precedence (grows o.kind) ≡ true →
      (bs : List Lexeme) → Becomes n g fs t q bs → Waits n g fs (Infix s (whole_of n t)) side o.precedence (bs ++ symbol k s ∷ [])
  infix_waits k s o fs t q side d room e takes_it fits bs b =
      record {
        becomes = λ xs u p r l. record {
          tree = named s (raws_of (b.tree ∷ u ∷ []));
          is = ap (λ (z : Option RawTree). whole n (Infix s z) (disjuncts_within n u)) (ap (whole_of n) b.is ∙ whole_built n b.tree)
              ∙ infix_whole n s b.tree u;
          reads = rw (append_assoc bs (symbol k s ∷ []) xs) (infixed k s o e b.reads takes_it r (rw d l));
          fits = rw e fits;
        };
        room = room;
      }

  operated :
      (k : Sort) (s : List ℕ) (o : Operator) (fs : List Frame) (vs : List Lexeme) (t : Option (List RawTree)) (q : ℕ) →
      Split (Spells n g fs) (Becomes n g fs t q) vs → if_after (g.op s) ≡ Some o →
      takes (left o.kind) o.precedence q ≡ true → may_stand_on fs o.precedence (grows o.kind) ≡ true →
      (side : Side) → right o.kind ≡ side → MayBe n g (behind_operator n side s o t fs) (vs ++ symbol k s ∷ [])
  operated k s o fs vs t q h e takes_it fits Nothing d =
      longer (Spells n g fs) (Becomes n g fs t q) (Becomes n g fs (finished n s (Some []) t) o.precedence) vs (symbol k s ∷ []) h
      (λ bs b. record {
        tree = named s (raws_of (b.tree ∷ []));
        is = ap (finished n s (Some [])) b.is ∙ prefix_whole n s b.tree;
        reads = postfixed k s o e d b.reads takes_it;
        fits = rw e fits;
      })
  operated k s o fs vs t q h e takes_it fits Below d =
      longer (Spells n g fs) (Becomes n g fs t q) (Waits n g fs (Infix s (whole_of n t)) Below o.precedence) vs (symbol k s ∷ []) h
      (infix_waits k s o fs t q Below d (λ b. below_room o.precedence b (after_own g lawful s o e).0) e takes_it fits)
  operated k s o fs vs t q h e takes_it fits UpTo d =
      longer (Spells n g fs) (Becomes n g fs t q) (Waits n g fs (Infix s (whole_of n t)) UpTo o.precedence) vs (symbol k s ∷ []) h
      (infix_waits k s o fs t q UpTo d (λ b. up_to_room o.precedence b (after_own g lawful s o e).0) e takes_it fits)

  -- behind a term and a symbol
  symbol_acts :
      (k : Sort) (s : List ℕ) (fs : List Frame) (vs : List Lexeme) (t : Option (List RawTree)) (q : ℕ) →
      Split (Spells n g fs) (Becomes n g fs t q) vs → (o : Option Operator) → if_after (g.op s) ≡ o →
      MayBe n g (act n (follow_of_symbol o s) t q fs) (vs ++ symbol k s ∷ [])
  symbol_acts k s fs vs t q h None e = tt
  symbol_acts k s fs vs t q h (Some o) e =
      let a : Bool = takes (left o.kind) o.precedence q in
      let c : Bool = may_stand_on fs o.precedence (grows o.kind) in
      when n g (a && c) (behind_operator n (right o.kind) s o t fs) (vs ++ symbol k s ∷ [])
      (λ both. operated k s o fs vs t q h e (both_left a c both) (both_right a c both) (right o.kind) refl)

  acts :
      (x : Lexeme) (fs : List Frame) (vs : List Lexeme) (t : Option (List RawTree)) (q : ℕ) →
      Split (Spells n g fs) (Becomes n g fs t q) vs → MayBe n g (act n (follow_of g x) t q fs) (vs ++ x ∷ [])
  acts close_paren fs vs t q h = closed fs vs t q h
  acts comma fs vs t q h = separated fs vs t q h
  acts full_stop fs vs t q h = stopped fs vs t q h
  acts (symbol k s) fs vs t q h = symbol_acts k s fs vs t q h (if_after (g.op s)) refl
  acts x fs vs t q h = tt

  -- a part with its last argument
  pub ended :
      (part : Part) (side : Side) (p : ℕ) (fs : List Frame) (vs : List Lexeme) (t : Option (List RawTree)) (q : ℕ) →
      Split (Spells n g (Waiting part side p ∷ fs)) (Becomes n g (Waiting part side p ∷ fs) t q) vs →
      Split (Spells n g fs) (Becomes n g fs (whole n part t) p) vs
  ended part side p fs vs t q h =
      joined (Spells n g fs) (Waits n g fs part side p) (Becomes n g (Waiting part side p ∷ fs) t q) (Becomes n g fs (whole n part t) p) vs h
      (λ ws bs w b. rw b.is (w.becomes bs b.tree q b.reads b.fits))

  -- behind a term
  follows :
      (x : Lexeme) (fs : List Frame) (vs : List Lexeme) (t : Option (List RawTree)) (q : ℕ) →
      Split (Spells n g fs) (Becomes n g fs t q) vs → MayBe n g (behind_term n (follow_of g x) t q fs) (vs ++ x ∷ [])
  follows x [] vs t q h = acts x [] vs t q h
  follows x (Group ∷ fs) vs t q h = acts x (Group ∷ fs) vs t q h
  follows x (Applied s us ∷ fs) vs t q h = acts x (Applied s us ∷ fs) vs t q h
  follows x (Waiting part side p ∷ fs) vs t q h =
      either n g (closes (follow_of g x) p) (behind_term n (follow_of g x) (whole n part t) p fs) (act n (follow_of g x) t q (Waiting part side p ∷ fs)) (vs ++ x ∷ [])
      (follows x fs vs (whole n part t) p (ended part side p fs vs t q h))
      (acts x (Waiting part side p ∷ fs) vs t q h)

  pub as_atom :
      (s : List ℕ) (fs : List Frame) (vs : List Lexeme) → Split (Spells n g fs) (IsName g s) vs →
      Split (Spells n g fs) (Becomes n g fs (disjuncts_within n (named s no_raws)) 0) vs
  as_atom s fs vs h =
      changed (Spells n g fs) (IsName g s) (Becomes n g fs (disjuncts_within n (named s no_raws)) 0) vs h
      (λ bs b. record {
        tree = named s no_raws;
        is = refl;
        reads = rw b.is (atom b.sort s b.no_word b.no_prefix);
        fits = fits_zero n g fs h.front (tree_grows g (named s no_raws)) h.is_front;
      })

  -- behind a symbol
  names :
      (x : Lexeme) (s : List ℕ) (fs : List Frame) (vs : List Lexeme) → Split (Spells n g fs) (IsName g s) vs →
      MayBe n g (behind_symbol_name n (follow_of g x) s fs) (vs ++ x ∷ [])
  names open_paren s fs vs h =
      longer (Spells n g fs) (IsName g s) (HasArguments n g s (Some [])) vs (open_paren ∷ []) h
      (λ bs b. record {
        sort = b.sort;
        no_word = b.no_word;
        no_prefix = b.no_prefix;
        tokens = [];
        trees = [];
        given = nothing;
        is_built = sym (none_capped n);
        is = ap (λ (ts : List Lexeme). ts ++ open_paren ∷ []) b.is;
      })
  names (symbol k r) s fs vs h =
      rw (behind_symbol n (if_after (g.op r)) r s fs) (follows (symbol k r) fs vs (disjuncts_within n (named s no_raws)) 0 (as_atom s fs vs h))
  names x s fs vs h = follows x fs vs (disjuncts_within n (named s no_raws)) 0 (as_atom s fs vs h)

  steps : (x : Lexeme) (place : Standing) (fs : List Frame) (vs : List Lexeme) → IsAt n g place fs vs → MayBe n g (step n g place fs x) (vs ++ x ∷ [])
  steps x Operand fs vs h = starts x fs vs h
  steps x (Named s) fs vs h = names x s fs vs h
  steps x (Word w) fs vs h = binds x w fs vs h
  steps x (Term t q) fs vs h = follows x fs vs t q h
  steps x (Done t q) fs vs h = tt

  nexts : (x : Lexeme) (s : Option State) (vs : List Lexeme) → MayBe n g s vs → MayBe n g (next n g s x) (vs ++ x ∷ [])
  nexts x None vs h = tt
  nexts x (Some s) vs h = steps x s.place s.stack vs h

  goes : (xs : List Lexeme) (s : Option State) (vs : List Lexeme) → MayBe n g s vs → MayBe n g (go n g s xs) (vs ++ xs)
  goes [] s vs h = rw append-nil h
  goes (x ∷ xs) s vs h = rw (← append_assoc vs (x ∷ []) xs) (goes xs (next n g s x) (vs ++ x ∷ []) (nexts x s vs h))

  -- the tokens of a run from the start
  pub runs :
      (xs : List Lexeme) (place : Standing) (fs : List Frame) → go n g (operand []) xs ≡ standing (Some place) fs →
      IsAt n g place fs xs
  runs xs place fs e = subst (λ (s : Option State). MayBe n g s xs) e (goes xs (operand []) [] refl)

  -- what a run from the start makes of tokens that end an item
  pub sound :
      (xs : List Lexeme) (t : Option (List RawTree)) (q : ℕ) (fs : List Frame) →
      go n g (operand []) xs ≡ standing (Some (Done t q)) fs → (u : RawTree) × (t ≡ disjuncts_within n u) × Item g xs u
  sound xs t q fs e =
      let i = runs xs (Done t q) fs e in (i.tree, i.is, i.item)
