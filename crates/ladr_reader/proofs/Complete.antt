-- The machine reads each term.
use Rattle.std.proofs.Common.{◌≡◌, ℕ, Bool, true, false, List, [], ◌∷◌, ◌++◌, Option, Some, None, refl, ap, ◌∙◌, sym, ◌+◌, arith}
use Rattle.std.proofs.lemmas.Bool.Decides.{nat_tests}
use Rattle.fol_core.specs.RawTree.{RawTree, named, raws_of, depth}
use Rattle.ladr_lex.specs.Lexeme.{Sort, Lexeme, open_paren, close_paren, comma, full_stop, symbol}
use Rattle.ladr_lex.specs.Operators.{if_after}
use Rattle.ladr_lex.specs.declared.operators.Operator.{Operator}
use Rattle.ladr_reader.specs.Capped.{unless_too_deep, with_last_argument, whole_of, disjuncts_within, finished}
use Rattle.ladr_reader.specs.Machine.{State, standing, follow_of, follow_of_symbol, may_stand_on, closes, behind_operator, behind_term, next, go, Standing, Operand, Term, Done}
use Rattle.ladr_reader.specs.Reads.{Reads, atom, applied, group, bound, prefixed, postfixed, infixed, ReadsAll, single, further, Item}
use Rattle.ladr_reader.specs.Table.{OperatorTable, left, right, takes, grows, operator_grows, tree_grows}
use Rattle.ladr_reader.specs.declared.roles.Follow.TheVariants.{Operates}
use Rattle.ladr_reader.specs.declared.sides.Side.{Side}
use Rattle.ladr_reader.specs.declared.sides.Side.TheVariants.{UpTo}
use Rattle.ladr_reader.specs.declared.stack.Frame.{Frame}
use Rattle.ladr_reader.specs.declared.stack.Frame.TheVariants.{Group, Applied, Waiting}
use Rattle.ladr_reader.specs.declared.stack.Part.TheVariants.{Prefix, Infix, Quantified}
use Rattle.ladr_reader.proofs.Bounds.{ends_at_most}
use Rattle.ladr_reader.proofs.Levels.{all_capped, none_capped, with_capped, whole_built, finished_built, quantification_built}
use Rattle.ladr_reader.proofs.Moves.{operand, go_append, prefix_whole, infix_whole, begin_name, begin_word, begin_prefix, behind_atom, closes_less, allows_left, after_operator, behind_infix, after_waiting, prefix_grows}

-- a token behind the tokens of a term finds that term on what waited
abbrev Finds : ℕ → OperatorTable → List Lexeme → RawTree → ℕ → Type 0
Finds n g ts t p =
    (fs : List Frame) → may_stand_on fs p (tree_grows g t) ≡ true → (x : Lexeme) → closes (follow_of g x) p ≡ true →
    next n g (go n g (operand fs) ts) x ≡ behind_term n (follow_of g x) (disjuncts_within n t) p fs

-- a comma or a closing parenthesis behind the tokens of arguments finds these
abbrev FindsAll : ℕ → OperatorTable → List Lexeme → List RawTree → Type 0
FindsAll n g ts us =
    (s : List ℕ) (fs : List Frame) →
    (next n g (go n g (operand (Applied s (Some []) ∷ fs)) ts) comma ≡ operand (Applied s (all_capped n us) ∷ fs))
    × (next n g (go n g (operand (Applied s (Some []) ∷ fs)) ts) close_paren
    ≡ standing (Some (Term (disjuncts_within n (named s (raws_of us))) 0)) fs)

-- an argument behind others
one_more :
    (n : ℕ) (g : OperatorTable) (ts : List Lexeme) (ks : List RawTree) (t : RawTree) (p : ℕ) (s : List ℕ) (fs : List Frame) →
    Finds n g ts t p →
    (next n g (go n g (operand (Applied s (all_capped n ks) ∷ fs)) ts) comma
    ≡ operand (Applied s (all_capped n (ks ++ t ∷ [])) ∷ fs))
    × (next n g (go n g (operand (Applied s (all_capped n ks) ∷ fs)) ts) close_paren
    ≡ standing (Some (Term (disjuncts_within n (named s (raws_of (ks ++ t ∷ [])))) 0)) fs)
one_more n g ts ks t p s fs finds =
    let e : with_last_argument (all_capped n ks) (whole_of n (disjuncts_within n t)) ≡ all_capped n (ks ++ t ∷ []) =
    ap (with_last_argument (all_capped n ks)) (whole_built n t) ∙ with_capped n ks t
    in
    let a : finished n s (all_capped n ks) (disjuncts_within n t) ≡ disjuncts_within n (named s (raws_of (ks ++ t ∷ []))) = finished_built n s ks t in (
      finds (Applied s (all_capped n ks) ∷ fs) refl comma refl
          ∙ ap (λ (o : Option (List RawTree)). operand (Applied s o ∷ fs)) e,
      finds (Applied s (all_capped n ks) ∷ fs) refl close_paren refl
          ∙ ap (λ (o : Option (List RawTree)). standing (Some (Term o 0)) fs) a,
    )

-- an operator behind the tokens of its left argument
behind_left :
    (n : ℕ) (g : OperatorTable) (ts : List Lexeme) (t : RawTree) (q : ℕ) (k : Sort) (s : List ℕ) (o : Operator)
    (fs : List Frame) → if_after (g.op s) ≡ Some o → Finds n g ts t q → takes (left o.kind) o.precedence q ≡ true →
    may_stand_on fs o.precedence (operator_grows (if_after (g.op s))) ≡ true →
    next n g (go n g (operand fs) ts) (symbol k s) ≡ behind_operator n (right o.kind) s o (disjuncts_within n t) fs
behind_left n g ts t q k s o fs e finds takes_it h =
    let f : follow_of g (symbol k s) ≡ Operates s o = ap (λ (a : Option Operator). follow_of_symbol a s) e in
    let fits : may_stand_on fs o.precedence (grows o.kind) ≡ true =
    ap (λ (a : Option Operator). may_stand_on fs o.precedence (operator_grows a)) (sym e) ∙ h
    in
    let c : closes (follow_of g (symbol k s)) q ≡ true = rw f takes_it in
    finds fs (allows_left o q (tree_grows g t) fs takes_it fits) (symbol k s) c
    ∙ rw f (after_operator n s o (disjuncts_within n t) q fs takes_it fits)

mutual
  pub complete : (n : ℕ) (g : OperatorTable) {ts : List Lexeme} {t : RawTree} {p : ℕ} → Reads g ts t p → Finds n g ts t p
  complete n g (atom k s w e) fs h x c =
      ap (λ (z : Option State). next n g z x) (begin_name n g k s fs w e) ∙ behind_atom n (follow_of g x) s fs c
  complete n g (applied {ts} {us} k s w e rs) fs h x c =
      ap (λ (z : Option State). next n g (go n g (next n g z open_paren) (ts ++ close_paren ∷ [])) x) (begin_name n g k s fs w e)
      ∙ ap (λ (z : Option State). next n g z x) (go_append n g (operand (Applied s (Some []) ∷ fs)) ts (close_paren ∷ []) ∙ (complete_all n g rs s fs).1)
  complete n g (group {ts} r) fs h x c =
      ap (λ (z : Option State). next n g z x) (go_append n g (operand (Group ∷ fs)) ts (close_paren ∷ []) ∙ complete n g r (Group ∷ fs) refl close_paren refl)
  complete n g (bound {ts} {t} {p} k j w s y e v r fits) fs h x c =
      ap (λ (z : Option State). next n g (go n g z ts) x) (begin_word n g k j w s y fs e v h)
      ∙ complete n g r (Waiting (Quantified w y) UpTo 750 ∷ fs) fits x (closes_less (follow_of g x) 750 p (ends_at_most UpTo 750 p (tree_grows g t) fits) c)
      ∙ after_waiting n (follow_of g x) (Quantified w y) UpTo 750 p (disjuncts_within n t) _ fs c (quantification_built n w y t)
  complete n g (prefixed {ts} {t} {p} k s o w e r fits) fs h x c =
      let room : may_stand_on fs o.precedence false ≡ true =
      ap (λ (b : Bool). may_stand_on fs o.precedence b) (sym (prefix_grows (g.op s) o e)) ∙ h
      in
      ap (λ (z : Option State). next n g (go n g z ts) x) (begin_prefix n g k s o fs w e room)
      ∙ complete n g r (Waiting (Prefix s) (right o.kind) o.precedence ∷ fs) fits x (closes_less (follow_of g x) o.precedence p (ends_at_most (right o.kind) o.precedence p (tree_grows g t) fits) c)
      ∙ after_waiting n (follow_of g x) (Prefix s) (right o.kind) o.precedence p (disjuncts_within n t) _ fs c (prefix_whole n s t)
  complete n g (postfixed {ts} {t} {p} k s o e nothing r takes_it) fs h x c =
      ap (λ (z : Option State). next n g z x)
      (go_append n g (operand fs) ts (symbol k s ∷ [])
      ∙ behind_left n g ts t p k s o fs e (complete n g r) takes_it h
      ∙ ap (λ (side : Side). behind_operator n side s o (disjuncts_within n t) fs) nothing)
      ∙ ap (λ (z : Option (List RawTree)). behind_term n (follow_of g x) z o.precedence fs) (prefix_whole n s t)
  complete n g (infixed {ts} {us} {t} {u} {p} {q} k s o e r takes_it l fits) fs h x c =
      ap (λ (z : Option State). next n g z x) (go_append n g (operand fs) ts (symbol k s ∷ us))
      ∙ ap (λ (z : Option State). next n g (go n g z us) x)
      (behind_left n g ts t p k s o fs e (complete n g r) takes_it h
      ∙ behind_infix n (right o.kind) s o (disjuncts_within n t) q (tree_grows g u) fs fits
      ∙ ap (λ (z : Option RawTree). operand (Waiting (Infix s z) (right o.kind) o.precedence ∷ fs)) (whole_built n t))
      ∙ complete n g l (Waiting (Infix s (unless_too_deep n t)) (right o.kind) o.precedence ∷ fs) fits x (closes_less (follow_of g x) o.precedence q (ends_at_most (right o.kind) o.precedence q (tree_grows g u) fits) c)
      ∙ after_waiting n (follow_of g x) (Infix s (unless_too_deep n t)) (right o.kind) o.precedence q (disjuncts_within n u) _ fs c (infix_whole n s t u)

  pub complete_all : (n : ℕ) (g : OperatorTable) {ts : List Lexeme} {us : List RawTree} → ReadsAll g ts us → FindsAll n g ts us
  complete_all n g (single {ts} {t} {p} r most) s fs =
      let only = one_more n g ts [] t p s fs (complete n g r) in rw (none_capped n) at only
  complete_all n g (further {ts} {us} {ks} {t} {p} rs r most) s fs =
      let front = go_append n g (operand (Applied s (Some []) ∷ fs)) ts (comma ∷ us)
      ∙ ap (λ (z : Option State). go n g z us) (complete_all n g rs s fs).0 in
      let more = one_more n g us ks t p s fs (complete n g r) in (
        ap (λ (z : Option State). next n g z comma) front ∙ more.0,
        ap (λ (z : Option State). next n g z close_paren) front ∙ more.1,
      )

-- a run over a term and a full stop ends with its tree
term_read :
    (n : ℕ) (g : OperatorTable) {ts : List Lexeme} {t : RawTree} {p : ℕ} → Reads g ts t p →
    go n g (operand []) (ts ++ full_stop ∷ []) ≡ standing (Some (Done (disjuncts_within n t) p)) []
term_read n g {ts} r = go_append n g (operand []) ts (full_stop ∷ []) ∙ complete n g r [] refl full_stop refl

pub item_read :
    (n : ℕ) (g : OperatorTable) {item : List Lexeme} {t : RawTree} (i : Item g item t) →
    go n g (operand []) item ≡ standing (Some (Done (disjuncts_within n t) i.precedence)) []
item_read n g i = ap (λ (ts : List Lexeme). go n g (operand []) ts) i.stops ∙ term_read n g i.reads

-- trees are the same where they are so with more levels than they have
capped_same : (t u : RawTree) → unless_too_deep (depth t + depth u) t ≡ unless_too_deep (depth t + depth u) u → t ≡ u
capped_same t u e =
    let a : unless_too_deep (depth t + depth u) t ≡ Some t = grind (arith, nat_tests) in
    let b : unless_too_deep (depth t + depth u) u ≡ Some u = grind (arith, nat_tests) in
    cc

built_same : (t u : RawTree) → disjuncts_within (depth t + depth u) t ≡ disjuncts_within (depth t + depth u) u → t ≡ u
built_same t u e =
    let n : ℕ = depth t + depth u in
    capped_same t u (sym (whole_built n t) ∙ ap (whole_of n) e ∙ whole_built n u)

-- where a state stands
abbrev pub place_of : Option State → Standing
place_of None = Operand
place_of (Some s) = s.place

-- tokens are at most one term, of one precedence
pub reads_one :
    (g : OperatorTable) (ts : List Lexeme) (t u : RawTree) (p q : ℕ) → Reads g ts t p → Reads g ts u q → (t ≡ u) × (p ≡ q)
reads_one g ts t u p q r l =
    let n : ℕ = depth t + depth u in
    let e : Done (disjuncts_within n t) p ≡ Done (disjuncts_within n u) q = ap place_of (sym (term_read n g r) ∙ term_read n g l) in
    let same : disjuncts_within n t ≡ disjuncts_within n u = cc in
    (built_same t u same, cc)

pub item_one : (g : OperatorTable) (ts : List Lexeme) (t u : RawTree) → Item g ts t → Item g ts u → t ≡ u
item_one g ts t u i j =
    let n : ℕ = depth t + depth u in
    let e : Done (disjuncts_within n t) i.precedence ≡ Done (disjuncts_within n u) j.precedence = ap place_of (sym (item_read n g i) ∙ item_read n g j) in
    let same : disjuncts_within n t ≡ disjuncts_within n u = cc in
    built_same t u same
