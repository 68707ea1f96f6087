-- Lines that are kept, in a bank that grows, and as lines of a derivation.
use Rattle.std.proofs.Common.{◌≡◌, ℕ, zero, suc, ◌+◌, ◌<◌, ◌≤◌, ◌==◌, Bool, true, false, if◌then◌else◌, refl, sym, ap, ap₂, ◌∙◌, subst, List, [], ◌∷◌, ◌++◌, length, map, take, Option, Some, None, arith, get_or, add-one, length-append, eqb-true, eq-eqb}
use Rattle.std.specs.Prelude.{slice_get}
use Rattle.std.specs.List.{filter, slice_index_or}
use Rattle.std.specs.Option.{option_map, option_map_or}
use Rattle.std.proofs.Math.Seq.{take-suc}
use Rattle.std.proofs.lemmas.List.{map-append, append-nil, length-take-le, take_all}
use Rattle.std.proofs.lemmas.List.Elements.{filter-append}
use Rattle.std.proofs.lemmas.Option.{slice_get_within}
use Rattle.fol_core.specs.Free.{is_in}
use Rattle.fol_core.specs.ClauseView.{literal_of}
use Rattle.fol_core.specs.Literals.{ClauseTree, literal}
use Rattle.fol_core.specs.declared.clause.Literal.{Literal}
use Rattle.fol_core.specs.Tree.{Tree}
use Rattle.fol_problem.specs.declared.problem.Input.{Input}
use Rattle.derivation.specs.Lines.{FirstWord, ContentTree, LineTree, line_at}
use Rattle.derivation.specs.View.{content_of, first_word_of, later_of}
use Rattle.derivation.specs.declared.line.Line.{Line}
use Rattle.derivation.specs.declared.line.Content.{Content}
use Rattle.derivation.specs.declared.line.Content.TheVariants as content
use Rattle.derivation.specs.declared.words.First.{First}
use Rattle.derivation.specs.declared.words.First.TheVariants.{Assumption, Goal, Clausify, Deny, Copy, BackRewrite, BackUnitDel, Resolve, Hyper, Ur, Factor, Para, XxRes, Instantiate}
use Rattle.term_bank.specs.Bank.{tree_at, IsAt, Grows}
use Rattle.term_bank.specs.Cells.{AreNumbersBelow}
use Rattle.term_bank.specs.declared.id.TermId.{TermId}
use Rattle.term_bank.proofs.Building.{grows_at, grows_length}
use Rattle.proof_words.specs.Written.{written_first, written_of, meant}
use Rattle.clause_store.specs.Ancestors.{IsAncestry, AreAncestors, IsWay, first_parents, line_parents, parents_in}
use Rattle.clause_store.specs.Laws.{LinesMean, LinesStay}
use Rattle.clause_store.specs.Stored.{stored_clause, AreLiteralsIn, IsStoredAs}
use Rattle.clause_store.specs.Lines.{PlainLine, plain_clause, line_under, stored_content, stored_line, lines_from, store_lines, plain_line, plain_tree, plain_trees, content_tree, plain_content, formula_line, formula_lines, IsLineOfInput, IsContentIn, AreStoredIn, IsUnnoted, AreUnnoted}
use Rattle.clause_store.specs.Marks.{stored_parents, has_mark, IsNumberOf, MarkAncestors}
use Rattle.clause_store.specs.Parents.{just_parents, steps_parents}
use Rattle.clause_store.specs.declared.lines.StoredContent.{StoredContent}
use Rattle.clause_store.specs.declared.lines.StoredContent.TheVariants as stored
use Rattle.clause_store.specs.declared.lines.StoredLine.{StoredLine}

-- what a first word means is what it stands for in a derivation
pub means_first : (f : First) → meant (written_first f) ≡ first_word_of f
means_first Assumption = refl
means_first Goal = refl
means_first (Clausify n) = refl
means_first (Deny n) = refl
means_first (Copy n) = refl
means_first (BackRewrite n) = refl
means_first (BackUnitDel n) = refl
means_first (Resolve n s) = refl
means_first (Hyper n ss) = refl
means_first (Ur n ss) = refl
means_first (Factor n a b) = refl
means_first (Para p) = refl
means_first (XxRes n a) = refl
means_first (Instantiate n s) = refl

means_content : (c : Content) → content_tree (plain_content c) ≡ content_of c
means_content (content.Formula f label) = refl
means_content (content.Clause c) = refl

pub lines_mean : LinesMean
lines_mean l = ap₂ (λ c w. line_of c w) (means_content l.content) (means_first l.just.first)
  where
    line_of : ContentTree → FirstWord → LineTree
    line_of c w = record { number = l.number; content = c; first = w; later = map later_of l.just.steps.items }

-- a clause stays as it is where the bank grows
clause_grows : (old new : List Tree) → Grows old new → (ls : List (Bool × TermId)) → AreLiteralsIn old ls
    → (stored_clause new ls ≡ stored_clause old ls) × AreLiteralsIn new ls
clause_grows old new g [] h = (refl, tt)
clause_grows old new g (l ∷ ls) h =
    let rest = clause_grows old new g ls h.1 in
    (ap₂ (λ t c. literal l.0 t ∷ c) (grows_at old new g l.1.0 h.0) rest.0, (omega (arith, h.0, grows_length old new g), rest.1))

content_grows : (old new : List Tree) → Grows old new → (c : StoredContent) → IsContentIn old c
    → (stored_content new c ≡ stored_content old c) × IsContentIn new c
content_grows old new g (stored.Formula f label) h = (refl, tt)
content_grows old new g (stored.Clause c) h =
    let both = clause_grows old new g c.literals.items h in (ap (λ d. plain_clause d) both.0, both.1)

from_grows : (old new : List Tree) → Grows old new → (n : ℕ) (ls : List StoredLine) → AreStoredIn old ls
    → (lines_from new n ls ≡ lines_from old n ls) × AreStoredIn new ls
from_grows old new g n [] h = (refl, tt)
from_grows old new g n (l ∷ ls) h =
    let one = content_grows old new g l.content h.0 in
    let rest = from_grows old new g (suc n) ls h.1 in
    (ap₂ (λ c ks. line_under n c (written_of l.just) ∷ ks) one.0 rest.0, (one.1, rest.1))

pub lines_stay : LinesStay
lines_stay old new ls g h = from_grows old new g 1 ls h

-- one more literal
below_two : (n : ℕ) (ls : List (Bool × TermId)) (l : Bool × TermId) → AreNumbersBelow n (map (λ k. k.1.0) ls) → l.1.0 < n → AreNumbersBelow n (map (λ k. k.1.0) (ls ++ l ∷ []))
below_two n [] l h k = (k, tt)
below_two n (j ∷ ls) l h k = (h.0, below_two n ls l h.1 k)

pub stored_next : (old new : List Tree) (ls more : List (Bool × TermId)) (c : ClauseTree) (positive : Bool) (id : TermId) (t : Tree)
    → Grows old new → IsStoredAs old ls c → IsAt new id.0 t → more ≡ ls ++ (positive, id) ∷ [] → IsStoredAs new more (c ++ literal positive t ∷ [])
stored_next old new ls more c positive id t g h at is = subst (λ x. IsStoredAs new x (c ++ literal positive t ∷ [])) (sym is) (record {
  within = below_two (length new) ls (positive, id) both.1 at.within;
  clause = map-append (λ (l : Bool × TermId). literal l.0 (tree_at new l.1.0)) ls ((positive, id) ∷ []) ∙ ap₂ (λ (d : ClauseTree) u. d ++ literal positive u ∷ []) (both.0 ∙ h.clause) at.tree;
})
  where
    both : (stored_clause new ls ≡ stored_clause old ls) × AreLiteralsIn new ls
    both = clause_grows old new g ls h.within

take_next : {X : Type 0} (xs : List X) (i : ℕ) (d : X) → i < length xs → take (i + 1) xs ≡ take i xs ++ get_or xs i d ∷ []
take_next xs i d h = rw (add-one, take-suc xs i d h) refl

-- each atom of a clause that is kept is the bank's
pub atom_within : (n : ℕ) (ls : List (Bool × TermId)) (i : ℕ) (d : Bool × TermId) → AreNumbersBelow n (map (λ k. k.1.0) ls) → i < length ls → (get_or ls i d).1.0 < n
atom_within n [] i d h lt = absurd (omega arith)
atom_within n (k ∷ ls) zero d h lt = h.0
atom_within n (k ∷ ls) (suc i) d h lt = atom_within n ls i d h.1 (omega arith)

-- one literal more of a clause
pub literals_next : (ls : List Literal) (i : ℕ) (l : Literal) → i < length ls → l ≡ get_or ls i l → map literal_of (take i ls) ++ literal_of l ∷ [] ≡ map literal_of (take (i + 1) ls)
literals_next ls i l h is = sym (
    ap (map literal_of) (take_next ls i l h ∙ ap (λ x. take i ls ++ x ∷ []) (sym is))
    ∙ map-append literal_of (take i ls) (l ∷ []))

-- the line of a number
none_below : (bank : List Tree) (n m : ℕ) (ls : List StoredLine) → m < n → line_at (plain_trees (lines_from bank n ls)) m ≡ None
none_below bank n m [] h = refl
none_below bank n m (l ∷ ls) h = by (none_below bank (suc n) m ls (omega arith)) (n == m) refl
  where
    by : line_at (plain_trees (lines_from bank (suc n) ls)) m ≡ None → (b : Bool) → (n == m) ≡ b
        → (if b then Some (plain_tree (stored_line bank n l)) else line_at (plain_trees (lines_from bank (suc n) ls)) m) ≡ None
    by rest true e = absurd (omega (arith, h, eqb-true n m e))
    by rest false e = rest

line_from : (bank : List Tree) (n k m : ℕ) (ls : List StoredLine) → m ≡ n + k
    → line_at (plain_trees (lines_from bank n ls)) m ≡ option_map (λ l. plain_tree (stored_line bank m l)) (slice_get ls k)
line_from bank n k m [] e = refl
line_from bank n zero m (l ∷ ls) e = by (n == m) refl
  where
    by : (b : Bool) → (n == m) ≡ b
        → (if b then Some (plain_tree (stored_line bank n l)) else line_at (plain_trees (lines_from bank (suc n) ls)) m) ≡ Some (plain_tree (stored_line bank m l))
    by true d = ap (λ x. Some (plain_tree (stored_line bank x l))) (eqb-true n m d)
    by false d = absurd (clash (sym d ∙ eq-eqb n m (omega (arith, e))))
      where
        clash : false ≡ true → ⊥
        clash x = cc
line_from bank n (suc k) m (l ∷ ls) e = by (line_from bank (suc n) k m ls (omega (arith, e))) (n == m) refl
  where
    by : line_at (plain_trees (lines_from bank (suc n) ls)) m ≡ option_map (λ l. plain_tree (stored_line bank m l)) (slice_get ls k) → (b : Bool) → (n == m) ≡ b
        → (if b then Some (plain_tree (stored_line bank n l)) else line_at (plain_trees (lines_from bank (suc n) ls)) m) ≡ option_map (λ l. plain_tree (stored_line bank m l)) (slice_get ls k)
    by rest true d = absurd (omega (arith, e, eqb-true n m d))
    by rest false d = rest

-- a line's parents are those of its words
same_parents : (bank : List Tree) (ls : List StoredLine) (m : ℕ) → stored_parents ls m ≡ parents_in (plain_trees (store_lines bank ls)) m
same_parents bank ls zero = ap (λ o. option_map_or line_parents o []) (sym (none_below bank 1 0 ls (omega arith)))
same_parents bank ls (suc k) = by (slice_get ls k) ∙ ap (λ o. option_map_or line_parents o []) (sym (line_from bank 1 k (suc k) ls (omega arith)))
  where
    by : (o : Option StoredLine) → option_map_or (λ l. just_parents l.just) o [] ≡ option_map_or line_parents (option_map (λ l. plain_tree (stored_line bank (suc k) l)) o) []
    by None = refl
    by (Some l) = ap (λ w. first_parents w ++ steps_parents l.just.steps.items) (sym (means_first l.just.first))

pub way_same : (p q : ℕ → List ℕ) → ((k : ℕ) → p k ≡ q k) → (n m : ℕ) (ks : List ℕ) → IsWay p n ks m → IsWay q n ks m
way_same p q e n m [] h = h
way_same p q e n m (k ∷ ks) h = (way_same p q e n k ks h.0, ap (is_in m) (sym (e k)) ∙ h.1)

-- marks tell the ancestors
pub marks_tell : (bank : List Tree) (ls : List StoredLine) (n : ℕ) (marks : List Bool) → MarkAncestors (length ls) (stored_parents ls) n marks → IsAncestry (plain_trees (store_lines bank ls)) n (has_mark marks)
marks_tell bank ls n marks h = record {
  rests = λ m i. let r = h.rests m i in (r.0, way_same (stored_parents ls) (parents_in (plain_trees (store_lines bank ls))) (same_parents bank ls) n m r.0 r.1);
  all = λ m l e r. h.all m (number m l e) (r.0, way_same (parents_in (plain_trees (store_lines bank ls))) (stored_parents ls) (λ k. sym (same_parents bank ls k)) n m r.0 r.1);
}
  where
    number : (m : ℕ) (l : LineTree) → line_at (plain_trees (store_lines bank ls)) m ≡ Some l → IsNumberOf (length ls) m
    number zero l e = let f : None ≡ Some l = sym (none_below bank 1 0 ls (omega arith)) ∙ e in cc
    number (suc k) l e = by (slice_get ls k) refl (sym (line_from bank 1 k (suc k) ls (omega arith)) ∙ e)
      where
        by : (o : Option StoredLine) → slice_get ls k ≡ o → option_map (λ l. plain_tree (stored_line bank (suc k) l)) o ≡ Some l → IsNumberOf (length ls) (suc k)
        by None d f = cc
        by (Some x) d f = (omega arith, omega (arith, slice_get_within ls k x d))

-- one more line
from_end : (bank : List Tree) (n m : ℕ) (ls : List StoredLine) (l : StoredLine) → m ≡ n + length ls → lines_from bank n (ls ++ l ∷ []) ≡ lines_from bank n ls ++ stored_line bank m l ∷ []
from_end bank n m [] l e = let f : n ≡ m = omega (arith, e) in ap (λ x. stored_line bank x l ∷ []) f
from_end bank n m (k ∷ ls) l e = ap (λ x. stored_line bank n k ∷ x) (from_end bank (suc n) m ls l (omega (arith, e)))

formula_end : (n m : ℕ) (is : List Input) (i : Input) → m ≡ n + length is → formula_lines n (is ++ i ∷ []) ≡ formula_lines n is ++ formula_line m i ∷ []
formula_end n m [] i e = let f : n ≡ m = omega (arith, e) in ap (λ x. formula_line x i ∷ []) f
formula_end n m (k ∷ is) i e = ap (λ x. formula_line n k ∷ x) (formula_end (suc n) m is i (omega (arith, e)))

-- the lines of the first formulas
pub record AreLinesOf (inputs : List Input) (ls : List StoredLine) : Type 0 where
  pub many : length ls ≡ length inputs
  pub lines : (bank : List Tree) → store_lines bank ls ≡ formula_lines 1 inputs
  pub stored : (bank : List Tree) → AreStoredIn bank ls

pub formula_next : (inputs : List Input) (i : ℕ) (x : Input) (ls more : List StoredLine) (l : StoredLine) → i < length inputs → x ≡ get_or inputs i x
    → AreLinesOf (take i inputs) ls → IsLineOfInput x l → more ≡ ls ++ l ∷ [] → AreLinesOf (take (i + 1) inputs) more
formula_next inputs i x ls more l h is old new grown = subst (λ y. AreLinesOf y more) (sym next) (subst (λ y. AreLinesOf (take i inputs ++ x ∷ []) y) (sym grown) (record {
  many = omega (arith, length-append ls (l ∷ []), length-append (take i inputs) (x ∷ []), old.many);
  lines = λ bank. from_end bank 1 (suc (length ls)) ls l (omega arith) ∙ ap₂ (λ (a : List PlainLine) (b : PlainLine). a ++ b ∷ []) (old.lines bank) (new.0 bank (suc (length ls)))
      ∙ sym (formula_end 1 (suc (length ls)) (take i inputs) x (omega (arith, old.many)));
  stored = λ bank. both bank ls (old.stored bank);
}))
  where
    next : take (i + 1) inputs ≡ take i inputs ++ x ∷ []
    next = take_next inputs i x h ∙ ap (λ y. take i inputs ++ y ∷ []) (sym is)

    both : (bank : List Tree) (ks : List StoredLine) → AreStoredIn bank ks → AreStoredIn bank (ks ++ l ∷ [])
    both bank [] h = (new.1 bank, tt)
    both bank (k ∷ ks) h = (h.0, both bank ks h.1)

-- the atoms of a line's clause are the bank's
pub stored_within : (bank : List Tree) (ls : List StoredLine) (i : ℕ) (d : StoredLine) → AreStoredIn bank ls → i < length ls → IsContentIn bank (get_or ls i d).content
stored_within bank [] i d h lt = absurd (omega arith)
stored_within bank (l ∷ ls) zero d h lt = h.0
stored_within bank (l ∷ ls) (suc i) d h lt = stored_within bank ls i d h.1 (omega arith)

-- the marked ones of the first lines
abbrev pub marked_lines : List Tree → List Bool → List StoredLine → List PlainLine
marked_lines bank marks ls = filter (λ l. has_mark marks l.number) (store_lines bank ls)

pub marked_next : (bank : List Tree) (marks : List Bool) (ls : List StoredLine) (i : ℕ) (l : StoredLine) (b : Bool) → i < length ls → l ≡ get_or ls i l → has_mark marks (suc i) ≡ b
    → marked_lines bank marks (take (i + 1) ls) ≡ marked_lines bank marks (take i ls) ++ (if b then stored_line bank (i + 1) l ∷ [] else [])
marked_next bank marks ls i l b h is e =
    ap (λ y. marked_lines bank marks y) (take_next ls i l h ∙ ap (λ y. take i ls ++ y ∷ []) (sym is))
    ∙ ap (filter (λ (k : PlainLine). has_mark marks k.number)) (from_end bank 1 (suc i) (take i ls) l (omega (arith, length-take-le i ls (omega arith))))
    ∙ filter-append (λ (k : PlainLine). has_mark marks k.number) (store_lines bank (take i ls)) (stored_line bank (suc i) l ∷ [])
    ∙ ap (λ c. marked_lines bank marks (take i ls) ++ (if c then stored_line bank (suc i) l ∷ [] else [])) e
    ∙ ap (λ x. marked_lines bank marks (take i ls) ++ (if b then stored_line bank x l ∷ [] else [])) (sym (add-one i))

pub line_within : (bank : List Tree) (ls ks : List StoredLine) (i : ℕ) (l : StoredLine) → AreStoredIn bank ls → ks ≡ ls → i < length ks → l ≡ get_or ks i l → IsContentIn bank l.content
line_within bank ls ks i l h same lt is =
    subst (λ k. IsContentIn bank k.content) (sym (is ∙ ap (λ x. get_or x i l) same)) (stored_within bank ls i l h (subst (λ x. i < length x) same lt))

-- a mark that was read
mark_read : (marks : List Bool) (i : ℕ) (r : Bool) → i < length marks → r ≡ slice_index_or marks i r → has_mark marks (suc i) ≡ r
mark_read [] i r lt is = absurd (omega arith)
mark_read (m ∷ marks) zero r lt is = sym is
mark_read (m ∷ marks) (suc i) r lt is = mark_read marks i r (omega arith) is

module _ (bank : List Tree) (marks : List Bool) (ls ks : List StoredLine) (i : ℕ) (l : StoredLine) (r : Bool) (lines more : List Line) where
  pub line_taken : (p : Line) → i < length ks → l ≡ get_or ks i l → ks ≡ ls → length marks ≡ length ls → r ≡ slice_index_or marks i r → r ≡ true
      → map plain_line lines ≡ marked_lines bank marks (take i ks) → plain_line p ≡ stored_line bank (i + 1) l → more ≡ lines ++ p ∷ [] → map plain_line more ≡ marked_lines bank marks (take (i + 1) ks)
  line_taken p lt is same many read tells old says grown =
      let within : i < length marks = omega (arith, lt, ap length same, many) in
      ap (map plain_line) grown ∙ map-append plain_line lines (p ∷ [])
      ∙ ap₂ (λ (a : List PlainLine) (b : PlainLine). a ++ b ∷ []) old says
      ∙ sym (marked_next bank marks ks i l true lt is (mark_read marks i r within read ∙ tells))

  pub line_left : i < length ks → l ≡ get_or ks i l → ks ≡ ls → length marks ≡ length ls → r ≡ slice_index_or marks i r → r ≡ false
      → map plain_line lines ≡ marked_lines bank marks (take i ks) → more ≡ lines → map plain_line more ≡ marked_lines bank marks (take (i + 1) ks)
  line_left lt is same many read tells old grown =
      let within : i < length marks = omega (arith, lt, ap length same, many) in
      ap (map plain_line) grown ∙ old
      ∙ sym (marked_next bank marks ks i l false lt is (mark_read marks i r within read ∙ tells) ∙ append-nil (marked_lines bank marks (take i ks)))

-- one more line behind which nothing stands
pub more_unnoted : (ls more : List Line) (l : Line) → AreUnnoted ls → IsUnnoted l → more ≡ ls ++ l ∷ [] → AreUnnoted more
more_unnoted ls more l h k grown = subst AreUnnoted (sym grown) (by ls h)
  where
    by : (js : List Line) → AreUnnoted js → AreUnnoted (js ++ l ∷ [])
    by [] g = (k, tt)
    by (j ∷ js) g = (g.0, by js g.1)

pub lines_found : (bank : List Tree) (ls ks js : List StoredLine) (n : ℕ) (marks : List Bool) (i : ℕ) (lines : List Line) → js ≡ ls → MarkAncestors (length js) (stored_parents js) n marks → ks ≡ ls → length ks ≤ i
    → map plain_line lines ≡ marked_lines bank marks (take i ks) → AreAncestors (store_lines bank ls) n (map plain_line lines)
lines_found bank ls ks js n marks i lines one marked other past found = record {
  among = has_mark marks;
  ancestry = marks_tell bank ls n marks (subst (λ x. MarkAncestors (length x) (stored_parents x) n marks) one marked);
  lines = found ∙ ap (marked_lines bank marks) (take_all i ks past ∙ other);
}
