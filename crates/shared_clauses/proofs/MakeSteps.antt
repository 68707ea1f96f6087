-- The literals of clauses put into a bank.
use Rattle.std.proofs.Common.{◌≡◌, ℕ, zero, suc, ◌+◌, ◌<◌, ◌≤◌, ◌-◌, ◌==◌, if◌then◌else◌, Bool, true, false, IsTrue, List, [], ◌∷◌, ◌++◌, length, map, take, slice_index, slice_index_or, Option, Some, None, Result, Ok, Err, IfOk, refl, sym, ap, ap₂, ◌∙◌, subst, arith}
use Rattle.std.specs.Option.{option_and_then, option_map}
use Rattle.std.proofs.lemmas.Bool.{or_right}
use Rattle.std.proofs.lemmas.List.{length-map, map-append, take_all, take_more}
use Rattle.clause_limits.specs.Sizes.{beside, measured}
use Rattle.clause_limits.specs.declared.measured.Measure.{Measure}
use Rattle.fol_core.specs.ClauseView.{literal_of}
use Rattle.fol_core.specs.Free.{is_in}
use Rattle.fol_core.specs.Literals.{ClauseTree, Lit, literal}
use Rattle.fol_core.specs.Renumbered.{by_place, clause_variables, place_in, renumbered}
use Rattle.fol_core.specs.Sizes.{depth_of, saturated, size_of}
use Rattle.fol_core.specs.Substitutions.{Substitution, substitute, substitute_all}
use Rattle.fol_core.specs.TermView.{tree_of}
use Rattle.fol_core.specs.Tree.{Tree, Trees, var, elem, app, none, more}
use Rattle.fol_core.specs.declared.clause.Literal.{Literal}
use Rattle.fol_core.specs.declared.term.Term.{Term}
use Rattle.inference.specs.Left.{all_left, change_tree, changed, changed_all, left_atom, left_clause, left_literal, left_tree}
use Rattle.inference.specs.Measured.{clause_measured}
use Rattle.inference.specs.declared.left.Change.{Change}
use Rattle.inference.specs.declared.left.Left.{Left}
use Rattle.inference.proofs.ParaSteps.{changed_there}
use Rattle.inference.proofs.MeasureSteps.{left_next, literal_beside, measure_of}
use Rattle.shared_clauses.specs.Bound.{AreBoundBelow, AreBoundTo, binding_in, bound_in}
use Rattle.shared_clauses.specs.Lefts.{part_atom, part_by, whole_atom}
use Rattle.shared_clauses.specs.Shared.{AreLiteralsIn, AreMade, clause_in, literal_in}
use Rattle.shared_clauses.specs.declared.shared.SharedLiteral.{SharedLiteral}
use Rattle.substitutions.specs.Apart.{Own}
use Rattle.substitutions.specs.Bindings.{Binding, by_bindings}
use Rattle.substitutions.specs.Instances.{AreVariants, followed, substitute_clause, substitute_literal}
use Rattle.substitutions.specs.Paths.{argument, replaced, subterm_at}
use Rattle.substitutions.proofs.Composing.{substitute_twice, substitute_twice_all}
use Rattle.substitutions.proofs.Replacing.{subterm_substituted}
use Rattle.shared_clauses.specs.Ways.{IsWay, first_tree}
use Rattle.substitutions.specs.View.{binding_of}
use Rattle.substitutions.proofs.Numbering.{at_place}
use Rattle.substitutions.proofs.Variants.{renamed_same}
use Rattle.term_bank.specs.Bank.{Grows, IsAt, tree_at}
use Rattle.term_bank.specs.Cells.{AreNumbersBelow}
use Rattle.term_bank.specs.declared.id.TermId.{TermId}
use Rattle.term_unifiers.specs.Renamed.{own_among}
use Rattle.term_unifiers.specs.Shared.{AreHeld, IsShared, numbers_of, of_parent}
use Rattle.term_unifiers.specs.declared.sharing.OfParent.{OfParent}
use Rattle.term_unifiers.specs.declared.sharing.Shared.{Shared}
use Rattle.term_unifiers.proofs.Held.{are_on, extends_refl}
use Rattle.shared_clauses.proofs.BoundSteps.{bound_more, bound_on}
use Rattle.shared_clauses.proofs.FollowSteps.{clause_on, within_on}

within_push : (bank : List Tree) (ls : List SharedLiteral) (l : SharedLiteral) → AreLiteralsIn bank ls → l.atom.0 < length bank → AreLiteralsIn bank (ls ++ l ∷ [])
within_push bank [] l are h = (h, tt)
within_push bank (m ∷ ls) l are h = (are.0, within_push bank ls l are.1 h)

-- a literal more
pub made_next : (a b : List Tree) (c : ClauseTree) (m : Lit) (ls made : List SharedLiteral) (l : SharedLiteral) → AreMade a c ls → Grows a b → l.atom.0 < length b → literal_in b l ≡ m → made ≡ ls ++ l ∷ [] → AreMade b (c ++ m ∷ []) made
made_next a b c m ls made l are grows h is pushed = subst (λ (x : List SharedLiteral). AreMade b (c ++ m ∷ []) x) (sym pushed) (record {
  within = within_push b ls l (within_on a b ls grows are.within) h;
  clause = map-append (literal_in b) ls (l ∷ []) ∙ ap₂ (λ (x : ClauseTree) (y : Lit). x ++ y ∷ []) (clause_on a b ls grows are.within ∙ are.clause) is;
})

pub literals_next : (ls : List Literal) (i : ℕ) (l : Literal) → i < length ls → l ≡ slice_index_or ls i l → map literal_of (take i ls) ++ literal_of l ∷ [] ≡ map literal_of (take (i + 1) ls)
literals_next ls i l h at = sym (ap (map literal_of) (take_more ls i l h ∙ ap (λ m. take i ls ++ m ∷ []) (sym at)) ∙ map-append literal_of (take i ls) (l ∷ []))

pub clause_next : (a b : List Tree) (xs : List Literal) (i : ℕ) (x : Literal) (ls made : List SharedLiteral) (k : TermId) → i < length xs → x ≡ slice_index_or xs i x → AreMade a (map literal_of (take i xs)) ls → Grows a b → IsAt b k.0 (tree_of x.atom)
    → made ≡ ls ++ (record { positive = x.positive; atom = k }) ∷ [] → AreMade b (map literal_of (take (i + 1) xs)) made
clause_next a b xs i x ls made k h at are grows is pushed =
    subst (λ (c : ClauseTree). AreMade b c made) (literals_next xs i x h at) (made_next a b (map literal_of (take i xs)) (literal_of x) ls made (record { positive = x.positive; atom = k }) are grows is.within (ap (literal x.positive) is.tree) pushed)

pub all_made : (bank : List Tree) (xs : List Literal) (i : ℕ) (c : ClauseTree) (ls : List SharedLiteral) → length xs ≤ i → AreMade bank (map literal_of (take i xs)) ls → map literal_of xs ≡ c → AreMade bank c ls
all_made bank xs i c ls h are view = subst (λ (d : ClauseTree). AreMade bank d ls) (ap (map literal_of) (take_all i xs h) ∙ view) are

-- terms for variables, one more
pub bound_next : (a b : List Tree) (es : List (ℕ × Term)) (i : ℕ) (e : ℕ × Term) (bs made : List (ℕ × TermId)) (k : TermId) → i < length es → e ≡ slice_index_or es i e → AreBoundTo a (map binding_of (take i es)) bs → Grows a b → IsAt b k.0 (tree_of e.1) → made ≡ bs ++ (e.0, k) ∷ []
    → AreBoundTo b (map binding_of (take (i + 1) es)) made
bound_next a b es i e bs made k h at are grows is pushed = subst (λ (x : List (ℕ × TermId)). AreBoundTo b (map binding_of (take (i + 1) es)) x) (sym pushed) (record {
  within = below_end bs (bound_more a b bs grows are.within);
  same =
      map-append (binding_in b) bs ((e.0, k) ∷ []) ∙ ap₂ (λ (x : List Binding) (t : Tree). x ++ (e.0, t) ∷ []) (bound_on a b bs grows are.within ∙ are.same) is.tree
      ∙ sym (ap (map binding_of) (take_more es i e h ∙ ap (λ y. take i es ++ y ∷ []) (sym at)) ∙ map-append binding_of (take i es) (e ∷ []));
})
  where
    below_end : (cs : List (ℕ × TermId)) → AreBoundBelow (length b) cs → AreBoundBelow (length b) (cs ++ (e.0, k) ∷ [])
    below_end [] below = (is.within, tt)
    below_end (c ∷ cs) below = (below.0, below_end cs below.1)

pub all_bound : (bank : List Tree) (es : List (ℕ × Term)) (i : ℕ) (all : List Binding) (bs : List (ℕ × TermId)) → length es ≤ i → AreBoundTo bank (map binding_of (take i es)) bs → map binding_of es ≡ all → AreBoundTo bank all bs
all_bound bank es i all bs h are view = subst (λ (d : List Binding). AreBoundTo bank d bs) (ap (map binding_of) (take_all i es h) ∙ view) are

pub bound_grows : (a b : List Tree) (es : List Binding) (bs : List (ℕ × TermId)) → Grows a b → AreBoundTo a es bs → AreBoundTo b es bs
bound_grows a b es bs grows are = record { within = bound_more a b bs grows are.within; same = bound_on a b bs grows are.within ∙ are.same }

pub instance_next : (s : Substitution) (es : List Binding) (bs : List (ℕ × TermId)) (a b : List Tree) (xs : List Literal) (i : ℕ) (x : Literal) (ls made : List SharedLiteral) (k : TermId) → s ≡ by_bindings es → AreBoundTo a es bs → i < length xs → x ≡ slice_index_or xs i x
    → AreMade a (substitute_clause s (map literal_of (take i xs))) ls → Grows a b → IsAt b k.0 (substitute (by_bindings (bound_in a bs)) (tree_of x.atom)) → made ≡ ls ++ (record { positive = x.positive; atom = k }) ∷ [] → AreMade b (substitute_clause s (map literal_of (take (i + 1) xs))) made
instance_next s es bs a b xs i x ls made k e bound h at are grows is pushed =
    let tree : tree_at b k.0 ≡ substitute s (tree_of x.atom) = is.tree ∙ ap (λ ds. substitute (by_bindings ds) (tree_of x.atom)) bound.same ∙ ap (λ u. substitute u (tree_of x.atom)) (sym e) in
    subst (λ (c : ClauseTree). AreMade b c made) (sym (map-append (substitute_literal s) (map literal_of (take i xs)) (literal_of x ∷ [])) ∙ ap (substitute_clause s) (literals_next xs i x h at))
    (made_next a b (substitute_clause s (map literal_of (take i xs))) (substitute_literal s (literal_of x)) ls made (record { positive = x.positive; atom = k }) are grows is.within (ap (literal x.positive) tree) pushed)

pub instance_made : (s : Substitution) (bank : List Tree) (xs : List Literal) (i : ℕ) (c : ClauseTree) (ls : List SharedLiteral) → length xs ≤ i → AreMade bank (substitute_clause s (map literal_of (take i xs))) ls → map literal_of xs ≡ c → AreMade bank (substitute_clause s c) ls
instance_made s bank xs i c ls h are view = subst (λ (d : ClauseTree). AreMade bank (substitute_clause s d) ls) (ap (map literal_of) (take_all i xs h) ∙ view) are

-- how large they are
pub shared_beside : (bank : List Tree) (ls : List SharedLiteral) (i : ℕ) (l : SharedLiteral) (m n all : Measure) → i < length ls → l ≡ slice_index_or ls i l → m ≡ clause_measured (clause_in bank (take i ls)) → n ≡ measured (tree_at bank l.atom.0) → all ≡ beside m n → all ≡ clause_measured (clause_in bank (take (i + 1) ls))
shared_beside bank ls i l m n all h at before one is =
    literal_beside (clause_in bank (take i ls)) (literal_in bank l) m n all before one is
    ∙ ap clause_measured (sym (ap (clause_in bank) (take_more ls i l h ∙ ap (λ k. take i ls ++ k ∷ []) (sym at)) ∙ map-append (literal_in bank) (take i ls) (l ∷ [])))

-- and as they are built
pub plain_next : (bank : List Tree) (ls : List SharedLiteral) (i : ℕ) (l : SharedLiteral) (ps all : List Literal) (t : Term) → i < length ls → l ≡ slice_index_or ls i l → map literal_of ps ≡ clause_in bank (take i ls) → tree_of t ≡ tree_at bank l.atom.0 → all ≡ ps ++ (record { positive = l.positive; atom = t }) ∷ []
    → map literal_of all ≡ clause_in bank (take (i + 1) ls)
plain_next bank ls i l ps all t h at before one pushed =
    ap (map literal_of) pushed ∙ map-append literal_of ps ((record { positive = l.positive; atom = t }) ∷ []) ∙ ap₂ (λ (c : ClauseTree) (u : Tree). c ++ literal l.positive u ∷ []) before one
    ∙ sym (ap (clause_in bank) (take_more ls i l h ∙ ap (λ k. take i ls ++ k ∷ []) (sym at)) ∙ map-append (literal_in bank) (take i ls) (l ∷ []))

-- the terms of what is left, one more
pub parts_next : (f : OfParent → Tree) (g : Left → Tree) (ls : List Left) (i : ℕ) (l : Left) (ps all : List OfParent) (p : OfParent) → i < length ls → l ≡ slice_index_or ls i l → map f ps ≡ map g (take i ls) → f p ≡ g l → all ≡ ps ++ p ∷ [] → map f all ≡ map g (take (i + 1) ls)
parts_next f g ls i l ps all p h at before one pushed =
    ap (map f) pushed ∙ map-append f ps (p ∷ []) ∙ ap₂ (λ (x : List Tree) (y : Tree). x ++ y ∷ []) before one ∙ sym (ap (map g) (take_more ls i l h ∙ ap (λ k. take i ls ++ k ∷ []) (sym at)) ∙ map-append g (take i ls) (l ∷ []))

-- variables by their places in a list that has all of them
in_right : (x : ℕ) (vs xs : List ℕ) → IsTrue (is_in x xs) → IsTrue (is_in x (vs ++ xs))
in_right x [] xs h = h
in_right x (v ∷ vs) xs h = or_right (x == v) (is_in x (vs ++ xs)) (in_right x vs xs h)

pub placed_variant : (vs : List ℕ) (c d : ClauseTree) → ((behind : List ℕ) → d ≡ substitute_clause (by_place (vs ++ behind)) c) → AreVariants d c
placed_variant vs c d is =
    let all : List ℕ = vs ++ clause_variables c in
    ap (λ e. renumbered e) (is (clause_variables c)) ∙ renamed_same (place_in all) (slice_index all) c (λ x i. at_place all x (in_right x vs (clause_variables c) i))

-- a term that is held, by its place
held_length : (bank : List Tree) (vs : List ℕ) (us : List Tree) (ids : List TermId) → AreHeld bank vs us (numbers_of ids) → length ids ≡ length us
held_length bank vs us ids are =
    let a : length (map (tree_at bank) (numbers_of ids)) ≡ length (numbers_of ids) = length-map (numbers_of ids) (tree_at bank) in
    let b : length (numbers_of ids) ≡ length ids = length-map ids (λ (k : TermId). k.0) in
    let c : length (map (substitute (by_place (vs ++ []))) us) ≡ length us = length-map us (substitute (by_place (vs ++ []))) in
    let d : length (map (tree_at bank) (numbers_of ids)) ≡ length (map (substitute (by_place (vs ++ []))) us) = ap (λ l. length l) (are.terms []) in
    omega (arith, a, b, c, d)

-- what is left so far
pub record Concluding (own : Own) (left : List Left) (i : ℕ) (bank : List Tree) (terms others : List TermId) (made : List SharedLiteral) : Type 0 where
  pub variables : List ℕ
  pub atoms : AreHeld bank variables (map (whole_atom own) left) (numbers_of terms)
  pub parts : AreHeld bank variables (map (part_atom own) left) (numbers_of others)
  pub within : AreLiteralsIn bank made
  pub made_is : (behind : List ℕ) → clause_in bank made ≡ substitute_clause (by_place (variables ++ behind)) (left_clause own (all_left (take i left)))

-- where a path isn't there, nothing is changed
mutual
  changed_missing : (s : Substitution) (t : Tree) (path : List ℕ) (new : Tree) → subterm_at t path ≡ None → changed s t path new ≡ substitute s t
  changed_missing s t [] new h = absurd (cc)
  changed_missing s (var x) (k ∷ path) new h = refl
  changed_missing s (elem n) (k ∷ path) new h = refl
  changed_missing s (app f ts) (k ∷ path) new h = ap (app f) (all_missing s ts k path new h)

  all_missing : (s : Substitution) (ts : Trees) (k : ℕ) (path : List ℕ) (new : Tree) → option_and_then (λ v. subterm_at v path) (argument ts k) ≡ None → changed_all s ts k path new ≡ substitute_all s ts
  all_missing s none k path new h = refl
  all_missing s (more t ts) k path new h = by (k == 1) h (λ e. changed_missing s t path new e) (λ e. all_missing s ts (k - 1) path new e)
    where
      by : (b : Bool) → option_and_then (λ v. subterm_at v path) (if b then Some t else argument ts (k - 1)) ≡ None
          → (subterm_at t path ≡ None → changed s t path new ≡ substitute s t) → (option_and_then (λ v. subterm_at v path) (argument ts (k - 1)) ≡ None → changed_all s ts (k - 1) path new ≡ substitute_all s ts)
          → (if b then more (changed s t path new) (substitute_all s ts) else more (substitute s t) (changed_all s ts (k - 1) path new)) ≡ more (substitute s t) (substitute_all s ts)
      by true e here behind = ap (λ v. more v (substitute_all s ts)) (here e)
      by false e here behind = ap (more (substitute s t)) (behind e)

-- what is changed in an instance is the instance of what is changed
mutual
  changed_put : (o s : Substitution) (t : Tree) (path : List ℕ) (new : Tree) → changed (followed o s) t path (substitute s new) ≡ substitute s (changed o t path new)
  changed_put o s t [] new = refl
  changed_put o s (var x) (k ∷ path) new = refl
  changed_put o s (elem n) (k ∷ path) new = refl
  changed_put o s (app f ts) (k ∷ path) new = ap (app f) (all_put o s ts k path new)

  all_put : (o s : Substitution) (ts : Trees) (k : ℕ) (path : List ℕ) (new : Tree) → changed_all (followed o s) ts k path (substitute s new) ≡ substitute_all s (changed_all o ts k path new)
  all_put o s none k path new = refl
  all_put o s (more t ts) k path new = by (k == 1) (changed_put o s t path new) (all_put o s ts (k - 1) path new)
    where
      by : (b : Bool) → changed (followed o s) t path (substitute s new) ≡ substitute s (changed o t path new) → changed_all (followed o s) ts (k - 1) path (substitute s new) ≡ substitute_all s (changed_all o ts (k - 1) path new)
          → (if b then more (changed (followed o s) t path (substitute s new)) (substitute_all (followed o s) ts) else more (substitute (followed o s) t) (changed_all (followed o s) ts (k - 1) path (substitute s new)))
          ≡ substitute_all s (if b then more (changed o t path new) (substitute_all o ts) else more (substitute o t) (changed_all o ts (k - 1) path new))
      by true here behind = ap₂ more here (sym (substitute_twice_all o s ts))
      by false here behind = ap₂ more (sym (substitute_twice o s t)) behind

module _ (a : List Tree) (id new : ℕ) (g : Tree) (path : List ℕ) (h : id < length a) where
  pub change_missing : subterm_at g path ≡ None → (s : Substitution) → tree_at a id ≡ substitute s g → IsAt a id (changed s g path (tree_at a new))
  change_missing gone s is = record { within = h; tree = is ∙ sym (changed_missing s g path (tree_at a new) gone) }

  pub change_never : (o : Option Tree) → subterm_at g path ≡ o → (v : Tree) → o ≡ Some v → subterm_at (tree_at a id) path ≡ None → (s : Substitution) → tree_at a id ≡ substitute s g → IsAt a id (changed s g path (tree_at a new))
  change_never o at v e gone s is = absurd (no_some (substitute s v) (sym gone ∙ ap (λ t. subterm_at t path) is ∙ subterm_substituted s g path v (at ∙ e)))
    where
      no_some : (x : Tree) → None ≡ Some x → ⊥
      no_some x e = cc

  pub change_made : (b : List Tree) (k : ℕ) (v : Tree) (way : List TermId) → subterm_at g path ≡ Some v → IsWay a (tree_at a id) path way → IsAt b k (replaced (first_tree a way) path (tree_at a new)) → (s : Substitution) → tree_at a id ≡ substitute s g → IsAt b k (changed s g path (tree_at a new))
  change_made b k v way at is made s same =
      let first : tree_at a id ≡ first_tree a way = some_same (tree_at a id) (first_tree a way) (is.trees 0 (omega arith)) in
      subst (IsAt b k) (ap (λ t. replaced t path (tree_at a new)) (sym first ∙ same) ∙ sym (changed_there s g path (tree_at a new) v at)) made
    where
      some_same : (x y : Tree) → Some x ≡ Some y → x ≡ y
      some_same x y e = cc

-- the atom of what is left
pub left_whole : (bank : List Tree) (k : ℕ) (l : Left) → l.change ≡ None → k < length bank → (s : Substitution) (own : Own) → tree_at bank k ≡ substitute s (whole_atom own l) → IsAt bank k (substitute s (left_literal own (left_tree l)).atom)
left_whole bank k l e h s own is = record { within = h; tree = is ∙ ap (substitute s) (sym (ap (λ ch. left_atom own (left_tree l) (option_map change_tree ch)) e)) }

pub left_changed : (a b : List Tree) (k part : ℕ) (l : Left) (c : Change) (s : Substitution) (own : Own) → l.change ≡ Some c → tree_at a part ≡ substitute s (part_atom own l)
    → IsAt b k (changed (followed (own l.parent) s) (tree_of l.literal.now.atom) c.path.now (tree_at a part)) → IsAt b k (substitute s (left_literal own (left_tree l)).atom)
left_changed a b k part l c s own e is made =
    let new : tree_at a part ≡ substitute s (substitute (own c.parent) (tree_of c.term.now)) = is ∙ ap (λ ch. substitute s (part_by own l ch)) e in
    subst (IsAt b k)
    (ap (changed (followed (own l.parent) s) (tree_of l.literal.now.atom) c.path.now) new ∙ changed_put (own l.parent) s (tree_of l.literal.now.atom) c.path.now (substitute (own c.parent) (tree_of c.term.now))
    ∙ ap (substitute s) (sym (ap (λ ch. left_atom own (left_tree l) (option_map change_tree ch)) e))) made

pub result_changed : {E : Type 0} (r : Result TermId E) (a b : List Tree) (atom part : ℕ) (l : Left) (c : Change) → l.change ≡ Some c
    → IfOk r (λ k. (s : Substitution) → tree_at a atom ≡ substitute s (tree_of l.literal.now.atom) → IsAt b k.0 (changed s (tree_of l.literal.now.atom) c.path.now (tree_at a part)))
    → IfOk r (λ k. (s : Substitution) (own : Own) → tree_at a atom ≡ substitute s (whole_atom own l) → tree_at a part ≡ substitute s (part_atom own l) → IsAt b k.0 (substitute s (left_literal own (left_tree l)).atom))
result_changed (Ok k) a b atom part l c e made = λ s own is that. left_changed a b k.0 part l c s own e that (made (followed (own l.parent) s) (is ∙ substitute_twice (own l.parent) s (tree_of l.literal.now.atom)))
result_changed (Err x) a b atom part l c e made = tt

-- a term's measure, where its levels are counted
pub bank_measured : (t : Tree) (n d : ℕ) → n ≡ saturated (size_of t) → d ≡ depth_of t → d < 18446744073709551616 → (record { size = n; depth = d }) ≡ measured t
bank_measured t n d e f h = ap₂ (λ (a b : ℕ). measure_of a b) e (let g : d ≡ saturated (depth_of t) = omega (arith, f, h) in g)

pub result_made : {E : Type 0} (r : Result TermId E) (a : List Tree) (id new : ℕ) (g : Tree) (path : List ℕ) → id < length a → (b : List Tree) (v : Tree) (ids way : List TermId) → ids ≡ way → subterm_at g path ≡ Some v → IsWay a (tree_at a id) path way
    → IfOk r (λ k. IsAt b k.0 (replaced (first_tree a ids) path (tree_at a new))) → IfOk r (λ k. (s : Substitution) → tree_at a id ≡ substitute s g → IsAt b k.0 (changed s g path (tree_at a new)))
result_made (Ok k) a id new g path h b v ids way e at is made = change_made a id new g path h b k.0 v way at is (subst (λ (w : List TermId). IsAt b k.0 (replaced (first_tree a w) path (tree_at a new))) e made)
result_made (Err x) a id new g path h b v ids way e at is made = tt

-- one of the terms that are held
module _ (own : Own) (left : List Left) (i : ℕ) (bank : List Tree) (terms others : List TermId) (made : List SharedLiteral) (so : Concluding own left i bank terms others made) where
  pub terms_length : length terms ≡ length left
  terms_length = held_length bank so.variables (map (whole_atom own) left) terms so.atoms ∙ length-map left (whole_atom own)

  pub others_length : length others ≡ length left
  others_length = held_length bank so.variables (map (part_atom own) left) others so.parts ∙ length-map left (part_atom own)

number_below : (n : ℕ) (ids : List TermId) (i : ℕ) (d : TermId) → i < length ids → AreNumbersBelow n (numbers_of ids) → (slice_index_or ids i d).0 < n
number_below n [] i d h below = absurd (omega (arith, h))
number_below n (k ∷ ids) zero d h below = below.0
number_below n (k ∷ ids) (suc i) d h below = number_below n ids i d (omega (arith, h)) below.1

pub held_below : (bank : List Tree) (vs : List ℕ) (us : List Tree) (ids : List TermId) (i : ℕ) (d : TermId) → i < length ids → d ≡ slice_index_or ids i d → AreHeld bank vs us (numbers_of ids) → d.0 < length bank
held_below bank vs us ids i d h at are = subst (λ (n : TermId). n.0 < length bank) (sym at) (number_below (length bank) ids i d h are.within)

item_same : (f : ℕ → Tree) (g : Left → Tree) (ids : List TermId) (ls : List Left) (i : ℕ) (d : TermId) (l : Left) → i < length ids → i < length ls → map f (numbers_of ids) ≡ map g ls → f (slice_index_or ids i d).0 ≡ g (slice_index_or ls i l)
item_same f g [] ls i d l h k e = absurd (omega (arith, h))
item_same f g (j ∷ ids) [] i d l h k e = absurd (omega (arith, k))
item_same f g (j ∷ ids) (m ∷ ls) zero d l h k e = cc
item_same f g (j ∷ ids) (m ∷ ls) (suc i) d l h k e = item_same f g ids ls i d l (omega (arith, h)) (omega (arith, k)) (tails (f j.0) (g m) (map f (numbers_of ids)) (map g ls) e)
  where
    tails : (x y : Tree) (xs ys : List Tree) → x ∷ xs ≡ y ∷ ys → xs ≡ ys
    tails x y xs ys e = cc

mapped : (s : Substitution) (g : Left → Tree) (ls : List Left) → map (substitute s) (map g ls) ≡ map (λ l. substitute s (g l)) ls
mapped s g [] = refl
mapped s g (l ∷ ls) = ap (λ us. substitute s (g l) ∷ us) (mapped s g ls)

pub held_item : (bank : List Tree) (vs : List ℕ) (g : Left → Tree) (ids : List TermId) (ls : List Left) (i : ℕ) (d : TermId) (l : Left) (behind : List ℕ) → i < length ids → i < length ls → l ≡ slice_index_or ls i l → AreHeld bank vs (map g ls) (numbers_of ids)
    → tree_at bank (slice_index_or ids i d).0 ≡ substitute (by_place (vs ++ behind)) (g l)
held_item bank vs g ids ls i d l behind h k at are =
    item_same (tree_at bank) (λ m. substitute (by_place (vs ++ behind)) (g m)) ids ls i d l h k (are.terms behind ∙ mapped (by_place (vs ++ behind)) g ls) ∙ ap (λ m. substitute (by_place (vs ++ behind)) (g m)) (sym at)

pub conclude_start : (many : ℕ) (bs : List Binding) (left : List Left) (ts us : List OfParent) (s : Shared) (own : Own) → own ≡ own_among many (by_bindings bs) → map (of_parent many bs) ts ≡ map (whole_atom own) left → map (of_parent many bs) us ≡ map (part_atom own) left → IsShared many bs ts us s
    → (made : List SharedLiteral) → made ≡ [] → Concluding own left 0 s.bank s.terms.items s.others.items made
conclude_start many bs left ts us s own o e f is made none_made = record {
  variables = is.variables;
  atoms = subst (λ (xs : List Tree). AreHeld s.bank is.variables xs (numbers_of s.terms.items)) e is.terms;
  parts = subst (λ (xs : List Tree). AreHeld s.bank is.variables xs (numbers_of s.others.items)) f is.others;
  within = subst (λ (x : List SharedLiteral). AreLiteralsIn s.bank x) (sym none_made) tt;
  made_is = λ behind. ap (clause_in s.bank) none_made;
}

pub conclude_next : (own : Own) (left : List Left) (i : ℕ) (one : Left) (a b : List Tree) (terms others : List TermId) (ls made : List SharedLiteral) (k p q : TermId) → i < length left → one ≡ slice_index_or left i one → p ≡ slice_index_or terms i p → q ≡ slice_index_or others i q → (so : Concluding own left i a terms others ls) → Grows a b
    → ((s : Substitution) (o : Own) → tree_at a p.0 ≡ substitute s (whole_atom o one) → tree_at a q.0 ≡ substitute s (part_atom o one) → IsAt b k.0 (substitute s (left_literal o (left_tree one)).atom))
    → made ≡ ls ++ (record { positive = one.literal.now.positive; atom = k }) ∷ [] → Concluding own left (i + 1) b terms others made
conclude_next own left i one a b terms others ls made k p q h at pat qat so grows is pushed =
    let vs : List ℕ = so.variables in
    let t : i < length terms = let e = terms_length own left i a terms others ls so in omega (arith, e, h) in
    let u : i < length others = let e = others_length own left i a terms others ls so in omega (arith, e, h) in
    let put = λ (behind : List ℕ). is (by_place (vs ++ behind)) own (ap (λ (n : TermId). tree_at a n.0) pat ∙ held_item a vs (whole_atom own) terms left i p one behind t h at so.atoms) (ap (λ (n : TermId). tree_at a n.0) qat ∙ held_item a vs (part_atom own) others left i q one behind u h at so.parts) in
    record {
      variables = vs;
      atoms = are_on a b vs vs grows (extends_refl vs) (map (whole_atom own) left) (numbers_of terms) so.atoms;
      parts = are_on a b vs vs grows (extends_refl vs) (map (part_atom own) left) (numbers_of others) so.parts;
      within = subst (λ (x : List SharedLiteral). AreLiteralsIn b x) (sym pushed) (within_push b ls (record { positive = one.literal.now.positive; atom = k }) (within_on a b ls grows so.within) (put []).within);
      made_is = λ behind.
          ap (clause_in b) pushed ∙ map-append (literal_in b) ls ((record { positive = one.literal.now.positive; atom = k }) ∷ [])
          ∙ ap₂ (λ (x : ClauseTree) (y : Tree). x ++ literal one.literal.now.positive y ∷ []) (clause_on a b ls grows so.within ∙ so.made_is behind) (put behind).tree
          ∙ sym (ap (substitute_clause (by_place (vs ++ behind))) (left_next own left i one h at) ∙ map-append (substitute_literal (by_place (vs ++ behind))) (left_clause own (all_left (take i left))) (left_literal own (left_tree one) ∷ []));
    }

pub conclude_end : (own : Own) (left : List Left) (i : ℕ) (bank : List Tree) (terms others : List TermId) (made : List SharedLiteral) → length left ≤ i → Concluding own left i bank terms others made → AreLiteralsIn bank made × AreVariants (clause_in bank made) (left_clause own (all_left left))
conclude_end own left i bank terms others made h so =
    (so.within, subst (λ (ks : List Left). AreVariants (clause_in bank made) (left_clause own (all_left ks))) (take_all i left h) (placed_variant so.variables (left_clause own (all_left (take i left))) (clause_in bank made) so.made_is))
