-- Terms and clauses as they are written.
use Rattle.std.proofs.Common.{◌≡◌, ℕ, ◌+◌, ◌<◌, ◌≤◌, List, [], ◌∷◌, ◌++◌, map, length, take, slice_index_or, Some, None, Result, Ok, Err, IfOk, OnOk, sym, ap, ap₂, ◌∙◌, subst}
use Rattle.std.specs.Option.{option_map}
use Rattle.std.proofs.lemmas.List.{append-nil, append_assoc, map-append, take_all}
use Rattle.clause_limits.proofs.Noting.{clause_once}
use Rattle.fol_core.proofs.Variables.{joined_joined, once}
use Rattle.fol_core.specs.Free.{joined, variables_of}
use Rattle.fol_core.specs.Literals.{ClauseTree, Lit, literal}
use Rattle.fol_core.specs.Renumbered.{by_place, clause_variables, renumbered}
use Rattle.fol_core.specs.Substitutions.{substitute}
use Rattle.fol_core.specs.TermView.{tree_of}
use Rattle.fol_core.specs.Tree.{Tree}
use Rattle.fol_core.specs.declared.term.Term.{Term}
use Rattle.substitutions.specs.Apart.{Own}
use Rattle.inference.specs.Left.{all_left, change_tree, changed, left_atom, left_clause, left_literal, left_tree}
use Rattle.inference.specs.declared.left.Change.{Change}
use Rattle.inference.specs.declared.left.Left.{Left}
use Rattle.inference.proofs.MeasureSteps.{left_next}
use Rattle.term_unifiers.specs.Written.{IsWritten}
use Rattle.term_unifiers.proofs.Written.{joined_grows}

-- from what the unifier's own says of a term
pub written_of : {E : Type 0} (r : Result Term E) (old new : List ℕ) (u : Tree) → OnOk r (new ≡ joined old (variables_of u)) → IfOk r (λ t. (behind : List ℕ) → tree_of t ≡ substitute (by_place (new ++ behind)) u) → IfOk r (λ t. IsWritten old new u (tree_of t))
written_of (Ok t) old new u numbers term = record { numbers = numbers; term = term }
written_of (Err e) old new u numbers term = tt

pub moved : (old a b : List ℕ) (u : Tree) (s t : Term) → a ≡ b → s ≡ t → IsWritten old b u (tree_of t) → IsWritten old a u (tree_of s)
moved old a b u s t e f is = subst (λ n. IsWritten old n u (tree_of s)) (sym e) (subst (λ v. IsWritten old b u (tree_of v)) (sym f) is)

-- the atom of a literal that is left as it is, and with another term in it
pub atom_whole : {E : Type 0} (r : Result Term E) (own : Own) (l : Left) (old new : List ℕ) → l.change ≡ None → IfOk r (λ t. IsWritten old new (substitute (own l.parent) (tree_of l.literal.now.atom)) (tree_of t))
    → IfOk r (λ t. IsWritten old new (left_literal own (left_tree l)).atom (tree_of t))
atom_whole r own l old new e is = subst (λ ch. IfOk r (λ t. IsWritten old new (left_atom own (left_tree l) (option_map change_tree ch)) (tree_of t))) (sym e) is

pub atom_changed : {E : Type 0} (r : Result Term E) (own : Own) (l : Left) (ch : Change) (old new : List ℕ) → l.change ≡ Some ch
    → IfOk r (λ t. IsWritten old new (changed (own l.parent) (tree_of l.literal.now.atom) ch.path.now (substitute (own ch.parent) (tree_of ch.term.now))) (tree_of t))
    → IfOk r (λ t. IsWritten old new (left_literal own (left_tree l)).atom (tree_of t))
atom_changed r own l ch old new e is = subst (λ c. IfOk r (λ t. IsWritten old new (left_atom own (left_tree l) (option_map change_tree c)) (tree_of t))) (sym e) is

-- literals one after the other: the list of their variables, and these by their places in it
abbrev pub placed : List ℕ → ClauseTree → ClauseTree
placed ns c = map (λ l. literal l.positive (substitute (by_place ns) l.atom)) c

pub record AreLiterals (ns : List ℕ) (c d : ClauseTree) : Type 0 where
  pub numbers : ns ≡ joined [] (clause_variables c)
  pub literals : (behind : List ℕ) → d ≡ placed (ns ++ behind) c

pub no_literals : (ns : List ℕ) (d : ClauseTree) → ns ≡ [] → d ≡ [] → AreLiterals ns [] d
no_literals ns d e f = record { numbers = e; literals = λ behind. f }

variables_more : (c : ClauseTree) (l : Lit) → clause_variables (c ++ l ∷ []) ≡ joined (clause_variables c) (variables_of l.atom)
variables_more [] l = sym (once l.atom)
variables_more (m ∷ c) l = ap (joined (variables_of m.atom)) (variables_more c l) ∙ joined_joined (variables_of m.atom) (clause_variables c) (variables_of l.atom)

literal_more : (mid new : List ℕ) (c d e : ClauseTree) (l : Lit) (t : Tree) → AreLiterals mid c d → IsWritten mid new l.atom t → e ≡ d ++ literal l.positive t ∷ [] → AreLiterals new (c ++ l ∷ []) e
literal_more mid new c d e l t before one is = record {
  numbers =
      one.numbers ∙ ap (λ ns. joined ns (variables_of l.atom)) before.numbers ∙ sym (joined_joined [] (clause_variables c) (variables_of l.atom)) ∙ ap (joined []) (sym (variables_more c l));
  literals = λ behind.
      let grown = joined_grows mid (variables_of l.atom) in
      let same : mid ++ (grown.0 ++ behind) ≡ new ++ behind = sym (append_assoc mid grown.0 behind) ∙ ap (λ ns. ns ++ behind) (sym (one.numbers ∙ grown.1)) in
      is ∙ ap₂ (λ (x : ClauseTree) v. x ++ literal l.positive v ∷ []) (before.literals (grown.0 ++ behind) ∙ ap (λ ns. placed ns c) same) (one.term behind)
      ∙ sym (map-append (λ (m : Lit). literal m.positive (substitute (by_place (new ++ behind)) m.atom)) c (l ∷ []));
}

pub literals_next : (own : Own) (ls : List Left) (i : ℕ) (l : Left) (mid new : List ℕ) (d e : ClauseTree) (t : Tree) → i < length ls → l ≡ slice_index_or ls i l → AreLiterals mid (left_clause own (all_left (take i ls))) d
    → IsWritten mid new (left_literal own (left_tree l)).atom t → e ≡ d ++ literal l.literal.now.positive t ∷ [] → AreLiterals new (left_clause own (all_left (take (i + 1) ls))) e
literals_next own ls i l mid new d e t h at before one is =
    subst (λ c. AreLiterals new c e) (sym (left_next own ls i l h at)) (literal_more mid new (left_clause own (all_left (take i ls))) d e (left_literal own (left_tree l)) t before one is)

pub literals_all : (own : Own) (ls : List Left) (i : ℕ) (ns : List ℕ) (d : ClauseTree) → length ls ≤ i → AreLiterals ns (left_clause own (all_left (take i ls))) d → d ≡ renumbered (left_clause own (all_left ls))
literals_all own ls i ns d h are =
    let c = left_clause own (all_left (take i ls)) in
    are.literals [] ∙ ap (λ ms. placed ms c) (append-nil ns ∙ are.numbers ∙ clause_once c) ∙ ap (λ ks. renumbered (left_clause own (all_left ks))) (take_all i ls h)
