-- The lines of a derivation stay in a signature.
use Rattle.std.proofs.Common.{◌≡◌, inl, inr, ℕ, Bool, true, false, ◌==◌, ◌&&◌, if◌then◌else◌, IsTrue, List, [], ◌∷◌, ◌++◌, slice_index, Option, Some, None, refl, sym, ap, ◌∙◌, subst}
use Rattle.std.proofs.lemmas.Bool.{and_parts}
use Rattle.std.specs.Option.{option_and_then}
use Rattle.fol_core.specs.Fol.{Fol}
use Rattle.fol_core.specs.Literals.{ClauseTree}
use Rattle.fol_core.specs.Renumbered.{clause_variables, by_place, renumbered}
use Rattle.fol_problem.specs.Stated.{Said}
use Rattle.fol_core.specs.Substitutions.{substitute}
use Rattle.fol_core.specs.Tree.{var}
use Rattle.std.specs.List.{AllByRecursion}
use Rattle.substitutions.specs.Bindings.{Binding, by_bindings}
use Rattle.substitutions.specs.Instances.{substitute_clause, followed}
use Rattle.substitutions.specs.Paths.{replaced}
use Rattle.substitutions.proofs.Variants.{variants_instances}
use Rattle.derivation.specs.Equations.{equation, is_equation, left_of, right_of, below, is_there}
use Rattle.derivation.specs.Later.{LaterWord, flipped, merged, reflexive, unit_deleted, rewritten, later_parents, later_fits, Leads, is_unit, is_rule_equation}
use Rattle.derivation.specs.Lines.{FirstWord, assumed, wanted, clausified, denied, copied, resolved, factored, paramodulated, xx_resolved, instantiated, Inference, copy_inference, clash_inference, factor_inference, para_inference, xx_inference, inference_of, ContentTree, formula, clause, LineTree, line_at, content_clause, clause_at, AreClauses, IsClause, After, IsInferred, IsInstance, instance_of, InputRow, IsStated, IsInput, IsLine, AreLines}
use Rattle.derivation.specs.Places.{has_literal, has_place, atom_at, with_atom}
use Rattle.derivation.specs.Words.{only_of, is_one_clause}
use Rattle.derivation.proofs.Conclusions.{one_lead}
use Rattle.derivation.proofs.Rows.{word_lawful}
use Rattle.derivation_laws.specs.Signatures.{Signature, IsTermIn, IsClauseIn, RowsAreIn, ContentIsIn, LinesAreIn, PutsIn, LinesPutIn, LinesStayIn}
use Rattle.derivation_laws.proofs.Erased.{erased_for, erased_in, term_put_in, term_stays, term_put}
use Rattle.derivation_laws.proofs.Places.{left_in, right_in, equation_in, below_in, replaced_in, literal_in, atom_in, others_in, with_atom_in, clause_put_in, renumbered_in, AreClausesIn}
use Rattle.derivation_laws.proofs.Rules.{only_in, word_keeping, conclusion_in}

module _ (g : Signature) where
  -- What a word makes of a clause of the signature is in it. A rule puts terms in for the variables
  -- of its left side, and makes the same with those erased: the rewritten term has nothing that is.
  pub lead_in : (w : LaterWord) (c : ClauseTree) (ps : List ClauseTree) (d : ClauseTree) → IsTrue (later_fits w c ps) → IsClauseIn g c → AreClausesIn g ps → Leads w c ps d → IsClauseIn g d
  lead_in (flipped a) c ps d fits i j h =
      let p = and_parts (has_place c a) (is_equation (atom_at c a)) fits in
      let t = atom_at c a in
      let is = atom_in g c a p.0 i in
      subst (IsClauseIn g) (sym h)
      (with_atom_in g c a (equation (right_of t) (left_of t)) (equation_in g t (right_of t) (left_of t) p.1 is (right_in g t is) (left_in g t is)) i)
  lead_in (merged a) c ps d fits i j h = subst (IsClauseIn g) (sym h.1) (others_in g (λ n. n == a) c i)
  lead_in (reflexive a) c ps d fits i j h = subst (IsClauseIn g) (sym h.1) (others_in g (λ n. n == a) c i)
  lead_in (unit_deleted a n) c ps d fits i j h = subst (IsClauseIn g) (sym h.1) (others_in g (λ n. n == a) c i)
  lead_in (rewritten n a path) c ps d fits i j h =
      let p0 = and_parts (is_one_clause ps) (is_unit (only_of ps) && (has_literal true (only_of ps) 0 && (is_rule_equation (atom_at (only_of ps) 0) && (has_place c a && is_there (below (atom_at c a) path))))) fits in
      let p1 = and_parts (is_unit (only_of ps)) (has_literal true (only_of ps) 0 && (is_rule_equation (atom_at (only_of ps) 0) && (has_place c a && is_there (below (atom_at c a) path)))) p0.1 in
      let p2 = and_parts (has_literal true (only_of ps) 0) (is_rule_equation (atom_at (only_of ps) 0) && (has_place c a && is_there (below (atom_at c a) path))) p1.1 in
      let p3 = and_parts (is_rule_equation (atom_at (only_of ps) 0)) (has_place c a && is_there (below (atom_at c a) path)) p2.1 in
      let p4 = and_parts (has_place c a) (is_there (below (atom_at c a) path)) p3.1 in
      let rule = atom_at (only_of ps) 0 in
      let rule_in = literal_in g true (only_of ps) 0 p2.0 (only_in g ps j) in
      let t = atom_at c a in
      let t_in = atom_in g c a p4.0 i in
      let s = h.0 in
      let old_in : IsTermIn g (substitute s (left_of rule)) = below_in g t path (substitute s (left_of rule)) h.1 t_in in
      let old : substitute s (left_of rule) ≡ substitute (erased_for g s) (left_of rule) =
      sym (term_stays g (substitute s (left_of rule)) old_in) ∙ term_put g s (left_of rule) (left_in g rule rule_in) in
      let new = substitute (erased_for g s) (right_of rule) in
      let new_in : IsTermIn g new = term_put_in g (erased_for g s) (λ x. erased_in g (s x)) (right_of rule) (right_in g rule rule_in) in
      let again : Leads (rewritten n a path) c ps (with_atom c a (replaced t path new)) = (erased_for g s, h.1 ∙ ap (λ u. Some u) old, refl) in
      subst (IsClauseIn g) (one_lead (rewritten n a path) c ps (with_atom c a (replaced t path new)) d fits again h)
      (with_atom_in g c a (replaced t path new) (replaced_in g t path (substitute s (left_of rule)) new h.1 new_in t_in) i)

  -- a clause that is one of the signature but for the numbers of its variables is in it
  variant_in : (c d : ClauseTree) → renumbered c ≡ renumbered d → IsClauseIn g d → IsClauseIn g c
  variant_in c d same i =
      let s = followed (by_place (clause_variables d)) (λ n. var (slice_index (clause_variables c) n)) in
      subst (IsClauseIn g) (sym (variants_instances d c (sym same))) (clause_put_in g s (λ x. tt) d i)

  -- lines by their numbers
  pub content_clause_in : (content : ContentTree) (c : ClauseTree) → content_clause content ≡ Some c → ContentIsIn g content → IsClauseIn g c
  content_clause_in (formula f) c h i = absurd (cc)
  content_clause_in (clause d) c h i = let same : d ≡ c = cc in subst (IsClauseIn g) same i

  clause_in : (ls : List LineTree) (n : ℕ) (c : ClauseTree) → clause_at ls n ≡ Some c → LinesAreIn g ls → IsClauseIn g c
  clause_in [] n c h i = absurd (cc)
  clause_in (l ∷ ls) n c h i = by (l.number == n) h (λ e. clause_in ls n c e i.1)
    where
      by : (b : Bool) → option_and_then (λ (l : LineTree). content_clause l.content) (if b then Some l else line_at ls n) ≡ Some c → (clause_at ls n ≡ Some c → IsClauseIn g c) → IsClauseIn g c
      by true e rest = content_clause_in l.content c e i.0
      by false e rest = rest e

  clauses_in : (ls : List LineTree) (ns : List ℕ) (cs : List ClauseTree) → AreClauses ls ns cs → LinesAreIn g ls → AreClausesIn g cs
  clauses_in ls [] [] are i = tt
  clauses_in ls [] (c ∷ cs) are i = absurd are
  clauses_in ls (n ∷ ns) [] are i = absurd are
  clauses_in ls (n ∷ ns) (c ∷ cs) are i = (clause_in ls n c are.0 i, clauses_in ls ns cs are.1 i)

  is_clause_in : (content : ContentTree) (d : ClauseTree) → IsClause content d → IsClauseIn g d → ContentIsIn g content
  is_clause_in (formula f) d h i = tt
  is_clause_in (clause c) d h i = variant_in c d h i

  after_in : (ls : List LineTree) (ws : List LaterWord) (d : ClauseTree) (content : ContentTree) → After ls ws d content → LinesAreIn g ls → IsClauseIn g d → ContentIsIn g content
  after_in ls [] d content h i j = is_clause_in content d h j
  after_in ls (w ∷ ws) d content h i j = after_in ls ws h.1 content h.5 i (lead_in w d h.0 h.1 h.3 j (clauses_in ls (later_parents w) h.0 h.2 i) h.4)

  inferred_in : (ls : List LineTree) (w : FirstWord) (n : Inference) → inference_of w ≡ Some n → (ws : List LaterWord) (content : ContentTree) → IsInferred ls n ws content → LinesAreIn g ls
      → ContentIsIn g content
  inferred_in ls w n is ws content h i =
      let laws = word_lawful w n is in
      after_in ls ws h.1 content h.5 i (conclusion_in g n.rule laws.0 laws.1 (word_keeping g w n is) h.0 h.1 h.3 (clauses_in ls n.parents h.0 h.2 i) h.4)

  -- an instance by terms of the signature
  pub bindings_in : (es : List Binding) → AllByRecursion (λ e. IsTermIn g e.1) es → (x : ℕ) → IsTermIn g (by_bindings es x)
  bindings_in [] i x = tt
  bindings_in (e ∷ es) i x = by (x == e.0) (bindings_in es i.1 x)
    where
      by : (b : Bool) → IsTermIn g (by_bindings es x) → IsTermIn g (if b then e.1 else by_bindings es x)
      by true rest = i.0
      by false rest = rest

  instance_in : (ls : List LineTree) (n : ℕ) (es : List Binding) → AllByRecursion (λ e. IsTermIn g e.1) es → (ws : List LaterWord) (content : ContentTree) → IsInstance ls n es ws content → LinesAreIn g ls
      → ContentIsIn g content
  instance_in ls n es put ws content h i =
      let made = substitute_clause (by_bindings es) h.0 in
      after_in ls ws (instance_of es h.0) content h.2 i (renumbered_in g made (clause_put_in g (by_bindings es) (bindings_in es put) h.0 (clause_in ls n h.0 h.1 i)))

  -- input clauses
  input_in : (goal : Bool) (f : Fol) (ss : List Said) (content : ContentTree) (rows : List InputRow) → IsInput goal f ss content rows → RowsAreIn g rows → ContentIsIn g content
  input_in goal f ss content [] h i = absurd h
  input_in goal f ss content (r ∷ rows) (inl h) i = is_clause_in content r.1 h.3 i.0
  input_in goal f ss content (r ∷ rows) (inr h) i = input_in goal f ss content rows h i.1

  stated_in : (goal : Bool) (content : ContentTree) (ss : List Said) → IsStated goal content ss → ContentIsIn g content
  stated_in goal (formula f) ss h = tt
  stated_in goal (clause c) ss h = absurd h

  lines_push : (ls : List LineTree) (l : LineTree) → LinesAreIn g ls → ContentIsIn g l.content → LinesAreIn g (ls ++ l ∷ [])
  lines_push [] l i here = (here, tt)
  lines_push (m ∷ ls) l i here = (i.0, lines_push ls l i.1 here)

  module _ (ss : List Said) (rows : List InputRow) (inputs : RowsAreIn g rows) where
    line_in : (ls : List LineTree) (w : FirstWord) (ws : List LaterWord) (content : ContentTree) → PutsIn g w → IsLine ss rows ls w ws content → LinesAreIn g ls → ContentIsIn g content
    line_in ls assumed ws content put h i = stated_in false content ss h.0
    line_in ls wanted ws content put h i = stated_in true content ss h.0
    line_in ls (clausified n) ws content put h i = input_in false h.0.0 ss content rows h.0.2 inputs
    line_in ls (denied n) ws content put h i = input_in true h.0.0 ss content rows h.0.2 inputs
    line_in ls (copied n) ws content put h i = inferred_in ls (copied n) (copy_inference n) refl ws content h i
    line_in ls (resolved n m) ws content put h i = inferred_in ls (resolved n m) (clash_inference n m) refl ws content h i
    line_in ls (factored n a b) ws content put h i = inferred_in ls (factored n a b) (factor_inference n a b) refl ws content h i
    line_in ls (paramodulated n a side m b path) ws content put h i = inferred_in ls (paramodulated n a side m b path) (para_inference n a side m b path) refl ws content h i
    line_in ls (xx_resolved n a) ws content put h i = inferred_in ls (xx_resolved n a) (xx_inference n a) refl ws content h i
    line_in ls (instantiated n es) ws content put h i = instance_in ls n es put ws content h i

    lines_in : (earlier : List LineTree) (last : Option ℕ) (ls : List LineTree) → LinesPutIn g ls → AreLines ss rows earlier last ls → LinesAreIn g earlier → LinesAreIn g ls
    lines_in earlier last [] put h i = tt
    lines_in earlier last (l ∷ ls) put h i =
        let here = line_in earlier l.first l.later l.content put.0 h.1 i in (
          here,
          lines_in (earlier ++ l ∷ []) (Some l.number) ls put.1 h.2 (lines_push earlier l i here),
        )

pub stay_in : LinesStayIn
stay_in g ss rows ls inputs put h = lines_in g ss rows inputs [] None ls put h tt
