-- Behind lines that are true there is no way to the empty clause.
use Rattle.std.proofs.Common.{◌≡◌, inl, inr, ℕ, suc, Bool, true, false, ◌==◌, if◌then◌else◌, IsTrue, List, [], ◌∷◌, ◌++◌, map, slice_index, Option, Some, sym, subst}
use Rattle.std.specs.Option.{option_and_then}
use Rattle.std.proofs.lemmas.Bool.{false≢true}
use Rattle.fol_core.specs.Fol.{Fol}
use Rattle.fol_core.specs.Literals.{ClauseTree, IsTrueClause, AreTrueClauses}
use Rattle.fol_core.specs.Meaning.{Meaning, IsLawful}
use Rattle.fol_core.specs.Renumbered.{clause_variables, by_place, renumbered}
use Rattle.fol_problem.specs.Stated.{Said}
use Rattle.fol_core.specs.Truth.{Assignment, IsWithin}
use Rattle.fol_core.specs.Tree.{var}
use Rattle.substitutions.specs.Atoms.{AreAtoms}
use Rattle.substitutions.specs.Bindings.{Binding, by_bindings}
use Rattle.substitutions.specs.Instances.{followed, substitute_clause}
use Rattle.substitutions.proofs.Numbering.{renumbered_true, true_renumbered}
use Rattle.substitutions.proofs.Variants.{variants_instances}
use Rattle.derivation.specs.Laws.{ContentNamesWithin, LinesNameWithin, RowsAreAtoms}
use Rattle.derivation.specs.Later.{LaterWord, later_parents}
use Rattle.derivation.specs.Lines.{FirstWord, assumed, wanted, clausified, denied, copied, resolved, factored, paramodulated, xx_resolved, instantiated, Inference, instance_of, IsInstance, copy_inference, clash_inference, factor_inference, para_inference, xx_inference, ContentTree, formula, clause, LineTree, line_at, content_clause, clause_at, AreClauses, IsClause, After, IsInferred, InputRow, IsStated, IsInput, IsLine, AreLines, is_empty_clause, ends_empty}
use Rattle.substitutions.specs.Apart.{Own, instances}
use Rattle.derivation.proofs.LaterSound.{word_sound, word_atoms, InstancesTrue}
use Rattle.derivation.proofs.Lawful.{IsLawfulRule, copy_lawful, clash_lawful, factor_lawful, xx_lawful, para_lawful}
use Rattle.derivation.proofs.RuleSound.{AllTrue, AllAtoms}
use Rattle.derivation.proofs.Values.{inside, atom_true, Valid, valid_true, valid_instance, atoms_put}

module _ (m : Meaning) (lawful : IsLawful m) where
  -- true of all elements, and made of atoms
  abbrev pub IsGood : ClauseTree → Type 0
  IsGood c = Valid m lawful c × AreAtoms c

module _ (m : Meaning) (lawful : IsLawful m) where
  abbrev pub AllGood : List ClauseTree → Type 0
  AllGood [] = Unit {0}
  AllGood (c ∷ cs) = IsGood m lawful c × AllGood cs

  abbrev pub ContentGood : ContentTree → Type 0
  ContentGood (formula f) = Unit {0}
  ContentGood (clause c) = IsGood m lawful c

module _ (m : Meaning) (lawful : IsLawful m) where
  abbrev pub LinesGood : List LineTree → Type 0
  LinesGood [] = Unit {0}
  LinesGood (l ∷ ls) = ContentGood m lawful l.content × LinesGood ls

module _ (m : Meaning) (lawful : IsLawful m) where
  lines_push : (ls : List LineTree) (l : LineTree) → LinesGood m lawful ls → ContentGood m lawful l.content → LinesGood m lawful (ls ++ l ∷ [])
  lines_push [] l good here = (here, tt)
  lines_push (k ∷ ls) l good here = (good.0, lines_push ls l good.1 here)

  content_good : (content : ContentTree) (c : ClauseTree) → content_clause content ≡ Some c → ContentGood m lawful content → IsGood m lawful c
  content_good (formula f) c h good = cc
  content_good (clause d) c h good = let same : d ≡ c = cc in subst (IsGood m lawful) same good

  clause_good : (ls : List LineTree) (n : ℕ) (c : ClauseTree) → clause_at ls n ≡ Some c → LinesGood m lawful ls → IsGood m lawful c
  clause_good [] n c h good = cc
  clause_good (l ∷ ls) n c h good = by (l.number == n) h (λ k. clause_good ls n c k good.1)
    where
      by : (b : Bool) → option_and_then (λ l. content_clause l.content) (if b then Some l else line_at ls n) ≡ Some c → (clause_at ls n ≡ Some c → IsGood m lawful c) → IsGood m lawful c
      by true k rest = content_good l.content c k good.0
      by false k rest = rest k

  clauses_good : (ls : List LineTree) (ns : List ℕ) (cs : List ClauseTree) → AreClauses ls ns cs → LinesGood m lawful ls → AllGood m lawful cs
  clauses_good ls [] [] are good = tt
  clauses_good ls [] (c ∷ cs) are good = absurd are
  clauses_good ls (n ∷ ns) [] are good = absurd are
  clauses_good ls (n ∷ ns) (c ∷ cs) are good = (clause_good ls n c are.0 good, clauses_good ls ns cs are.1 good)

  good_instance : (c d : ClauseTree) → renumbered c ≡ renumbered d → IsGood m lawful d → IsGood m lawful c
  good_instance c d same good =
      let s = followed (by_place (clause_variables d)) (λ n. var (slice_index (clause_variables c) n)) in
      subst (IsGood m lawful) (sym (variants_instances d c (sym same))) (valid_instance m lawful s d good.1 good.0, atoms_put s d good.1)

  all_instances : (e : Assignment) → IsWithin m e → (cs : List ClauseTree) → AllGood m lawful cs → InstancesTrue m (inside m lawful) e cs
  all_instances e w [] good = tt
  all_instances e w (c ∷ cs) good = (λ s. valid_instance m lawful s c good.0.1 good.0.0 e w, all_instances e w cs good.1)

  own_instances : (e : Assignment) → IsWithin m e → (own : Own) (cs : List ClauseTree) → AllGood m lawful cs → AllTrue (atom_true m (inside m lawful) e) (instances own cs)
  own_instances e w own [] good = tt
  own_instances e w own (c ∷ cs) good = (valid_instance m lawful (own 0) c good.0.1 good.0.0 e w, own_instances e w (λ k. own (suc k)) cs good.1)

  own_atoms : (own : Own) (cs : List ClauseTree) → AllGood m lawful cs → AllAtoms (instances own cs)
  own_atoms own [] good = tt
  own_atoms own (c ∷ cs) good = (atoms_put (own 0) c good.0.1, own_atoms (λ k. own (suc k)) cs good.1)

  -- what the words lead to
  after_good : (ls : List LineTree) (ws : List LaterWord) (d : ClauseTree) (content : ContentTree) → After ls ws d content → LinesGood m lawful ls → IsGood m lawful d → ContentGood m lawful content
  after_good ls [] d (formula f) after lines good = tt
  after_good ls [] d (clause c) after lines good = good_instance c d after good
  after_good ls (w ∷ ws) d content (ps, b, are, fits, leads, after) lines good =
      let parents = clauses_good ls (later_parents w) ps are lines in
      after_good ls ws b content after lines
      (λ e within. word_sound m (inside m lawful) e w d b ps fits leads (good.0 e within) (all_instances e within ps parents), word_atoms w d b ps fits leads good.1)

  -- and a rule with its words
  inferred_good : (ls : List LineTree) (i : Inference) (ws : List LaterWord) (content : ContentTree) → IsLawfulRule i.rule → IsInferred ls i ws content → LinesGood m lawful ls → ContentGood m lawful content
  inferred_good ls i ws content law (ps, d, are, fits, (own, general, is), after) lines =
      let parents = clauses_good ls i.parents ps are lines in
      let made = i.rule.rest (instances own ps) in
      let fit = law.kept own ps fits in
      let atoms : AreAtoms made = law.atoms (instances own ps) fit (own_atoms own ps parents) in
      let valid : Valid m lawful made = λ e within. law.sound m (inside m lawful) e (instances own ps) fit general.unifies (own_instances e within own ps parents) in
      let s = by_place (clause_variables made) in
      after_good ls ws d content after lines (subst (IsGood m lawful) (sym is) (valid_instance m lawful s made atoms valid, atoms_put s made atoms))

  -- and an instance with its words
  instantiated_good : (ls : List LineTree) (n : ℕ) (es : List Binding) (ws : List LaterWord) (content : ContentTree) → IsInstance ls n es ws content → LinesGood m lawful ls → ContentGood m lawful content
  instantiated_good ls n es ws content (c, at, after) lines =
      let parent = clause_good ls n c at lines in
      let put = by_bindings es in
      let made = substitute_clause put c in
      let atoms : AreAtoms made = atoms_put put c parent.1 in
      let valid : Valid m lawful made = valid_instance m lawful put c parent.1 parent.0 in
      let s = by_place (clause_variables made) in
      after_good ls ws (instance_of es c) content after lines (valid_instance m lawful s made atoms valid, atoms_put s made atoms)

  row_good : (content : ContentTree) (d : ClauseTree) → IsClause content d → ContentNamesWithin m content → IsTrueClause m d → AreAtoms d → ContentGood m lawful content
  row_good (formula f) d same names holds atoms = tt
  row_good (clause c) d same names holds atoms = (
    valid_true m lawful c names (true_renumbered m c (subst (IsTrueClause m) (sym same) (renumbered_true m d holds))),
    let s = followed (by_place (clause_variables d)) (λ n. var (slice_index (clause_variables c) n)) in subst AreAtoms (sym (variants_instances d c (sym same))) (atoms_put s d atoms),
  )

  input_good : (goal : Bool) (f : Fol) (ss : List Said) (content : ContentTree) (rows : List InputRow) → IsInput goal f ss content rows → ContentNamesWithin m content
      → AreTrueClauses m (map (λ r. r.1) rows) → RowsAreAtoms rows → ContentGood m lawful content
  input_good goal f ss content [] is names all atoms = absurd is
  input_good goal f ss content (r ∷ rows) (inl here) names all atoms = row_good content r.1 here.3 names all.0 atoms.0
  input_good goal f ss content (r ∷ rows) (inr there) names all atoms = input_good goal f ss content rows there names all.1 atoms.1

  stated_good : (goal : Bool) (content : ContentTree) (ss : List Said) → IsStated goal content ss → ContentGood m lawful content
  stated_good goal (formula f) ss h = tt
  stated_good goal (clause c) ss h = absurd h

  line_good : (ss : List Said) (rows : List InputRow) (ls : List LineTree) (first : FirstWord) (ws : List LaterWord) (content : ContentTree) → IsLine ss rows ls first ws content
      → ContentNamesWithin m content → AreTrueClauses m (map (λ r. r.1) rows) → RowsAreAtoms rows → LinesGood m lawful ls → ContentGood m lawful content
  line_good ss rows ls assumed ws content is names all atoms good = stated_good false content ss is.0
  line_good ss rows ls wanted ws content is names all atoms good = stated_good true content ss is.0
  line_good ss rows ls (clausified n) ws content is names all atoms good = input_good false is.0.0 ss content rows is.0.2 names all atoms
  line_good ss rows ls (denied n) ws content is names all atoms good = input_good true is.0.0 ss content rows is.0.2 names all atoms
  line_good ss rows ls (copied n) ws content is names all atoms good = inferred_good ls (copy_inference n) ws content copy_lawful is good
  line_good ss rows ls (resolved n k) ws content is names all atoms good = inferred_good ls (clash_inference n k) ws content (clash_lawful (map (λ s. (s.place, s.literal)) k)) is good
  line_good ss rows ls (factored n a b) ws content is names all atoms good = inferred_good ls (factor_inference n a b) ws content (factor_lawful a b) is good
  line_good ss rows ls (paramodulated n a side k b path) ws content is names all atoms good =
      inferred_good ls (para_inference n a side k b path) ws content (para_lawful a side b path) is good
  line_good ss rows ls (xx_resolved n a) ws content is names all atoms good = inferred_good ls (xx_inference n a) ws content (xx_lawful a) is good
  line_good ss rows ls (instantiated n es) ws content is names all atoms good = instantiated_good ls n es ws content is good

  empty_false : (content : ContentTree) → ContentGood m lawful content → IsTrue (is_empty_clause content) → ⊥
  empty_false (formula f) good h = false≢true h
  empty_false (clause []) good h = false≢true (good.0 (λ x. lawful.element.0) (λ x. lawful.element.1))
  empty_false (clause (l ∷ c)) good h = false≢true h

  -- behind good lines there is no way to the empty clause
  pub no_way : (ss : List Said) (rows : List InputRow) (earlier : List LineTree) (last : Option ℕ) (ls : List LineTree) → AreTrueClauses m (map (λ r. r.1) rows) → RowsAreAtoms rows
      → LinesNameWithin m ls → LinesGood m lawful earlier → AreLines ss rows earlier last ls → IsTrue (ends_empty ls) → ⊥
  no_way ss rows earlier last [] all atoms names good are ends = false≢true ends
  no_way ss rows earlier last (l ∷ []) all atoms names good are ends =
      empty_false l.content (line_good ss rows earlier l.first l.later l.content are.1 names.0 all atoms good) ends
  no_way ss rows earlier last (l ∷ k ∷ ls) all atoms names good are ends =
      no_way ss rows (earlier ++ l ∷ []) (Some l.number) (k ∷ ls) all atoms names.1
      (lines_push earlier l good (line_good ss rows earlier l.first l.later l.content are.1 names.0 all atoms good)) are.2 ends
