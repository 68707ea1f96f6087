-- The formulas of a refutation's lines are the problem's.
use Rattle.std.proofs.Common.{inl, inr, ℕ, Bool, true, false, List, [], ◌∷◌, ◌++◌, Option, Some, subst}
use Rattle.derivation.specs.Later.{LaterWord}
use Rattle.derivation.specs.Lines.{FirstWord, assumed, wanted, clausified, denied, copied, resolved, factored, paramodulated, xx_resolved, instantiated, Inference, copy_inference, clash_inference, factor_inference, para_inference, xx_inference, ContentTree, formula, clause, LineTree, InputRow, After, IsInferred, IsInstance, instance_of, IsAmongSaid, IsStated, IsInput, IsInputOf, IsLine, AreLines}
use Rattle.derivation.specs.View.{content_of, line_tree, lines_of}
use Rattle.derivation.specs.declared.line.Content.{Content}
use Rattle.derivation.specs.declared.line.Content.TheVariants.{Formula, Clause}
use Rattle.derivation.specs.declared.line.Line.{Line}
use Rattle.fol_core.specs.Bound.{HasSymbolsBelow}
use Rattle.fol_core.specs.Fol.{Fol}
use Rattle.fol_core.specs.FormulaView.{fol_of}
use Rattle.fol_core.specs.Literals.{ClauseTree}
use Rattle.fol_problem.specs.Stated.{Said, AreWellFormed}
use Rattle.substitutions.specs.Bindings.{Binding}

-- a formula has symbols with numbers below this one alone
abbrev TreeIsOwn : ℕ → ContentTree → Type 0
TreeIsOwn size (formula f) = HasSymbolsBelow size f
TreeIsOwn size (clause c) = Unit {0}

abbrev pub IsOwn : ℕ → Content → Type 0
IsOwn size (Formula f label) = HasSymbolsBelow size (fol_of f.shape)
IsOwn size (Clause c) = Unit {0}

abbrev pub AreOwn : ℕ → List Line → Type 0
AreOwn size [] = Unit {0}
AreOwn size (l ∷ ls) = IsOwn size l.content × AreOwn size ls

abbrev pub AllAreOwn : ℕ → List (List Line) → Type 0
AllAreOwn size [] = Unit {0}
AllAreOwn size (ls ∷ ps) = AreOwn size ls × AllAreOwn size ps

module _ (size : ℕ) (ss : List Said) (well : AreWellFormed size ss) where
  among_own : (goal : Bool) (f : Fol) (all : List Said) → AreWellFormed size all → IsAmongSaid goal f all → HasSymbolsBelow size f
  among_own goal f [] w h = absurd h
  among_own goal f (s ∷ all) w (inl h) = subst (HasSymbolsBelow size) h.1 w.1
  among_own goal f (s ∷ all) w (inr h) = among_own goal f all w.2 h

  stated_own : (goal : Bool) (content : ContentTree) → IsStated goal content ss → TreeIsOwn size content
  stated_own goal (formula f) h = among_own goal f ss well h
  stated_own goal (clause c) h = tt

  no_input : (goal : Bool) (f g : Fol) (rows : List InputRow) → IsInput goal f ss (formula g) rows → ⊥
  no_input goal f g [] h = h
  no_input goal f g (r ∷ rows) (inl h) = h.3
  no_input goal f g (r ∷ rows) (inr h) = no_input goal f g rows h

  input_own : (rows : List InputRow) (ls : List LineTree) (goal : Bool) (n : ℕ) (content : ContentTree) → IsInputOf ss rows ls goal n content → TreeIsOwn size content
  input_own rows ls goal n (formula f) h = absurd (no_input goal h.0 f rows h.2)
  input_own rows ls goal n (clause c) h = tt

  not_after : (ls : List LineTree) (ws : List LaterWord) (d : ClauseTree) (f : Fol) → After ls ws d (formula f) → ⊥
  not_after ls [] d f h = h
  not_after ls (w ∷ ws) d f h = not_after ls ws h.1 f h.5

  inferred_own : (ls : List LineTree) (i : Inference) (ws : List LaterWord) (content : ContentTree) → IsInferred ls i ws content → TreeIsOwn size content
  inferred_own ls i ws (formula f) h = absurd (not_after ls ws h.1 f h.5)
  inferred_own ls i ws (clause c) h = tt

  instance_own : (ls : List LineTree) (n : ℕ) (es : List Binding) (ws : List LaterWord) (content : ContentTree) → IsInstance ls n es ws content → TreeIsOwn size content
  instance_own ls n es ws (formula f) h = absurd (not_after ls ws (instance_of es h.0) f h.2)
  instance_own ls n es ws (clause c) h = tt

  line_own : (rows : List InputRow) (ls : List LineTree) (w : FirstWord) (ws : List LaterWord) (content : ContentTree) → IsLine ss rows ls w ws content → TreeIsOwn size content
  line_own rows ls assumed ws content h = stated_own false content h.0
  line_own rows ls wanted ws content h = stated_own true content h.0
  line_own rows ls (clausified n) ws content h = input_own rows ls false n content h.0
  line_own rows ls (denied n) ws content h = input_own rows ls true n content h.0
  line_own rows ls (copied n) ws content h = inferred_own ls (copy_inference n) ws content h
  line_own rows ls (resolved n k) ws content h = inferred_own ls (clash_inference n k) ws content h
  line_own rows ls (factored n a b) ws content h = inferred_own ls (factor_inference n a b) ws content h
  line_own rows ls (paramodulated n a side m b path) ws content h = inferred_own ls (para_inference n a side m b path) ws content h
  line_own rows ls (xx_resolved n a) ws content h = inferred_own ls (xx_inference n a) ws content h
  line_own rows ls (instantiated n es) ws content h = instance_own ls n es ws content h

  content_own : (c : Content) → TreeIsOwn size (content_of c) → IsOwn size c
  content_own (Formula f label) h = h
  content_own (Clause c) h = tt

  pub lines_own : (rows : List InputRow) (earlier : List LineTree) (last : Option ℕ) (ls : List Line) → AreLines ss rows earlier last (lines_of ls) → AreOwn size ls
  lines_own rows earlier last [] h = tt
  lines_own rows earlier last (l ∷ ls) h =
      (content_own l.content (line_own rows earlier (line_tree l).first (line_tree l).later (content_of l.content) h.1), lines_own rows (earlier ++ line_tree l ∷ []) (Some l.number) ls h.2)
