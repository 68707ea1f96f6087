-- What lines say is kept where more lines come behind them.
use Rattle.std.proofs.Common.{◌≡◌, ℕ, ◌<◌, Bool, true, false, ◌==◌, if◌then◌else◌, List, [], ◌∷◌, ◌++◌, Option, Some, None, refl, sym, ap, subst, ◌∙◌, append-nil, append_assoc, eq-eqb, ne_eqb}
use Rattle.std.proofs.Math.Nat.{ne_of_lt}
use Rattle.std.specs.List.{AllByRecursion}
use Rattle.std.specs.Option.{option_and_then}
use Rattle.fol_core.specs.Literals.{ClauseTree}
use Rattle.fol_problem.specs.Stated.{Said}
use Rattle.derivation.specs.Later.{LaterWord}
use Rattle.substitutions.specs.Bindings.{Binding}
use Rattle.derivation.specs.Lines.{FirstWord, assumed, wanted, clausified, denied, copied, resolved, factored, paramodulated, xx_resolved, instantiated, Inference, copy_inference, clash_inference, factor_inference, para_inference, xx_inference, InputRow, LineTree, ContentTree, line_at, content_clause, clause_at, AreClauses, After, IsInferred, IsInstance, IsInputOf, IsAbove, IsLine, AreLines}

pub line_there : (ls more : List LineTree) (n : ℕ) (l : LineTree) → line_at ls n ≡ Some l → line_at (ls ++ more) n ≡ Some l
line_there [] more n l h = cc
line_there (k ∷ ls) more n l h = by (k.number == n) h (line_there ls more n l)
  where
    by : (b : Bool) → (if b then Some k else line_at ls n) ≡ Some l → (line_at ls n ≡ Some l → line_at (ls ++ more) n ≡ Some l)
        → (if b then Some k else line_at (ls ++ more) n) ≡ Some l
    by true h rest = h
    by false h rest = rest h

pub clause_there : (ls more : List LineTree) (n : ℕ) (c : ClauseTree) → clause_at ls n ≡ Some c → clause_at (ls ++ more) n ≡ Some c
clause_there ls more n c h = by (line_at ls n) refl h
  where
    by : (o : Option LineTree) → line_at ls n ≡ o → option_and_then (λ l. content_clause l.content) o ≡ Some c → clause_at (ls ++ more) n ≡ Some c
    by None e h = cc
    by (Some l) e h = ap (option_and_then (λ l. content_clause l.content)) (line_there ls more n l e) ∙ h

-- a line behind lines with other numbers is found under its own
pub clause_last : (ls : List LineTree) (l : LineTree) → AllByRecursion (λ k. k.number < l.number) ls → clause_at (ls ++ l ∷ []) l.number ≡ content_clause l.content
clause_last [] l below = ap (λ b. option_and_then (λ l. content_clause l.content) (if b then Some l else None)) (eq-eqb l.number l.number refl)
clause_last (k ∷ ls) l below =
    ap (λ b. option_and_then (λ l. content_clause l.content) (if b then Some k else line_at (ls ++ l ∷ []) l.number)) (ne_eqb k.number l.number (ne_of_lt below.0)) ∙ clause_last ls l below.1

module _ (ls more : List LineTree) where
  pub clauses_there : (ns : List ℕ) (cs : List ClauseTree) → AreClauses ls ns cs → AreClauses (ls ++ more) ns cs
  clauses_there [] [] are = are
  clauses_there [] (c ∷ cs) are = are
  clauses_there (n ∷ ns) [] are = are
  clauses_there (n ∷ ns) (c ∷ cs) are = (clause_there ls more n c are.0, clauses_there ns cs are.1)

  after_there : (ws : List LaterWord) (d : ClauseTree) (content : ContentTree) → After ls ws d content → After (ls ++ more) ws d content
  after_there [] d content after = after
  after_there (w ∷ ws) d content (ps, b, are, fits, leads, after) = (ps, b, clauses_there _ ps are, fits, leads, after_there ws b content after)

  inferred_there : (i : Inference) (ws : List LaterWord) (content : ContentTree) → IsInferred ls i ws content → IsInferred (ls ++ more) i ws content
  inferred_there i ws content (ps, d, are, fits, concludes, after) = (ps, d, clauses_there i.parents ps are, fits, concludes, after_there ws d content after)

  instance_there : (n : ℕ) (es : List Binding) (ws : List LaterWord) (content : ContentTree) → IsInstance ls n es ws content → IsInstance (ls ++ more) n es ws content
  instance_there n es ws content (c, at, after) = (c, clause_there ls more n c at, after_there ws _ content after)

  module _ (ss : List Said) (rows : List InputRow) where
    input_there : (goal : Bool) (n : ℕ) (content : ContentTree) → IsInputOf ss rows ls goal n content → IsInputOf ss rows (ls ++ more) goal n content
    input_there goal n content (f, (l, at, is, word), among) = (f, (l, line_there ls more n l at, is, word), among)

    -- a line stays one
    pub line_stays : (w : FirstWord) (ws : List LaterWord) (content : ContentTree) → IsLine ss rows ls w ws content → IsLine ss rows (ls ++ more) w ws content
    line_stays assumed ws content is = is
    line_stays wanted ws content is = is
    line_stays (clausified n) ws content is = (input_there false n content is.0, is.1)
    line_stays (denied n) ws content is = (input_there true n content is.0, is.1)
    line_stays (copied n) ws content is = inferred_there (copy_inference n) ws content is
    line_stays (resolved n s) ws content is = inferred_there (clash_inference n s) ws content is
    line_stays (factored n a b) ws content is = inferred_there (factor_inference n a b) ws content is
    line_stays (paramodulated n a side m b path) ws content is = inferred_there (para_inference n a side m b path) ws content is
    line_stays (xx_resolved n a) ws content is = inferred_there (xx_inference n a) ws content is
    line_stays (instantiated n es) ws content is = instance_there n es ws content is

module _ (ss : List Said) (rows : List InputRow) where
  -- a line with a number above all others goes behind them
  pub lines_more : (earlier : List LineTree) (last : Option ℕ) (ls : List LineTree) (l : LineTree) → AreLines ss rows earlier last ls → IsAbove last l.number
      → AllByRecursion (λ k. k.number < l.number) ls → IsLine ss rows (earlier ++ ls) l.first l.later l.content → AreLines ss rows earlier last (ls ++ l ∷ [])
  lines_more earlier last [] l are above below is = (above, subst (λ ks. IsLine ss rows ks l.first l.later l.content) (append-nil earlier) is, tt)
  lines_more earlier last (k ∷ ls) l are above below is = (
    are.0,
    are.1,
    lines_more (earlier ++ k ∷ []) (Some k.number) ls l are.2 below.0 below.1
        (subst (λ ks. IsLine ss rows ks l.first l.later l.content) (sym (append_assoc earlier (k ∷ []) ls)) is),
  )
