-- The lines of a problem are a derivation, and have its input clauses.
use Rattle.std.proofs.Common.{◌≡◌, ℕ, zero, suc, ◌<◌, ◌+◌, ◌-◌, inl, inr, Bool, true, false, if◌then◌else◌, length, List, [], ◌∷◌, ◌++◌, Option, Some, None, is_some, unwrap_or, refl, sym, ap, subst, ◌∙◌, append-nil, append_assoc, eq-eqb, ne_eqb, arith}
use Rattle.std.proofs.Math.Nat.{ne_of_lt}
use Rattle.std.proofs.lemmas.Bool.{false≢true}
use Rattle.std.specs.List.{AllByRecursion}
use Rattle.std.specs.Option.{option_map_or}
use Rattle.fol_core.specs.Fol.{Fol}
use Rattle.fol_core.specs.Renumbered.{renumbered}
use Rattle.fol_problem.specs.Stated.{Said}
use Rattle.fol_problem.specs.declared.problem.Role.{Role}
use Rattle.fol_problem.specs.declared.problem.Role.TheVariants.{Assumption, Usable, Demodulator, Goal}
use Rattle.derivation.specs.Lines.{assumed, wanted, clausified, denied, InputRow, LineTree, ContentTree, formula, clause, is_goal, said_at, line_at, clause_at, IsAmongSaid, IsRowOf, IsInput, IsLine, AreLines}
use Rattle.prover_steps.specs.SearchLaws.{Begins, IsQueuedInput}
use Rattle.prover_steps.specs.Starting.{said_line, said_lines, role_of, input_line, input_lines, problem_lines, queued_input, queued_inputs, held_rule, rules_of, start_state, IsRuleOf, AreRowsOf}
use Rattle.prover_steps.specs.TidyLaws.{HaveRule}
use Rattle.prover_steps.proofs.LinesMore.{line_there, clause_there, clause_last, lines_more}
use Rattle.prover_steps.proofs.Lists.{all_append}

said_zero : (ss : List Said) → said_at ss 0 ≡ None
said_zero [] = refl
said_zero (s ∷ ss) = said_zero ss

-- a formula has its line
line_of_said : (k : ℕ) (ss : List Said) (n : ℕ) (s : Said) → said_at ss (suc n) ≡ Some s → line_at (said_lines k ss) (n + k) ≡ Some (said_line (n + k) s)
line_of_said k [] n s h = cc
line_of_said k (t ∷ ss) zero s h =
    let z : k ≡ 0 + k = omega arith in
    subst (λ m. line_at (said_line k t ∷ said_lines (suc k) ss) m ≡ Some (said_line m s)) z
    (ap (λ b. if b then Some (said_line k t) else line_at (said_lines (suc k) ss) k) (eq-eqb k k refl) ∙ ap (λ o. Some (said_line k (unwrap_or o t))) h)
line_of_said k (t ∷ ss) (suc n) s h =
    let e : n + suc k ≡ suc n + k = omega arith in
    let above : 1 < suc (suc n) = omega arith in
    let before : suc (suc n) - 1 ≡ suc n = omega arith in
    let behind : said_at ss (suc n) ≡ Some s =
    ap (λ m. said_at ss m) (sym before)
    ∙ sym (ap (λ b. if b then Some t else said_at ss (suc (suc n) - 1)) (ne_eqb (suc (suc n)) 1 (λ same. ne_of_lt above (sym same)))) ∙ h in
    ap (λ b. if b then Some (said_line k t) else line_at (said_lines (suc k) ss) (suc n + k)) (ne_eqb k (suc n + k) (ne_of_lt (omega arith)))
    ∙ subst (λ m. line_at (said_lines (suc k) ss) m ≡ Some (said_line m s)) e (line_of_said (suc k) ss n s behind)

module _ (ss : List Said) (rows : List InputRow) where
  among : (pre post : List Said) (s : Said) → IsAmongSaid (is_goal s.role) s.formula (pre ++ s ∷ post)
  among [] post s = inl (refl, refl)
  among (t ∷ pre) post s = inr (among pre post s)

  stated_line : (n : ℕ) (s : Said) (ls : List LineTree) → IsAmongSaid (is_goal s.role) s.formula ss → IsLine ss rows ls (said_line n s).first [] (formula s.formula)
  stated_line n s ls is = by (is_goal s.role) is
    where
      by : (goal : Bool) → IsAmongSaid goal s.formula ss → IsLine ss rows ls (if goal then wanted else assumed) [] (formula s.formula)
      by true is = (is, refl)
      by false is = (is, refl)

  -- lines with rising numbers that are lines behind the earlier ones
  record IsBuilt (ls : List LineTree) (n : ℕ) : Type 0 where
    lines : AreLines ss rows [] None ls
    below : AllByRecursion (λ l. l.number < n) ls

  below_next : (n : ℕ) (ls : List LineTree) → AllByRecursion (λ l. l.number < n) ls → AllByRecursion (λ l. l.number < suc n) ls
  below_next n [] all = tt
  below_next n (l ∷ ls) all = (omega (arith, all.0), below_next n ls all.1)

  built_more : (ls : List LineTree) (n : ℕ) (l : LineTree) → IsBuilt ls n → l.number ≡ n → IsLine ss rows ls l.first l.later l.content → IsBuilt (ls ++ l ∷ []) (suc n)
  built_more ls n l b e is =
      let below : AllByRecursion (λ k. k.number < l.number) ls = subst (λ m. AllByRecursion (λ k. k.number < m) ls) (sym e) b.below in
      record {
        lines = lines_more ss rows [] None ls l b.lines tt below is;
        below = all_append (λ k. k.number < suc n) ls (l ∷ []) (below_next n ls b.below) (omega (arith, e), tt);
      }

  formulas_built : (ls : List LineTree) (n : ℕ) (pre post : List Said) → ss ≡ pre ++ post → IsBuilt ls n → IsBuilt (ls ++ said_lines n post) (length post + n)
  formulas_built ls n pre [] e b =
      let z : n ≡ 0 + n = omega arith in
      subst (λ k. IsBuilt (ls ++ []) k) z (subst (λ ks. IsBuilt ks n) (sym (append-nil ls)) b)
  formulas_built ls n pre (s ∷ post) e b =
      let is : IsAmongSaid (is_goal s.role) s.formula ss = subst (λ ts. IsAmongSaid (is_goal s.role) s.formula ts) (sym e) (among pre post s) in
      let one = built_more ls n (said_line n s) b refl (stated_line n s ls is) in
      let rest = formulas_built (ls ++ said_line n s ∷ []) (suc n) (pre ++ s ∷ []) post (e ∙ sym (append_assoc pre (s ∷ []) post)) one in
      let m : length post + suc n ≡ suc (length post) + n = omega arith in
      subst (λ k. IsBuilt (ls ++ said_line n s ∷ said_lines (suc n) post) k) m
      (subst (λ ks. IsBuilt ks (length post + suc n)) (append_assoc ls (said_line n s ∷ []) (said_lines (suc n) post)) rest)

  input_among : (goal : Bool) (f : Fol) (content : ContentTree) (pre post : List InputRow) (r : InputRow) → IsRowOf goal f ss content r → IsInput goal f ss content (pre ++ r ∷ post)
  input_among goal f content [] post r is = inl is
  input_among goal f content (q ∷ pre) post r is = inr (input_among goal f content pre post r is)

  -- an input clause is a line behind the formulas' lines
  input_is : (more : List LineTree) (n : ℕ) (r : InputRow) → is_some (said_at ss r.0) ≡ true → ((goal : Bool) (f : Fol) → IsRowOf goal f ss (clause r.1) r → IsInput goal f ss (clause r.1) rows)
      → IsLine ss rows (said_lines 1 ss ++ more) (input_line ss n r).first [] (clause r.1)
  input_is more n r there input = by r.0 refl (said_at ss r.0) refl there
    where
      line : (m : ℕ) (s : Said) → r.0 ≡ suc m → said_at ss r.0 ≡ Some s → line_at (said_lines 1 ss ++ more) r.0 ≡ Some (said_line r.0 s)
      line m s e h =
          let at : line_at (said_lines 1 ss) (m + 1) ≡ Some (said_line (m + 1) s) = line_of_said 1 ss m s (ap (λ k. said_at ss k) (sym e) ∙ h) in
          let same : m + 1 ≡ r.0 = omega (arith, e) in
          line_there (said_lines 1 ss) more r.0 (said_line r.0 s) (subst (λ k. line_at (said_lines 1 ss) k ≡ Some (said_line k s)) same at)

      told : (m : ℕ) (s : Said) → r.0 ≡ suc m → said_at ss r.0 ≡ Some s → (goal : Bool) → is_goal s.role ≡ goal
          → IsLine ss rows (said_lines 1 ss ++ more) (if goal then denied r.0 else clausified r.0) [] (clause r.1)
      told m s e h true g =
          ((s.formula, ((said_line r.0 s), line m s e h, refl, ap (λ b. if b then wanted else assumed) g), input true s.formula (s, h, (g, refl), refl)), refl)
      told m s e h false g =
          ((s.formula, ((said_line r.0 s), line m s e h, refl, ap (λ b. if b then wanted else assumed) g), input false s.formula (s, h, (g, refl), refl)), refl)

      by : (n : ℕ) → r.0 ≡ n → (o : Option Said) → said_at ss r.0 ≡ o → is_some o ≡ true
          → IsLine ss rows (said_lines 1 ss ++ more) (if is_goal (option_map_or (λ s. s.role) (said_at ss r.0) Assumption) then denied r.0 else clausified r.0) [] (clause r.1)
      by zero e o h there = absurd (false≢true (sym (ap is_some (sym h ∙ ap (λ k. said_at ss k) e ∙ said_zero ss)) ∙ there))
      by (suc m) e None h there = cc
      by (suc m) e (Some s) h there =
          subst (λ o. IsLine ss rows (said_lines 1 ss ++ more) (if is_goal (option_map_or (λ s. s.role) o Assumption) then denied r.0 else clausified r.0) [] (clause r.1)) (sym h)
          (told m s e h (is_goal s.role) refl)

  inputs_built : (more : List LineTree) (n : ℕ) (pre post : List InputRow) → rows ≡ pre ++ post → AreRowsOf ss post → IsBuilt (said_lines 1 ss ++ more) n
      → IsBuilt (said_lines 1 ss ++ (more ++ input_lines ss n post)) (length post + n)
  inputs_built more n pre [] e are b =
      let z : n ≡ 0 + n = omega arith in
      subst (λ k. IsBuilt (said_lines 1 ss ++ (more ++ [])) k) z (subst (λ ks. IsBuilt (said_lines 1 ss ++ ks) n) (sym (append-nil more)) b)
  inputs_built more n pre (r ∷ post) e are b =
      let is =
      input_is more n r are.0.there
      (λ goal f row. subst (λ rs. IsInput goal f ss (clause r.1) rs) (sym e) (input_among goal f (clause r.1) pre post r row)) in
      let one = subst (λ ks. IsBuilt ks (suc n)) (append_assoc (said_lines 1 ss) more (input_line ss n r ∷ [])) (built_more (said_lines 1 ss ++ more) n (input_line ss n r) b refl is) in
      let rest = inputs_built (more ++ input_line ss n r ∷ []) (suc n) (pre ++ r ∷ []) post (e ∙ sym (append_assoc pre (r ∷ []) post)) are.1 one in
      let m : length post + suc n ≡ suc (length post) + n = omega arith in
      subst (λ k. IsBuilt (said_lines 1 ss ++ (more ++ input_line ss n r ∷ input_lines ss (suc n) post)) k) m
      (subst (λ ks. IsBuilt (said_lines 1 ss ++ ks) (length post + suc n)) (append_assoc more (input_line ss n r ∷ []) (input_lines ss (suc n) post)) rest)

  -- and each is in the queue under its line's number, or a rule
  queued_good : (base : List LineTree) (n : ℕ) (r : InputRow) → clause_at base n ≡ Some r.1 → renumbered r.1 ≡ r.1 → (role : Role) → AllByRecursion (IsQueuedInput base) (queued_input role n r)
  queued_good base n r at own Assumption = (record { number = n; input = refl; line = at; numbered = own; first = refl; later = refl }, tt)
  queued_good base n r at own Usable = (record { number = n; input = refl; line = at; numbered = own; first = refl; later = refl }, tt)
  queued_good base n r at own Demodulator = tt
  queued_good base n r at own Goal = (record { number = n; input = refl; line = at; numbered = own; first = refl; later = refl }, tt)

  rule_good : (base : List LineTree) (n : ℕ) (r : InputRow) → clause_at base n ≡ Some r.1 → (role : Role) → IsRuleOf role r.1 → AllByRecursion (HaveRule base) (held_rule role n r)
  rule_good base n r at Assumption is = tt
  rule_good base n r at Usable is = tt
  rule_good base n r at Demodulator is = ((at, is), tt)
  rule_good base n r at Goal is = tt

  -- what stands in the queue, and the rules
  record AreGood (base : List LineTree) (n : ℕ) (post : List InputRow) : Type 0 where
    queue : AllByRecursion (IsQueuedInput base) (queued_inputs ss n post)
    rules : AllByRecursion (HaveRule base) (rules_of ss n post)

  are_good : (more : List LineTree) (n : ℕ) (pre post : List InputRow) → rows ≡ pre ++ post → AreRowsOf ss post → IsBuilt (said_lines 1 ss ++ more) n
      → AreGood (said_lines 1 ss ++ (more ++ input_lines ss n post)) n post
  are_good more n pre [] e are b = record { queue = tt; rules = tt }
  are_good more n pre (r ∷ post) e are b =
      let before = said_lines 1 ss ++ more in
      let l = input_line ss n r in
      let is =
      input_is more n r are.0.there
      (λ goal f row. subst (λ rs. IsInput goal f ss (clause r.1) rs) (sym e) (input_among goal f (clause r.1) pre post r row)) in
      let one = subst (λ ks. IsBuilt ks (suc n)) (append_assoc (said_lines 1 ss) more (l ∷ [])) (built_more before n l b refl is) in
      let rest = are_good (more ++ l ∷ []) (suc n) (pre ++ r ∷ []) post (e ∙ sym (append_assoc pre (r ∷ []) post)) are.1 one in
      let whole : said_lines 1 ss ++ ((more ++ l ∷ []) ++ input_lines ss (suc n) post) ≡ said_lines 1 ss ++ (more ++ l ∷ input_lines ss (suc n) post) =
      ap (λ ks. said_lines 1 ss ++ ks) (append_assoc more (l ∷ []) (input_lines ss (suc n) post)) in
      let at : clause_at (said_lines 1 ss ++ (more ++ l ∷ input_lines ss (suc n) post)) n ≡ Some r.1 =
      subst (λ ks. clause_at ks n ≡ Some r.1) (append_assoc before (l ∷ []) (input_lines ss (suc n) post) ∙ append_assoc (said_lines 1 ss) more (l ∷ input_lines ss (suc n) post))
      (clause_there (before ++ l ∷ []) (input_lines ss (suc n) post) n r.1 (clause_last before l b.below)) in
      record {
        queue =
            all_append (IsQueuedInput (said_lines 1 ss ++ (more ++ l ∷ input_lines ss (suc n) post))) (queued_input (role_of ss r) n r) (queued_inputs ss (suc n) post)
            (queued_good _ n r at are.0.numbered (role_of ss r)) (subst (λ ks. AllByRecursion (IsQueuedInput ks) (queued_inputs ss (suc n) post)) whole rest.queue);
        rules =
            all_append (HaveRule (said_lines 1 ss ++ (more ++ l ∷ input_lines ss (suc n) post))) (held_rule (role_of ss r) n r) (rules_of ss (suc n) post)
            (rule_good _ n r at (role_of ss r) are.0.rule) (subst (λ ks. AllByRecursion (HaveRule ks) (rules_of ss (suc n) post)) whole rest.rules);
      }

  pub starts_well : AreRowsOf ss rows → Begins ss rows (problem_lines ss rows) (start_state ss rows)
  starts_well are =
      let formulas = formulas_built [] 1 [] ss refl (record { lines = tt; below = tt }) in
      let e : length ss + 1 ≡ suc (length ss) = omega arith in
      let front : IsBuilt (said_lines 1 ss ++ []) (suc (length ss)) =
      subst (λ ks. IsBuilt ks (suc (length ss))) (sym (append-nil (said_lines 1 ss))) (subst (λ k. IsBuilt (said_lines 1 ss) k) e formulas) in
      let all = inputs_built [] (suc (length ss)) [] rows refl are front in
      let good = are_good [] (suc (length ss)) [] rows refl are front in
      let m : length rows + suc (length ss) ≡ suc (length ss + length rows) = omega arith in
      record {
        derivation = all.lines;
        below = subst (λ k. AllByRecursion (λ l. l.number < k) (problem_lines ss rows)) m all.below;
        queue = good.queue;
        rules = good.rules;
        waiting = refl;
        usable = refl;
        lines = refl;
        proofs = refl;
      }
