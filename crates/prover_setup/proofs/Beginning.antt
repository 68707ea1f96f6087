-- The first clauses, in the queue and as rules.
use Rattle.std.proofs.Common.{◌≡◌, ℕ, suc, ◌+◌, ◌<◌, ◌≤◌, refl, sym, ap, ap₂, subst, ◌∙◌, List, [], ◌∷◌, ◌++◌, length, take, get_or, map, arith, append_assoc, add-one}
use Rattle.std.proofs.Math.Seq.{take-suc}
use Rattle.std.proofs.lemmas.List.{append-nil, length-take-le, map-append}
use Rattle.std.specs.List.{AllByRecursion}
use Rattle.derivation.specs.Lines.{InputRow}
use Rattle.fol_core.specs.Literals.{ClauseTree}
use Rattle.fol_problem.specs.Stated.{Said}
use Rattle.fol_problem.specs.declared.problem.Role.{Role}
use Rattle.fol_problem.specs.declared.problem.Role.TheVariants.{Assumption, Usable, Demodulator, Goal}
use Rattle.prover_steps.specs.Clashing.{Held}
use Rattle.prover_steps.specs.HeldOrder.{numbers_of}
use Rattle.prover_steps.specs.Searching.{Queued}
use Rattle.prover_steps.specs.Starting.{role_of, held_rule, queued_input, queued_inputs, rules_of}

take_next : {X : Type 0} (xs : List X) (i : ℕ) (x : X) → i < length xs → x ≡ get_or xs i x → take (i + 1) xs ≡ take i xs ++ x ∷ []
take_next xs i x h is = rw (add-one, take-suc xs i x h) (ap (λ y. take i xs ++ y ∷ []) (sym is))

queued_end : (ss : List Said) (n m : ℕ) (rows : List InputRow) (r : InputRow) → m ≡ n + length rows → queued_inputs ss n (rows ++ r ∷ []) ≡ queued_inputs ss n rows ++ queued_input (role_of ss r) m r
queued_end ss n m [] r e = let f : n ≡ m = omega (arith, e) in append-nil (queued_input (role_of ss r) n r) ∙ ap (λ k. queued_input (role_of ss r) k r) f
queued_end ss n m (k ∷ rows) r e =
    ap (λ (qs : List Queued). queued_input (role_of ss k) n k ++ qs) (queued_end ss (suc n) m rows r (omega (arith, e)))
    ∙ sym (append_assoc (queued_input (role_of ss k) n k) (queued_inputs ss (suc n) rows) (queued_input (role_of ss r) m r))

rules_end : (ss : List Said) (n m : ℕ) (rows : List InputRow) (r : InputRow) → m ≡ n + length rows → rules_of ss n (rows ++ r ∷ []) ≡ rules_of ss n rows ++ held_rule (role_of ss r) m r
rules_end ss n m [] r e = let f : n ≡ m = omega (arith, e) in append-nil (held_rule (role_of ss r) n r) ∙ ap (λ k. held_rule (role_of ss r) k r) f
rules_end ss n m (k ∷ rows) r e =
    ap (λ (hs : List Held). held_rule (role_of ss k) n k ++ hs) (rules_end ss (suc n) m rows r (omega (arith, e)))
    ∙ sym (append_assoc (held_rule (role_of ss k) n k) (rules_of ss (suc n) rows) (held_rule (role_of ss r) m r))

-- rules have the numbers of their rows
rules_below : (ss : List Said) (n m : ℕ) (rows : List InputRow) → n + length rows ≤ m → AllByRecursion (λ k. k < m) (numbers_of (rules_of ss n rows))
rules_below ss n m [] h = tt
rules_below ss n m (r ∷ rows) h = by (role_of ss r) (rules_below ss (suc n) m rows (omega (arith, h)))
  where
    by : (role : Role) → AllByRecursion (λ k. k < m) (numbers_of (rules_of ss (suc n) rows)) → AllByRecursion (λ k. k < m) (numbers_of (held_rule role n r ++ rules_of ss (suc n) rows))
    by Assumption rest = rest
    by Usable rest = rest
    by Demodulator rest = (omega (arith, h), rest)
    by Goal rest = rest

-- the number of a row's formula doesn't count once its role is known
queued_same : (role : Role) (n : ℕ) (r : InputRow) → queued_input role n (0, r.1) ≡ queued_input role n r
queued_same Assumption n r = refl
queued_same Usable n r = refl
queued_same Demodulator n r = refl
queued_same Goal n r = refl

rule_same : (role : Role) (n : ℕ) (r : InputRow) → held_rule role n (0, r.1) ≡ held_rule role n r
rule_same Assumption n r = refl
rule_same Usable n r = refl
rule_same Demodulator n r = refl
rule_same Goal n r = refl

module _ (ss : List Said) (first : ℕ) (rows : List InputRow) (i : ℕ) (r : InputRow) (number : ℕ) (role : Role) (below : i < length rows) (is : r ≡ get_or rows i r) (told : number ≡ first + i) (as_role : role ≡ role_of ss r) where
  many : number ≡ first + length (take i rows)
  many = omega (arith, told, length-take-le i rows (omega (arith, below)))

  pub queued_next : (old new : List Queued) → new ≡ old ++ queued_input role number (0, r.1) → old ≡ queued_inputs ss first (take i rows) → new ≡ queued_inputs ss first (take (i + 1) rows)
  queued_next old new grown h =
      grown ∙ ap (λ (qs : List Queued). qs ++ queued_input role number (0, r.1)) h
      ∙ ap (λ (qs : List Queued). queued_inputs ss first (take i rows) ++ qs) (queued_same role number r ∙ ap (λ k. queued_input k number r) as_role)
      ∙ sym (ap (queued_inputs ss first) (take_next rows i r below is) ∙ queued_end ss first number (take i rows) r many)

  pub rules_lower : (old : List Held) → old ≡ rules_of ss first (take i rows) → AllByRecursion (λ k. k < number) (numbers_of old)
  rules_lower old h = subst (λ hs. AllByRecursion (λ k. k < number) (numbers_of hs)) (sym h) (rules_below ss first number (take i rows) (omega (arith, many)))

  pub rules_next : (old new : List Held) → new ≡ old ++ held_rule role number (0, r.1) → old ≡ rules_of ss first (take i rows) → new ≡ rules_of ss first (take (i + 1) rows)
  rules_next old new grown h =
      grown ∙ ap (λ (hs : List Held). hs ++ held_rule role number (0, r.1)) h
      ∙ ap (λ (hs : List Held). rules_of ss first (take i rows) ++ hs) (rule_same role number r ∙ ap (λ k. held_rule k number r) as_role)
      ∙ sym (ap (rules_of ss first) (take_next rows i r below is) ∙ rules_end ss first number (take i rows) r many)

pub alone_next : (old new : List ClauseTree) (c : ClauseTree) (rows : List InputRow) (i : ℕ) (r : InputRow) → i < length rows → r ≡ get_or rows i r → c ≡ r.1 → new ≡ old ++ c ∷ [] → old ≡ map (λ x. x.1) (take i rows)
    → new ≡ map (λ x. x.1) (take (i + 1) rows)
alone_next old new c rows i r below is same grown h =
    grown ∙ ap₂ (λ (cs : List ClauseTree) (d : ClauseTree). cs ++ d ∷ []) h same
    ∙ sym (ap (map (λ (x : InputRow). x.1)) (take_next rows i r below is) ∙ map-append (λ (x : InputRow). x.1) (take i rows) (r ∷ []))
