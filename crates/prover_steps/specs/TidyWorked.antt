-- Simplifications worked out.
use Rattle.std.specs.Prelude.{ℕ, ◌≡◌, Bool, true, false, [], ◌∷◌}
use Rattle.fol_core.specs.Literals.{Lit, ClauseTree, literal}
use Rattle.fol_core.specs.Tree.{Tree, var, app, none, more}
use Rattle.unifiers.specs.Matching.{same_tree}
use Rattle.derivation.specs.Equations.{equation}
use Rattle.derivation.specs.Later.{flipped, merged, reflexive, unit_deleted, rewritten}
use Rattle.prover_steps.specs.Clashing.{Held}
use Rattle.prover_steps.specs.Rewriting.{simplified, normal_form}
use Rattle.prover_steps.specs.Shortening.{put_in_order}
use Rattle.prover_steps.specs.Subsuming.{subsumes, rewrites_clause}

-- constants a and b, a function f, relations p and q
abbrev a : Tree
a = app 0 none

abbrev b : Tree
b = app 1 none

abbrev f : Tree → Tree
f t = app 2 (more t none)

abbrev p : Tree → Lit
p t = literal true (app 3 (more t none))

abbrev no_p : Tree → Lit
no_p t = literal false (app 3 (more t none))

abbrev two : Tree → Tree → Lit
two s t = literal true (app 5 (more s (more t none)))

abbrev equal : Tree → Tree → Lit
equal s t = literal true (equation s t)

abbrev differ : Tree → Tree → Lit
differ s t = literal false (equation s t)

abbrev held : ℕ → ClauseTree → Held
held n c = record { number = n; clause = c }

-- f(f(x)) = x under 3 and a = b under 4: arguments first, then what stands around them
abbrev pub WorkedRewriting : Type 0
WorkedRewriting =
    let rules = held 3 (equal (f (f (var 0))) (var 0) ∷ []) ∷ held 4 (equal a b ∷ []) ∷ [] in
    let c = p a ∷ two (f (f a)) b ∷ [] in
    (normal_form (λ d. false) rules 9 c
    ≡ simplified (p b ∷ two b b ∷ [])
    (rewritten 4 0 (1 ∷ []) ∷ rewritten 4 1 (1 ∷ 1 ∷ 1 ∷ []) ∷ rewritten 3 1 (1 ∷ []) ∷ []))
    × (normal_form (λ d. false) rules 1 c
    ≡ simplified (p b ∷ two (f (f a)) b ∷ []) (rewritten 4 0 (1 ∷ []) ∷ []))
    × (normal_form (λ d. true) rules 9 c ≡ simplified c [])

-- a = f(b) | p(a) | p(a) | a != a | -p(b), where f(b) is greater, and p(x) is held under 8: one
-- after the other
abbrev pub WorkedOrder : Type 0
WorkedOrder =
    let greater : Tree → Tree → Bool = λ s t. same_tree s (f b) in
    let c = equal a (f b) ∷ p a ∷ p a ∷ differ a a ∷ no_p b ∷ [] in
    (put_in_order greater true (held 8 (p (var 0) ∷ []) ∷ []) c
    ≡ simplified (equal (f b) a ∷ p a ∷ [])
    (flipped 0 ∷ merged 2 ∷ reflexive 2 ∷ unit_deleted 2 8 ∷ []))
    × (put_in_order greater false (held 8 (p (var 0) ∷ []) ∷ []) c
    ≡ simplified (equal (f b) a ∷ p a ∷ no_p b ∷ []) (flipped 0 ∷ merged 2 ∷ reflexive 2 ∷ []))

-- p(x) | p(y) subsumes p(b) | p(a), and not p(a); one substitution serves all literals
abbrev pub WorkedSubsumption : Type 0
WorkedSubsumption =
    (subsumes (p (var 0) ∷ p (var 1) ∷ []) (p b ∷ p a ∷ []) ≡ true)
    × (subsumes (p (var 0) ∷ p (var 1) ∷ []) (p a ∷ []) ≡ false)
    × (subsumes (p (var 0) ∷ two (var 0) b ∷ []) (two a b ∷ p b ∷ p a ∷ []) ≡ true)
    × (subsumes (p (var 0) ∷ two (var 0) b ∷ []) (two a b ∷ p b ∷ []) ≡ false)
    × (subsumes (p (var 0) ∷ []) (no_p a ∷ []) ≡ false)
    × (rewrites_clause (held 4 (equal a b ∷ [])) (p (f a) ∷ []) ≡ true)
    × (rewrites_clause (held 4 (equal a b ∷ [])) (p (f b) ∷ []) ≡ false)
