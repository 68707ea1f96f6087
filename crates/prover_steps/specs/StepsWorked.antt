-- Conclusions worked out.
use Rattle.std.specs.Prelude.{ℕ, ◌≡◌, true, false, [], ◌∷◌}
use Rattle.fol_core.specs.Literals.{Lit, ClauseTree, literal}
use Rattle.fol_core.specs.Tree.{Tree, var, app, none, more}
use Rattle.derivation.specs.Equations.{equation}
use Rattle.ladr_options.specs.Options.{start}
use Rattle.proof_words.specs.Written.{WrittenFirst, satellite, by_resolve, by_hyper, by_ur, by_factor, by_para}
use Rattle.prover_steps.specs.Clashing.{Held, resolvents_of, hyperresolvents_of, unit_resolvents_of, factors_of}
use Rattle.prover_steps.specs.Concluded.{Conclusion}
use Rattle.prover_steps.specs.Conclusions.{rules_in_force}
use Rattle.prover_steps.specs.Equalities.{paths_of, paramodulants_of}

-- constants a and b, a function f, relations p and q
abbrev a : Tree
a = app 0 none

abbrev b : Tree
b = app 1 none

abbrev f : Tree → Tree
f t = app 2 (more t none)

abbrev p : Tree → Lit
p t = literal true (app 3 (more t none))

abbrev no_p : Tree → Lit
no_p t = literal false (app 3 (more t none))

abbrev q : Tree → Lit
q t = literal true (app 4 (more t none))

abbrev no_q : Tree → Lit
no_q t = literal false (app 4 (more t none))

abbrev equal : Tree → Tree → Lit
equal s t = literal true (equation s t)

abbrev held : ℕ → ClauseTree → Held
held n c = record { number = n; clause = c }

abbrev comes : ClauseTree → WrittenFirst → Conclusion
comes c w = record { clause = c; first = w }

-- -p(x) | q(x) under 5, p(a) under 3, p(f(y)) under 4: the given clause with each of them, by their
-- numbers; and p(x) | -p(f(x)) with itself, from its positive literal alone
abbrev pub WorkedResolvents : Type 0
WorkedResolvents =
    let rule = held 5 (no_p (var 0) ∷ q (var 0) ∷ []) in
    let own = held 6 (p (var 0) ∷ no_p (f (var 0)) ∷ []) in
    (resolvents_of (held 3 (p a ∷ []) ∷ held 4 (p (f (var 0)) ∷ []) ∷ rule ∷ []) rule
    ≡ comes (q a ∷ []) (by_resolve 5 (satellite 0 3 0))
    ∷ comes (q (f (var 0)) ∷ []) (by_resolve 5 (satellite 0 4 0)) ∷ [])
    × (resolvents_of (own ∷ []) own
    ≡ comes (no_p (f (f (var 0))) ∷ p (var 0) ∷ []) (by_resolve 6 (satellite 0 6 1)) ∷ [])

-- -p(x) | -q(y) | p(f(x)) under 7 with p(a) under 3, q(a) under 4 and q(b) under 5: all ways for a
-- nucleus, and for a satellite those in which it takes part
abbrev pub WorkedHyperresolvents : Type 0
WorkedHyperresolvents =
    let nucleus = held 7 (no_p (var 0) ∷ no_q (var 1) ∷ p (f (var 0)) ∷ []) in
    let last = held 5 (q b ∷ []) in
    let all = held 3 (p a ∷ []) ∷ held 4 (q a ∷ []) ∷ last ∷ nucleus ∷ [] in
    let first = comes (p (f a) ∷ []) (by_hyper 7 (satellite 0 3 0 ∷ satellite 1 4 0 ∷ [])) in
    let second = comes (p (f a) ∷ []) (by_hyper 7 (satellite 0 3 0 ∷ satellite 1 5 0 ∷ [])) in
    (hyperresolvents_of all nucleus ≡ first ∷ second ∷ [])
    × (hyperresolvents_of all last ≡ second ∷ [])

-- -p(x) | q(x) under 5: with p(a) under 3 the second literal is left over, with -q(b) under 4 the
-- first
abbrev pub WorkedUnitResolvents : Type 0
WorkedUnitResolvents =
    let nucleus = held 5 (no_p (var 0) ∷ q (var 0) ∷ []) in
    unit_resolvents_of (held 3 (p a ∷ []) ∷ held 4 (no_q b ∷ []) ∷ nucleus ∷ []) nucleus
    ≡ comes (no_p b ∷ []) (by_ur 5 (satellite 1 4 0 ∷ []))
    ∷ comes (q a ∷ []) (by_ur 5 (satellite 0 3 0 ∷ [])) ∷ []

-- p(x) | q(x) | p(a): the third literal is left out
abbrev pub WorkedFactors : Type 0
WorkedFactors =
    factors_of (held 5 (p (var 0) ∷ q (var 0) ∷ p a ∷ []))
    ≡ comes (p a ∷ q a ∷ []) (by_factor 5 0 2) ∷ []

-- the places of g(f(a),b), with g 5
abbrev pub WorkedPaths : Type 0
WorkedPaths =
    paths_of (app 5 (more (f a) (more b none)))
    ≡ [] ∷ (1 ∷ []) ∷ (1 ∷ 1 ∷ []) ∷ (2 ∷ []) ∷ []

-- a = b under 4, oriented or not, with p(f(a)) | q(b) under 3; and f(x) = x, whose right side is a
-- variable and doesn't replace, with p(f(a))
abbrev pub WorkedParamodulants : Type 0
WorkedParamodulants =
    let given = held 4 (equal a b ∷ []) in
    let other = held 3 (p (f a) ∷ q b ∷ []) in
    let left = comes (p (f b) ∷ q b ∷ []) (by_para 4 0 1 3 0 (1 ∷ 1 ∷ [])) in
    let right = comes (p (f a) ∷ q a ∷ []) (by_para 4 0 2 3 1 (1 ∷ [])) in
    (paramodulants_of (λ s t. true) (other ∷ []) given ≡ left ∷ [])
    × (paramodulants_of (λ s t. false) (other ∷ []) given ≡ left ∷ right ∷ [])
    × (paramodulants_of (λ s t. false) (held 3 (p (f a) ∷ []) ∷ [])
    (held 4 (equal (f (var 0)) (var 0) ∷ []))
    ≡ comes (p a ∷ []) (by_para 4 0 1 3 0 (1 ∷ [])) ∷ [])

-- by `auto`: clauses with at most one positive literal, with equations, and others
abbrev pub WorkedRules : Type 0
WorkedRules =
    (rules_in_force start ((no_p a ∷ q a ∷ []) ∷ [])
    ≡ record { binary = false; hyper = true; units = false; factors = false; equalities = false })
    × (rules_in_force start ((equal a b ∷ []) ∷ [])
    ≡ record { binary = false; hyper = false; units = false; factors = false; equalities = true })
    × (rules_in_force start ((p a ∷ q a ∷ []) ∷ (equal a b ∷ []) ∷ [])
    ≡ record { binary = true; hyper = false; units = false; factors = true; equalities = true })
