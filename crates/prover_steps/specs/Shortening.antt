-- A clause put in order: sides of equations exchanged, literals left out.
use Rattle.std.specs.Prelude.{ℕ, suc, Bool, not, ◌&&◌, if◌then◌else◌, List, [], ◌∷◌, ◌++◌, length, Option, Some, None, is_some}
use Rattle.std.specs.List.{list_any}
use Rattle.std.specs.Option.{option_map, option_map_or}
use Rattle.fol_core.specs.Literals.{Lit, literal, ClauseTree}
use Rattle.fol_core.specs.Tree.{Tree}
use Rattle.unifiers.specs.Matching.{matched, same_tree}
use Rattle.derivation.specs.Equations.{equation, is_equation, left_of, right_of}
use Rattle.derivation.specs.Later.{LaterWord, flipped, merged, reflexive, unit_deleted, is_unit}
use Rattle.derivation.specs.Places.{same_sign, atom_at, has_literal}
use Rattle.prover_steps.specs.Clashing.{Held}
use Rattle.prover_steps.specs.Rewriting.{Simplified, simplified, then_word}

-- the sides of each equation whose right one is greater are exchanged
abbrev pub is_turned : (Tree → Tree → Bool) → Lit → Bool
is_turned greater l = is_equation l.atom && greater (right_of l.atom) (left_of l.atom)

abbrev pub flips_from : (Tree → Tree → Bool) → ℕ → ClauseTree → Simplified
flips_from greater a [] = simplified [] []
flips_from greater a (l ∷ c) =
    let rest = flips_from greater (suc a) c in
    if is_turned greater l
    then simplified
    (literal l.positive (equation (right_of l.atom) (left_of l.atom)) ∷ rest.clause)
    (flipped a ∷ rest.words)
    else simplified (l ∷ rest.clause) rest.words

-- Literals are left out from the left: of each it is told, with those before it that stay, by which
-- word. The next one stands at the same place then.
abbrev pub left_out : (ClauseTree → Lit → Option LaterWord) → ClauseTree → ClauseTree → Simplified
left_out out done [] = simplified done []
left_out out done (l ∷ c) =
    option_map_or (λ w. then_word w (left_out out done c)) (out done l)
    (left_out out (done ++ l ∷ []) c)

-- whether two literals are one
abbrev pub same_literal : Lit → Lit → Bool
same_literal l k = same_sign l.positive k.positive && same_tree l.atom k.atom

-- a literal that stands before
abbrev pub is_merged : ClauseTree → Lit → Option LaterWord
is_merged done l =
    if list_any (same_literal l) done then Some (merged (length done)) else None

-- an inequation with one term on both sides
abbrev pub is_false_equation : Lit → Bool
is_false_equation l =
    not l.positive && (is_equation l.atom && same_tree (left_of l.atom) (right_of l.atom))

abbrev pub is_left_out : ClauseTree → Lit → Option LaterWord
is_left_out done l = if is_false_equation l then Some (reflexive (length done)) else None

-- a unit of the other sign that has the literal's atom as an instance
abbrev pub denies : Held → Lit → Bool
denies u l =
    is_unit u.clause
    && (has_literal (not l.positive) u.clause 0
    && is_some (matched (atom_at u.clause 0) l.atom []))

-- the first of the units that are held
abbrev pub first_denying : List Held → Lit → Option ℕ
first_denying [] l = None
first_denying (u ∷ us) l = if denies u l then Some u.number else first_denying us l

abbrev pub is_denied : List Held → ClauseTree → Lit → Option LaterWord
is_denied us done l = option_map (λ n. unit_deleted (length done) n) (first_denying us l)

-- what comes of a clause by two of these, one behind the other
abbrev pub followed_by : Simplified → (ClauseTree → Simplified) → Simplified
followed_by s go = simplified (go s.clause).clause (s.words ++ (go s.clause).words)

-- A clause in order: sides exchanged, repeated literals left out, then false equations, then, if
-- units may delete, what they deny.
abbrev pub put_in_order : (Tree → Tree → Bool) → Bool → List Held → ClauseTree → Simplified
put_in_order greater units held c =
    followed_by (followed_by (followed_by (flips_from greater 0 c) (left_out is_merged []))
    (left_out is_left_out []))
    (λ d. if units then left_out (is_denied held) [] d else simplified d [])
