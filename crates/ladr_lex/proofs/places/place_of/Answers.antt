use Rattle.std.proofs.Common.{◌≡◌, ◌-◌, ℕ, Bool, List, length, sym, ap, ◌∙◌, arith, length-drop, ◌+◌, take}
use Rattle.std.specs.Prelude.{not}
use Rattle.std.specs.List.{after_last, suffix_len}
use Rattle.std.proofs.lemmas.List.{take_all}
use Rattle.std.proofs.lemmas.List.Sums.{suffix_len-le-length}
use Rattle.ladr_lex.specs.Places.{ends_line}
use Rattle.ladr_lex.proofs.places.place_of.Goals as goal

length-after_last : (p : ℕ → Bool) (xs : List ℕ) → length (after_last p xs) ≡ suffix_len (λ b. not (p b)) xs
length-after_last p xs = omega (arith, length-drop (length xs - suffix_len (λ b. not (p b)) xs) xs, suffix_len-le-length (λ b. not (p b)) xs)

pub returns-clause-column : goal.returns-clause-column
returns-clause-column c =
    let front = take c.args.byte c.args.bytes.now in
    c.loop-before.invariant.1 ∙
    ap (λ (l : List ℕ). 1 + suffix_len (λ b. not (ends_line b)) l) (take_all c.loop-before.before-index front c.loop-before-test.false) ∙
    ap (λ (n : ℕ). 1 + n) (sym (length-after_last ends_line front))
