-- Rules that are set or not.
use Rattle.std.proofs.Common.{◌≡◌, Bool, true, false, List, ◌++◌, sym, ap, ◌∙◌, append_assoc}
use Rattle.std.proofs.lemmas.List.{append-nil}
use Rattle.prover_steps.specs.Concluded.{Conclusion}
use Rattle.prover_steps.specs.Conclusions.{where_set}

pub not_set : (set : Bool) (old more : List Conclusion) → set ≡ false → old ≡ old ++ where_set set more
not_set set old more e = sym (append-nil old) ∙ ap (λ b. old ++ where_set b more) (sym e)

pub is_set : (set : Bool) (old more new : List Conclusion) → set ≡ true → new ≡ old ++ more → new ≡ old ++ where_set set more
is_set set old more new e is = is ∙ ap (λ b. old ++ where_set b more) (sym e)

pub two_not_set : (set : Bool) (old more behind : List Conclusion) → set ≡ false → old ≡ old ++ (where_set set more ++ where_set set behind)
two_not_set set old more behind e = sym (append-nil old) ∙ ap (λ b. old ++ (where_set b more ++ where_set b behind)) (sym e)

pub two_set : (set : Bool) (old more behind mid new : List Conclusion) → set ≡ true → mid ≡ old ++ more → new ≡ mid ++ behind → new ≡ old ++ (where_set set more ++ where_set set behind)
two_set set old more behind mid new e first second =
    second ∙ ap (λ ns. ns ++ behind) first ∙ append_assoc old more behind ∙ ap (λ b. old ++ (where_set b more ++ where_set b behind)) (sym e)

-- four in turn
pub four_added : (a b c d old first second third fourth : List Conclusion) → first ≡ old ++ a → second ≡ first ++ b → third ≡ second ++ c → fourth ≡ third ++ d → fourth ≡ old ++ (a ++ (b ++ (c ++ d)))
four_added a b c d old first second third fourth one two three four =
    four ∙ ap (λ ns. ns ++ d) (three ∙ ap (λ ns. ns ++ c) (two ∙ ap (λ ns. ns ++ b) one))
    ∙ append_assoc ((old ++ a) ++ b) c d ∙ append_assoc (old ++ a) b (c ++ d) ∙ append_assoc old a (b ++ (c ++ d))

-- and two more behind them
pub six_made : (a b c d e f all : List Conclusion) → all ≡ (a ++ (b ++ (c ++ d))) ++ (e ++ f) → all ≡ a ++ (b ++ (c ++ (d ++ (e ++ f))))
six_made a b c d e f all is =
    is ∙ append_assoc a (b ++ (c ++ d)) (e ++ f) ∙ ap (λ ns. a ++ ns) (append_assoc b (c ++ d) (e ++ f) ∙ ap (λ ns. b ++ ns) (append_assoc c d (e ++ f)))
