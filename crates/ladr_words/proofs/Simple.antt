-- The program's command is one of which clap's words give the matches and the errors.
use Rattle.std.proofs.Common.{◌≡◌, inl, inr, true, refl, subst, List, [], ◌∷◌, ℕ}
use Rattle.clap.specs.Simple.{App, HasMatchesOf, is_simple, subcommand_of, subcommand_rows_of}
use Rattle.clap.specs.Faults.{is_simple_and_free, fault_of}
use Rattle.clap.specs.Kinds.{HasKind, Kinds}
use Rattle.clap.specs.Values.{kind_of}
use Rattle.clap.specs.declared.error.Error.{Error}
use Rattle.clap.specs.declared.error.kind.ErrorKind.TheVariants as kind
use Rattle.clap.specs.declared.parser.matches.ArgMatches.{ArgMatches}
use Rattle.ladr_words.specs.Commands.{ladr_app, ladr_on_literals}

ladr_is_simple : is_simple ladr_app ≡ true
unfolding ladr_on_literals
ladr_is_simple = refl

ladr_is_free : is_simple_and_free ladr_app ≡ true
unfolding ladr_on_literals
ladr_is_free = refl

-- what clap finds
pub found_by : (app : App) (words : List (List ℕ)) (matches : ArgMatches) → app ≡ ladr_app → HasMatchesOf app words matches → subcommand_rows_of matches ≡ subcommand_of ladr_app words
found_by app words matches is h = ((subst (λ (a : App). HasMatchesOf a words matches) is h) ladr_is_simple).1

-- an error that isn't want of memory is among the faults
has_fault : (faults : Kinds) (error : Error) → HasKind faults error → (kind_of error ≡ kind.OutOfMemory → ⊥) → faults ≡ [] → ⊥
has_fault [] error (inl memory) other none = other memory
has_fault [] error (inr among) other none = among
has_fault (k ∷ ks) error h other none = cc

-- it finds something only where the words have no fault
pub taken_by : (app : App) (words : List (List ℕ)) → app ≡ ladr_app → (is_simple_and_free app ≡ true → fault_of app words ≡ []) → fault_of ladr_app words ≡ []
taken_by app words is h = (subst (λ (a : App). is_simple_and_free a ≡ true → fault_of a words ≡ []) is h) ladr_is_free

-- and has an error that isn't want of memory only where they have one
pub refused_by : (app : App) (words : List (List ℕ)) (error : Error) → app ≡ ladr_app → (is_simple_and_free app ≡ true → HasKind (fault_of app words) error)
    → (kind_of error ≡ kind.OutOfMemory → ⊥) → fault_of ladr_app words ≡ [] → ⊥
refused_by app words error is h other = has_fault _ error ((subst (λ (a : App). is_simple_and_free a ≡ true → HasKind (fault_of a words) error) is h) ladr_is_free) other
