-- What clap's getter of a number reads.
use Rattle.std.proofs.Common.{◌≡◌, ℕ, Bool, true, false, true≢false, ◌^◌, ◌-◌, List, Option, Some, None, Result, if◌then◌else◌, refl, sym, ap, ◌∙◌, arith}
use Rattle.std.specs.Str.Parse.{ParsesUnsigned, digits_value, without_leading_plus}
use Rattle.clap.specs.Matches.{ReadsOne}
use Rattle.clap.specs.ValueTests.{is_unsigned_in}
use Rattle.clap.specs.declared.builder.value_parser.ValueParser.TheVariants.{Unsigned}
use Rattle.clap.proofs.ValueTestLemmas.{accepts-Accepts, Accepts-accepts}
use Rattle.ladr_words.specs.Tasks.{number_written}

-- a text that is read as a number of 64 bits, or isn't
pub read_number : (E : Type 0) (gives : List ℕ → Result ℕ E → Type 0) → ((text : List ℕ) (r : Result ℕ E) → gives text r → ParsesUnsigned 64 10 text r)
    → (text : List ℕ) (result : Option ℕ) → ReadsOne gives text result → result ≡ number_written text
read_number E gives parses text result h = by (is_unsigned_in 0 (2 ^ 64 - 1) text) refl result h
  where
    by : (b : Bool) → is_unsigned_in 0 (2 ^ 64 - 1) text ≡ b → (result : Option ℕ) → ReadsOne gives text result
        → result ≡ (if b then Some (digits_value 10 (without_leading_plus text)) else None)
    by true e None (error, h) =
        let fits = accepts-Accepts false (Unsigned 0 (2 ^ 64 - 1)) text e in
        absurd (parses text _ h (fits.0, fits.1))
    by true e (Some n) h = let read = parses text _ h in ap Some read.1
    by false e None h = refl
    by false e (Some n) h =
        let read = parses text _ h in
        absurd (true≢false (sym (Accepts-accepts false (Unsigned 0 (2 ^ 64 - 1)) text (read.0.0, read.0.1, omega arith, omega arith)) ∙ e))
