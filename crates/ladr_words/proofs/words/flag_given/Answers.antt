use Rattle.std.proofs.Common.{◌≡◌, List, ℕ, Bool, true, false, Option, Some, None, Result, Ok, Err, refl, sym, ap, ◌∙◌, codes}
use Rattle.std.specs.Option.{option_map_or}
use Rattle.std.specs.Prelude.{unwrap_or}
use Rattle.std.specs.Str.{bytes_eq}
use Rattle.std.specs.Str.Parse.{ParsesBool}
use Rattle.std.proofs.lemmas.Bool.{false_from_ne_true}
use Rattle.std.proofs.lemmas.Slice.Eq.{bytes_eq-Decides}
use Rattle.clap.specs.Matches.{one_text, found_of, ReadsOne}
use Rattle.clap.proofs.WalkLemmas.{one_text-rows}
use Rattle.ladr_words.proofs.words.flag_given.Goals as goal

abbrev is_true : Option (List ℕ) → Bool
is_true o = option_map_or (λ text. bytes_eq text (codes "true")) o false

-- the value that is read, or none
read_flag : (E : Type 0) (gives : List ℕ → Result Bool E → Type 0) → ((text : List ℕ) (r : Result Bool E) → gives text r → ParsesBool text r)
    → (text : List ℕ) (result : Option Bool) → ReadsOne gives text result → unwrap_or result false ≡ bytes_eq text (codes "true")
read_flag E gives parses text (Some true) h = rw (parses text (Ok true) h) refl
read_flag E gives parses text (Some false) h = rw (parses text (Ok false) h) refl
read_flag E gives parses text None (error, h) =
    let none = parses text (Err error) h in
    sym (false_from_ne_true _ (λ e. none.0 ((bytes_eq-Decides text (codes "true")).0 e)))

pub returns : goal.returns
returns c = c.unwrap_or.ensures ∙ by (one_text (found_of c.args.matches.now) c.args.name.now) refl ∙ ap is_true (one_text-rows (found_of c.args.matches.now) c.args.name.now)
  where
    by : (read : Option (List ℕ)) → one_text (found_of c.args.matches.now) c.args.name.now ≡ read → unwrap_or c.get_one.result false ≡ is_true read
    by None is = ap (λ (o : Option Bool). unwrap_or o false) (c.get_one.ensures.none is)
    by (Some text) is = read_flag _ (λ bs r. ParsesBool bs r) (λ t r g. g) text c.get_one.result (c.get_one.ensures.value text is)
