-- How the settings behind a command follow those before it.
use Rattle.std.specs.Prelude.{◌≡◌, ◌<◌, ◌^◌, true, is_some}
use Rattle.ladr_formulas.specs.declared.styles.Mode.{Mode}
use Rattle.ladr_lex.specs.Operators.{are_lawful}
use Rattle.ladr_reader.specs.Fixed.{KeepsFixed}
use Rattle.ladr_settings.specs.Settings.{is_meant}
use Rattle.ladr_settings.specs.declared.settings.Settings.{Settings}

-- Operators stay lawful and keep the fixed symbols; once a list was opened, they and the style of
-- variables stay as they are. A list that is open for the program was opened as one. How
-- many models are wanted stays a number of 32 bits.
pub record Follows (m : Mode) (a b : Settings) : Type 0 where
  pub lawful : are_lawful a.operators ≡ true → are_lawful b.operators ≡ true
  pub fixed : KeepsFixed a.operators → KeepsFixed b.operators
  pub operators : a.listed ≡ true → b.operators ≡ a.operators
  pub styled :
      a.listed ≡ true → b.options.prolog_style_variables ≡ a.options.prolog_style_variables
  pub rises : a.listed ≡ true → b.listed ≡ true
  pub opened : is_meant m b ≡ true → is_some b.list ≡ true → b.listed ≡ true
  pub counted : a.options.max_models < 2 ^ 32 → b.options.max_models < 2 ^ 32
