-- The limits that the definitions name.
use Rattle.std.specs.Prelude.{◌≡◌}
use Rattle.clausify.specs.declared.limit.TheConstants.{MOST_CLAUSES}
use Rattle.ladr_lex.specs.declared.limits.TheConstants.{MOST_BYTES, MOST_LEVELS, MOST_SYMBOLS, MOST_ARGUMENTS, MOST_ELEMENT, MOST_NAMES}
use Rattle.proof_lines.specs.declared.literals.TheConstants.{MOST_ATOM_LEVELS, MOST_LITERAL_LEVELS}
use Rattle.ladr_rules.specs.declared.bounds.TheConstants.{MOST_WEIGHT, MOST_SYMBOL_WEIGHT}
use Rattle.model_tables.specs.declared.limits.TheConstants.{MOST_CELLS}

-- bytes of an input, levels of a term, symbols of a problem and arguments of a symbol, names of an
-- item of names, and the greatest element that a numeral names
abbrev pub AreOfTheLanguage : Type 0
AreOfTheLanguage =
    (MOST_BYTES ≡ 16777216) × (MOST_LEVELS ≡ 900) × (MOST_SYMBOLS ≡ 1000000)
    × (MOST_ARGUMENTS ≡ 1000) × (MOST_NAMES ≡ 200) × (MOST_ELEMENT ≡ 999999999)

-- levels of an atom of a clause in a proof's line, and of such a literal, whose denial counts
abbrev pub AreOfLines : Type 0
AreOfLines = (MOST_ATOM_LEVELS ≡ 1000) × (MOST_LITERAL_LEVELS ≡ 1001)

-- the greatest number in a rule of weights, and weight of a hint; the greatest weight of a symbol
abbrev pub AreOfRules : Type 0
AreOfRules = (MOST_WEIGHT ≡ 2147483647) × (MOST_SYMBOL_WEIGHT ≡ 65535)

-- and clauses of a formula, and cells of a size
abbrev pub AreLimits : Type 0
AreLimits =
    AreOfTheLanguage × AreOfLines × AreOfRules × (MOST_CLAUSES ≡ 20000)
    × (MOST_CELLS ≡ 50000000)
