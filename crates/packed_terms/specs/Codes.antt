-- Heads as they are kept.
use Rattle.std.specs.Prelude.{ℕ, ◌==◌, ◌-◌, if◌then◌else◌, List, map}
use Rattle.packed_terms.specs.declared.codes.Code.{Code}
use Rattle.packed_terms.specs.declared.form.Form.{Form}
use Rattle.packed_terms.specs.declared.form.Form.TheVariants.{Short, Long}
use Rattle.packed_terms.specs.declared.head.Head.{Head}
use Rattle.packed_terms.specs.declared.head.Head.TheVariants.{Variable, Element, Symbol}

-- the symbol of a number: the greatest of sixteen bits stands for that of sixty-four, which is
-- equality
abbrev pub symbol_of : ℕ → ℕ
symbol_of n = if n == 65535 then 18446744073709551615 else n

-- the head of a code: kinds 0 and 1 are those of variables and elements, and 2 that of a symbol
-- without arguments
abbrev pub head_of : Code → Head
head_of c =
    if c.kind == 0 then Variable c.number
    else (if c.kind == 1 then Element c.number else Symbol (symbol_of c.number) (c.kind - 2))

abbrev pub heads_of : Form → List Head
heads_of (Short codes) = map head_of codes.items
heads_of (Long heads) = heads.items
