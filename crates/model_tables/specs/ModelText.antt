-- The text of an interpretation.
use Rattle.std.specs.Prelude.{ℕ, zero, suc, ◌+◌, ◌==◌, if◌then◌else◌, Bool, List, [], ◌∷◌, ◌++◌, length, codes}
use Rattle.std.specs.Fmt.{decimal}
use Rattle.fol_core.specs.SymbolTable.{Symbol}
use Rattle.fol_core.specs.declared.symbols.Kind.{Kind}
use Rattle.fol_core.specs.declared.symbols.Kind.TheVariants.{Function, Relation}
use Rattle.model_tables.specs.Tables.{Listing, Finite}

-- numbers with commas between them
abbrev pub numbers_behind : List ℕ → List ℕ
numbers_behind [] = []
numbers_behind (x ∷ xs) = codes "," ++ decimal x ++ numbers_behind xs

abbrev pub numbers_text : List ℕ → List ℕ
numbers_text [] = []
numbers_text (x ∷ xs) = decimal x ++ numbers_behind xs

-- `(_,_)` for two arguments, and nothing for none
abbrev pub further_places : ℕ → List ℕ
further_places zero = []
further_places (suc n) = codes ",_" ++ further_places n

abbrev pub places_text : ℕ → List ℕ
places_text zero = []
places_text (suc n) = codes "(_" ++ further_places n ++ codes ")"

abbrev pub kind_text : Kind → List ℕ
kind_text Function = codes "function"
kind_text Relation = codes "relation"

-- `function(f(_), [1,0])`
abbrev pub entry_text : List ℕ → ℕ → Kind → List ℕ → List ℕ
entry_text name arity kind values =
    kind_text kind ++ codes "(" ++ name ++ places_text arity ++ codes ", [" ++ numbers_text values
    ++ codes "])"

-- the entries of the symbols that have values
abbrev pub entries_of : List Symbol → List Listing → List (List ℕ)
entries_of [] ls = []
entries_of (s ∷ ss) [] = []
entries_of (s ∷ ss) (l ∷ ls) =
    if length l.values == 0 then entries_of ss ls
    else entry_text s.name s.arity l.kind l.values ∷ entries_of ss ls

-- each entry in a line of its own, after four spaces, with a comma at its end if one more follows
abbrev pub lines_behind : List (List ℕ) → List ℕ
lines_behind [] = codes "\n"
lines_behind (e ∷ es) = codes ",\n    " ++ e ++ lines_behind es

abbrev pub entry_lines : List (List ℕ) → List ℕ
entry_lines [] = []
entry_lines (e ∷ es) = codes "\n    " ++ e ++ lines_behind es

-- The text of an interpretation of a size with these entries, by a number of its own.
abbrev pub entries_text : ℕ → ℕ → List (List ℕ) → List ℕ
entries_text size k es =
    codes "interpretation(" ++ decimal size ++ codes ", [number = " ++ decimal k
    ++ codes ",seconds = 0], [" ++ entry_lines es ++ codes "]).\n"

-- the text of tables for these symbols, as model number k
unfoldable pub model_text : List Symbol → ℕ → Finite → List ℕ
model_text ss k t = entries_text (t.top + 1) k (entries_of ss t.rows)

-- The parts that are written one behind the other: what stands before the entries, what an entry's
-- line begins with, and the line of a symbol, if it has values, where an entry stands before or none
-- does; what ends the last line, and what ends the text.
abbrev pub text_beginning : ℕ → ℕ → List ℕ
text_beginning size k =
    codes "interpretation(" ++ decimal size ++ codes ", [number = " ++ decimal k
    ++ codes ",seconds = 0], ["

abbrev pub entry_start : Bool → List ℕ
entry_start before = if before then codes ",\n    " else codes "\n    "

abbrev pub entry_line : Bool → List ℕ → ℕ → Listing → List ℕ
entry_line before name arity l =
    if length l.values == 0 then []
    else entry_start before ++ entry_text name arity l.kind l.values

abbrev pub lines_end : Bool → List ℕ
lines_end before = if before then codes "\n" else []

abbrev pub text_end : Bool → List ℕ
text_end before = lines_end before ++ codes "]).\n"
