-- The tokens of the text of an interpretation.
use Rattle.std.proofs.Common.{◌≡◌, ℕ, zero, suc, ◌+◌, ◌^◌, ◌<◌, Bool, true, false, List, [], ◌∷◌, ◌++◌, map, Some, None, refl, sym, ap, ◌∙◌, subst, append_assoc, arith}
use Rattle.std.specs.Prelude.{codes, ◌||◌, if◌then◌else◌}
use Rattle.std.specs.Fmt.{decimal}
use Rattle.fol_core.specs.declared.symbols.Kind.{Kind}
use Rattle.fol_core.specs.declared.symbols.Kind.TheVariants.{Function, Relation}
use Rattle.ladr_commands.specs.ByName.{NamedTable}
use Rattle.ladr_lex.specs.Bytes.{is_blank, is_ordinary, is_special}
use Rattle.ladr_lex.specs.Cuts.{can_be, is_quoted, IsLongest, gap, token}
use Rattle.ladr_lex.specs.Starts.{start_of}
use Rattle.ladr_lex.specs.Lexeme.{Sort, ordinary, quoted, special, Lexeme, lexeme, open_paren, close_paren, open_square, close_square, comma, full_stop, symbol}
use Rattle.ladr_lex.specs.declared.token.TokenKind.{TokenKind}
use Rattle.ladr_lex.specs.declared.token.TokenKind.TheVariants.{LeftSquare, RightSquare, Ordinary, Special}
use Rattle.ladr_lex.proofs.Numerals.{ordinary_decimal}
use Rattle.ladr_interpretations.specs.NamedText.{table_text}
use Rattle.ladr_models.proofs.Entries.{IsPlain, ArePlain}
use Rattle.ladr_problem.specs.Names.{is_name}
use Rattle.ladr_print.specs.Spacing.{runs_into}
use Rattle.ladr_print.proofs.Longest.{longest_front}
use Rattle.ladr_print.proofs.Writes.{Has, has_none, Alone, before_alone, behind_alone, open_alone, close_alone, comma_alone, stop_alone, space_alone, open_written, close_written, comma_written, stop_written, symbol_written}
use Rattle.ladr_print.specs.HasText.{kind_of}
use Rattle.model_tables.specs.ModelText.{numbers_behind, numbers_text, further_places, places_text, kind_text, entry_text, lines_behind, entry_lines}
use Rattle.model_tables.specs.Size.{AllBelow}

-- the tokens, in front of others: a number, values up to `]`, places up to `)`, an entry, and entries
abbrev pub number_token : ℕ → Lexeme
number_token x = symbol ordinary (decimal x)

abbrev pub behind_value : List ℕ → List Lexeme → List Lexeme
behind_value [] us = close_square ∷ us
behind_value (x ∷ xs) us = comma ∷ number_token x ∷ behind_value xs us

abbrev pub value_tokens : List ℕ → List Lexeme → List Lexeme
value_tokens [] us = close_square ∷ us
value_tokens (x ∷ xs) us = number_token x ∷ behind_value xs us

abbrev pub place : Lexeme
place = symbol ordinary (codes "_")

abbrev pub behind_place : ℕ → List Lexeme → List Lexeme
behind_place zero us = close_paren ∷ us
behind_place (suc n) us = comma ∷ place ∷ behind_place n us

abbrev pub place_tokens : ℕ → List Lexeme → List Lexeme
place_tokens zero us = us
place_tokens (suc n) us = open_paren ∷ place ∷ behind_place n us

abbrev pub sort_of : List ℕ → Sort
sort_of name = if can_be (Some Ordinary) name then ordinary else (if can_be (Some Special) name then special else quoted)

abbrev pub entry_tokens : NamedTable → List Lexeme → List Lexeme
entry_tokens e us =
    symbol ordinary (kind_text e.head.kind) ∷ open_paren ∷ symbol (sort_of e.head.name) e.head.name
    ∷ place_tokens e.head.arity (comma ∷ open_square ∷ value_tokens e.values (close_paren ∷ us))

abbrev pub behind_entry : List NamedTable → List Lexeme → List Lexeme
behind_entry [] us = us
behind_entry (e ∷ es) us = comma ∷ entry_tokens e (behind_entry es us)

abbrev pub list_tokens : List NamedTable → List Lexeme → List Lexeme
list_tokens [] us = us
list_tokens (e ∷ es) us = entry_tokens e (behind_entry es us)

abbrev pub end_tokens : List Lexeme
end_tokens = close_square ∷ close_paren ∷ full_stop ∷ []

abbrev pub all_tokens : ℕ → ℕ → List NamedTable → List Lexeme
all_tokens n k es =
    symbol ordinary (codes "interpretation") ∷ open_paren ∷ number_token n ∷ comma ∷ open_square ∷ symbol ordinary (codes "number") ∷ symbol special (codes "=") ∷ number_token k ∷ comma
    ∷ symbol ordinary (codes "seconds") ∷ symbol special (codes "=") ∷ symbol ordinary (codes "0") ∷ close_square ∷ comma ∷ open_square ∷ list_tokens es end_tokens

-- a name's sort is one that it can be
pub sort_fits : (name : List ℕ) → is_name name ≡ true → can_be (Some (kind_of (sort_of name))) name ≡ true
sort_fits name h = by (can_be (Some Ordinary) name) (can_be (Some Special) name) refl refl h
  where
    by : (a b : Bool) → can_be (Some Ordinary) name ≡ a → can_be (Some Special) name ≡ b → ((a || b) || is_quoted name) ≡ true
        → can_be (Some (kind_of (if a then ordinary else (if b then special else quoted)))) name ≡ true
    by true b e f h = e
    by false true e f h = f
    by false false e f h = h

-- one token or a blank in front
square_alone : Alone 91
unfolding is_special is_ordinary
square_alone = record { special = refl; wordly = refl }

end_alone : Alone 93
unfolding is_special is_ordinary
end_alone = record { special = refl; wordly = refl }

line_longest : (r : List ℕ) → IsLongest None (10 ∷ []) r
unfolding start_of is_blank
line_longest r = longest_front None 10 [] r refl refl

space_longest : (r : List ℕ) → IsLongest None (32 ∷ []) r
unfolding start_of is_blank
space_longest r = longest_front None 32 [] r refl refl

square_longest : (r : List ℕ) → IsLongest (Some LeftSquare) (91 ∷ []) r
unfolding start_of is_special is_ordinary is_blank
square_longest r = longest_front (Some LeftSquare) 91 [] r refl refl

end_longest : (r : List ℕ) → IsLongest (Some RightSquare) (93 ∷ []) r
unfolding start_of is_special is_ordinary is_blank
end_longest r = longest_front (Some RightSquare) 93 [] r refl refl

bracket_front : (k : TokenKind) (c : ℕ) (r : List ℕ) (us : List Lexeme) → IsLongest (Some k) (c ∷ []) r → Has r us → Has (c ∷ r) (lexeme k (c ∷ []) ∷ us)
bracket_front k c r us l h i =
    let rest = h (i + 1) in
    record {
      pieces = record { kind = k; text = c ∷ []; start = i } ∷ rest.pieces;
      cuts = token k l rest.cuts;
      are = ap (λ (ts : List Lexeme). lexeme k (c ∷ []) ∷ ts) rest.are;
    }

blank_front : (c : ℕ) (r : List ℕ) (us : List Lexeme) → IsLongest None (c ∷ []) r → Has r us → Has (c ∷ r) us
blank_front c r us l h i =
    let rest = h (i + 1) in
    record { pieces = rest.pieces; cuts = gap l rest.cuts; are = rest.are }

module _ (r : List ℕ) (us : List Lexeme) (h : Has r us) where
  opened : Has (40 ∷ r) (open_paren ∷ us)
  opened = open_written.has r us (behind_alone 40 r open_alone) h

  closed : Has (41 ∷ r) (close_paren ∷ us)
  closed = close_written.has r us (behind_alone 41 r close_alone) h

  separated : Has (44 ∷ r) (comma ∷ us)
  separated = comma_written.has r us (behind_alone 44 r comma_alone) h

  stopped : Has (46 ∷ r) (full_stop ∷ us)
  stopped = stop_written.has r us (behind_alone 46 r stop_alone) h

  listed : Has (91 ∷ r) (open_square ∷ us)
  listed = bracket_front LeftSquare 91 r us (square_longest r) h

  unlisted : Has (93 ∷ r) (close_square ∷ us)
  unlisted = bracket_front RightSquare 93 r us (end_longest r) h

  spaced : Has (32 ∷ r) us
  spaced = blank_front 32 r us (space_longest r) h

  lined : Has (10 ∷ r) us
  lined = blank_front 10 r us (line_longest r) h

pub named_by : (k : Sort) (s r : List ℕ) (us : List Lexeme) → can_be (Some (kind_of k)) s ≡ true → runs_into s r ≡ false → Has r us → Has (s ++ r) (symbol k s ∷ us)
named_by k s r us w n h = (symbol_written k s w).has r us n h

numbered : (x : ℕ) (r : List ℕ) (us : List Lexeme) → x < 2 ^ 64 → runs_into (decimal x) r ≡ false → Has r us → Has (decimal x ++ r) (number_token x ∷ us)
numbered x r us l n h = named_by ordinary (decimal x) r us (ordinary_decimal x l) n h

before_comma : (x : ℕ) (r : List ℕ) (us : List Lexeme) → x < 2 ^ 64 → Has (44 ∷ r) us → Has (decimal x ++ 44 ∷ r) (number_token x ∷ us)
before_comma x r us l h = numbered x (44 ∷ r) us l (before_alone (decimal x) 44 r comma_alone) h

again : (a b : List ℕ) (us : List Lexeme) → b ≡ a → Has a us → Has b us
again a b us e h = subst (λ (l : List ℕ). Has l us) (sym e) h

-- values
values_apart : (a xs r : List ℕ) → runs_into a (numbers_behind xs ++ 93 ∷ r) ≡ false
values_apart a [] r = before_alone a 93 r end_alone
values_apart a (x ∷ xs) r = before_alone a 44 ((decimal x ++ numbers_behind xs) ++ 93 ∷ r) comma_alone

small : (x : ℕ) → x < 1000000000 → x < 2 ^ 64
small x h = omega (arith, h)

one_value : (x : ℕ) (xs r : List ℕ) (us : List Lexeme) → x < 1000000000 → Has (numbers_behind xs ++ 93 ∷ r) us → Has ((decimal x ++ numbers_behind xs) ++ 93 ∷ r) (number_token x ∷ us)
one_value x xs r us l h =
    again (decimal x ++ (numbers_behind xs ++ 93 ∷ r)) _ _ (append_assoc (decimal x) (numbers_behind xs) (93 ∷ r))
    (numbered x (numbers_behind xs ++ 93 ∷ r) us (small x l) (values_apart (decimal x) xs r) h)

more_values : (xs r : List ℕ) (us : List Lexeme) → AllBelow 1000000000 xs → Has r us → Has (numbers_behind xs ++ 93 ∷ r) (behind_value xs us)
more_values [] r us l h = unlisted r us h
more_values (x ∷ xs) r us l h = separated _ _ (one_value x xs r _ l.0 (more_values xs r us l.1 h))

values : (xs r : List ℕ) (us : List Lexeme) → AllBelow 1000000000 xs → Has r us → Has (numbers_text xs ++ 93 ∷ r) (value_tokens xs us)
values [] r us l h = unlisted r us h
values (x ∷ xs) r us l h = one_value x xs r _ l.0 (more_values xs r us l.1 h)

-- places
place_written : can_be (Some Ordinary) (codes "_") ≡ true
unfolding is_ordinary
place_written = refl

places_apart : (a : List ℕ) (n : ℕ) (r : List ℕ) → runs_into a (further_places n ++ 41 ∷ r) ≡ false
places_apart a zero r = before_alone a 41 r close_alone
places_apart a (suc n) r = before_alone a 44 (95 ∷ (further_places n ++ 41 ∷ r)) comma_alone

more_places : (n : ℕ) (r : List ℕ) (us : List Lexeme) → Has r us → Has (further_places n ++ 41 ∷ r) (behind_place n us)
more_places zero r us h = closed r us h
more_places (suc n) r us h = separated _ _ (named_by ordinary (codes "_") (further_places n ++ 41 ∷ r) _ place_written (places_apart (codes "_") n r) (more_places n r us h))

places : (n : ℕ) (r : List ℕ) (us : List Lexeme) → Has r us → Has (places_text n ++ r) (place_tokens n us)
places zero r us h = h
places (suc n) r us h =
    opened _ _
    (again (95 ∷ (further_places n ++ 41 ∷ r)) (95 ∷ ((further_places n ++ codes ")") ++ r)) _ (ap (λ (l : List ℕ). 95 ∷ l) (append_assoc (further_places n) (codes ")") r))
    (named_by ordinary (codes "_") (further_places n ++ 41 ∷ r) _ place_written (places_apart (codes "_") n r) (more_places n r us h)))

-- an entry
kind_written : (k : Kind) (r : List ℕ) (us : List Lexeme) → Has (40 ∷ r) us → Has (kind_text k ++ 40 ∷ r) (symbol ordinary (kind_text k) ∷ us)
unfolding is_ordinary
kind_written Function r us h = named_by ordinary (codes "function") (40 ∷ r) us refl (before_alone (codes "function") 40 r open_alone) h
kind_written Relation r us h = named_by ordinary (codes "relation") (40 ∷ r) us refl (before_alone (codes "relation") 40 r open_alone) h

name_apart : (a : List ℕ) (n : ℕ) (r : List ℕ) → runs_into a (places_text n ++ 44 ∷ r) ≡ false
name_apart a zero r = before_alone a 44 r comma_alone
name_apart a (suc n) r = before_alone a 40 (95 ∷ ((further_places n ++ codes ")") ++ 44 ∷ r)) open_alone

entry_split : (name : List ℕ) (arity : ℕ) (kind : Kind) (xs r : List ℕ)
    → entry_text name arity kind xs ++ r ≡ kind_text kind ++ (40 ∷ (name ++ (places_text arity ++ (44 ∷ 32 ∷ 91 ∷ (numbers_text xs ++ 93 ∷ 41 ∷ r)))))
entry_split name arity kind xs r =
    append_assoc (kind_text kind ++ codes "(" ++ name ++ places_text arity ++ codes ", [" ++ numbers_text xs) (codes "])") r
    ∙ append_assoc (kind_text kind ++ codes "(" ++ name ++ places_text arity ++ codes ", [") (numbers_text xs) (93 ∷ 41 ∷ r)
    ∙ append_assoc (kind_text kind ++ codes "(" ++ name ++ places_text arity) (codes ", [") (numbers_text xs ++ 93 ∷ 41 ∷ r)
    ∙ append_assoc (kind_text kind ++ codes "(" ++ name) (places_text arity) (44 ∷ 32 ∷ 91 ∷ (numbers_text xs ++ 93 ∷ 41 ∷ r))
    ∙ append_assoc (kind_text kind ++ codes "(") name (places_text arity ++ (44 ∷ 32 ∷ 91 ∷ (numbers_text xs ++ 93 ∷ 41 ∷ r)))
    ∙ append_assoc (kind_text kind) (codes "(") (name ++ (places_text arity ++ (44 ∷ 32 ∷ 91 ∷ (numbers_text xs ++ 93 ∷ 41 ∷ r))))

entry_written : (e : NamedTable) (r : List ℕ) (us : List Lexeme) → IsPlain e → Has r us → Has (table_text e ++ r) (entry_tokens e us)
entry_written e r us p h =
    let ended = values e.values (41 ∷ r) (close_paren ∷ us) p.small (closed r us h) in
    let inner : Has (44 ∷ 32 ∷ 91 ∷ (numbers_text e.values ++ 93 ∷ 41 ∷ r)) (comma ∷ open_square ∷ value_tokens e.values (close_paren ∷ us)) =
    separated _ _ (spaced _ _ (listed _ _ ended)) in
    let headed = places e.head.arity _ _ inner in
    let name = named_by (sort_of e.head.name) e.head.name _ _ (sort_fits e.head.name p.name) (name_apart e.head.name e.head.arity (32 ∷ 91 ∷ (numbers_text e.values ++ 93 ∷ 41 ∷ r))) headed in
    again _ _ _ (entry_split e.head.name e.head.arity e.head.kind e.values r) (kind_written e.head.kind _ _ (opened _ _ name))

-- the lines of entries
indented : (r : List ℕ) (us : List Lexeme) → Has r us → Has (10 ∷ 32 ∷ 32 ∷ 32 ∷ 32 ∷ r) us
indented r us h = lined _ _ (spaced _ _ (spaced _ _ (spaced _ _ (spaced r us h))))

more_lines : (es : List NamedTable) (r : List ℕ) (us : List Lexeme) → ArePlain es → Has r us → Has (lines_behind (map table_text es) ++ r) (behind_entry es us)
more_lines [] r us p h = lined r us h
more_lines (e ∷ es) r us p h =
    separated _ _
    (indented ((table_text e ++ lines_behind (map table_text es)) ++ r) _
    (again _ _ _ (append_assoc (table_text e) (lines_behind (map table_text es)) r) (entry_written e (lines_behind (map table_text es) ++ r) (behind_entry es us) p.0 (more_lines es r us p.1 h))))

pub lines_written : (es : List NamedTable) (r : List ℕ) (us : List Lexeme) → ArePlain es → Has r us → Has (entry_lines (map table_text es) ++ r) (list_tokens es us)
lines_written [] r us p h = h
lines_written (e ∷ es) r us p h =
    indented ((table_text e ++ lines_behind (map table_text es)) ++ r) _
    (again _ _ _ (append_assoc (table_text e) (lines_behind (map table_text es)) r) (entry_written e (lines_behind (map table_text es) ++ r) (behind_entry es us) p.0 (more_lines es r us p.1 h)))

-- the whole text
abbrev pub whole_text : ℕ → ℕ → List ℕ → List ℕ
whole_text n k lines = codes "interpretation(" ++ decimal n ++ codes ", [number = " ++ decimal k ++ codes ",seconds = 0], [" ++ lines ++ codes "]).\n"

whole_split : (n k : ℕ) (lines : List ℕ)
    → whole_text n k lines ≡ codes "interpretation(" ++ (decimal n ++ (codes ", [number = " ++ (decimal k ++ (codes ",seconds = 0], [" ++ (lines ++ codes "]).\n")))))
whole_split n k lines =
    append_assoc (codes "interpretation(" ++ decimal n ++ codes ", [number = " ++ decimal k ++ codes ",seconds = 0], [") lines (codes "]).\n")
    ∙ append_assoc (codes "interpretation(" ++ decimal n ++ codes ", [number = " ++ decimal k) (codes ",seconds = 0], [") (lines ++ codes "]).\n")
    ∙ append_assoc (codes "interpretation(" ++ decimal n ++ codes ", [number = ") (decimal k) (codes ",seconds = 0], [" ++ (lines ++ codes "]).\n"))
    ∙ append_assoc (codes "interpretation(" ++ decimal n) (codes ", [number = ") (decimal k ++ (codes ",seconds = 0], [" ++ (lines ++ codes "]).\n")))
    ∙ append_assoc (codes "interpretation(") (decimal n) (codes ", [number = " ++ (decimal k ++ (codes ",seconds = 0], [" ++ (lines ++ codes "]).\n"))))

word_then : (word : List ℕ) (c : ℕ) (r : List ℕ) (us : List Lexeme) → can_be (Some Ordinary) word ≡ true → Alone c → Has (c ∷ r) us → Has (word ++ c ∷ r) (symbol ordinary word ∷ us)
word_then word c r us w a h = named_by ordinary word (c ∷ r) us w (before_alone word c r a) h

equal_then : (r : List ℕ) (us : List Lexeme) → Has r us → Has (32 ∷ 61 ∷ 32 ∷ r) (symbol special (codes "=") ∷ us)
unfolding is_special
equal_then r us h = spaced _ _ (named_by special (codes "=") (32 ∷ r) us refl (before_alone (codes "=") 32 r space_alone) (spaced r us h))

ended : Has (codes "]).\n") end_tokens
ended = unlisted _ _ (closed _ _ (stopped _ _ (lined [] [] has_none)))

seconds_then : (r : List ℕ) (us : List Lexeme) → Has r us
    → Has (codes ",seconds = 0], [" ++ r) (comma ∷ symbol ordinary (codes "seconds") ∷ symbol special (codes "=") ∷ symbol ordinary (codes "0") ∷ close_square ∷ comma ∷ open_square ∷ us)
unfolding is_ordinary
seconds_then r us h =
    separated _ _
    (word_then (codes "seconds") 32 (61 ∷ 32 ∷ 48 ∷ 93 ∷ 44 ∷ 32 ∷ 91 ∷ r) _ refl space_alone
    (equal_then (48 ∷ 93 ∷ 44 ∷ 32 ∷ 91 ∷ r) _
    (word_then (codes "0") 93 (44 ∷ 32 ∷ 91 ∷ r) _ refl end_alone
    (unlisted _ _ (separated _ _ (spaced _ _ (listed r us h)))))))

number_then : (r : List ℕ) (us : List Lexeme) → Has r us → Has (codes ", [number = " ++ r) (comma ∷ open_square ∷ symbol ordinary (codes "number") ∷ symbol special (codes "=") ∷ us)
unfolding is_ordinary
number_then r us h = separated _ _ (spaced _ _ (listed _ _ (word_then (codes "number") 32 (61 ∷ 32 ∷ r) _ refl space_alone (equal_then r us h))))

start_then : (r : List ℕ) (us : List Lexeme) → Has r us → Has (codes "interpretation(" ++ r) (symbol ordinary (codes "interpretation") ∷ open_paren ∷ us)
unfolding is_ordinary
start_then r us h = word_then (codes "interpretation") 40 r _ refl open_alone (opened r us h)

pub whole_written : (n k : ℕ) (es : List NamedTable) → n < 2 ^ 64 → k < 2 ^ 64 → ArePlain es → Has (whole_text n k (entry_lines (map table_text es))) (all_tokens n k es)
whole_written n k es ln lk p =
    let lines = entry_lines (map table_text es) in
    let behind : Has (codes ",seconds = 0], [" ++ (lines ++ codes "]).\n")) _ = seconds_then _ _ (lines_written es (codes "]).\n") end_tokens p ended) in
    let made = before_comma k (codes "seconds = 0], [" ++ (lines ++ codes "]).\n")) _ lk behind in
    let sized = before_comma n (codes " [number = " ++ (decimal k ++ (codes ",seconds = 0], [" ++ (lines ++ codes "]).\n")))) _ ln (number_then _ _ made) in
    again _ _ _ (whole_split n k lines) (start_then _ _ sized)
