-- The tokens that words are printed as say these words.
use Rattle.std.proofs.Common.{◌≡◌, ℕ, Bool, true, false, List, [], ◌∷◌, ◌++◌, Option, Some, None, refl, sym, ap, ◌∙◌, append_assoc, arith}
use Rattle.std.proofs.lemmas.List.{append-nil}
use Rattle.std.specs.Prelude.{is_some, unwrap_or, if◌then◌else◌}
use Rattle.std.specs.Option.{option_map_or}
use Rattle.derivation.specs.Later.{LaterWord, flipped, merged, reflexive, unit_deleted, rewritten}
use Rattle.derivation.specs.declared.words.Satellite.{Satellite}
use Rattle.ladr_lex.specs.Lexeme.{Lexeme, open_paren, close_paren, open_square, comma}
use Rattle.ladr_lex.proofs.Numerals.{whole_decimal}
use Rattle.proof_words.specs.Names.{place_named}
use Rattle.proof_words.specs.Spelling.{Spelling, passed_then, satellites, path, rewritings, words, number_then, place_then, one_clash, clash, paramodulation, satellite_then, subterm_then, behind_first_word, alone, behind_satellites, behind_path, behind_rewritings, line_words, takes_steps, words_outcome, reads, stops, SaysWords}
use Rattle.proof_words.specs.Written.{Written, WrittenFirst, written, satellite, as_assumption, as_goal, by_clausify, by_deny, by_copy, by_back_rewrite, by_back_unit_del, by_resolve, by_hyper, by_ur, by_factor, by_para, by_xx_res, by_instantiate}
use Rattle.proof_words.specs.declared.class.TokenClass.TheVariants.{Open, Close, Comma}
use Rattle.proof_words.specs.declared.names.ContentKind.TheVariants.{Either}
use Rattle.words_print.specs.Sayable.{IsShort, AreShort, IsSayablePath, IsShortSatellite, AreShortSatellites, IsSayableClash, IsSayableFirst, IsSayableLater, AreSayable, IsSayable}
use Rattle.words_print.specs.WordTokens.{literal_name, number_token, literal_token, in_parens, further_numbers, further_satellites, subterm_tokens, first_tokens, is_rewriting, later_tokens, between_words, further_tokens, words_tokens}
use Rattle.words_print.proofs.LetterNames.{literal_is, place_is}

-- a comma, a parenthesis
abbrev wants_comma : Spelling → Spelling
wants_comma f = passed_then Comma f

abbrev wants_open : Spelling → Spelling
wants_open f = passed_then Open f

abbrev wants_close : Spelling → Spelling
wants_close f = passed_then Close f

number_said : (n : ℕ) → IsShort n → (onward : ℕ → Spelling) (ts : List Lexeme) → words_outcome (number_then onward) (number_token n ∷ ts) ≡ words_outcome (onward n) ts
number_said n h onward ts =
    ap (λ (o : Option ℕ). option_map_or (λ g. words_outcome g ts) (if is_some o then Some (onward (unwrap_or o 0)) else None) (stops (number_token n ∷ ts))) (whole_decimal n h)

place_said : (a : ℕ) → IsShort a → (onward : ℕ → Spelling) (ts : List Lexeme) → words_outcome (place_then onward) (literal_token a ∷ ts) ≡ words_outcome (onward a) ts
place_said a h onward ts =
    ap (λ (b : Bool). option_map_or (λ g. words_outcome g ts) (if b then Some (onward (place_named (literal_name a))) else None) (stops (literal_token a ∷ ts))) (literal_is a)
    ∙ ap (λ (b : ℕ). words_outcome (onward b) ts) (place_is a h)

-- `a,m,b` where satellites may come
satellite_said : (s : Satellite) → IsShortSatellite s → (read : List Satellite) (onward : List Satellite → Spelling) (ts : List Lexeme)
    → words_outcome (satellites read onward) (literal_token s.place ∷ comma ∷ number_token s.clause ∷ comma ∷ literal_token s.literal ∷ ts) ≡ words_outcome (behind_satellites (read ++ s ∷ []) onward) ts
satellite_said s h read onward ts =
    place_said s.place h.0 (λ a. wants_comma (number_then (λ m. wants_comma (place_then (λ b. behind_satellites (read ++ satellite a m b ∷ []) onward))))) (comma ∷ number_token s.clause ∷ comma ∷ literal_token s.literal ∷ ts)
    ∙ number_said s.clause h.1 (λ m. wants_comma (place_then (λ b. behind_satellites (read ++ satellite s.place m b ∷ []) onward))) (comma ∷ literal_token s.literal ∷ ts)
    ∙ place_said s.literal h.2 (λ b. behind_satellites (read ++ satellite s.place s.clause b ∷ []) onward) ts

satellites_said : (ss : List Satellite) → AreShortSatellites ss → (read : List Satellite) (onward : List Satellite → Spelling) (ts : List Lexeme)
    → words_outcome (behind_satellites read onward) ((further_satellites ss ++ close_paren ∷ []) ++ ts) ≡ words_outcome (onward (read ++ ss)) ts
satellites_said [] h read onward ts = ap (λ (ss : List Satellite). words_outcome (onward ss) ts) (sym (append-nil read))
satellites_said (s ∷ ss) h read onward ts =
    satellite_said s h.0 read onward ((further_satellites ss ++ close_paren ∷ []) ++ ts)
    ∙ satellites_said ss h.1 (read ++ s ∷ []) onward ts
    ∙ ap (λ (us : List Satellite). words_outcome (onward us) ts) (append_assoc read (s ∷ []) ss)

-- `(n,a1,m1,b1,..)`
clash_said : (n : ℕ) (ss : List Satellite) → IsSayableClash n ss → (onward : ℕ → List Satellite → Spelling) (ts : List Lexeme)
    → words_outcome (clash onward) (in_parens (number_token n ∷ further_satellites ss) ++ ts) ≡ words_outcome (onward n ss) ts
clash_said n [] h onward ts = absurd (omega (arith, h.1))
clash_said n (s ∷ ss) h onward ts =
    let rest = (further_satellites ss ++ close_paren ∷ []) ++ ts in
    number_said n h.0 (λ m. wants_comma (satellites [] (λ us. onward m us))) (comma ∷ literal_token s.place ∷ comma ∷ number_token s.clause ∷ comma ∷ literal_token s.literal ∷ rest)
    ∙ satellite_said s h.2.0 [] (λ us. onward n us) rest
    ∙ satellites_said ss h.2.1 (s ∷ []) (λ us. onward n us) ts

numbers_said : (ns : List ℕ) → AreShort ns → (read : List ℕ) (onward : List ℕ → Spelling) (ts : List Lexeme)
    → words_outcome (behind_path read onward) ((further_numbers ns ++ close_paren ∷ []) ++ ts) ≡ words_outcome (onward (read ++ ns)) ts
numbers_said [] h read onward ts = ap (λ (ns : List ℕ). words_outcome (onward ns) ts) (sym (append-nil read))
numbers_said (n ∷ ns) h read onward ts =
    number_said n h.0 (λ m. behind_path (read ++ m ∷ []) onward) ((further_numbers ns ++ close_paren ∷ []) ++ ts)
    ∙ numbers_said ns h.1 (read ++ n ∷ []) onward ts
    ∙ ap (λ (ms : List ℕ). words_outcome (onward ms) ts) (append_assoc read (n ∷ []) ns)

-- `n(a,path)`
subterm_said : (n a : ℕ) (p : List ℕ) → IsShort n → IsShort a → IsSayablePath p → (onward : ℕ → ℕ → List ℕ → Spelling) (ts : List Lexeme)
    → words_outcome (subterm_then onward) (subterm_tokens n a p ++ ts) ≡ words_outcome (onward n a p) ts
subterm_said n a [] h k l onward ts = absurd (omega (arith, l.0))
subterm_said n a (i ∷ is) h k l onward ts =
    let rest = (further_numbers is ++ close_paren ∷ []) ++ ts in
    number_said n h (λ m. wants_open (place_then (λ b. wants_comma (path [] (λ q. onward m b q))))) (open_paren ∷ literal_token a ∷ comma ∷ number_token i ∷ rest)
    ∙ place_said a k (λ b. wants_comma (path [] (λ q. onward n b q))) (comma ∷ number_token i ∷ rest)
    ∙ number_said i l.1.0 (λ m. behind_path (m ∷ []) (λ q. onward n a q)) rest
    ∙ numbers_said is l.1.1 (i ∷ []) (λ q. onward n a q) ts

-- `(n,a,m,b)`
one_clash_said : (n : ℕ) (s : Satellite) → IsShort n → IsShortSatellite s → (onward : ℕ → Satellite → Spelling) (ts : List Lexeme)
    → words_outcome (one_clash onward) (in_parens (number_token n ∷ further_satellites (s ∷ [])) ++ ts) ≡ words_outcome (onward n s) ts
one_clash_said n s h k onward ts =
    number_said n h (λ m. wants_comma (satellite_then (λ t. wants_close (onward m t)))) (comma ∷ literal_token s.place ∷ comma ∷ number_token s.clause ∷ comma ∷ literal_token s.literal ∷ close_paren ∷ ts)
    ∙ place_said s.place k.0 (λ a. wants_comma (number_then (λ m. wants_comma (place_then (λ b. wants_close (onward n (satellite a m b))))))) (comma ∷ number_token s.clause ∷ comma ∷ literal_token s.literal ∷ close_paren ∷ ts)
    ∙ number_said s.clause k.1 (λ m. wants_comma (place_then (λ b. wants_close (onward n (satellite s.place m b))))) (comma ∷ literal_token s.literal ∷ close_paren ∷ ts)
    ∙ place_said s.literal k.2 (λ b. wants_close (onward n (satellite s.place s.clause b))) (close_paren ∷ ts)

para_said : (n a side m b : ℕ) (p : List ℕ) → IsSayableFirst (by_para n a side m b p) → (ts : List Lexeme)
    → words_outcome (line_words Either) (open_square ∷ (first_tokens (by_para n a side m b p) ++ ts)) ≡ words_outcome (behind_first_word (by_para n a side m b p)) ts
para_said n a side m b [] h ts = absurd (omega (arith, h.5.0))
para_said n a side m b (i ∷ is) h ts =
    let path_end = (further_numbers is ++ close_paren ∷ []) ++ (close_paren ∷ ts) in
    let into = number_token m ∷ open_paren ∷ literal_token b ∷ comma ∷ number_token i ∷ path_end in
    let behind : ℕ → ℕ → ℕ → ℕ → ℕ → List ℕ → Spelling = λ n a s m b q. wants_close (behind_first_word (by_para n a s m b q)) in
    let e : ((further_numbers is ++ close_paren ∷ []) ++ close_paren ∷ []) ++ ts ≡ path_end = append_assoc (further_numbers is ++ close_paren ∷ []) (close_paren ∷ []) ts in
    ap (λ (us : List Lexeme). words_outcome (paramodulation (λ n a s m b q. behind_first_word (by_para n a s m b q)))
    (open_paren ∷ number_token n ∷ open_paren ∷ literal_token a ∷ comma ∷ number_token side ∷ close_paren ∷ comma ∷ number_token m ∷ open_paren ∷ literal_token b ∷ comma ∷ number_token i ∷ us)) e
    ∙ number_said n h.0 (λ n. wants_open (place_then (λ a. wants_comma (number_then (λ s. wants_close (wants_comma (subterm_then (λ m b q. behind n a s m b q))))))))
    (open_paren ∷ literal_token a ∷ comma ∷ number_token side ∷ close_paren ∷ comma ∷ into)
    ∙ place_said a h.1 (λ a. wants_comma (number_then (λ s. wants_close (wants_comma (subterm_then (λ m b q. behind n a s m b q)))))) (comma ∷ number_token side ∷ close_paren ∷ comma ∷ into)
    ∙ number_said side h.2 (λ s. wants_close (wants_comma (subterm_then (λ m b q. behind n a s m b q)))) (close_paren ∷ comma ∷ into)
    ∙ subterm_said m b (i ∷ is) h.3 h.4 h.5 (λ m b q. behind n a side m b q) (close_paren ∷ ts)

-- the first word
first_said : (w : WrittenFirst) → IsSayableFirst w → (ts : List Lexeme) → words_outcome (line_words Either) (open_square ∷ (first_tokens w ++ ts)) ≡ words_outcome (behind_first_word w) ts
first_said as_assumption h ts = refl
first_said as_goal h ts = refl
first_said (by_clausify n) h ts = number_said n h (λ m. wants_close (behind_first_word (by_clausify m))) (close_paren ∷ ts)
first_said (by_deny n) h ts = number_said n h (λ m. wants_close (behind_first_word (by_deny m))) (close_paren ∷ ts)
first_said (by_copy n) h ts = number_said n h (λ m. wants_close (behind_first_word (by_copy m))) (close_paren ∷ ts)
first_said (by_back_rewrite n) h ts = number_said n h (λ m. wants_close (behind_first_word (by_back_rewrite m))) (close_paren ∷ ts)
first_said (by_back_unit_del n) h ts = number_said n h (λ m. wants_close (behind_first_word (by_back_unit_del m))) (close_paren ∷ ts)
first_said (by_resolve n s) h ts = one_clash_said n s h.0 h.1 (λ m t. behind_first_word (by_resolve m t)) ts
first_said (by_hyper n ss) h ts = clash_said n ss h (λ m us. behind_first_word (by_hyper m us)) ts
first_said (by_ur n ss) h ts = clash_said n ss h (λ m us. behind_first_word (by_ur m us)) ts
first_said (by_factor n a b) h ts =
    number_said n h.0 (λ m. wants_comma (place_then (λ c. wants_comma (place_then (λ d. wants_close (behind_first_word (by_factor m c d))))))) (comma ∷ literal_token a ∷ comma ∷ literal_token b ∷ close_paren ∷ ts)
    ∙ place_said a h.1 (λ c. wants_comma (place_then (λ d. wants_close (behind_first_word (by_factor n c d))))) (comma ∷ literal_token b ∷ close_paren ∷ ts)
    ∙ place_said b h.2 (λ d. wants_close (behind_first_word (by_factor n a d))) (close_paren ∷ ts)
first_said (by_para n a side m b p) h ts = para_said n a side m b p h ts
first_said (by_xx_res n a) h ts =
    number_said n h.0 (λ m. wants_comma (place_then (λ c. wants_close (behind_first_word (by_xx_res m c))))) (comma ∷ literal_token a ∷ close_paren ∷ ts)
    ∙ place_said a h.1 (λ c. wants_close (behind_first_word (by_xx_res n c))) (close_paren ∷ ts)
first_said (by_instantiate n es) h ts = absurd h

-- `rewrite([..])` goes on, or other words do
abbrev going_on : Bool → WrittenFirst → List LaterWord → Spelling
going_on true w read = behind_rewritings w read
going_on false w read = words w read

rewriting_said : (w : WrittenFirst) (read : List LaterWord) (n a : ℕ) (p : List ℕ) → IsSayableLater (rewritten n a p) → (ts : List Lexeme)
    → words_outcome (rewritings w read) (subterm_tokens n a p ++ ts) ≡ words_outcome (behind_rewritings w (read ++ rewritten n a p ∷ [])) ts
rewriting_said w read n a p h ts = subterm_said n a p h.0 h.1 h.2 (λ m b q. behind_rewritings w (read ++ rewritten m b q ∷ [])) ts

deleted_said : (w : WrittenFirst) (read : List LaterWord) (a n : ℕ) → IsSayableLater (unit_deleted a n) → (ts : List Lexeme)
    → words_outcome (place_then (λ b. wants_comma (number_then (λ m. wants_close (words w (read ++ unit_deleted b m ∷ [])))))) (literal_token a ∷ comma ∷ number_token n ∷ close_paren ∷ ts)
    ≡ words_outcome (words w (read ++ unit_deleted a n ∷ [])) ts
deleted_said w read a n h ts =
    place_said a h.0 (λ b. wants_comma (number_then (λ m. wants_close (words w (read ++ unit_deleted b m ∷ []))))) (comma ∷ number_token n ∷ close_paren ∷ ts)
    ∙ number_said n h.1 (λ m. wants_close (words w (read ++ unit_deleted a m ∷ []))) (close_paren ∷ ts)

-- a word behind the first, without what stands before it
later_said : (w : WrittenFirst) (read : List LaterWord) (l : LaterWord) → IsSayableLater l → (inside : Bool) (ts : List Lexeme)
    → words_outcome (going_on inside w read) (between_words inside (is_rewriting l) ++ (later_tokens l ++ ts)) ≡ words_outcome (going_on (is_rewriting l) w (read ++ l ∷ [])) ts
later_said w read (flipped a) h true ts = place_said a h (λ b. wants_close (words w (read ++ flipped b ∷ []))) (close_paren ∷ ts)
later_said w read (flipped a) h false ts = place_said a h (λ b. wants_close (words w (read ++ flipped b ∷ []))) (close_paren ∷ ts)
later_said w read (merged a) h true ts = place_said a h (λ b. wants_close (words w (read ++ merged b ∷ []))) (close_paren ∷ ts)
later_said w read (merged a) h false ts = place_said a h (λ b. wants_close (words w (read ++ merged b ∷ []))) (close_paren ∷ ts)
later_said w read (reflexive a) h true ts = place_said a h (λ b. wants_close (words w (read ++ reflexive b ∷ []))) (close_paren ∷ ts)
later_said w read (reflexive a) h false ts = place_said a h (λ b. wants_close (words w (read ++ reflexive b ∷ []))) (close_paren ∷ ts)
later_said w read (unit_deleted a n) h true ts = deleted_said w read a n h ts
later_said w read (unit_deleted a n) h false ts = deleted_said w read a n h ts
later_said w read (rewritten n a p) h true ts = rewriting_said w read n a p h ts
later_said w read (rewritten n a p) h false ts = rewriting_said w read n a p h ts

further_said : (w : WrittenFirst) (ls : List LaterWord) → AreSayable ls → (inside : Bool) (read : List LaterWord)
    → words_outcome (going_on inside w read) (further_tokens inside ls) ≡ reads (written w (read ++ ls)) []
further_said w [] h true read = ap (λ (ls : List LaterWord). reads (written w ls) []) (sym (append-nil read))
further_said w [] h false read = ap (λ (ls : List LaterWord). reads (written w ls) []) (sym (append-nil read))
further_said w (l ∷ ls) h inside read =
    later_said w read l h.0 inside (further_tokens (is_rewriting l) ls)
    ∙ further_said w ls h.1 (is_rewriting l) (read ++ l ∷ [])
    ∙ ap (λ (ks : List LaterWord). reads (written w ks) []) (append_assoc read (l ∷ []) ls)

all_said : (w : WrittenFirst) (ls : List LaterWord) → AreSayable ls → (b : Bool) → takes_steps w ≡ b → (b ≡ false → ls ≡ [])
    → words_outcome (if b then words w [] else alone w) (further_tokens false ls) ≡ reads (written w ls) []
all_said w ls h true e k = further_said w ls h false []
all_said w ls h false e k = rw (k refl) refl

pub said : (w : Written) → IsSayable w → SaysWords (line_words Either) (words_tokens w) w
said w h =
    first_said w.first h.first (further_tokens false w.later)
    ∙ all_said w.first w.later h.later (takes_steps w.first) refl h.alone
