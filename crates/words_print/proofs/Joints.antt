-- The text of tokens behind tokens.
use Rattle.std.proofs.Common.{◌≡◌, ℕ, ◌+◌, ◌<◌, Bool, List, [], ◌∷◌, ◌++◌, length, get_or, drop, map, refl, sym, ap, ◌∙◌, append_assoc}
use Rattle.std.proofs.lemmas.List.{drop_more}
use Rattle.derivation.specs.View.{later_of}
use Rattle.derivation.specs.declared.words.Later.{Later}
use Rattle.std.specs.Prelude.{codes}
use Rattle.ladr_lex.specs.Lexeme.{Lexeme, close_paren, comma}
use Rattle.words_print.specs.WordTokens.{token_text, joint_text, is_rewriting, later_tokens, between_words, further_tokens}

pub joint_append : (xs ys : List Lexeme) → joint_text (xs ++ ys) ≡ joint_text xs ++ joint_text ys
joint_append [] ys = refl
joint_append (x ∷ xs) ys = ap (λ (bs : List ℕ). token_text x ++ bs) (joint_append xs ys) ∙ sym (append_assoc (token_text x) (joint_text xs) (joint_text ys))

-- a text with the text of tokens behind it, and of tokens behind these
pub with_both : (out mid new : List ℕ) (xs ys : List Lexeme) → mid ≡ out ++ joint_text xs → new ≡ mid ++ joint_text ys → new ≡ out ++ joint_text (xs ++ ys)
with_both out mid new xs ys h k =
    k ∙ ap (λ (bs : List ℕ). bs ++ joint_text ys) h ∙ append_assoc out (joint_text xs) (joint_text ys) ∙ ap (λ (bs : List ℕ). out ++ bs) (sym (joint_append xs ys))

-- a word in front of those to come
pub next_word : (inside : Bool) (steps : List Later) (i : ℕ) (x : Later) → i < length steps → x ≡ get_or steps i x →
    joint_text (further_tokens inside (map later_of (drop i steps)))
    ≡ joint_text (between_words inside (is_rewriting (later_of x)) ++ later_tokens (later_of x)) ++ joint_text (further_tokens (is_rewriting (later_of x)) (map later_of (drop (i + 1) steps)))
next_word inside steps i x h is =
    let parts : drop i steps ≡ x ∷ drop (i + 1) steps = drop_more steps i x h ∙ ap (λ (y : Later). y ∷ drop (i + 1) steps) (sym is) in
    let l = later_of x in
    let rest = further_tokens (is_rewriting l) (map later_of (drop (i + 1) steps)) in
    ap (λ (ls : List Later). joint_text (further_tokens inside (map later_of ls))) parts
    ∙ ap joint_text (sym (append_assoc (between_words inside (is_rewriting l)) (later_tokens l) rest))
    ∙ joint_append (between_words inside (is_rewriting l) ++ later_tokens l) rest

pub further_preserved : (old out new : List ℕ) (inside next : Bool) (steps : List Later) (i : ℕ) (x : Later) → i < length steps → x ≡ get_or steps i x →
    out ++ joint_text (further_tokens inside (map later_of (drop i steps))) ≡ old →
    new ≡ out ++ joint_text (between_words inside (is_rewriting (later_of x)) ++ later_tokens (later_of x)) → next ≡ is_rewriting (later_of x) →
    new ++ joint_text (further_tokens next (map later_of (drop (i + 1) steps))) ≡ old
further_preserved old out new inside next steps i x h is before added n =
    let word = joint_text (between_words inside (is_rewriting (later_of x)) ++ later_tokens (later_of x)) in
    let rest = joint_text (further_tokens (is_rewriting (later_of x)) (map later_of (drop (i + 1) steps))) in
    (λ j. added j ++ joint_text (further_tokens (n j) (map later_of (drop (i + 1) steps))))
    ∙ append_assoc out word rest ∙ ap (λ (bs : List ℕ). out ++ bs) (sym (next_word inside steps i x h is)) ∙ before

-- the parts of words, one behind the other
pub clash_text : (out m1 m2 m3 m4 new name d : List ℕ) (fs : List Lexeme) → m1 ≡ out ++ name → m2 ≡ m1 ++ codes "(" → m3 ≡ m2 ++ d → m4 ≡ m3 ++ joint_text fs → new ≡ m4 ++ codes ")" →
    new ≡ out ++ (name ++ (codes "(" ++ (d ++ joint_text (fs ++ close_paren ∷ []))))
clash_text out m1 m2 m3 m4 new name d fs a b c e f = rw (f, e, c, b, a) (simp (joint_append, append_assoc))

pub subterm_text : (out m1 m2 m3 m4 new d name : List ℕ) (fs : List Lexeme) → m1 ≡ out ++ d → m2 ≡ m1 ++ codes "(" → m3 ≡ m2 ++ name → m4 ≡ m3 ++ joint_text fs → new ≡ m4 ++ codes ")" →
    new ≡ out ++ (d ++ (codes "(" ++ (name ++ joint_text (fs ++ close_paren ∷ []))))
subterm_text out m1 m2 m3 m4 new d name fs a b c e f = rw (f, e, c, b, a) (simp (joint_append, append_assoc))

pub para_text : (out m1 m2 m3 m4 new : List ℕ) (es ss : List Lexeme) → m1 ≡ out ++ codes "para(" → m2 ≡ m1 ++ joint_text es → m3 ≡ m2 ++ codes "," → m4 ≡ m3 ++ joint_text ss → new ≡ m4 ++ codes ")" →
    new ≡ out ++ (codes "para(" ++ joint_text ((es ++ (comma ∷ ss)) ++ close_paren ∷ []))
para_text out m1 m2 m3 m4 new es ss a b c e f = rw (f, e, c, b, a) (simp (joint_append, append_assoc))

pub words_are : (out m1 m2 new : List ℕ) (fs gs : List Lexeme) → m1 ≡ out ++ codes "[" → m2 ≡ m1 ++ joint_text fs → new ≡ m2 ++ joint_text gs → new ≡ out ++ (codes "[" ++ joint_text (fs ++ gs))
words_are out m1 m2 new fs gs a b c = rw (c, b, a) (simp (joint_append, append_assoc))
