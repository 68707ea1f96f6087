-- Token lists in two parts.
use Rattle.std.proofs.Common.{◌≡◌, List, ◌++◌, refl, ap, ◌∙◌, append_assoc}
use Rattle.ladr_lex.specs.Lexeme.{Lexeme}

-- the tokens are some that are F, and then some that are B
pub record Split (F B : List Lexeme → Type 0) (vs : List Lexeme) : Type 0 where
  pub front : List Lexeme
  pub back : List Lexeme
  pub is_front : F front
  pub is_back : B back
  pub joins : vs ≡ front ++ back

-- more tokens at the end
pub longer :
    (F B C : List Lexeme → Type 0) (vs xs : List Lexeme) → Split F B vs →
    ((bs : List Lexeme) → B bs → C (bs ++ xs)) → Split F C (vs ++ xs)
longer F B C vs xs h f =
    record {
      front = h.front;
      back = h.back ++ xs;
      is_front = h.is_front;
      is_back = f h.back h.is_back;
      joins = ap (λ (ts : List Lexeme). ts ++ xs) h.joins ∙ append_assoc h.front h.back xs;
    }

-- the last two of three parts become one
pub joined :
    (F A B C : List Lexeme → Type 0) (vs : List Lexeme) → Split (Split F A) B vs →
    ((ws bs : List Lexeme) → A ws → B bs → C (ws ++ bs)) → Split F C vs
joined F A B C vs h f =
    let l = h.is_front in
    record {
      front = l.front;
      back = l.back ++ h.back;
      is_front = l.is_front;
      is_back = f l.back h.back l.is_back h.is_back;
      joins = h.joins ∙ ap (λ (ts : List Lexeme). ts ++ h.back) l.joins ∙ append_assoc l.front l.back h.back;
    }

-- the tokens of the first part, and then those of the second
pub pushed : (F B : List Lexeme → Type 0) (vs xs : List Lexeme) → F vs → B xs → Split F B (vs ++ xs)
pushed F B vs xs h k = record { front = vs; back = xs; is_front = h; is_back = k; joins = refl }

-- another sort of second part
pub changed : (F B C : List Lexeme → Type 0) (vs : List Lexeme) → Split F B vs → ((bs : List Lexeme) → B bs → C bs) → Split F C vs
changed F B C vs h f =
    record { front = h.front; back = h.back; is_front = h.is_front; is_back = f h.back h.is_back; joins = h.joins }
