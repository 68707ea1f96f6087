-- Tokens of a term without a `#` have none, so none of them is marked.
use Rattle.std.proofs.Common.{◌≡◌, ℕ, Bool, true, false, not, ◌&&◌, List, [], ◌∷◌, ◌++◌, Option, Some, None, refl, sym, ap, ◌∙◌, subst}
use Rattle.std.specs.Prelude.{codes}
use Rattle.std.specs.List.{list_all}
use Rattle.std.specs.Str.{bytes_eq}
use Rattle.std.proofs.lemmas.Bool.{and_parts, and_from}
use Rattle.std.proofs.lemmas.List.Folds.{list_all-append}
use Rattle.fol_core.specs.RawTree.{RawTree, named, quantified, RawTrees, no_raws, more_raws, raws_of}
use Rattle.ladr_lex.specs.Lexeme.{Sort, Lexeme, open_paren, close_paren, comma, symbol}
use Rattle.ladr_reader.specs.Marks.{if_marked}
use Rattle.ladr_reader.specs.Reads.{Reads, atom, applied, group, bound, prefixed, postfixed, infixed, ReadsAll, single, further}
use Rattle.ladr_reader.specs.Table.{OperatorTable}
use Rattle.proof_lines.specs.AnswerMarks.{begins_answer, is_hash, noted_from, spot_behind}
use Rattle.proof_lines.specs.declared.marks.Spot.TheVariants.{Elsewhere}

-- a name that is no `#`
abbrev pub is_other : List ℕ → Bool
is_other s = not (bytes_eq s (codes "#"))

-- all names of a term without quantifiers are
abbrev mutual
  pub HasNoHash : RawTree → Type 0
  HasNoHash (named s ts) = (is_other s ≡ true) × HaveNoHash ts
  HasNoHash (quantified q x t) = ⊥

  pub HaveNoHash : RawTrees → Type 0
  HaveNoHash no_raws = Unit {0}
  HaveNoHash (more_raws t ts) = HasNoHash t × HaveNoHash ts

abbrev is_plain : Lexeme → Bool
is_plain t = not (is_hash t)

abbrev pub are_plain : List Lexeme → Bool
are_plain ts = list_all is_plain ts

plain_behind : (ts us : List Lexeme) → are_plain ts ≡ true → are_plain us ≡ true → are_plain (ts ++ us) ≡ true
plain_behind ts us h k = list_all-append is_plain ts us ∙ and_from _ _ h k

last_has : (ks : List RawTree) (t : RawTree) → HaveNoHash (raws_of (ks ++ t ∷ [])) → HaveNoHash (raws_of ks) × HasNoHash t
last_has [] t h = (tt, h.0)
last_has (k ∷ ks) t h = (let rest = last_has ks t h.1 in ((h.0, rest.0), rest.1))

mutual
  pub read_plain : (g : OperatorTable) {ts : List Lexeme} {t : RawTree} {p : ℕ} → Reads g ts t p → HasNoHash t → are_plain ts ≡ true
  read_plain g (atom k s none pre) h = and_from _ _ h.0 refl
  read_plain g (applied {ts} {us} k s none pre rs) h = and_from _ _ h.0 (plain_behind ts (close_paren ∷ []) (all_plain g rs h.1) refl)
  read_plain g (group {ts} r) h = plain_behind ts (close_paren ∷ []) (read_plain g r h) refl
  read_plain g (bound {ts} {t} k j q s x e v r fits) h = absurd h
  read_plain g (prefixed {ts} {t} k s o none e r fits) h = and_from _ _ h.0 (read_plain g r h.1.0)
  read_plain g (postfixed {ts} {t} k s o e n r takes_it) h = plain_behind ts (symbol k s ∷ []) (read_plain g r h.1.0) (and_from _ _ h.0 refl)
  read_plain g (infixed {ts} {us} {t} {u} {p} {q} k s o e r takes_it r' fits) h =
      plain_behind ts (symbol k s ∷ us) (read_plain g r h.1.0) (and_from _ _ h.0 (read_plain g r' h.1.1.0))

  pub all_plain : (g : OperatorTable) {ts : List Lexeme} {us : List RawTree} → ReadsAll g ts us → HaveNoHash (raws_of us) → are_plain ts ≡ true
  all_plain g (single r m) h = read_plain g r h.0
  all_plain g (further {ts} {us} {ks} {t} rs r m) h =
      let parts = last_has ks t h in
      plain_behind ts (comma ∷ us) (all_plain g rs parts.0) (read_plain g r parts.1)

-- such tokens are read as they are, and what is behind them as if it stood alone
pub plain_noted : (ts us : List Lexeme) → are_plain ts ≡ true → noted_from Elsewhere (ts ++ us) ≡ ts ++ noted_from Elsewhere us
plain_noted [] us h = refl
plain_noted (t ∷ ts) us h =
    let parts = and_parts (is_plain t) (are_plain ts) h in
    let no : is_hash t ≡ false = none (is_hash t) parts.0 in
    rw no (ap (λ (vs : List Lexeme). t ∷ vs) (plain_noted ts us parts.1))
  where
    none : (b : Bool) → not b ≡ true → b ≡ false
    none true n = absurd (cc)
    none false n = refl

-- an answer begins where one does behind them
pub plain_begun : (ts us : List Lexeme) → are_plain ts ≡ true → begins_answer (ts ++ us) ≡ begins_answer us
plain_begun [] us h = refl
plain_begun (t ∷ ts) us h =
    let parts = and_parts (is_plain t) (are_plain ts) h in
    let no : is_hash t ≡ false = none (is_hash t) parts.0 in
    rw no (plain_begun ts us parts.1)
  where
    none : (b : Bool) → not b ≡ true → b ≡ false
    none true n = absurd (cc)
    none false n = refl
