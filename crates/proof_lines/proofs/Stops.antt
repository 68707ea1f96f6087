-- An item has one full stop, at its end.
use Rattle.std.proofs.Common.{◌≡◌, ◌∙◌, ℕ, Bool, true, false, not, ◌&&◌, List, [], ◌∷◌, ◌++◌, refl, ap, sym, append_assoc}
use Rattle.std.proofs.lemmas.List.Folds.{list_all-append}
use Rattle.std.specs.List.{list_all}
use Rattle.fol_core.specs.RawTree.{RawTree}
use Rattle.ladr_commands.specs.Wanted.{is_stop}
use Rattle.ladr_lex.specs.Lexeme.{Lexeme, close_paren, comma, full_stop, symbol}
use Rattle.ladr_reader.specs.Reads.{Reads, atom, applied, group, bound, prefixed, postfixed, infixed, ReadsAll, single, further, Item}
use Rattle.ladr_reader.specs.Table.{OperatorTable}
use Rattle.proof_lines.specs.ContentTokens.{content_in, behind_content_in}

abbrev pub is_stopless : List Lexeme → Bool
is_stopless ts = list_all (λ t. not (is_stop t)) ts

both : (xs ys : List Lexeme) → is_stopless xs ≡ true → is_stopless ys ≡ true → is_stopless (xs ++ ys) ≡ true
both xs ys a b = list_all-append (λ t. not (is_stop t)) xs ys ∙ (rw (a, b) refl)

mutual
  reads_stopless : (g : OperatorTable) {ts : List Lexeme} {t : RawTree} {p : ℕ} → Reads g ts t p → is_stopless ts ≡ true
  reads_stopless g (atom k s w o) = refl
  reads_stopless g (applied {ts} {us} k s w o rs) = both ts (close_paren ∷ []) (all_stopless g rs) refl
  reads_stopless g (group {ts} {t} {p} r) = both ts (close_paren ∷ []) (reads_stopless g r) refl
  reads_stopless g (bound {ts} {t} {p} k j w s x e v r h) = reads_stopless g r
  reads_stopless g (prefixed {ts} {t} {p} k s o e i r h) = reads_stopless g r
  reads_stopless g (postfixed {ts} {t} {p} k s o e i r h) = both ts (symbol k s ∷ []) (reads_stopless g r) refl
  reads_stopless g (infixed {ts} {us} {t} {u} {p} {q} k s o e r h l i) = both ts (symbol k s ∷ us) (reads_stopless g r) (reads_stopless g l)

  all_stopless : (g : OperatorTable) {ts : List Lexeme} {us : List RawTree} → ReadsAll g ts us → is_stopless ts ≡ true
  all_stopless g (single {ts} {t} {p} r h) = reads_stopless g r
  all_stopless g (further {ts} {us} {ks} {t} {p} rs r h) = both ts (comma ∷ us) (all_stopless g rs) (reads_stopless g r)

and_parts : (a b : Bool) → (a && b) ≡ true → (a ≡ true) × (b ≡ true)
and_parts true b e = (refl, e)
and_parts false b e = absurd cc

not_false : (b : Bool) → not b ≡ true → b ≡ false
not_false true e = absurd cc
not_false false e = refl

-- tokens without a full stop, one, and what is behind it
stop_cut : (xs more : List Lexeme) → is_stopless xs ≡ true →
    (content_in (xs ++ (full_stop ∷ more)) ≡ xs ++ full_stop ∷ []) × (behind_content_in (xs ++ (full_stop ∷ more)) ≡ more)
stop_cut [] more h = (refl, refl)
stop_cut (x ∷ xs) more h =
    let parts = and_parts (not (is_stop x)) (is_stopless xs) h in
    let none : is_stop x ≡ false = not_false (is_stop x) parts.0 in
    let rest = stop_cut xs more parts.1 in
    (rw none (ap (λ us. x ∷ us) rest.0), rw none rest.1)

-- an item in front of tokens is their content
pub item_cut : (g : OperatorTable) (item more : List Lexeme) (t : RawTree) → Item g item t →
    (content_in (item ++ more) ≡ item) × (behind_content_in (item ++ more) ≡ more)
item_cut g item more t i =
    let whole : item ++ more ≡ i.tokens ++ (full_stop ∷ more) = ap (λ us. us ++ more) i.stops ∙ append_assoc i.tokens (full_stop ∷ []) more in
    let cut = stop_cut i.tokens more (reads_stopless g i.reads) in
    (ap content_in whole ∙ cut.0 ∙ sym i.stops, ap behind_content_in whole ∙ cut.1)
