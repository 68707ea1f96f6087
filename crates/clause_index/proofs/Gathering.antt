-- Clauses with the indexes of their first literals.
use Rattle.std.proofs.Common.{◌≡◌, ℕ, ◌+◌, ◌<◌, ◌==◌, Bool, true, false, not, ◌&&◌, if◌then◌else◌, List, [], ◌∷◌, ◌++◌, Option, Some, None, length, get_or, take, filter, refl, sym, ap, ap₂, ◌∙◌, subst, eq-eqb, ne_eqb, arith}
use Rattle.std.specs.Borrow.{Bor}
use Rattle.std.specs.List.{AllByRecursion, filter_map, cons_option}
use Rattle.std.proofs.lemmas.List.{append-nil, map-append, take_more}
use Rattle.clause_index.proofs.Entries.{entered as entered_once, passed_over, entries_left, none_entered, numbers_are}
use Rattle.clause_index.proofs.Removals.{but_for, taken_back}
use Rattle.clause_index.specs.Entries.{is_short_of, first_atom, short_atoms, entered, AreIndexedBySign}
use Rattle.clause_index.specs.Places.{with_number}
use Rattle.discrim_tree.specs.Entries.{Indexed, indexed, has_number, with_entry, without_entry, numbers_found}
use Rattle.fol_core.specs.Tree.{Tree}
use Rattle.held_clauses.specs.Holding.{lent}
use Rattle.prover_steps.proofs.Rising.{put_rises, kept_rises, kept_each}
use Rattle.prover_steps.specs.Clashing.{Held}
use Rattle.prover_steps.specs.HeldOrder.{numbers_of, IsNoneOf, IsRising}
use Rattle.prover_steps.specs.Searching.{put_in}

-- the index of one sign
entered_there : (sign : Bool) (h : Held) (hs : List Held) → IsRising (numbers_of hs) → IsNoneOf h.number (numbers_of hs) → entered sign h (short_atoms sign hs) ≡ short_atoms sign (put_in h hs)
entered_there sign h hs rising none = by (is_short_of sign h) refl
  where
    by : (b : Bool) → is_short_of sign h ≡ b → entered sign h (short_atoms sign hs) ≡ short_atoms sign (put_in h hs)
    by true e = ap (λ b. if b then with_entry (indexed h.number (first_atom h)) (short_atoms sign hs) else short_atoms sign hs) e ∙ entered_once (is_short_of sign) first_atom h hs rising none e
    by false e = ap (λ b. if b then with_entry (indexed h.number (first_atom h)) (short_atoms sign hs) else short_atoms sign hs) e ∙ sym (passed_over (is_short_of sign) first_atom h hs e)

gone_again : (sign : Bool) (h : Held) (hs : List Held) → IsRising (numbers_of hs) → IsNoneOf h.number (numbers_of hs) → without_entry h.number (entered sign h (short_atoms sign hs)) ≡ short_atoms sign hs
gone_again sign h hs rising none =
    ap (without_entry h.number) (entered_there sign h hs rising none) ∙ entries_left (is_short_of sign) first_atom h.number (put_in h hs) ∙ ap (short_atoms sign) (taken_back h hs none)

-- both of them
module _ (h : Held) (n : ℕ) (hs : List Held) (ps ns : List Indexed) (are : AreIndexedBySign hs ps ns) (none : IsNoneOf h.number (numbers_of hs)) (number : n ≡ h.number) where
  pub none_positive : has_number h.number ps ≡ false
  none_positive = ap (has_number h.number) are.positive ∙ none_entered (is_short_of true) first_atom h.number hs none

  pub none_negative : has_number h.number ns ≡ false
  none_negative = ap (has_number h.number) are.negative ∙ none_entered (is_short_of false) first_atom h.number hs none

  pub set_with : (now : List Held) (qs ms : List Indexed) → now ≡ put_in h hs → qs ≡ entered true h ps → ms ≡ entered false h ns → AreIndexedBySign now qs ms
  set_with now qs ms is grown more =
      subst (λ ks. AreIndexedBySign ks qs ms) (sym is) (record {
        rising = put_rises h hs are.rising none;
        positive = grown ∙ ap (entered true h) are.positive ∙ entered_there true h hs are.rising none;
        negative = more ∙ ap (entered false h) are.negative ∙ entered_there false h hs are.rising none;
      })

  positive_back : (qs : List Indexed) → qs ≡ entered true h ps → without_entry n qs ≡ short_atoms true hs
  positive_back qs grown = ap₂ without_entry number (grown ∙ ap (entered true h) are.positive) ∙ gone_again true h hs are.rising none

  negative_back : (ms : List Indexed) → ms ≡ entered false h ns → without_entry n ms ≡ short_atoms false hs
  negative_back ms more = ap₂ without_entry number (more ∙ ap (entered false h) are.negative) ∙ gone_again false h hs are.rising none

  pub one_back : (qs left ms : List Indexed) → qs ≡ entered true h ps → left ≡ without_entry n qs → ms ≡ ns → AreIndexedBySign hs left ms
  one_back qs left ms grown taken same = record { rising = are.rising; positive = taken ∙ positive_back qs grown; negative = same ∙ are.negative }

  pub both_back : (now : List Held) (qs left ms rest : List Indexed) → now ≡ hs → qs ≡ entered true h ps → left ≡ without_entry n qs → ms ≡ entered false h ns → rest ≡ without_entry n ms → AreIndexedBySign now left rest
  both_back now qs left ms rest is grown taken more gone =
      subst (λ ks. AreIndexedBySign ks left rest) (sym is) (record { rising = are.rising; positive = taken ∙ positive_back qs grown; negative = gone ∙ negative_back ms more })

pub set_out : (n : ℕ) (hs now : List Held) (ps left ns rest : List Indexed) → AreIndexedBySign hs ps ns → left ≡ without_entry n ps → rest ≡ without_entry n ns → now ≡ but_for n hs → AreIndexedBySign now left rest
set_out n hs now ps left ns rest are taken gone is =
    subst (λ ks. AreIndexedBySign ks left rest) (sym is) (record {
      rising = kept_rises (λ h. not (h.number == n)) hs are.rising;
      positive = taken ∙ ap (without_entry n) are.positive ∙ entries_left (is_short_of true) first_atom n hs;
      negative = gone ∙ ap (without_entry n) are.negative ∙ entries_left (is_short_of false) first_atom n hs;
    })

-- clauses by the numbers that were found
filter_map_append : (f : ℕ → Option Held) (ns ms : List ℕ) → filter_map f (ns ++ ms) ≡ filter_map f ns ++ filter_map f ms
filter_map_append f [] ms = refl
filter_map_append f (n ∷ ns) ms = by (f n) (filter_map_append f ns ms)
  where
    by : (o : Option Held) → filter_map f (ns ++ ms) ≡ filter_map f ns ++ filter_map f ms → cons_option o (filter_map f (ns ++ ms)) ≡ cons_option o (filter_map f ns) ++ filter_map f ms
    by None rest = rest
    by (Some h) rest = ap (λ ks. h ∷ ks) rest

found_next : (hs : List Held) (ns : List ℕ) (i : ℕ) → i < length ns → filter_map (λ m. with_number m hs) (take (i + 1) ns) ≡ filter_map (λ m. with_number m hs) (take i ns) ++ cons_option (with_number (get_or ns i 0) hs) []
found_next hs ns i within = ap (filter_map (λ m. with_number m hs)) (take_more ns i 0 within) ∙ filter_map_append (λ m. with_number m hs) (take i ns) (get_or ns i 0 ∷ [])

pub found_more : (hs : List Held) (ns : List ℕ) (i : ℕ) (found now : List (Bor Held)) (h : Bor Held) → i < length ns → Some h.now ≡ with_number (get_or ns i 0) hs → now ≡ found ++ h ∷ []
    → lent found ≡ filter_map (λ m. with_number m hs) (take i ns) → lent now ≡ filter_map (λ m. with_number m hs) (take (i + 1) ns)
found_more hs ns i found now h within at grown before =
    ap lent grown ∙ map-append (λ (b : Bor Held). b.now) found (h ∷ []) ∙ ap (λ ks. ks ++ h.now ∷ []) before
    ∙ sym (found_next hs ns i within ∙ ap (λ o. filter_map (λ m. with_number m hs) (take i ns) ++ cons_option o []) (sym at))

pub found_no_more : (hs : List Held) (ns : List ℕ) (i : ℕ) (found : List (Bor Held)) → i < length ns → None ≡ with_number (get_or ns i 0) hs
    → lent found ≡ filter_map (λ m. with_number m hs) (take i ns) → lent found ≡ filter_map (λ m. with_number m hs) (take (i + 1) ns)
found_no_more hs ns i found within at before =
    before ∙ sym (found_next hs ns i within ∙ ap (λ o. filter_map (λ m. with_number m hs) (take i ns) ++ cons_option o []) (sym at) ∙ append-nil (filter_map (λ m. with_number m hs) (take i ns)))

-- all of those that pass a test are found by their numbers
pub behind_first : (h : Held) (hs : List Held) (ns : List ℕ) → AllByRecursion (λ n. h.number < n) ns → filter_map (λ n. with_number n (h ∷ hs)) ns ≡ filter_map (λ n. with_number n hs) ns
behind_first h hs [] above = refl
behind_first h hs (n ∷ ns) above =
    let more = above.0 in
    ap₂ (λ o ks. cons_option o ks) (ap (λ b. if b then Some h else with_number n hs) (ne_eqb h.number n (λ same. omega (arith, more, same)))) (behind_first h hs ns above.1)

pub all_found : (test : Held → Bool) (hs : List Held) → IsRising (numbers_of hs) → filter_map (λ n. with_number n hs) (numbers_of (filter test hs)) ≡ filter test hs
all_found test [] rising = refl
all_found test (h ∷ hs) rising = by (test h) (behind_first h hs (numbers_of (filter test hs)) (kept_each (λ n. h.number < n) test hs rising.0) ∙ all_found test hs rising.1)
  where
    by : (b : Bool) → filter_map (λ n. with_number n (h ∷ hs)) (numbers_of (filter test hs)) ≡ filter test hs
        → filter_map (λ n. with_number n (h ∷ hs)) (numbers_of (if b then h ∷ filter test hs else filter test hs)) ≡ (if b then h ∷ filter test hs else filter test hs)
    by true rest = ap₂ (λ o ks. cons_option o ks) (ap (λ b. if b then Some h else with_number h.number hs) (eq-eqb h.number h.number refl)) rest
    by false rest = rest

pub short_found : (sign : Bool) (test : Tree → Bool) (hs : List Held) (es : List Indexed) (ns : List ℕ) → IsRising (numbers_of hs) → es ≡ short_atoms sign hs → ns ≡ numbers_found test es
    → filter_map (λ n. with_number n hs) ns ≡ filter (λ h. is_short_of sign h && test (first_atom h)) hs
short_found sign test hs es ns rising tied found =
    ap (filter_map (λ n. with_number n hs)) (found ∙ ap (numbers_found test) tied ∙ numbers_are (is_short_of sign) first_atom test hs)
    ∙ all_found (λ h. is_short_of sign h && test (first_atom h)) hs rising
