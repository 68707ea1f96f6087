-- Numbers can be exchanged so that those of a table become those of another one, whose symbols it has.
use Rattle.std.proofs.Common.{◌≡◌, inl, inr, ℕ, ◌<◌, ◌≤◌, true, ◌==◌, if◌then◌else◌, List, [], ◌∷◌, ◌++◌, length, get_or, Option, Some, unwrap_or, slice_get, refl, sym, ap, ◌∙◌, subst, arith, eq-eqb}
use Rattle.std.proofs.lemmas.Bool.{cases_Bool, cases_lt, eqb-true}
use Rattle.std.proofs.lemmas.List.{append_assoc, append-nil}
use Rattle.std.proofs.lemmas.Option.{slice_get-get_or, slice_get_within}
use Rattle.fol_core.specs.Literals.{equality}
use Rattle.fol_core.specs.SymbolTable.{Symbol, symbol, number_of, FindsEach}
use Rattle.fol_core.specs.declared.symbols.Kind.TheVariants.{Function}
use Rattle.fol_core.proofs.Places.{slice_get_more, slice_get_last, slice_get-push_cases}
use Rattle.derivation_laws.specs.Moved.{Moving}
use Rattle.derivation_laws.specs.Tables.{IsWithinTable, LeadsTo}

-- one number for another
abbrev swap : ℕ → ℕ → ℕ → ℕ
swap a b n = if n == a then b else (if n == b then a else n)

swap_first : (a b : ℕ) → swap a b a ≡ b
swap_first a b = rw (eq-eqb a a refl) refl

swap_other : (a b n : ℕ) → (n ≡ a → ⊥) → (n ≡ b → ⊥) → swap a b n ≡ n
swap_other a b n h k =
    elim (cases_Bool (n == a)) [
      | inl y ↦ absurd (h (eqb-true n a y))
      | inr off ↦ elim (cases_Bool (n == b)) [
        | inl y ↦ absurd (k (eqb-true n b y))
        | inr away ↦ rw (off, away) refl
      ]
    ]

swap_second : (a b : ℕ) → swap a b b ≡ a
swap_second a b =
    elim (cases_Bool (b == a)) [
      | inl y ↦ rw y (eqb-true b a y)
      | inr off ↦ rw (off, eq-eqb b b refl) refl
    ]

swap_twice : (a b n : ℕ) → swap a b (swap a b n) ≡ n
swap_twice a b n =
    elim (cases_Bool (n == a)) [
      | inl y ↦ let e : n ≡ a = eqb-true n a y in ap (swap a b) (ap (swap a b) e ∙ swap_first a b) ∙ swap_second a b ∙ sym e
      | inr off ↦ elim (cases_Bool (n == b)) [
        | inl y ↦ let e : n ≡ b = eqb-true n b y in ap (swap a b) (ap (swap a b) e ∙ swap_second a b) ∙ swap_first a b ∙ sym e
        | inr away ↦
            let apart : n ≡ a → ⊥ = λ e. absurd (let f : (n == a) ≡ true = eq-eqb n a e in cc) in
            let besides : n ≡ b → ⊥ = λ e. absurd (let f : (n == b) ≡ true = eq-eqb n b e in cc) in
            ap (swap a b) (swap_other a b n apart besides) ∙ swap_other a b n apart besides
      ]
    ]

module _ (all : List Symbol) (once : FindsEach all) where
  -- places of a table in the other one; numbers behind that stay
  record Places (table : List Symbol) : Type 0 where
    to : Moving
    back : Moving
    there : (n : ℕ) → back (to n) ≡ n
    again : (n : ℕ) → to (back n) ≡ n
    stays : (n : ℕ) → length all ≤ n → to n ≡ n
    found : (n : ℕ) (x : Symbol) → slice_get table n ≡ Some x → slice_get all (back n) ≡ Some x

  at_start : Places []
  at_start = record { to = λ n. n; back = λ n. n; there = λ n. refl; again = λ n. refl; stays = λ n h. refl; found = λ n x h. absurd (cc) }

  module _ (table : List Symbol) (x : Symbol) (m : ℕ) (at : slice_get all m ≡ Some x) (new : (n : ℕ) → slice_get table n ≡ Some x → ⊥) (p : Places table) where
    inside : m < length all
    inside = slice_get_within all m x at

    lands : p.to m < length all
    lands = elim (cases_lt (p.to m) (length all)) [
      | inl h ↦ h
      | inr h ↦
          let e : p.to (p.to m) ≡ p.to m = p.stays (p.to m) h in
          let f : p.to m ≡ m = sym (p.there (p.to m)) ∙ ap p.back e ∙ p.there m in
          absurd (omega (arith, f, inside, h))
    ]

    -- what stands at the place that the symbol's number has now is another symbol
    taken : (y : Symbol) → slice_get table (p.to m) ≡ Some y → ⊥
    taken y h =
        let e : slice_get all m ≡ Some y = ap (slice_get all) (sym (p.there m)) ∙ p.found (p.to m) y h in
        new (p.to m) (h ∙ sym e ∙ at)

    fresh : length table < length all
    fresh = elim (cases_lt (length table) (length all)) [
      | inl h ↦ h
      | inr h ↦
          let within : p.to m < length table = omega (arith, lands, h) in
          absurd (taken (get_or table (p.to m) (symbol [] 0 Function)) (slice_get-get_or table (p.to m) (symbol [] 0 Function) within))
    ]

    exchanged : ℕ → ℕ
    exchanged n = swap (length table) (p.to m) n

    placed_at : (n : ℕ) (y : Symbol) → slice_get (table ++ x ∷ []) n ≡ Some y → slice_get all (p.back (exchanged n)) ≡ Some y
    unfolding exchanged
    placed_at n y h =
        elim (slice_get-push_cases table x y n h) [
          | inl e ↦
              let within : n < length table = slice_get_within table n y e in
              let other : n ≡ p.to m → ⊥ = λ same. taken y (ap (slice_get table) (sym same) ∙ e) in
              ap (λ k. slice_get all (p.back k)) (swap_other (length table) (p.to m) n (λ same. absurd (omega (arith, same, within))) other) ∙ p.found n y e
          | inr e ↦
              ap (λ k. slice_get all (p.back k)) (ap (swap (length table) (p.to m)) (sym e.0) ∙ swap_first (length table) (p.to m))
              ∙ ap (slice_get all) (p.there m) ∙ at ∙ ap Some e.1
        ]

    one_more : Places (table ++ x ∷ [])
    unfolding exchanged
    one_more = record {
      to = λ n. exchanged (p.to n);
      back = λ n. p.back (exchanged n);
      there = λ n. ap p.back (swap_twice (length table) (p.to m) (p.to n)) ∙ p.there n;
      again = λ n. ap exchanged (p.again (exchanged n)) ∙ swap_twice (length table) (p.to m) n;
      stays = λ n h. ap exchanged (p.stays n h) ∙ swap_other (length table) (p.to m) n (λ e. absurd (omega (arith, e, h, fresh))) (λ e. absurd (omega (arith, e, h, lands)));
      found = placed_at;
    }

  places : (table more : List Symbol) → FindsEach (table ++ more) → IsWithinTable (table ++ more) all → Places table → Places (table ++ more)
  places table [] finds within p = subst Places (sym (append-nil table)) p
  places table (x ∷ more) finds within p =
      let whole : (table ++ x ∷ []) ++ more ≡ table ++ (x ∷ more) = append_assoc table (x ∷ []) more in
      let here : slice_get (table ++ (x ∷ more)) (length table) ≡ Some x = ap (λ t. slice_get t (length table)) (sym whole) ∙ slice_get_more (table ++ x ∷ []) more (length table) x (slice_get_last table x) in
      let new : (n : ℕ) → slice_get table n ≡ Some x → ⊥ = λ n e.
      let one : number_of (table ++ (x ∷ more)) x.name x.arity ≡ Some n = finds n x (slice_get_more table (x ∷ more) n x e) in
      let two : number_of (table ++ (x ∷ more)) x.name x.arity ≡ Some (length table) = finds (length table) x here in
      let same : n ≡ length table = ap (λ (o : Option ℕ). unwrap_or o 0) (sym one ∙ two) in
      absurd (omega (arith, same, slice_get_within table n x e)) in
      let at = within (length table) x here in
      subst Places whole (places (table ++ x ∷ []) more (subst FindsEach (sym whole) finds) (subst (λ t. IsWithinTable t all) (sym whole) within) (one_more table x at.0 at.1 new p))

-- so it is of each table that has no symbol twice, and none that the other one lacks
pub leads_to : (all table : List Symbol) → FindsEach all → FindsEach table → length all ≤ equality → IsWithinTable table all → (to : Moving) × (back : Moving) × LeadsTo all table to back
leads_to all table once finds few within =
    let p = places all once [] table finds within (at_start all once) in (
      p.to,
      p.back,
      record {
        exchange = record { there = p.there; again = p.again; equality_stays = p.stays equality few };
        same = λ n m x h k.
            let one : number_of all x.name x.arity ≡ Some n = once n x h in
            let two : number_of all x.name x.arity ≡ Some (p.back m) = once (p.back m) x (p.found m x k) in
            ap p.to (ap (λ (o : Option ℕ). unwrap_or o 0) (sym one ∙ two)) ∙ p.again m;
      },
    )
