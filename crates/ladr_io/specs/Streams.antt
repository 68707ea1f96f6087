-- What the calls of a source and of a sink do to the bytes that are left and the bytes that are
-- held. A stream tells its bytes before and after a call, or at neither time.
use Rattle.std.specs.Prelude.{◌≡◌, ℕ, ◌+◌, ◌-◌, ◌^◌, ◌<◌, ◌≤◌, min, Bool, true, false, List, [], ◌++◌, length, Option, None, Some, ⊤}

-- the greatest count that a u64 can hold
abbrev pub greatest : ℕ
greatest = 2 ^ 64 - 1

-- one more, as a count that stops at its greatest value
abbrev pub counted : ℕ → ℕ
counted n = min (n + 1) greatest

-- what is known of a source: the bytes still to come, where it tells them; how many calls failed;
-- and whether it is over, since it told its end or a call failed
pub record Inflow : Type 0 where
  pub left : Option (List ℕ)
  pub faults : ℕ
  pub over : Bool

-- what is known of a sink: the bytes that it took, where it tells them; how many calls failed; and
-- whether it is over, since a call failed
pub record Outflow : Type 0 where
  pub held : Option (List ℕ)
  pub faults : ℕ
  pub over : Bool

-- these bytes were the first ones left
abbrev pub AreFirstLeft : Option (List ℕ) → Option (List ℕ) → List ℕ → Type 0
AreFirstLeft None None bytes = ⊤
AreFirstLeft None (Some ys) bytes = ⊥
AreFirstLeft (Some xs) None bytes = ⊥
AreFirstLeft (Some xs) (Some ys) bytes = xs ≡ bytes ++ ys

-- these bytes stand behind those that were held
abbrev pub AreLastHeld : Option (List ℕ) → Option (List ℕ) → List ℕ → Type 0
AreLastHeld None None bytes = ⊤
AreLastHeld None (Some ys) bytes = ⊥
AreLastHeld (Some xs) None bytes = ⊥
AreLastHeld (Some xs) (Some ys) bytes = ys ≡ xs ++ bytes

-- nothing is left
abbrev pub IsDrained : Option (List ℕ) → Type 0
IsDrained None = ⊤
IsDrained (Some xs) = xs ≡ []

-- at most so many bytes are left
abbrev pub HasAtMost : Option (List ℕ) → ℕ → Type 0
HasAtMost None limit = ⊤
HasAtMost (Some xs) limit = length xs ≤ limit

-- more than so many bytes are left
abbrev pub HasMoreThan : Option (List ℕ) → ℕ → Type 0
HasMoreThan None limit = ⊤
HasMoreThan (Some xs) limit = limit < length xs

-- the source gave these bytes, and no call failed
pub record Gives (old new : Inflow) (bytes : List ℕ) : Type 0 where
  pub gave : AreFirstLeft old.left new.left bytes
  pub unfailing : new.faults ≡ old.faults

-- the source gave these bytes, and told its end behind them
pub record GivesAll (old new : Inflow) (bytes : List ℕ) : Type 0 where
  pub gives : Gives old new bytes
  pub drained : IsDrained new.left
  pub over : new.over ≡ true

-- the source gave these bytes, and the call behind them failed
pub record FailsBehind (old new : Inflow) (bytes : List ℕ) : Type 0 where
  pub gave : AreFirstLeft old.left new.left bytes
  pub failed : new.faults ≡ counted old.faults
  pub over : new.over ≡ true

-- so it is with some bytes, as many as `IsCount` allows
pub record WithSome (IsCount : ℕ → Type 0) (R : List ℕ → Type 0) : Type 0 where
  pub bytes : List ℕ
  pub holds : R bytes
  pub count : IsCount (length bytes)

-- the sink took these bytes, and no call failed
pub record Takes (old new : Outflow) (bytes : List ℕ) : Type 0 where
  pub took : AreLastHeld old.held new.held bytes
  pub unfailing : new.faults ≡ old.faults
  pub same : new.over ≡ old.over

-- the sink took a front of this text, maybe none or all of it, and the call behind that failed
pub record TakesFront (old new : Outflow) (text : List ℕ) : Type 0 where
  pub front : List ℕ
  pub rest : List ℕ
  pub parts : text ≡ front ++ rest
  pub took : AreLastHeld old.held new.held front
  pub failed : new.faults ≡ counted old.faults
  pub over : new.over ≡ true
