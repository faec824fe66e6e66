-- A batch that may stop: the coupons in order, until one finds no room.
use Rattle.std.specs.Prelude.{ℕ, suc, List, [], ◌∷◌}

-- a coupon taken, with the state after it; or no room for it
pub data Step (A : Type 0) : Type 0 where
  went : A → Step A
  stopped : Step A

-- the state after the coupons that were taken, how many, and 0 or NO_ROOM
pub record Ran (A : Type 0) : Type 0 where
  pub state : A
  pub count : ℕ
  pub no : ℕ

-- one coupon was taken before
abbrev pub more : {A : Type 0} → Ran A → Ran A
more r = record { state = r.state; count = suc r.count; no = r.no }

-- what a step leads to
abbrev pub on_step : {A : Type 0} → Step A → Ran A → (A → Ran A) → Ran A
on_step (went a) r f = f a
on_step stopped r f = r

-- the batch; a coupon without effect counts as taken, and behind the stop none is
unfoldable pub ran : {A : Type 0} → (A → ℕ → Step A) → A → List ℕ → Ran A
ran f a [] = record { state = a; count = 0; no = 0 }
ran f a (c ∷ cs) = on_step (f a c) (record { state = a; count = 0; no = 6 }) (λ b. more (ran f b cs))

-- what went, changed
abbrev pub on_went : {A B : Type 0} → (A → B) → Step A → Step B
on_went f (went a) = went (f a)
on_went f stopped = stopped
