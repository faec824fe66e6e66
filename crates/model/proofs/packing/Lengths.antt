-- The kinds that there are, and how many registers and register bytes each has: who speaks of a kind cites these and unfolds nothing.
-- Assumes nothing.
use mathlib.Core.Path.{◌≡◌, refl, ◌∙◌}
use mathlib.Core.Bool.{Bool, true, false}
use mathlib.Core.Logic.{◌⊎◌, ⊎_elim}
use Prim.Native.Nat.{ℕ, ◌+◌, ◌*◌, ◌/◌, ◌%◌, ◌^◌, ◌≤◌}
use native.Mathlib.Nat.{one-mul}
use native.Mathlib.Decide.{ℕ_discrete}
use native.Mathlib.Omega.{arith}
use lib.Dec.{eqb, lit<}
use lib.Pow.{pow_mono, shl_exact}
use borrow.Author.Tests.{ne_eqb}
use Rattle.model.specs.Pick.{pick, Tells}
use Rattle.model.specs.Sketch.{is_kind, bytes_of}
use Rattle.model.proofs.order.Tells.{tells_either, tells_eq}

-- ---- the kinds
pub kind_tells : (kind : ℕ) → Tells (is_kind kind) ((kind ≡ 4) ⊎ ((kind ≡ 6) ⊎ (kind ≡ 8)))
unfolding is_kind
kind_tells kind = tells_either _ _ (tells_eq kind 4) (tells_either _ _ (tells_eq kind 6) (tells_eq kind 8))

pub is_four : is_kind 4 ≡ true
unfolding is_kind
is_four = refl

pub is_six : is_kind 6 ≡ true
unfolding is_kind
is_six = refl

pub is_eight : is_kind 8 ≡ true
unfolding is_kind
is_eight = refl

-- what is left once a test of 4 and of 6 has failed
pub is_else : {kind : ℕ} → (kind ≡ 4 → ⊥) → (kind ≡ 6 → ⊥) → is_kind kind ≡ eqb kind 8
unfolding is_kind
is_else {kind} four six = rw (ne_eqb kind 4 four, ne_eqb kind 6 six)

module _ (kind : ℕ) (is : is_kind kind ≡ true) where
  pub six_or_eight : (kind ≡ 4 → ⊥) → (kind ≡ 6) ⊎ (kind ≡ 8)
  six_or_eight not_4 = ⊎_elim (λ e. absurd (not_4 e)) (λ e. e) ((kind_tells kind).0 is)

  -- the one that is left
  pub left_four : (kind ≡ 8 → ⊥) → (kind ≡ 6 → ⊥) → kind ≡ 4
  left_four eight six = go (ℕ_discrete kind 4)
    where
      go : Dec (kind ≡ 4) → kind ≡ 4
      go (yes e) = e
      go (no four) = absurd (⊎_elim six eight (six_or_eight four))

-- ---- their registers: 1 << lgk in a word of w bits
pub power_shl : (lgk w : ℕ) → 1 + lgk ≤ w → 1 * 2 ^ lgk % 2 ^ w ≡ 2 ^ lgk
power_shl lgk w h = shl_exact 1 lgk w (lit< tt) h ∙ one-mul (2 ^ lgk)

-- ---- their register bytes
module _ (lgk : ℕ) where
  pub bytes_eight : bytes_of 8 lgk ≡ 2 ^ lgk
  unfolding bytes_of
  bytes_eight = refl

  pub bytes_six : bytes_of 6 lgk ≡ 2 ^ lgk / 4 * 3 + 1
  unfolding bytes_of
  bytes_six = refl

  pub bytes_four : bytes_of 4 lgk ≡ 2 ^ lgk / 2
  unfolding bytes_of
  bytes_four = refl

  -- the same by a test of the kind
  module _ {kind : ℕ} where
    pub if_eight : kind ≡ 8 → bytes_of kind lgk ≡ 2 ^ lgk
    if_eight e = rw e bytes_eight

    pub if_six : kind ≡ 6 → bytes_of kind lgk ≡ 2 ^ lgk / 4 * 3 + 1
    if_six e = rw e bytes_six

    pub if_four : kind ≡ 4 → bytes_of kind lgk ≡ 2 ^ lgk / 2
    if_four e = rw e bytes_four

    pub if_neither : (kind ≡ 8 → ⊥) → (kind ≡ 6 → ⊥) → bytes_of kind lgk ≡ 2 ^ lgk / 2
    unfolding bytes_of
    if_neither eight six = rw (ne_eqb kind 8 eight, ne_eqb kind 6 six)

-- no sketch has more than can be counted
pub bytes_within : (kind lgk m : ℕ) → 2 ≤ m → lgk ≤ m → bytes_of kind lgk ≤ 2 ^ m
unfolding bytes_of
bytes_within kind lgk m l h = go (eqb kind 8) (eqb kind 6) (pow_mono l) (pow_mono h)
  where
    go : (a b : Bool) → 2 ^ 2 ≤ 2 ^ m → 2 ^ lgk ≤ 2 ^ m → pick a (2 ^ lgk) (pick b (2 ^ lgk / 4 * 3 + 1) (2 ^ lgk / 2)) ≤ 2 ^ m
    go true b f e = omega arith
    go false true f e = omega arith
    go false false f e = omega arith

pub bytes_few : (kind lgk : ℕ) → lgk ≤ 21 → bytes_of kind lgk ≤ 2 ^ 21
bytes_few kind lgk h = bytes_within kind lgk 21 (omega arith) h
