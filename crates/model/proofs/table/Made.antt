-- A table made of a list of words that are not empty and whose slots differ: it is kept, and has those words and no others. Assumes nothing.
use mathlib.Core.Path.{◌≡◌, refl, sym, ◌∙◌, ap, subst}
use mathlib.Core.Logic.{◌⊎◌, inl, inr}
use mathlib.Core.List.{List, [], ◌∷◌}
use Prim.Native.Nat.{ℕ, ◌+◌, ◌^◌, ◌<◌}
use native.Mathlib.Nat.{le_refl, mul-one, not-suc-le-zero}
use native.Mathlib.Omega.{arith}
use lib.ListN.{length, replicate, length-replicate}
use lib.Seq.{take-length}
use Rattle.model.specs.Table.{Member, Kept, used, insert, inserts, made, size_for, table_size, Makable}
use Rattle.model.proofs.table.Members.{member_head, member_tail, member_cases, member_none}
use Rattle.model.proofs.table.Refill.{used_zeros}
use Rattle.model.proofs.table.Grown.{Distinct, zeros_none, zeros_good}
use Rattle.model.proofs.table.Inserted.{size_is, insert_to, insert_from}
use Rattle.model.proofs.table.Inserts.{Insertables, prefix_used, next, next_some, next_absent}
use Rattle.model.proofs.table.Shape.{Shape, shape_size}
use Rattle.model.proofs.table.Sizes.{Sized}

-- ---- words inserted one after the other
inserts_from : (base : ℕ) (t ws : List ℕ) → Insertables base t ws → (x : ℕ) → (x ≡ 0 → ⊥) → Member (inserts t ws) x → Member t x ⊎ Member ws x
unfolding inserts
inserts_from base t [] ok x hx m = inl m
inserts_from base t (w ∷ ws) ok x hx m = go (inserts_from base (insert t w) ws (next base t ws w ok) x hx m)
  where
    back : (x ≡ w) ⊎ Member t x → Member t x ⊎ Member (w ∷ ws) x
    back (inl e) = inr (subst (λ (y : ℕ). Member (w ∷ ws) y) (sym e) (member_head w ws))
    back (inr k) = inl k

    go : Member (insert t w) x ⊎ Member ws x → Member t x ⊎ Member (w ∷ ws) x
    go (inl k) = back (insert_from base t w ok.kept ok.four (omega (arith, ok.few)) (next_some base t ws w ok) (next_absent base t ws w ok) x hx k)
    go (inr k) = inr (member_tail w x ws k)

inserts_to : (base : ℕ) (t ws : List ℕ) → Insertables base t ws → (x : ℕ) → (x ≡ 0 → ⊥) → Member t x ⊎ Member ws x → Member (inserts t ws) x
unfolding inserts
inserts_to base t [] ok x hx (inl m) = m
inserts_to base t [] ok x hx (inr m) = absurd (member_none x m)
inserts_to base t (w ∷ ws) ok x hx m = inserts_to base (insert t w) ws (next base t ws w ok) x hx (go m)
  where
    add' : (x ≡ w) ⊎ Member t x → Member (insert t w) x
    add' = insert_to base t w ok.kept ok.four (omega (arith, ok.few)) (next_some base t ws w ok) (next_absent base t ws w ok) x hx

    tail : (x ≡ w) ⊎ Member ws x → Member (insert t w) x ⊎ Member ws x
    tail (inl e) = inl (add' (inl e))
    tail (inr k) = inr k

    go : Member t x ⊎ Member (w ∷ ws) x → Member (insert t w) x ⊎ Member ws x
    go (inl k) = inl (add' (inr k))
    go (inr k) = tail (member_cases w x ws k)

inserts_kept : (base : ℕ) (t ws : List ℕ) → Insertables base t ws → Kept base (inserts t ws)
unfolding inserts
inserts_kept base t [] ok = ok.kept
inserts_kept base t (w ∷ ws) ok = inserts_kept base (insert t w) ws (next base t ws w ok)

inserts_used : (base : ℕ) (t ws : List ℕ) → Insertables base t ws → used (inserts t ws) ≡ used t + length ws
inserts_used base t ws ok = ap (λ (l : List ℕ). used (inserts t l)) (sym (take-length ws)) ∙ prefix_used base (length ws) t ws ok (le_refl (length ws))

-- ---- into a new table
pub zeros_kept : {base k : ℕ} → Sized base k → Kept base (replicate base 0)
zeros_kept {base} {k} ok = record {
  lg = ok.lg;
  power = length-replicate base 0 ∙ ok.power;
  sized = length-replicate base 0 ∙ sym (ap (size_for base) (used_zeros base) ∙ size_is base 0 (omega arith) ok.four 0 (omega arith) (omega arith) (λ m l. absurd (not-suc-le-zero l)) ∙ mul-one base);
  load = omega (arith, used_zeros base);
  good = zeros_good base;
}

-- by words of which no two that are not 0 have one slot
pub makable : {ws : List ℕ} → length ws < 2 ^ 26 → ((x : ℕ) → Member ws x → x ≡ 0 → ⊥) → Distinct ws → Makable ws
makable few some distinct = record { few = few; some = some; distinct = λ i j li lj e. distinct i j li lj (some _ (i, li, refl)) (some _ (j, lj, refl)) e }

insertable : {base k : ℕ} {ws : List ℕ} → Sized base k → Makable ws → Insertables base (replicate base 0) ws
insertable {base} {k} {ws} ok can = record {
  four = ok.four;
  kept = zeros_kept ok;
  few = omega (arith, used_zeros base, can.few);
  some = can.some;
  distinct = λ i j li lj hi hj e. can.distinct i j li lj e;
  apart = λ x y hx mx my e. zeros_none base x hx mx;
}

pub made_used : {base k : ℕ} (ws : List ℕ) → Sized base k → Makable ws → used (made base ws) ≡ length ws
unfolding used
made_used [] ok can = refl
made_used {base} (w ∷ ws) ok can = inserts_used base (replicate base 0) (w ∷ ws) (insertable ok can) ∙ omega (arith, used_zeros base)

pub made_shape : {base k : ℕ} (ws : List ℕ) → Sized base k → Makable ws → Shape base (made base ws)
made_shape [] ok can = inl refl
made_shape {base} (w ∷ ws) ok can = inr (omega (arith, made_used (w ∷ ws) ok can), inserts_kept base (replicate base 0) (w ∷ ws) (insertable ok can))

pub made_size : {base k : ℕ} (ws : List ℕ) → Sized base k → Makable ws → length (made base ws) ≡ table_size base (length ws)
made_size {base} ws ok can = shape_size (made_shape ws ok can) ∙ ap (table_size base) (made_used ws ok can)

pub made_from : {base k : ℕ} (ws : List ℕ) → Sized base k → Makable ws → (x : ℕ) → (x ≡ 0 → ⊥) → Member (made base ws) x → Member ws x
made_from [] ok can x hx m = m
made_from {base} (w ∷ ws) ok can x hx m = go (inserts_from base (replicate base 0) (w ∷ ws) (insertable ok can) x hx m)
  where
    go : Member (replicate base 0) x ⊎ Member (w ∷ ws) x → Member (w ∷ ws) x
    go (inl k) = absurd (zeros_none base x hx k)
    go (inr k) = k

pub made_to : {base k : ℕ} (ws : List ℕ) → Sized base k → Makable ws → (x : ℕ) → (x ≡ 0 → ⊥) → Member ws x → Member (made base ws) x
made_to [] ok can x hx m = m
made_to {base} (w ∷ ws) ok can x hx m = inserts_to base (replicate base 0) (w ∷ ws) (insertable ok can) x hx (inr m)
