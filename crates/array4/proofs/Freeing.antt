-- The slots that are freed where cur_min rises: what the loop of `free` has done after its first words. Assumes nothing.
use mathlib.Core.Path.{◌≡◌, sym, ◌∙◌, ap}
use mathlib.Core.List.{List}
use Prim.Native.Nat.{ℕ, ◌+◌, ◌<◌}
use native.Mathlib.Omega.{arith}
use native.Mathlib.Decide.{ℕ_discrete}
use lib.ListN.{get_or}
use Rattle.model.specs.Coupon.{slot, value}
use Rattle.model.specs.Packed.{slot_at, Put}
use Rattle.model.proofs.packing.Packing.{put_same, put_other}
use Rattle.array4.specs.Rise.{Freed}

module _ {t : List ℕ} {v n : ℕ} {before now : List ℕ} (f : Freed t v n before now) where
  pub freed_skip : (value (get_or t n 0) ≡ v → ⊥) → Freed t v (n + 1) before now
  freed_skip h = record {
    long = f.long;
    moved = λ p l e. moved p l e (ℕ_discrete p n);
    left = λ s g. f.left s (λ p l. g p (omega arith));
  }
    where
      moved : (p : ℕ) → p < n + 1 → value (get_or t p 0) ≡ v → Dec (p ≡ n) → slot_at 4 now (slot (get_or t p 0)) ≡ 14
      moved p l e (yes q) = absurd (h (ap (λ (j : ℕ). value (get_or t j 0)) (sym q) ∙ e))
      moved p l e (no q) = f.moved p (omega arith) e

  pub freed_put : (after : List ℕ) → value (get_or t n 0) ≡ v → Put 4 now (slot (get_or t n 0)) 14 after → Freed t v (n + 1) before after
  freed_put after h put = record {
    long = put.long ∙ f.long;
    moved = λ p l e. moved p l e (ℕ_discrete (slot (get_or t p 0)) (slot (get_or t n 0)));
    left = λ s g. put_other put s (λ e. g n (omega arith) h (sym e)) ∙ f.left s (λ p l. g p (omega arith));
  }
    where
      moved : (p : ℕ) → p < n + 1 → value (get_or t p 0) ≡ v → Dec (slot (get_or t p 0) ≡ slot (get_or t n 0)) → slot_at 4 after (slot (get_or t p 0)) ≡ 14
      moved p l e (yes q) = ap (slot_at 4 after) q ∙ put_same put
      moved p l e (no q) = put_other put (slot (get_or t p 0)) q ∙ f.moved p (below (ℕ_discrete p n)) e
        where
          below : Dec (p ≡ n) → p < n
          below (yes z) = absurd (q (ap (λ (j : ℕ). slot (get_or t j 0)) z))
          below (no z) = omega arith
