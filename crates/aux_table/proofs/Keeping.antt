-- A turn of the loop of `keep`, which walks the table from its end. Assumes nothing.
use mathlib.Core.Path.{◌≡◌, sym, ◌∙◌, ap}
use mathlib.Core.List.{List, ◌∷◌}
use Prim.Native.Nat.{ℕ, suc, ◌-◌, ◌≤◌, ◌<◌}
use native.Mathlib.Omega.{arith}
use lib.ListN.{length, get_or, set, take, drop}
use lib.Seq.{drop-cons, drop-length, set_split, drop_at, length-take-le}
use Rattle.model.specs.Coupon.{value}
use Rattle.model.specs.Table.{keeps}
use Rattle.model.proofs.table.Sifted.{sifted_none, keeps_in, keeps_out}

pub keeps_none : (limit : ℕ) (t into : List ℕ) → drop (length into) into ≡ keeps limit (drop (length t) t)
keeps_none limit t into = drop-length into ∙ sym (ap (keeps limit) (drop-length t) ∙ sifted_none _)

-- a turn, by each way: v is the word's value
module _ (limit : ℕ) (t into : List ℕ) (i top : ℕ) (pos : 0 < i) (within : i ≤ length t) (inv : drop top into ≡ keeps limit (drop i t)) (v : ℕ) (is : v ≡ value (get_or t (i - 1) 0)) where
  step : drop (i - 1) t ≡ get_or t (i - 1) 0 ∷ drop i t
  step = let e : suc (i - 1) ≡ i = omega arith in drop-cons t (i - 1) 0 (omega arith) ∙ ap (λ (n : ℕ). get_or t (i - 1) 0 ∷ drop n t) e

  pub keep_passed : v < limit → drop top into ≡ keeps limit (drop (i - 1) t)
  keep_passed l = inv ∙ sym (ap (keeps limit) step ∙ keeps_out limit _ _ (rw (← is) l))

  pub keep_taken : limit ≤ v → 0 < top → top ≤ length into → drop (top - 1) (set into (top - 1) (get_or t (i - 1) 0)) ≡ keeps limit (drop (i - 1) t)
  keep_taken l tp tl =
      let f : suc (top - 1) ≡ top = omega arith in
      ap (drop (top - 1)) (set_split into (top - 1) (get_or t (i - 1) 0) (omega arith))
      ∙ drop_at (take (top - 1) into) (get_or t (i - 1) 0 ∷ drop (suc (top - 1)) into) (top - 1) (length-take-le (top - 1) into (omega arith))
      ∙ ap (λ (xs : List ℕ). get_or t (i - 1) 0 ∷ xs) (ap (λ (n : ℕ). drop n into) f ∙ inv)
      ∙ sym (ap (keeps limit) step ∙ keeps_in limit _ _ (rw (← is) l))
