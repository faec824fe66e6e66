-- The register that a nibble means: what `old_value` hands to its parts, and what it answers. Assumes nothing.
use mathlib.Core.Path.{◌≡◌, refl, sym, ◌∙◌, ap, subst}
use mathlib.Core.Bool.{Bool, true, false}
use mathlib.Core.List.{List}
use Prim.Native.Nat.{ℕ, ◌≤◌}
use native.Mathlib.Omega.{arith}
use lib.Dec.{eqb}
use lib.ListN.{length, take}
use borrow.Author.Tests.{le-ltb, eqb-true}
use Rattle.model.specs.Pick.{pick}
use Rattle.model.specs.Coupon.{value}
use Rattle.model.specs.Table.{base_for, table_size, Room, word_at}
use Rattle.model.specs.Four.{value_at}
use Rattle.model.specs.Sketch.{table_in}
use Rattle.model.specs.declared.Sketch.{Sketch}
use Rattle.model.proofs.four.FourLaws.{four_table}
use Rattle.aux_map.specs.Sizes.{Sizable}
use Rattle.aux_map.specs.Search.{gets}
use Rattle.std.specs.Prelude.{Some, None}
use Rattle.std.specs.Option.{unwrap_or}
use Rattle.aux_map.proofs.Bases.{sizable}
use Rattle.array4.specs.Update.{Readable}

-- the answer of the table, as a value: 0 is the empty word's
answered : (t : List ℕ) (i : ℕ) → unwrap_or (gets t i) 0 ≡ value (word_at t i)
unfolding gets
answered t i = go (eqb (word_at t i) 0) refl
  where
    go : (b : Bool) → eqb (word_at t i) 0 ≡ b → unwrap_or (pick b None (Some (value (word_at t i)))) 0 ≡ value (word_at t i)
    go true q = omega (arith, eqb-true (word_at t i) 0 q)
    go false q = refl

module _ {s : Sketch} {aux : List ℕ} {raw : ℕ} (r : Readable s aux raw) (base : ℕ) (eb : base ≡ base_for s.lg_k) where
  pub sized : Sizable base s.aux_count
  sized = subst (λ (n : ℕ). Sizable n s.aux_count) (sym eb) (sizable s.lg_k s.aux_count r.low r.high r.few)

  module _ (size : ℕ) (es : size ≡ table_size base s.aux_count) where
    is : size ≡ table_size (base_for s.lg_k) s.aux_count
    is = es ∙ ap (λ (n : ℕ). table_size n s.aux_count) eb

    fits : size ≤ length aux
    fits = omega (arith, is, r.fits)

    front : take size aux ≡ table_in s aux
    front = ap (λ (n : ℕ). take n aux) is ∙ sym (four_table s aux aux r.kind)

    module _ (high : 15 ≤ raw) where
      pub room : Room (take size aux)
      room = subst Room (sym front) (r.room high)

      pub by_table : (i v : ℕ) → v ≡ unwrap_or (gets (take size aux) i) 0 → v ≡ value_at s.cur_min (table_in s aux) raw i
      by_table i v e = rw (le-ltb raw 15 high) (e ∙ answered (take size aux) i ∙ ap (λ (t : List ℕ). value (word_at t i)) front)
