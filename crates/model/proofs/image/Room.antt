-- How long the image of a sketch in good order can be, and that a buffer of that length takes it. Assumes nothing.
use mathlib.Core.Path.{◌≡◌, refl}
use mathlib.Core.Bool.{true}
use mathlib.Core.List.{List, ◌++◌}
use Prim.Native.Nat.{ℕ, ◌^◌, ◌≤◌}
use native.Mathlib.Decide.{ℕ_discrete}
use native.Mathlib.Omega.{arith}
use lib.ListN.{length, drop}
use borrow.Author.Tests.{ne_eqb}
use Rattle.model.specs.Sketch.{table_in, Good}
use Rattle.model.specs.Image.{image_in, wrote, write_of}
use Rattle.model.specs.declared.Sketch.{Sketch}
use Rattle.model.proofs.calls.Ladder.{check_says}
use Rattle.model.proofs.order.Tests.{Passes, counts_tells, good_asks, table_tells}
use Rattle.model.proofs.image.Listing.{listing, listing_listed}
use Rattle.model.proofs.image.Writing.{write_says, writes}
use Rattle.model.proofs.calls.Has.{ok_check}
use Rattle.model.proofs.table.Sifted.{sifted_none}

module _ (s : Sketch) (regs aux : List ℕ) (g : Good s regs aux) where
  passes : Passes s regs aux
  passes = (good_asks s regs aux).0 ((check_says true s regs aux).0 (ok_check true s regs aux refl g)).1.1

  -- exceptions are registers
  pub few_exceptions : s.aux_count ≤ 2 ^ s.lg_k
  few_exceptions = ((counts_tells s).0 passes.counts).count

  pub no_words : (s.kind ≡ 4 → ⊥) → length (listing s aux) ≡ 0
  unfolding table_in
  no_words e = rw (ne_eqb s.kind 4 e, sifted_none)

  pub few_words : length (listing s aux) ≤ 2 ^ s.lg_k
  few_words = go (ℕ_discrete s.kind 4)
    where
      go : Dec (s.kind ≡ 4) → length (listing s aux) ≤ 2 ^ s.lg_k
      go (yes e) = omega (arith, (listing_listed s regs aux ((table_tells s regs aux).0 (passes.table e))).many, few_exceptions)
      go (no e) = omega (arith, no_words e)

  abbrev image : List ℕ
  image = image_in s regs aux

  pub image_written : (buf : List ℕ) → length image ≤ length buf → write_of s regs aux buf ≡ wrote 0 (length image) (image ++ drop (length image) buf)
  image_written buf le = let c = (check_says true s regs aux).0 (ok_check true s regs aux refl g) in writes s regs aux buf ((write_says s regs aux buf).1 ((c.0, c.1.1), le))
