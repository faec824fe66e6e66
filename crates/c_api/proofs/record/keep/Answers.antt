-- `c_api::record::keep` meets its contract. Assumes nothing.
use Prim.Native.Nat.{◌<◌}
use native.Mathlib.Omega.{arith}
use borrow.Author.Tests.{eq-eqb, ne_eqb, lt-ltb}
use Rattle.c_api.specs.Words.{narrowed, kept}
use Rattle.c_api.proofs.record.keep.Goals as goal

pub returns-then-narrow-byte : goal.returns-then-narrow-byte
unfolding kept
returns-then-narrow-byte c = record { word_is = simp (← c.narrow.ensures, eq-eqb _ _ c.if-narrow-byte.true); stands = cc }

pub returns-else-narrow-byte : goal.returns-else-narrow-byte
unfolding kept narrowed
returns-else-narrow-byte c = record {
  word_is = simp (← c.narrow.ensures, ne_eqb _ _ c.if-narrow-byte.false, c.from.ensures);
  stands = let h : c.args.byte < 256 = omega arith in simp (c.from.ensures, lt-ltb _ _ h);
}
