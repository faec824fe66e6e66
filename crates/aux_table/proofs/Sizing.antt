-- The size of a table of no words, and of some. Assumes nothing.
use mathlib.Core.Path.{◌≡◌, ◌∙◌}
use Prim.Native.Nat.{ℕ, ◌≤◌}
use native.Mathlib.Nat.{mul-one, not-suc-le-zero}
use native.Mathlib.Omega.{arith}
use borrow.Author.Tests.{eq-eqb, ne_eqb}
use Rattle.model.specs.Table.{size_for, table_size}
use Rattle.model.proofs.table.Inserted.{size_is}

pub size_none : (base count : ℕ) → count ≡ 0 → table_size base count ≡ 0
unfolding table_size
size_none base count e = rw (eq-eqb count 0 e)

pub size_some : (base count : ℕ) → (count ≡ 0 → ⊥) → table_size base count ≡ size_for base count
unfolding table_size
size_some base count h = rw (ne_eqb count 0 h)

-- the rule gives the base for no words: so the first word is no special case
pub size_zero : (base : ℕ) → 4 ≤ base → size_for base 0 ≡ base
size_zero base four = size_is base 0 (omega arith) four 0 (omega arith) (omega arith) (λ m l. absurd (not-suc-le-zero l)) ∙ mul-one base
