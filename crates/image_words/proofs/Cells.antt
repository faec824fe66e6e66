-- A list of cells of 32 bits as a loop reads it. Assumes nothing.
use mathlib.Core.Path.{◌≡◌, sym, ◌∙◌}
use mathlib.Core.List.{List, ◌∷◌}
use Prim.Native.Nat.{ℕ, ◌+◌, ◌<◌}
use native.Mathlib.Numerals.{add-one}
use lib.ListN.{length, drop}
use lib.Seq.{drop-cons}
use Rattle.model.specs.Packed.{slot_at, unpacked}
use Rattle.model.proofs.packing.Packing.{length_unpacked, get_or_unpacked}

-- the words from the i-th on, by the one that the code reads there
pub cells_next : (many : ℕ) (bs : List ℕ) (i x : ℕ) → i < many → x ≡ slot_at 32 bs i → drop i (unpacked 32 many bs) ≡ x ∷ drop (i + 1) (unpacked 32 many bs)
cells_next many bs i x h e =
    let l : i < length (unpacked 32 many bs) = rw length_unpacked h in
    rw (add-one, drop-cons (unpacked 32 many bs) i 0) (ap₁ (sym (e ∙ sym (get_or_unpacked 32 many bs i h))))
  where
    ap₁ : {a b : ℕ} {l : List ℕ} → a ≡ b → ◌≡◌ {A = List ℕ} (a ∷ l) (b ∷ l)
    ap₁ p = cc
