-- A turn of the loop of `collect`, which walks the words from their end. Assumes nothing.
use mathlib.Core.Path.{◌≡◌, sym, ◌∙◌, ap, ap₂}
use mathlib.Core.Bool.{true, false}
use mathlib.Core.List.{List, ◌∷◌, map}
use Prim.Native.Nat.{ℕ, suc, ◌+◌, ◌-◌, ◌^◌, ◌≤◌, ◌<◌}
use native.Mathlib.Nat.{le_refl}
use native.Mathlib.Omega.{arith}
use lib.ListN.{length, set, take, drop, length-map, length-drop, length-set, take-append-drop}
use lib.Seq.{drop-length, set_split, drop_at, length-take-le}
use Rattle.model.specs.Packed.{slot_at, unpacked}
use Rattle.model.specs.Coupon.{is_empty}
use Rattle.model.specs.Table.{filled, used}
use Rattle.model.specs.Image.{homed}
use Rattle.model.proofs.packing.Packing.{length_unpacked}
use Rattle.model.proofs.table.Sifted.{sifted_none, filled_in, filled_out, filled_used}
use Rattle.model.proofs.table.Refill.{used_append}
use Rattle.image_words.proofs.Cells.{cells_next}

-- from top on stand the entries among the words from j on
pub record Stands (lgk : ℕ) (ws into : List ℕ) (top j : ℕ) : Type 0 where
  pub within : top ≤ length into
  pub are : drop top into ≡ map (homed (2 ^ lgk)) (filled (drop j ws))

-- fewer words, fewer entries
entries_fewer : (j : ℕ) (ws : List ℕ) → length (filled (drop j ws)) ≤ length (filled ws)
entries_fewer j ws = omega (arith, filled_used (drop j ws), filled_used ws, ap used (take-append-drop j ws), used_append (take j ws) (drop j ws))

pub stands_none : (lgk : ℕ) (many : ℕ) (words into : List ℕ) → Stands lgk (unpacked 32 many words) into (length into) many
stands_none lgk many words into =
    let ws = unpacked 32 many words in
    record {
      within = le_refl _;
      are = drop-length into ∙ sym (ap (map (homed (2 ^ lgk))) (ap (λ (us : List ℕ). filled us) (ap (λ (n : ℕ). drop n ws) (sym (length_unpacked 32 many words)) ∙ drop-length ws) ∙ sifted_none _));
    }

-- a turn, by each way: x is the word read
module _ (lgk : ℕ) (many : ℕ) (words into : List ℕ) (top j : ℕ) (pos : 0 < j) (most : j ≤ many) (fits : length (filled (unpacked 32 many words)) ≤ length into) (st : Stands lgk (unpacked 32 many words) into top j) (x : ℕ) (read : x ≡ slot_at 32 words (j - 1)) where
  abbrev ws : List ℕ
  ws = unpacked 32 many words

  step : drop (j - 1) ws ≡ x ∷ drop j ws
  step = let e : j - 1 + 1 ≡ j = omega arith in cells_next many words (j - 1) x (omega arith) read ∙ ap (λ (n : ℕ). x ∷ drop n ws) e

  pub stands_passed : is_empty x ≡ true → Stands lgk (unpacked 32 many words) into top (j - 1)
  stands_passed e = record { within = st.within; are = st.are ∙ sym (ap (map (homed (2 ^ lgk))) (ap (λ (us : List ℕ). filled us) step ∙ filled_out x (drop j ws) e)) }

  module _ (e : is_empty x ≡ false) where
    more : filled (drop (j - 1) ws) ≡ x ∷ filled (drop j ws)
    more = ap (λ (us : List ℕ). filled us) step ∙ filled_in x (drop j ws) e

    pub stands_room : 0 < top
    stands_room =
        omega (arith, fits, entries_fewer (j - 1) ws, ap length more, ap length st.are, length-drop top into, length-map (filled (drop j ws)) (homed (2 ^ lgk)))

    pub stands_taken : (y : ℕ) → y ≡ homed (2 ^ lgk) x → Stands lgk (unpacked 32 many words) (set into (top - 1) y) (top - 1) (j - 1)
    stands_taken y q =
        let f : suc (top - 1) ≡ top = omega (arith, stands_room) in
        record {
          within = omega (arith, length-set into (top - 1) y, st.within);
          are =
              ap (drop (top - 1)) (set_split into (top - 1) y (omega (arith, stands_room, st.within)))
              ∙ drop_at (take (top - 1) into) (y ∷ drop (suc (top - 1)) into) (top - 1) (length-take-le (top - 1) into (omega (arith, st.within)))
              ∙ ap₂ (λ (a : ℕ) (xs : List ℕ). a ∷ xs) q (ap (λ (n : ℕ). drop n into) f ∙ st.are)
              ∙ sym (ap (map (homed (2 ^ lgk))) more);
        }
