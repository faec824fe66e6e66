-- The words of a list and of a set are read back from the bytes that document 02 lays out. Assumes nothing.
use mathlib.Core.Path.{◌≡◌, refl, sym, ap, ◌∙◌}
use mathlib.Core.List.{List, [], ◌∷◌, ◌++◌}
use Prim.Native.Nat.{ℕ, zero, suc, ◌*◌, ◌^◌, ◌<◌}
use native.Mathlib.Omega.{arith}
use lib.Dec.{lit<}
use lib.ListN.{length, get_or}
use lib.Seq.{drop_at}
use Rattle.model.specs.Packed.{number, slot_at, unpacked, packed}
use Rattle.model.specs.Lists.{coupon_count, coupons_in}
use Rattle.model.specs.Claims.{CouponsRead}
use Rattle.model.proofs.packing.Packing.{get_or_unpacked}
use Rattle.model.proofs.packing.ByteLists.{length_packed}
use Rattle.model.proofs.image.Fields.{unpacked_front}

-- the first byte, whatever follows
slot_first : (x : ℕ) (t : List ℕ) → x < 2 ^ 8 → slot_at 8 (x ∷ t) 0 ≡ x
unfolding slot_at number
slot_first x t h = omega arith

-- the words behind the count
words_back : (ws rest : List ℕ) → ((i : ℕ) → get_or ws i 0 < 2 ^ 32) → unpacked 32 (length ws) (packed 32 (4 * length ws) ws ++ rest) ≡ ws
words_back ws rest h = unpacked_front 32 (4 * length ws) ws rest h (omega arith)

list_words : (a b c d : ℕ) (ws rest : List ℕ) → length ws < 2 ^ 8 → ((i : ℕ) → get_or ws i 0 < 2 ^ 32)
    → coupons_in ((2 ∷ 1 ∷ 7 ∷ a ∷ b ∷ c ∷ length ws ∷ d ∷ []) ++ (packed 32 (4 * length ws) ws ++ rest)) ≡ ws
unfolding coupon_count
list_words a b c d ws rest h w = rw (slot_first (length ws) (d ∷ (packed 32 (4 * length ws) ws ++ rest)) h) (words_back ws rest w)

set_words : (a b c d e : ℕ) (ws rest : List ℕ) → length ws < 2 ^ 32 → ((i : ℕ) → get_or ws i 0 < 2 ^ 32)
    → coupons_in ((3 ∷ 1 ∷ 7 ∷ a ∷ b ∷ c ∷ d ∷ e ∷ []) ++ (packed 32 4 (length ws ∷ []) ++ (packed 32 (4 * length ws) ws ++ rest))) ≡ ws
unfolding coupon_count
set_words a b c d e ws rest h w =
    rw (count, drop_at (packed 32 4 (length ws ∷ [])) (packed 32 (4 * length ws) ws ++ rest) 4 (length_packed 32 4 (length ws ∷ []))) (words_back ws rest w)
  where
    fits : (i : ℕ) → get_or (length ws ∷ []) i 0 < 2 ^ 32
    fits zero = h
    fits (suc i) = lit< tt

    count : slot_at 32 (packed 32 4 (length ws ∷ []) ++ (packed 32 (4 * length ws) ws ++ rest)) 0 ≡ length ws
    count =
        sym (get_or_unpacked 32 1 (packed 32 4 (length ws ∷ []) ++ (packed 32 (4 * length ws) ws ++ rest)) 0 (lit< tt))
        ∙ ap (λ (x : List ℕ). get_or x 0 0) (unpacked_front 32 4 (length ws ∷ []) (packed 32 (4 * length ws) ws ++ rest) fits refl)

pub coupons_read : CouponsRead
coupons_read = record { list_words = list_words; set_words = set_words }
