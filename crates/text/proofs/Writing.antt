-- The laws of writing a text behind a text. Assumes nothing.
use mathlib.Core.Path.{◌≡◌, ap, ◌∙◌}
use mathlib.Core.List.{List, ◌++◌, append_assoc}
use Prim.Native.Nat.{ℕ, ◌+◌, ◌≤◌}
use native.Mathlib.Omega.{arith}
use lib.ListN.{length, take, length-append}
use lib.Seq.{paste, take-paste, take-length}

-- what putting bytes behind the first leaves
pub take_pasted : (old s : List ℕ) (at : ℕ) → at ≤ length old → take (at + length s) (paste old at s (length s)) ≡ take at old ++ s
take_pasted old s at h = take-paste old at s (length s) h (omega arith) ∙ ap (λ (l : List ℕ). take at old ++ l) (take-length s)

-- so a chain of pushes writes the texts joined
pub pushed_next : (a s t : List ℕ) {b c : List ℕ} → b ≡ a ++ s → c ≡ b ++ t → c ≡ a ++ (s ++ t)
pushed_next a s t p q = q ∙ ap (λ (l : List ℕ). l ++ t) p ∙ append_assoc a s t

pub pushed_long : (a s : List ℕ) {b : List ℕ} → b ≡ a ++ s → length b ≡ length a + length s
pushed_long a s p = ap length p ∙ length-append a s
