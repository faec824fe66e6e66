-- `aux_map::wrap` meets its contract: a mask of lg ones is the remainder by 2 ^ lg. Assumes nothing.
use mathlib.Core.Path.{sym, ◌∙◌, ap}
use Prim.Native.Nat.{ℕ, ◌-◌, ◌%◌}
use lib.Bits.{bit_and, and_mask}
use Rattle.aux_map.proofs.wrap.Goals as goal

pub returns : goal.returns
returns c =
    ap (λ (n : ℕ). bit_and c.args.x (n - 1)) c.requires.power ∙ and_mask c.args.x c.requires.lg ∙ ap (λ (n : ℕ). c.args.x % n) (sym c.requires.power)
