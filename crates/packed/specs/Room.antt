-- What the functions on cells of 6 bits ask of a caller. proofs/Rooms.antt shows that a sketch's bytes meet it.
use Rattle.std.specs.Prelude.{◌≡◌, ℕ, ◌+◌, ◌*◌, ◌/◌, ◌%◌, ◌^◌, ◌≤◌, ◌<◌}

-- the two bytes that a slot's bits lie in are among the n
pub record Slot6 (slot n : ℕ) : Type 0 where
  pub few : slot < 2 ^ 26
  pub inside : slot * 6 / 8 + 1 < n

-- n bytes for k slots: three for each four, and a spare one
pub record Room6 (k n : ℕ) : Type 0 where
  pub few : k ≤ 2 ^ 26
  pub fours : k % 4 ≡ 0
  pub bytes : n ≡ k / 4 * 3 + 1
