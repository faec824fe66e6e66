-- The memory that the routes lend is of the right size, with room for any exceptions. Assumes nothing.
use mathlib.Core.Path.{sym}
use Prim.Native.Nat.{◌+◌, ◌*◌, ◌^◌, ◌≤◌}
use native.Mathlib.Omega.{arith}
use Rattle.model.specs.Sketch.{bytes_of}
use Rattle.model.proofs.packing.Lengths.{is_four, is_six, is_eight, bytes_four, bytes_six, bytes_eight}
use Rattle.station_routes.specs.Routes.{Roomy}

pub room_four : Roomy 4 5 16 64
room_four = record { shaped = record { kind_known = is_four; low = omega arith; high = omega arith; long = sym (bytes_four 5) }; room = λ q. omega arith }

pub room_six : Roomy 6 5 25 1
room_six = record { shaped = record { kind_known = is_six; low = omega arith; high = omega arith; long = sym (bytes_six 5) }; room = λ q. absurd (omega arith) }

pub room_eight : Roomy 8 4 16 1
room_eight = record { shaped = record { kind_known = is_eight; low = omega arith; high = omega arith; long = sym (bytes_eight 4) }; room = λ q. absurd (omega arith) }

-- the longest image of 32 registers of kind 4: a word for each
pub room_image : 40 + bytes_of 4 5 + 4 * 2 ^ 5 ≤ 184
room_image = omega (arith, bytes_four 5)
