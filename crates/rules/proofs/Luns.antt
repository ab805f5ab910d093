-- A LUN is at most 1.
use Prim.Native.Nat.{◌≤◌}
use native.Mathlib.Omega.{arith}
use Rattle.rules.specs.declared.Lun.{Lun}
use Rattle.rules.specs.declared.Lun.TheVariants.{Lun0, Lun1}
use Rattle.rules.specs.Held.{lun_number}

pub lun_most : (lun : Lun) → lun_number lun ≤ 1
lun_most Lun0 = omega arith
lun_most Lun1 = omega arith
